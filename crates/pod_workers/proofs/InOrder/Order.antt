-- In which order commands go: round after round, and in a round one after another in each container.
use Rattle.pod_workers.proofs.Names.{◌≡◌, ◌≢◌, ℕ, zero, suc, ◌+◌, ◌<◌, true, List, [], ◌∷◌, length, map, Option, Some}
use Rattle.pod_workers.proofs.Names.{None, slice_get, refl, sym, ◌∙◌, ap, subst, inl, inr, ◌⊎◌, arith, cases_Bool}
use Rattle.pod_workers.proofs.Names.{cases_order, eqb_tells, length-map, length-set, same_Some, none-some}
use Rattle.pod_workers.proofs.Names.{slice_get_within, slice_get-get_or, bytes_eq-Decides, bytes_eq, Answer}
use Rattle.pod_workers.proofs.Names.{OutOfMemory, is_exclusive}
use Rattle.pod_workers.specs.{Facts.{EachWaits, IsUntouched, LaterAreUntouched, PastAreAnswered}, Legal.Legal}
use Rattle.pod_workers.specs.{Legal.{IsBegun, starts, steps, refused_memory, turns}, Plans.{Placed, commands_of}}
use Rattle.pod_workers.specs.World.{World, IsAnswered, IsReady, IsRoundOver, own_replies, answered, with_entry}
use Rattle.pod_workers.specs.{World.{entry_of, host_of, done, next_of, next_round}, declared.plan.Entry.Entry}
use Rattle.pod_workers.specs.declared.plan.{Next.Next, Plan.Plan}
use Rattle.pod_workers.specs.declared.plan.Next.TheVariants as next
use Rattle.pod_workers.proofs.{Hosts.Sound.fine, Plans.{Alone.AreAlone, WellFormedPlans.stand_alone}}
use Rattle.pod_workers.proofs.Worlds.Histories.{slice_get-set_other, replies_of-other}

pub record IsInOrder (w : World) : Type 0 where
  pub long : length w.answers ≡ length (commands_of w.plan)
  pub past : PastAreAnswered w
  pub later : LaterAreUntouched w
  pub first : EachWaits w

-- ---- answers

pub not_both : (w : World) (n : ℕ) → IsAnswered w n → slice_get w.answers n ≡ Some None → ⊥
not_both w n a is = none-some a.0 (same_Some None (Some a.0) (sym is ∙ a.1))

pub answered_or_open : (w : World) (n : ℕ) (o : Option (Option Answer)) → slice_get w.answers n ≡ o
    → n < length w.answers → (slice_get w.answers n ≡ Some None) ⊎ IsAnswered w n
answered_or_open w n None is less = absurd (none-some _ (sym is ∙ slice_get-get_or w.answers n None less))
answered_or_open w n (Some None) is less = inl is
answered_or_open w n (Some (Some a)) is less = inr (a, is)

-- each command is answered, or isn't
pub open_or_answered : (w : World) (n : ℕ) (c : Placed) → IsInOrder w → slice_get (commands_of w.plan) n ≡ Some c
    → (slice_get w.answers n ≡ Some None) ⊎ IsAnswered w n
open_or_answered w n c order at =
    answered_or_open w n (slice_get w.answers n) refl (rw order.long (slice_get_within (commands_of w.plan) n c at))

-- an answer stands
pub stays_answered : (w : World) (n m : ℕ) (b : Answer) → slice_get w.answers n ≡ Some None → IsAnswered w m
    → IsAnswered (answered w n b) m
stays_answered w n m b is a = elim (eqb_tells m n) [
  | inl t ↦ absurd (not_both w n (subst (IsAnswered w) t.1 a) is)
  | inr f ↦ (a.0, slice_get-set_other w.answers n m (Some b) f.1 ∙ a.1)
]

untouched_answered : (w : World) (n m : ℕ) (b : Answer) → m ≢ n → IsUntouched w m → IsUntouched (answered w n b) m
untouched_answered w n m b other u =
    record { no_reply = u.no_reply; no_answer = slice_get-set_other w.answers n m (Some b) other ∙ u.no_answer }

untouched_entered : (w : World) (m : ℕ) (e : Entry) → e.command ≢ m + 1 → IsUntouched w m
    → IsUntouched (with_entry w e) m
untouched_entered w m e other u =
    record { no_reply = replies_of-other m w.history e other ∙ u.no_reply; no_answer = u.no_answer }

-- ---- ready commands

-- the command at the place of a ready one is that one
pub ready_is : (w : World) (n m : ℕ) (c d : Placed) → IsReady w n c → m ≡ n → slice_get (commands_of w.plan) m ≡ Some d
    → d ≡ c
ready_is w n m c d ready same at = same_Some d c (sym at ∙ ap (slice_get (commands_of w.plan)) same ∙ ready.there)

-- a command of another round stands at another place
pub other_round : (w : World) (n m : ℕ) (c d : Placed) → slice_get (commands_of w.plan) n ≡ Some c
    → slice_get (commands_of w.plan) m ≡ Some d → d.round ≢ c.round → m ≢ n
other_round w n m c d there at other = λ same.
    other (ap (λ (q : Placed). q.round) (same_Some d c (sym at ∙ ap (slice_get (commands_of w.plan)) same ∙ there)))

-- where a command is ready, each earlier one of its container is answered
pub before_ready : (w : World) (m n : ℕ) (d c : Placed) → IsInOrder w → IsReady w n c → m < n
    → slice_get (commands_of w.plan) m ≡ Some d
    → d.round ≡ c.round → d.command.container ≡ c.command.container → IsAnswered w m
before_ready w m n d c order ready less at round container =
    elim (open_or_answered w m d order at) [
      | inl is_open ↦ absurd (ready.first m d None less at is_open ((round ∙ ready.current, container), refl))
      | inr a ↦ a
    ]

-- ---- one step

-- a step of a ready command leaves the later rounds, and turns where an earlier command is answered
order_answered : (w : World) (n : ℕ) (c : Placed) (b : Answer) → IsInOrder w → IsReady w n c
    → IsInOrder (answered w n b)
order_answered w n c b order ready = record {
  long = length-set w.answers n (Some b) ∙ order.long;
  past = λ m d at less. stays_answered w n m b ready.unanswered (order.past m d at less);
  later = λ m d at more. elim (eqb_tells m n) [
    | inl t ↦
        absurd (let r : d.round ≡ c.round = ap (λ (x : Placed). x.round) (ready_is w n m c d ready t.1 at) in
        let here = ready.current in omega arith)
    | inr f ↦ untouched_answered w n m b f.1 (order.later m d at more)
  ];
  first = λ l m d x less at_l at_m besides. elim (eqb_tells m n) [
    | inl t ↦
        let same = ready_is w n m c x ready t.1 at_m in
        inr (stays_answered w n l b ready.unanswered
        (before_ready w l n d c order ready (subst (λ j. l < j) t.1 less) at_l
        (besides.0 ∙ ap (λ (y : Placed). y.round) same)
        (besides.1 ∙ ap (λ (y : Placed). y.command.container) same)))
    | inr f ↦ elim (order.first l m d x less at_l at_m besides) [
      | inl u ↦ inl (untouched_answered w n m b f.1 u)
      | inr a ↦ inr (stays_answered w n l b ready.unanswered a)
    ]
  ];
}

pub other_number : (e : Entry) (n m : ℕ) → e.command ≡ n + 1 → m ≢ n → e.command ≢ m + 1
other_number e n m own other same = other (omega arith)

order_entered : (w : World) (n : ℕ) (c : Placed) (e : Entry) → IsInOrder w → IsReady w n c → e.command ≡ n + 1
    → IsInOrder (with_entry w e)
order_entered w n c e order ready own = record {
  long = order.long;
  past = order.past;
  later = λ m d at more. elim (eqb_tells m n) [
    | inl t ↦
        absurd (let r : d.round ≡ c.round = ap (λ (x : Placed). x.round) (ready_is w n m c d ready t.1 at) in
        let here = ready.current in omega arith)
    | inr f ↦ untouched_entered w m e (other_number e n m own f.1) (order.later m d at more)
  ];
  first = λ l m d x less at_l at_m besides. elim (eqb_tells m n) [
    | inl t ↦
        let same = ready_is w n m c x ready t.1 at_m in
        inr (before_ready w l n d c order ready (subst (λ j. l < j) t.1 less) at_l
        (besides.0 ∙ ap (λ (y : Placed). y.round) same)
        (besides.1 ∙ ap (λ (y : Placed). y.command.container) same))
    | inr f ↦ elim (order.first l m d x less at_l at_m besides) [
      | inl u ↦ inl (untouched_entered w m e (other_number e n m own f.1) u)
      | inr a ↦ inr a
    ]
  ];
}

order_done : (w : World) (n : ℕ) (c : Placed) (x : Next) → IsInOrder w → IsReady w n c → IsInOrder (done w n x)
order_done w n c (next.Answer a) order ready = order_answered w n c a order ready
order_done w n c (next.Call call faulty) order ready =
    order_entered w n c (entry_of (host_of w) n call faulty) order ready refl

order_next_round : (w : World) → IsInOrder w → IsRoundOver w → IsInOrder (next_round w)
order_next_round w order over = record {
  long = order.long;
  past = λ n c at less.
      elim (eqb_tells c.round w.round) [
        | inl t ↦ over n c at t.1
        | inr f ↦ order.past n c at (let other = f.1 in omega arith)
      ];
  later = λ n c at more.
      let u = order.later n c at (omega arith) in record { no_reply = u.no_reply; no_answer = u.no_answer };
  first = λ m n d c less at_m at_n besides.
      elim (order.first m n d c less at_m at_n besides) [
        | inl u ↦ inl (record { no_reply = u.no_reply; no_answer = u.no_answer })
        | inr a ↦ inr a
      ];
}

-- ---- every legal world

abbrev blanks : List Placed → List (Option Answer)
blanks xs = map (λ (c : Placed). None) xs

blank_at : (xs : List Placed) (n : ℕ) (c : Placed) → slice_get xs n ≡ Some c → slice_get (blanks xs) n ≡ Some None
blank_at [] n c at = absurd (none-some c at)
blank_at (x ∷ xs) zero c at = refl
blank_at (x ∷ xs) (suc n) c at = blank_at xs n c at

blank_nowhere : (xs : List Placed) (n : ℕ) (a : Answer) → slice_get (blanks xs) n ≡ Some (Some a) → ⊥
blank_nowhere [] n a at = none-some (Some a) at
blank_nowhere (x ∷ xs) zero a at = none-some a (same_Some None (Some a) at)
blank_nowhere (x ∷ xs) (suc n) a at = blank_nowhere xs n a at

-- no command of a world that is begun has an answer
pub none_answered : (w : World) (n : ℕ) (a : Answer) → IsBegun w → slice_get w.answers n ≡ Some (Some a) → ⊥
none_answered w n a b at =
    blank_nowhere (commands_of w.plan) n a (sym (ap (λ (v : World). slice_get v.answers n) b.is) ∙ at)

untouched_begun : (w : World) (n : ℕ) (c : Placed) → IsBegun w → slice_get (commands_of w.plan) n ≡ Some c
    → IsUntouched w n
untouched_begun w n c b at = record {
  no_reply = ap (λ (v : World). own_replies v n) b.is;
  no_answer = ap (λ (v : World). slice_get v.answers n) b.is ∙ blank_at (commands_of w.plan) n c at;
}

order_begun : (w : World) → IsBegun w → IsInOrder w
order_begun w b = record {
  long = ap (λ (v : World). length v.answers) b.is ∙ length-map (commands_of w.plan) _;
  past = λ n c at less. absurd (let none : w.round ≡ 0 = ap (λ (v : World). v.round) b.is in omega arith);
  later = λ n c at more. untouched_begun w n c b at;
  first = λ m n d c less at_m at_n besides. inl (untouched_begun w n c b at_n);
}

pub in_order : (w : World) → Legal w → IsInOrder w
in_order _ (starts w begun) = order_begun w begun
in_order _ (steps v w n c legal ready is) =
    subst IsInOrder (sym is) (order_done v n c (next_of v c.command (own_replies v n)) (in_order v legal) ready)
in_order _ (refused_memory v w n c legal ready is) =
    subst IsInOrder (sym is) (order_answered v n c OutOfMemory (in_order v legal) ready)
in_order _ (turns v w legal less over is) = subst IsInOrder (sym is) (order_next_round v (in_order v legal) over)

-- ---- beside a ready command

pub same_or_other : (a b : List ℕ) → (a ≡ b) ⊎ (a ≢ b)
same_or_other a b = elim (cases_Bool (bytes_eq a b)) [
  | inl same ↦ inl ((bytes_eq-Decides a b).0 same)
  | inr other ↦ inr (λ is. let t = (bytes_eq-Decides a b).1 is in cc)
]

apart_in_container : (w : World) (m n : ℕ) (d c : Placed) → IsInOrder w → IsReady w n c → m ≢ n
    → slice_get (commands_of w.plan) m ≡ Some d → slice_get w.answers m ≡ Some None
    → d.command.container ≡ c.command.container → own_replies w m ≡ []
apart_in_container w m n d c order ready other at is_open container =
    elim (cases_order d.round w.round) [
      | inl same ↦ elim (cases_order m n) [
        | inl eq ↦ absurd (other eq)
        | inr (inl below) ↦
            absurd (not_both w m
            (before_ready w m n d c order ready below at (same ∙ sym ready.current) container) is_open)
        | inr (inr above) ↦ elim (order.first n m c d above ready.there at (ready.current ∙ sym same, sym container)) [
          | inl u ↦ u.no_reply
          | inr a ↦ absurd (not_both w n a ready.unanswered)
        ]
      ]
      | inr (inl less) ↦ absurd (not_both w m (order.past m d at less) is_open)
      | inr (inr more) ↦ (order.later m d at more).no_reply
    ]

-- beside a ready command, another one without an answer has made no call, or has another container
pub apart : (w : World) → Legal w → (m n : ℕ) (d c : Placed) → IsReady w n c → m ≢ n
    → slice_get (commands_of w.plan) m ≡ Some d → slice_get w.answers m ≡ Some None
    → (own_replies w m ≡ []) ⊎ (d.command.container ≢ c.command.container)
apart w legal m n d c ready other at is_open = elim (same_or_other d.command.container c.command.container) [
  | inl same ↦ inl (apart_in_container w m n d c (in_order w legal) ready other at is_open same)
  | inr differs ↦ inr differs
]

-- two of one round, one of them exclusive, are one
one_alone : (p : Plan) (m n : ℕ) (d c : Placed) → AreAlone p → slice_get (commands_of p) m ≡ Some d
    → slice_get (commands_of p) n ≡ Some c → d.round ≡ c.round
    → (is_exclusive c.command ≡ true) ⊎ (is_exclusive d.command ≡ true) → m ≡ n
one_alone p m n d c alone at_m at_n round (inl exclusive) = alone m n d c at_m at_n round exclusive
one_alone p m n d c alone at_m at_n round (inr exclusive) = sym (alone n m c d at_n at_m (sym round) exclusive)

-- beside a ready command, another one without an answer has made no call where one of the two is exclusive
pub alone_apart : (w : World) → Legal w → (m n : ℕ) (d c : Placed) → IsReady w n c → m ≢ n
    → slice_get (commands_of w.plan) m ≡ Some d → slice_get w.answers m ≡ Some None
    → (is_exclusive c.command ≡ true) ⊎ (is_exclusive d.command ≡ true) → own_replies w m ≡ []
alone_apart w legal m n d c ready other at is_open exclusive =
    let order = in_order w legal in
    elim (cases_order d.round w.round) [
      | inl same ↦
          absurd (other (one_alone w.plan m n d c (stand_alone w.plan (fine w legal).plan) at ready.there
          (same ∙ sym ready.current) exclusive))
      | inr (inl less) ↦ absurd (not_both w m (order.past m d at less) is_open)
      | inr (inr more) ↦ (order.later m d at more).no_reply
    ]
