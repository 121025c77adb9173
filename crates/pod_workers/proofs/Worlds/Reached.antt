-- Each world that meets the clauses is reached by allowed steps: event after event is taken back.
use Rattle.pod_workers.proofs.Names.{◌≡◌, ◌≢◌, ℕ, zero, suc, ◌+◌, ◌<◌, ◌≤◌, List, [], ◌∷◌, ◌++◌, length, map, Option}
use Rattle.pod_workers.proofs.Names.{Some, None, slice_get, slice_set, refl, sym, ◌∙◌, ap, subst, inl, inr, ◌⊎◌, arith}
use Rattle.pod_workers.proofs.Names.{eqb_tells, length_push, same_Some, none-some, slice_get_within, Answer}
use Rattle.pod_workers.specs.{Facts.{IsEntryOf, IsUntouched, AreOfOneContainer, IsLegalByClauses}, Legal.Legal}
use Rattle.pod_workers.specs.{Legal.{IsBegun, starts}, Plans.{Placed, commands_of}, World.{World, IsAnswered}}
use Rattle.pod_workers.specs.World.{own_replies, replies_of, answered, begun, with_entry, next_round}
use Rattle.pod_workers.specs.declared.plan.Entry.{Entry}
use Rattle.pod_workers.proofs.{Books.RoundsAscend.command_at, InOrder.Order.{not_both, answered_or_open, same_or_other}}
use Rattle.pod_workers.proofs.{Lists.Splits.{none-or-some, split_snoc}, Worlds.Facts.one_command}
use Rattle.pod_workers.proofs.Worlds.Histories.{slice_get-set_same, slice_get-set_other, has_reply, set-back}
use Rattle.pod_workers.proofs.Worlds.{Histories.{entry_or_none, empty_or_last}, TakenBack.{MayAnswer, MayEnter}}
use Rattle.pod_workers.proofs.Worlds.TakenBack.{clauses_before_answer, clauses_before_entry, clauses_before_round}
use Rattle.pod_workers.proofs.Worlds.TakenBack.{legal_answered, legal_entered, legal_turned}

-- ---- how much was done

abbrev given : List (Option Answer) → ℕ
given [] = 0
given (None ∷ os) = given os
given (Some a ∷ os) = suc (given os)

abbrev amount : World → ℕ
amount w = length w.history + given w.answers + w.round

given-unset : (os : List (Option Answer)) (n : ℕ) (a : Answer) → slice_get os n ≡ Some (Some a)
    → given os ≡ suc (given (slice_set os n None))
given-unset [] n a at = absurd (none-some (Some a) at)
given-unset (None ∷ os) zero a at = absurd (none-some a (same_Some None (Some a) at))
given-unset (Some b ∷ os) zero a at = refl
given-unset (None ∷ os) (suc n) a at = given-unset os n a at
given-unset (Some b ∷ os) (suc n) a at = ap suc (given-unset os n a at)

-- the world before the last event
record TakenBack (w : World) : Type 0 where
  before : World
  clauses : IsLegalByClauses before
  less : amount before < amount w
  forth : Legal before → Legal w

-- ---- an answer that is the last of its container

-- the command at place n has an answer, and no later one of its container is touched
record LastAnswer (w : World) : Type 0 where
  place : ℕ
  by : Placed
  answer : Answer
  there : slice_get (commands_of w.plan) place ≡ Some by
  current : by.round ≡ w.round
  given_is : slice_get w.answers place ≡ Some (Some answer)
  last : (m : ℕ) (d : Placed) → place < m → slice_get (commands_of w.plan) m ≡ Some d → AreOfOneContainer by d
      → IsUntouched w m

back_answer : (w : World) → IsLegalByClauses w → LastAnswer w → TakenBack w
back_answer w k l =
    let v : World =
    record { plan = w.plan; history = w.history; answers = slice_set w.answers l.place None; round = w.round } in
    let is : answered v l.place l.answer ≡ w =
    ap (λ (answers : List (Option Answer)).
    let u : World = record { plan = w.plan; history = w.history; answers = answers; round = w.round } in u)
    (set-back w.answers l.place (Some l.answer) None l.given_is) in
    let k' : IsLegalByClauses (answered v l.place l.answer) = subst IsLegalByClauses (sym is) k in
    let may : MayAnswer v l.place l.by = record {
      there = l.there;
      current = l.current;
      is_open =
          slice_get-set_same w.answers l.place None (slice_get_within w.answers l.place (Some l.answer) l.given_is);
      last = λ m d less at besides.
          let u = l.last m d less at besides in
          record {
            no_reply = u.no_reply;
            no_answer = slice_get-set_other w.answers l.place m None (λ same. omega arith) ∙ u.no_answer;
          };
    } in
    record {
      before = v;
      clauses = clauses_before_answer v l.place l.by l.answer k' may;
      less = let fewer = given-unset w.answers l.place l.answer l.given_is in omega arith;
      forth = λ legal. subst Legal is (legal_answered v l.place l.by l.answer k' may legal);
    }

-- ---- the search for it

-- a later command of its container has an entry
abbrev HasLater : World → ℕ → Placed → Type 0
HasLater w n c =
    (m : ℕ) × (d : Placed) × (n < m) × (slice_get (commands_of w.plan) m ≡ Some d) × AreOfOneContainer c d
    × (own_replies w m ≢ [])

abbrev NoneFrom : World → ℕ → Placed → Type 0
NoneFrom w n c =
    (m : ℕ) (d : Placed) → n ≤ m → slice_get (commands_of w.plan) m ≡ Some d → AreOfOneContainer c d
    → own_replies w m ≡ []

besides_or_not : (c d : Placed) → AreOfOneContainer c d ⊎ ¬ AreOfOneContainer c d
besides_or_not c d = elim (eqb_tells c.round d.round) [
  | inr f ↦ inr (λ b. f.1 b.0)
  | inl t ↦ elim (same_or_other c.command.container d.command.container) [
    | inl same ↦ inl (t.1, same)
    | inr other ↦ inr (λ b. other b.1)
  ]
]

find_later : (w : World) (c : Placed) (left n : ℕ) → n + left ≡ length (commands_of w.plan)
    → ((m : ℕ) × (d : Placed) × (n ≤ m) × (slice_get (commands_of w.plan) m ≡ Some d) × AreOfOneContainer c d
    × (own_replies w m ≢ []))
    ⊎ NoneFrom w n c
find_later w c zero n ends =
    inr (λ m d most at besides. absurd (let within = slice_get_within (commands_of w.plan) m d at in omega arith))
find_later w c (suc left) n ends = elim (find_later w c left (n + 1) (omega arith)) [
  | inl is ↦ inl (is.0, is.1, (let more = is.2 in omega arith), is.3, is.4, is.5)
  | inr none ↦
      let x = command_at w.plan n (omega arith) in
      let rest : ¬ AreOfOneContainer c x.0 ⊎ (own_replies w n ≡ []) → NoneFrom w n c = λ here m d most at besides.
      elim (eqb_tells m n) [
        | inr f ↦ none m d (let other = f.1 in omega arith) at besides
        | inl t ↦ elim here [
          | inl apart ↦
              absurd (apart (subst (AreOfOneContainer c)
              (same_Some d x.0 (sym at ∙ ap (slice_get (commands_of w.plan)) t.1 ∙ x.1)) besides))
          | inr no_reply ↦ ap (own_replies w) t.1 ∙ no_reply
        ]
      ] in
      elim (besides_or_not c x.0) [
        | inr apart ↦ inr (rest (inl apart))
        | inl besides ↦ elim (none-or-some (own_replies w n)) [
          | inl no_reply ↦ inr (rest (inr no_reply))
          | inr some ↦ inl (n, x.0, omega arith, x.1, besides, some)
        ]
      ]
]

-- from this place on, behind each answer of the current round a later command of the container has an entry
abbrev NoLastFrom : World → ℕ → Type 0
NoLastFrom w n =
    (m : ℕ) (d : Placed) → n ≤ m → slice_get (commands_of w.plan) m ≡ Some d → d.round ≡ w.round → IsAnswered w m
    → HasLater w m d

command_left : (n long : ℕ) → n < long → (left : ℕ) × (n + 1 + left ≡ long)
command_left zero (suc long) less = (long, omega arith)
command_left (suc n) (suc long) less =
    let rest = command_left n long (omega arith) in (rest.0, let is = rest.1 in omega arith)
command_left n zero less = absurd (omega arith)

-- the command at place n as the last one of its container, or none
last_here : (w : World) (n : ℕ) (c : Placed) → IsLegalByClauses w → slice_get (commands_of w.plan) n ≡ Some c
    → c.round ≡ w.round → IsAnswered w n → NoLastFrom w (n + 1) → LastAnswer w ⊎ HasLater w n c
last_here w n c k there current a none =
    let within = slice_get_within (commands_of w.plan) n c there in
    let left = command_left n (length (commands_of w.plan)) within in
    elim (find_later w c left.0 (n + 1) left.1) [
      | inl is ↦ inr (is.0, is.1, (let more = is.2 in omega arith), is.3, is.4, is.5)
      | inr no_later ↦ inl (record {
        place = n;
        by = c;
        answer = a.0;
        there = there;
        current = current;
        given_is = a.1;
        last = λ m d less at besides.
            elim (answered_or_open w m (slice_get w.answers m) refl
            (rw k.long (slice_get_within (commands_of w.plan) m d at))) [
              | inl is_open ↦ record { no_reply = no_later m d (omega arith) at besides; no_answer = is_open }
              | inr is ↦ absurd (let more = none m d (omega arith) at (sym besides.0 ∙ current) is in let on = more.2 in
                  more.5 (no_later more.0 more.1 (omega arith) more.3 (besides.0 ∙ more.4.0, besides.1 ∙ more.4.1)))
            ];
      })
    ]

find_last : (w : World) → IsLegalByClauses w → (left n : ℕ) → n + left ≡ length (commands_of w.plan)
    → LastAnswer w ⊎ NoLastFrom w n
find_last w k zero n ends =
    inr (λ m d most at current a. absurd (let within = slice_get_within (commands_of w.plan) m d at in omega arith))
find_last w k (suc left) n ends = elim (find_last w k left (n + 1) (omega arith)) [
  | inl is ↦ inl is
  | inr none ↦
      let x = command_at w.plan n (omega arith) in
      let rest :
      (x.0.round ≡ w.round → IsAnswered w n → HasLater w n x.0) → NoLastFrom w n = λ here m d most at current a.
      elim (eqb_tells m n) [
        | inr f ↦ none m d (let other = f.1 in omega arith) at current a
        | inl t ↦
            let same : x.0 ≡ d = same_Some x.0 d (sym x.1 ∙ ap (slice_get (commands_of w.plan)) (sym t.1) ∙ at) in
            let is = here (ap (λ (q : Placed). q.round) same ∙ current) (subst (IsAnswered w) t.1 a) in (
              is.0,
              is.1,
              (let more = is.2 in let place = t.1 in omega arith),
              is.3,
              subst (λ q. AreOfOneContainer q is.1) same is.4,
              is.5,
            )
      ] in
      elim (eqb_tells x.0.round w.round) [
        | inr f ↦ inr (rest (λ current a. absurd (f.1 current)))
        | inl t ↦ elim (answered_or_open w n (slice_get w.answers n) refl (rw k.long (omega arith))) [
          | inl is_open ↦ inr (rest (λ current a. absurd (not_both w n a is_open)))
          | inr a ↦
              elim (last_here w n x.0 k x.1 t.1 a none) [ inl is ↦ inl is | inr is ↦ inr (rest (λ current b. is)) ]
        ]
      ]
]

-- ---- no such answer: the last entry, or the round

-- the commands of the current round are untouched
abbrev IsFresh : World → Type 0
IsFresh w = (n : ℕ) (c : Placed) → slice_get (commands_of w.plan) n ≡ Some c → c.round ≡ w.round → IsUntouched w n

fresh_where : (w : World) → IsLegalByClauses w → NoLastFrom w 0
    → ((n : ℕ) (c : Placed) → slice_get (commands_of w.plan) n ≡ Some c → c.round ≡ w.round → own_replies w n ≡ [])
    → IsFresh w
fresh_where w k none silent n c at current = record {
  no_reply = silent n c at current;
  no_answer =
      elim (answered_or_open w n (slice_get w.answers n) refl
      (rw k.long (slice_get_within (commands_of w.plan) n c at))) [
        | inl is_open ↦ is_open
        | inr a ↦
            absurd (let later = none n c (omega arith) at current a in
            later.5 (silent later.0 later.1 later.3 (sym later.4.0 ∙ current)))
      ];
}

untouched_at_first : (w : World) → IsLegalByClauses w → IsFresh w → w.round ≡ 0 → (n : ℕ) (c : Placed)
    → slice_get (commands_of w.plan) n ≡ Some c → IsUntouched w n
untouched_at_first w k fresh is n c at = elim (eqb_tells c.round w.round) [
  | inl t ↦ fresh n c at t.1
  | inr f ↦ k.rounds.later n c at (let other = f.1 in omega arith)
]

-- a world where nothing was done is begun
blanks : (xs : List Placed) (os : List (Option Answer)) → length os ≡ length xs
    → ((n : ℕ) (o : Option Answer) → slice_get os n ≡ Some o → o ≡ None) → os ≡ map (λ (c : Placed). None) xs
blanks [] [] long none = refl
blanks [] (o ∷ os) long none = absurd (omega arith)
blanks (x ∷ xs) [] long none = absurd (omega arith)
blanks (x ∷ xs) (o ∷ os) long none =
    ap (λ (p : Option Answer). p ∷ os) (none 0 o refl)
    ∙ ap (λ (ps : List (Option Answer)). None ∷ ps) (blanks xs os (omega arith) (λ n q at. none (suc n) q at))

blank_world : (w : World) → w.history ≡ [] → w.answers ≡ map (λ (c : Placed). None) (commands_of w.plan) → w.round ≡ 0
    → w ≡ begun w.plan
blank_world w empty blank first =
    let world : List Entry → List (Option Answer) → ℕ → World = λ h os r.
    record { plan = w.plan; history = h; answers = os; round = r } in
    ap (λ (h : List Entry). world h w.answers w.round) empty
    ∙ ap (λ (os : List (Option Answer)). world [] os w.round) blank
    ∙ ap (world [] (map (λ (c : Placed). None) (commands_of w.plan))) first

by_round : (w : World) (round : ℕ) → w.round ≡ round → IsLegalByClauses w → IsFresh w → IsBegun w ⊎ TakenBack w
by_round w zero is k fresh = inl (record {
  plan = k.plan;
  is = blank_world w
      (elim (empty_or_last w.history) [
        | inl none ↦ none
        | inr last ↦ absurd (
            let follows = k.entries last.0 [] last.1 last.2 in
            has_reply follows.place w.history last.0 [] last.1 last.2 follows.of.number
            (untouched_at_first w k fresh is follows.place follows.by follows.of.there).no_reply)
      ])
      (blanks (commands_of w.plan) w.answers k.long (λ n o at.
      let c =
      command_at w.plan n
      (let within = slice_get_within w.answers n o at in let long = k.long in omega arith) in
      same_Some o None (sym at ∙ (untouched_at_first w k fresh is n c.0 c.1).no_answer)))
      is;
})
by_round w (suc round) is k fresh =
    let v : World = record { plan = w.plan; history = w.history; answers = w.answers; round = round } in
    let next : next_round v ≡ w =
    ap (λ (r : ℕ).
    let u : World = record { plan = w.plan; history = w.history; answers = w.answers; round = r } in u)
    (let more : round + 1 ≡ w.round = omega arith in more) in
    let k' : IsLegalByClauses (next_round v) = subst IsLegalByClauses (sym next) k in
    inr (record {
      before = v;
      clauses =
          clauses_before_round v k' (λ n c at same.
          let u = fresh n c at (omega arith) in record { no_reply = u.no_reply; no_answer = u.no_answer });
      less = omega arith;
      forth = λ legal. subst Legal next (legal_turned v k' legal);
    })

-- an entry of the current round, where the last one isn't of it
silent_after : (w : World) (before : List Entry) (e : Entry) (n : ℕ) (c : Placed) → IsLegalByClauses w
    → w.history ≡ before ++ e ∷ [] → IsEntryOf w.plan e n c → c.round ≢ w.round
    → (m : ℕ) (d : Placed) → slice_get (commands_of w.plan) m ≡ Some d → d.round ≡ w.round → own_replies w m ≡ []
silent_after w before e n c k split of_e other m d at current = elim (entry_or_none m w.history) [
  | inl none ↦ none
  | inr is ↦ absurd (
      let of_x : IsEntryOf w.plan is.2 m d = record { number = is.4; there = at } in
      elim (split_snoc before is.0 is.1 e is.2 (sym split ∙ is.3)) [
        | inl t ↦ other (ap (λ (q : Placed). q.round) (one_command w.plan e is.2 n m c d t.2 of_e of_x).1 ∙ current)
        | inr t ↦
            let up = k.rounds.entries is.0 t.0 [] is.2 e m n d c (is.3 ∙ ap (λ l. is.0 ++ is.2 ∷ l) t.1) of_x of_e in
            has_reply n w.history before [] e split of_e.number
            (k.rounds.later n c of_e.there (let later : w.round < c.round = omega arith in later)).no_reply
      ])
]

-- the last entry's command is open
open_at_last : (w : World) (before : List Entry) (e : Entry) (n : ℕ) (c : Placed) → IsLegalByClauses w → NoLastFrom w 0
    → w.history ≡ before ++ e ∷ [] → IsEntryOf w.plan e n c → c.round ≡ w.round
    → slice_get w.answers n ≡ Some None
open_at_last w before e n c k none split of_e current =
    elim (answered_or_open w n (slice_get w.answers n) refl
    (rw k.long (slice_get_within (commands_of w.plan) n c of_e.there))) [
      | inl is_open ↦ is_open
      | inr a ↦ absurd (
          let later = none n c (omega arith) of_e.there current a in
          let on = later.2 in
          elim (entry_or_none later.0 w.history) [
            | inl no_reply ↦ later.5 no_reply
            | inr is ↦
                let of_x : IsEntryOf w.plan is.2 later.0 later.1 = record { number = is.4; there = later.3 } in
                elim (split_snoc before is.0 is.1 e is.2 (sym split ∙ is.3)) [
                  | inl t ↦ let place = (one_command w.plan e is.2 n later.0 c later.1 t.2 of_e of_x).0 in omega arith
                  | inr t ↦
                      let down =
                      k.containers.entries is.0 t.0 [] is.2 e later.0 n later.1 c
                      (is.3 ∙ ap (λ l. is.0 ++ is.2 ∷ l) t.1) of_x of_e (sym later.4.0, sym later.4.1) in
                      omega arith
                ]
          ])
    ]

back_entry : (w : World) (before : List Entry) (e : Entry) (n : ℕ) (c : Placed) → IsLegalByClauses w → NoLastFrom w 0
    → w.history ≡ before ++ e ∷ [] → IsEntryOf w.plan e n c → c.round ≡ w.round → TakenBack w
back_entry w before e n c k none split of_e current =
    let v : World = record { plan = w.plan; history = before; answers = w.answers; round = w.round } in
    let is : with_entry v e ≡ w =
    ap (λ (h : List Entry).
    let u : World = record { plan = w.plan; history = h; answers = w.answers; round = w.round } in u)
    (sym split) in
    let k' : IsLegalByClauses (with_entry v e) = subst IsLegalByClauses (sym is) k in
    let may : MayEnter v e n c = record {
      of_entry = of_e;
      current = current;
      is_open = open_at_last w before e n c k none split of_e current;
      others = λ m d at round a.
          let later = none m d (omega arith) at round a in
          elim (k'.containers.whole m later.0 d later.1 later.2 at later.3 later.4) [
            | inl no_reply ↦ absurd (later.5 (ap (replies_of later.0) split ∙ no_reply))
            | inr done ↦ done
          ];
    } in
    record {
      before = v;
      clauses = clauses_before_entry v e n c k' may;
      less = let longer = ap length split ∙ length_push before e in omega arith;
      forth = λ legal. subst Legal is (legal_entered v e n c k' may legal);
    }

-- ---- every such world

last_event : (w : World) → IsLegalByClauses w → IsBegun w ⊎ TakenBack w
last_event w k = elim (find_last w k (length (commands_of w.plan)) 0 (omega arith)) [
  | inl last ↦ inr (back_answer w k last)
  | inr none ↦ elim (empty_or_last w.history) [
    | inl empty ↦ by_round w w.round refl k (fresh_where w k none (λ n c at current. ap (replies_of n) empty))
    | inr last ↦
        let follows = k.entries last.0 [] last.1 last.2 in
        elim (eqb_tells follows.by.round w.round) [
          | inl t ↦ inr (back_entry w last.0 last.1 follows.place follows.by k none last.2 follows.of t.1)
          | inr f ↦
              by_round w w.round refl k
              (fresh_where w k none (silent_after w last.0 last.1 follows.place follows.by k last.2 follows.of f.1))
        ]
  ]
]

reached_within : (most : ℕ) (w : World) → amount w ≤ most → IsLegalByClauses w → Legal w
reached_within zero w less k =
    elim (last_event w k) [ inl begun ↦ starts w begun | inr back ↦ absurd (let fewer = back.less in omega arith) ]
reached_within (suc most) w less k = elim (last_event w k) [
  | inl begun ↦ starts w begun
  | inr back ↦ back.forth (reached_within most back.before (let fewer = back.less in omega arith) back.clauses)
]

pub is_reached_by_steps : (w : World) → IsLegalByClauses w → Legal w
is_reached_by_steps w k = reached_within (amount w) w (omega arith) k
