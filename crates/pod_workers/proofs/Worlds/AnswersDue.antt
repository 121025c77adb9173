-- Each answer of a legal world is its script's, a stop, or out of memory.
use Rattle.pod_workers.proofs.Names.{◌≡◌, ◌≢◌, ℕ, ◌+◌, ◌≤◌, ◌==◌, Bool, true, false, List, [], ◌∷◌, ◌++◌, length}
use Rattle.pod_workers.proofs.Names.{Option, Some, None, slice_get, slice_set, refl, sym, ◌∙◌, ap, subst, inl, inr, ◌⊎◌}
use Rattle.pod_workers.proofs.Names.{arith, append_assoc, if◌then◌else◌, and_parts, eqb-true, eqb_tells, nat_tests}
use Rattle.pod_workers.proofs.Names.{length_push, same_Some, none-some, slice_get_within, ◌||◌, turn_by, answer_by}
use Rattle.pod_workers.proofs.Names.{Turn, Calls, Finishes, Finish, Answer, OutOfMemory, Stopped, Call, NetList}
use Rattle.pod_workers.proofs.Names.{Command}
use Rattle.std.proofs.lemmas.Bool.{or_cases}
use Rattle.pod_workers.specs.Facts.{EachFollows, EntryIsInRound, IsScripts, IsStopped, AnswerIsDue, IsDue}
use Rattle.pod_workers.specs.{Legal.{Legal, starts, steps, refused_memory, turns}, Plans.{Placed, commands_of}}
use Rattle.pod_workers.specs.{Plans.list_for, World.{World, IsReady, IsUpToStop, own_replies, host_of, is_faulty}}
use Rattle.pod_workers.specs.World.{is_stop, is_cut, is_cut_at, last_entry, done, answered, with_entry, entry_of}
use Rattle.pod_workers.specs.{World.{next_of, next_by, at_number}, declared.plan.{Entry.Entry, Next.Next, Plan.Plan}}
use Rattle.pod_workers.specs.declared.plan.Next.TheVariants as next
use Rattle.pod_workers.proofs.{Books.Rounds.is_in_round, InOrder.Order.none_answered, Lists.Elements.at_number-is}
use Rattle.pod_workers.proofs.Worlds.{Facts.{each_follows, keeps_stop}, Histories.slice_get-set_same}
use Rattle.pod_workers.proofs.Worlds.Histories.{slice_get-set_other, replies_of-other, last_entry-splits}

-- ---- a cut

-- a cut world's last entry is the one that `stop_at` names, and it is of the current round
pub cut_stands : (w : World) (stop : Option ℕ) (last : Option Entry) → EachFollows w.plan w.history
    → last_entry w.history ≡ last → is_cut_at stop w last ≡ true
    → EntryIsInRound w.plan w.history stop w.round
cut_stands w None last each is cut = absurd (let t : false ≡ true = cut in cc)
cut_stands w (Some number) None each is cut = absurd (let t : false ≡ true = cut in cc)
cut_stands w (Some number) (Some e) each is cut =
    let both =
    and_parts (length w.history == number) (is_in_round w.round (at_number (commands_of w.plan) e.command)) cut in
    let split = last_entry-splits w.history e is in
    let follows = each split.0 [] e split.1 in
    let here : is_in_round w.round (Some follows.by) ≡ true =
    ap (is_in_round w.round)
    (sym (at_number-is (commands_of w.plan) e.command follows.place follows.of.number ∙ follows.of.there))
    ∙ both.1 in (
      split.0,
      [],
      e,
      follows.place,
      follows.by,
      split.1,
      sym (ap length split.1 ∙ length_push split.0 e) ∙ eqb-true (length w.history) number both.0,
      follows.of,
      eqb-true follows.by.round w.round here,
    )

pub stands-append : (p : Plan) (h : List Entry) (x : Entry) (stop : Option ℕ) (round : ℕ)
    → EntryIsInRound p h stop round → EntryIsInRound p (h ++ x ∷ []) stop round
stands-append p h x None round is = is
stands-append p h x (Some number) round is = (
  is.0,
  is.1 ++ x ∷ [],
  is.2,
  is.3,
  is.4,
  ap (λ l. l ++ x ∷ []) is.5 ∙ append_assoc is.0 (is.2 ∷ is.1) (x ∷ []),
  is.6,
  is.7,
  is.8,
)

-- ---- why a step gives an answer

-- the script's answer, or a stop where the script has a call
abbrev AnswersBy : Option NetList → Command → ℕ → Bool → Turn → Answer → Type 0
AnswersBy list c made cut t a =
    ((finish : Finish) × (t ≡ Finishes finish) × (a ≡ answer_by list c finish))
    ⊎ ((call : Call) × (t ≡ Calls call) × (a ≡ Stopped made) × ((is_stop c.stop made || cut) ≡ true))

stopping_by : (c : Command) (made : ℕ) (k : Call) (a : Answer) (faulty b : Bool)
    → (if b then next.Answer (Stopped made) else next.Call k faulty) ≡ next.Answer a → (a ≡ Stopped made) × (b ≡ true)
stopping_by c made k a faulty true is = (cc, refl)
stopping_by c made k a faulty false is = absurd cc

answers_by : (list : Option NetList) (c : Command) (made : ℕ) (cut : Bool) (t : Turn) (a : Answer)
    → next_by list c made cut t ≡ next.Answer a → AnswersBy list c made cut t a
answers_by list c made cut (Finishes finish) a is = inl (finish, refl, cc)
answers_by list c made cut (Calls k) a is =
    let s = stopping_by c made k a (is_faulty c made) (is_stop c.stop made || cut) is in inr (k, refl, s.0, s.1)

at_stop : (o : Option ℕ) (made : ℕ) → is_stop o made ≡ true → IsUpToStop o made → o ≡ Some made
at_stop None made is within = absurd (let t : false ≡ true = is in cc)
at_stop (Some most) made is within =
    let up : most ≤ made = grind (arith, nat_tests) in
    let down : made ≤ most = within in
    let same : most ≡ made = omega arith in
    ap Some same

-- ---- the answer of a step

due_now : (v : World) (n : ℕ) (c : Placed) (a : Answer) → Legal v → IsReady v n c
    → next_of v c.command (own_replies v n) ≡ next.Answer a → IsScripts v n c a ⊎ IsStopped v n c a
due_now v n c a legal ready is =
    let made = length (own_replies v n) in
    let turn = turn_by (list_for v.plan c.command) c.command (own_replies v n) in
    elim (answers_by (list_for v.plan c.command) c.command made (is_cut v) turn a is) [
      | inl scripts ↦ inl scripts
      | inr stopped ↦ inr (
        (stopped.0, stopped.1, stopped.2),
        elim (or_cases (is_stop c.command.stop made) (is_cut v) stopped.3) [
          | inl own ↦ inl (at_stop c.command.stop made own (keeps_stop v legal n c ready.there))
          | inr cut ↦
              inr (subst (EntryIsInRound v.plan v.history v.plan.stop_at) (sym ready.current)
              (cut_stands v v.plan.stop_at (last_entry v.history) (each_follows v legal) refl cut))
        ],
      )
    ]

pub at_own_stop : (o : Option ℕ) (made : ℕ) → o ≡ Some made → is_stop o made ≡ true
at_own_stop o made is = ap (λ (s : Option ℕ). is_stop s made) is ∙ grind (arith, nat_tests)

due_answered : (v : World) (n : ℕ) (c : Placed) (b : Answer) → AnswerIsDue v → IsReady v n c → IsDue v n c b
    → AnswerIsDue (answered v n b)
due_answered v n c b due ready why = λ m d there a at. elim (eqb_tells m n) [
  | inl t ↦
      let within = slice_get_within v.answers n None ready.unanswered in
      let same_a : a ≡ b =
      same_Some a b (same_Some (Some a) (Some b)
      (sym at
      ∙ ap (slice_get (slice_set v.answers n (Some b))) t.1
      ∙ slice_get-set_same v.answers n (Some b) within)) in
      let same_d : d ≡ c = same_Some d c (sym there ∙ ap (slice_get (commands_of v.plan)) t.1 ∙ ready.there) in
      rw (same_a, same_d, t.1) why
  | inr f ↦ due m d there a (sym (slice_get-set_other v.answers n m (Some b) f.1) ∙ at)
]

-- an entry of another command leaves why an answer was due
due_stays : (v : World) (m : ℕ) (d : Placed) (a : Answer) (e : Entry) → e.command ≢ m + 1 → IsDue v m d a
    → IsDue (with_entry v e) m d a
due_stays v m d a e other (inl scripts) = inl (rw (replies_of-other m v.history e other) scripts)
due_stays v m d a e other (inr (inr lacking)) = inr (inr lacking)
due_stays v m d a e other (inr (inl stopped)) = inr (inl (
  rw (replies_of-other m v.history e other) stopped.0,
  elim stopped.1 [
    | inl own ↦ inl (rw (replies_of-other m v.history e other) own)
    | inr cut ↦ inr (stands-append v.plan v.history e v.plan.stop_at d.round cut)
  ],
))

due_entered : (v : World) (n : ℕ) (c : Placed) (e : Entry) → AnswerIsDue v → IsReady v n c → e.command ≡ n + 1
    → AnswerIsDue (with_entry v e)
due_entered v n c e due ready own = λ m d there a at.
    let other : e.command ≢ m + 1 = λ same.
    none-some a (same_Some None (Some a)
    (sym ready.unanswered ∙ ap (slice_get v.answers) (let place : n ≡ m = omega arith in place) ∙ at)) in
    due_stays v m d a e other (due m d there a at)

due_done : (v : World) (n : ℕ) (c : Placed) (x : Next) → Legal v → AnswerIsDue v → IsReady v n c
    → next_of v c.command (own_replies v n) ≡ x → AnswerIsDue (done v n x)
due_done v n c (next.Answer b) legal due ready is =
    due_answered v n c b due ready
    (elim (due_now v n c b legal ready is) [ inl scripts ↦ inl scripts | inr stopped ↦ inr (inl stopped) ])
due_done v n c (next.Call call faulty) legal due ready is =
    due_entered v n c (entry_of (host_of v) n call faulty) due ready refl

pub answer_is_due : (w : World) → Legal w → AnswerIsDue w
answer_is_due _ (starts w begun) = λ n c there a at. absurd (none_answered w n a begun at)
answer_is_due _ (steps v w n c legal ready is) =
    subst AnswerIsDue (sym is)
    (due_done v n c (next_of v c.command (own_replies v n)) legal (answer_is_due v legal) ready refl)
answer_is_due _ (refused_memory v w n c legal ready is) =
    subst AnswerIsDue (sym is) (due_answered v n c OutOfMemory (answer_is_due v legal) ready (inr (inr refl)))
answer_is_due _ (turns v w legal less over is) = subst AnswerIsDue (sym is) (answer_is_due v legal)
