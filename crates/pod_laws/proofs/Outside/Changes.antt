-- A change from outside is one call at most.
use Rattle.pod_laws.proofs.Names.{◌≡◌, ◌≢◌, ℕ, ◌+◌, ◌≤◌, false, List, [], ◌∷◌, ◌++◌, length, Some, None, slice_get}
use Rattle.pod_laws.proofs.Names.{refl, sym, ◌∙◌, ap, subst, inl, inr, arith, both_ways, eqb_tells, length-map}
use Rattle.pod_laws.proofs.Names.{none-some, if◌then◌else◌, Addr, is_of_network, Command, Call, answer_by, turn_by}
use Rattle.pod_laws.proofs.Names.{State, Changing, Over, Calls, Finishes, Finish, changed, outside_after, turn, Answer}
use Rattle.pod_laws.proofs.Names.{Ending, IsScripts, Legal, Placed, commands_of, list_for, list_named, World, entry_of}
use Rattle.pod_laws.proofs.Names.{host_of, own_replies, Entry, Plan, answer_is_due, LeftIsOutside, left-is-outside}
use Rattle.pod_laws.proofs.Names.{other_number, ready_is}
use Rattle.cni_verbs.specs.{Endings.{answer_outside, outside_by}, Script.{outside_advance, outside_start}}
use Rattle.pod_laws.specs.{Answers.is_cut_off, Changed.{ChangesAreAnswered, IsChangedBy}, Moments.own_entries}
use Rattle.pod_laws.proofs.{Given.Due.over-calls, Histories.Entries.{is_of-other, is_of-own, own_entries-other}}
use Rattle.pod_laws.proofs.Histories.{Entries.{own_entries-own, replies_in}, Steps.{ChangesKeep, EntriesKeep}}
use Rattle.pod_laws.proofs.Histories.Steps.{by-entries}

-- ---- its entries

-- none, or the change that it starts with
abbrev MakesOne : Command → List Entry → Type 0
MakesOne c [] = Unit {0}
MakesOne c (e ∷ []) = outside_start c ≡ Changing e.call
MakesOne c (e ∷ f ∷ es) = ⊥

abbrev AllMakeOne : Plan → List Entry → Type 0
AllMakeOne p h =
    (m : ℕ) (d : Placed) → slice_get (commands_of p) m ≡ Some d → list_for p d.command ≡ None
    → MakesOne d.command (own_entries m h)

-- the first call
first-change : (c : Command) (s : State) (call : Call) → LeftIsOutside c s → turn c s ≡ Calls call → s ≡ Changing call
unfolding turn
first-change c (Over ending given) call starts is = cc
first-change c (Changing change) call starts is = cc
first-change c _ call starts is = absurd starts

-- after it nothing is left
after-change : (c : Command) (e : Entry) → MakesOne c (e ∷ [])
    → outside_after c (e.reply ∷ []) ≡ Over (changed 1 e.reply) []
after-change c e one = ap (λ s. outside_advance 1 s e.reply) one

one-more : (c : Command) (es : List Entry) (e : Entry) → MakesOne c es
    → turn c (outside_after c (replies_in es)) ≡ Calls e.call → MakesOne c (es ++ e ∷ [])
one-more c [] e was is = first-change c (outside_start c) e.call (left-is-outside c []) is
one-more c (x ∷ []) e was is =
    absurd (over-calls c (changed 1 x.reply) [] e.call (ap (turn c) (sym (after-change c x was)) ∙ is))
one-more c (x ∷ y ∷ es) e was is = absurd was

one-other : (m n : ℕ) (d : Command) (h : List Entry) (e : Entry) → e.command ≡ n + 1 → m ≢ n
    → MakesOne d (own_entries m h) → MakesOne d (own_entries m (h ++ e ∷ []))
one-other m n d h e number differs was =
    subst (MakesOne d) (sym (own_entries-other m h e (is_of-other m e (other_number e n m number differs)))) was

one-kept : EntriesKeep AllMakeOne
one-kept w n c list call faulty on was = λ m d at none.
    let e = entry_of (host_of w) n call faulty in
    elim (eqb_tells m n) [
      | inl t ↦
          absurd (none-some list
          (sym none
          ∙ ap (λ (x : Placed). list_for w.plan x.command) (ready_is w n m c d on.ready t.1 at)
          ∙ on.listed))
      | inr f ↦ one-other m n d.command w.history e refl f.1 (was m d at none)
    ]

one-changed : ChangesKeep AllMakeOne
one-changed w n c call faulty on was = λ m d at none.
    let h = w.history in
    let e = entry_of (host_of w) n call faulty in
    elim (eqb_tells m n) [
      | inl t ↦
          let same : d ≡ c = ready_is w n m c d on.ready t.1 at in
          let turn_is : turn c.command (outside_after c.command (replies_in (own_entries n h))) ≡ Calls call =
          on.turn_is in
          let now : MakesOne c.command (own_entries n (h ++ e ∷ [])) =
          subst (MakesOne c.command) (sym (own_entries-own n h e (is_of-own n e refl)))
          (one-more c.command (own_entries n h) e (was n c on.ready.there on.unlisted) turn_is) in
          let Q : ℕ → Placed → Type 0 = λ j x. MakesOne x.command (own_entries j (h ++ e ∷ [])) in
          subst (λ j. Q j d) (sym t.1) (subst (Q n) (sym same) now)
      | inr f ↦ one-other m n d.command h e refl f.1 (was m d at none)
    ]

makes-one : (w : World) → Legal w → AllMakeOne w.plan w.history
makes-one w legal = by-entries AllMakeOne (λ p well m d at none. tt) one-kept one-changed w legal

few-made : (c : Command) (es : List Entry) → MakesOne c es → length es ≤ 1
few-made c [] one = omega arith
few-made c (e ∷ []) one = omega arith
few-made c (e ∷ f ∷ es) one = absurd one

pub one-call : (w : World) → Legal w → (n : ℕ) (c : Placed) → slice_get (commands_of w.plan) n ≡ Some c
    → list_for w.plan c.command ≡ None → length (own_replies w n) ≤ 1
one-call w legal n c at none =
    let few = few-made c.command (own_entries n w.history) (makes-one w legal n c at none) in
    let long = length-map (own_entries n w.history) (λ (y : Entry). y.reply) in
    omega arith

-- ---- the answer

finishes-over : (c : Command) (ending : Ending) (given : List Addr) (finish : Finish)
    → turn c (Over ending given) ≡ Finishes finish → answer_outside c finish ≡ outside_by c ending
unfolding turn answer_outside
finishes-over c ending given finish is = let e : ending ≡ finish.ending = cc in ap (outside_by c) (sym e)

unchanged-by : (c : Command) (s : State) (a : Answer) (finish : Finish) → LeftIsOutside c s → turn c s ≡ Finishes finish
    → a ≡ answer_outside c finish → IsChangedBy c s [] a
unfolding turn
unchanged-by c (Over ending given) a finish starts is a_is = a_is ∙ finishes-over c ending given finish is
unchanged-by c (Changing change) a finish starts is a_is = cc
unchanged-by c _ a finish starts is a_is = absurd starts

changed-by : (c : Command) (es : List Entry) (a : Answer) (finish : Finish) → MakesOne c es
    → turn c (outside_after c (replies_in es)) ≡ Finishes finish → a ≡ answer_outside c finish
    → IsChangedBy c (outside_start c) es a
changed-by c [] a finish one is a_is = unchanged-by c (outside_start c) a finish (left-is-outside c []) is a_is
changed-by c (e ∷ []) a finish one is a_is =
    let over : turn c (Over (changed 1 e.reply) []) ≡ Finishes finish = ap (turn c) (sym (after-change c e one)) ∙ is in
    subst (λ s. IsChangedBy c s (e ∷ []) a) (sym one) (refl, a_is ∙ finishes-over c (changed 1 e.reply) [] finish over)
changed-by c (e ∷ f ∷ es) a finish one is a_is = absurd one

changed-script : (w : World) (n : ℕ) (c : Placed) (a : Answer) → list_for w.plan c.command ≡ None
    → MakesOne c.command (own_entries n w.history) → IsScripts w n c a
    → IsChangedBy c.command (outside_start c.command) (own_entries n w.history) a
changed-script w n c a none one due =
    let finish = due.0 in
    let rs = own_replies w n in
    let turn_is : turn c.command (outside_after c.command (replies_in (own_entries n w.history))) ≡ Finishes finish =
    ap (λ p. turn_by p c.command rs) (sym none) ∙ due.1 in
    changed-by c.command (own_entries n w.history) a finish one turn_is
    (due.2 ∙ ap (λ p. answer_by p c.command finish) none)

unlisted : (p : Plan) (c : Command) → is_of_network c.verb ≡ false → list_for p c ≡ None
unfolding list_for
unlisted p c is = ap (λ b. if b then list_named p.lists c.network else None) is

pub changes_are_answered : ChangesAreAnswered
changes_are_answered verb outside w legal n c a at is_verb is = λ whole.
    let none = unlisted w.plan c.command (ap is_of_network is_verb ∙ outside) in
    elim (answer_is_due w legal n c at a is) [
      | inl scripts ↦ changed-script w n c a none (makes-one w legal n c at none) scripts
      | inr (inl stopped) ↦ absurd (both_ways (is_cut_off a) whole (ap is_cut_off stopped.0.2))
      | inr (inr memory) ↦ absurd (both_ways (is_cut_off a) whole (ap is_cut_off memory))
    ]
