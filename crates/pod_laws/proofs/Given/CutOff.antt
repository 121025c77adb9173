-- An answer of a command that wasn't cut off is what its run came to.
use Rattle.pod_laws.proofs.Names.{◌≡◌, ℕ, false, Some, slice_get, ap, inl, inr, List, [], ◌∙◌, subst, both_ways, Addr}
use Rattle.pod_laws.proofs.Names.{Command, NetList, Answer, Ending, answer_of, State, Collecting, Over, Work, Legal}
use Rattle.pod_laws.proofs.Names.{Placed, commands_of, list_for, World}
use Rattle.cni_verbs.specs.Endings.{answer_of_ending}
use Rattle.pod_laws.specs.{Answers.is_cut_off, Moments.own_entries}
use Rattle.pod_laws.proofs.{Given.Due.{IsOver, answer-due}, Histories.RunFacts.state_by}

pub over-by : (w : World) → Legal w → (n : ℕ) (c : Placed) (list : NetList) (a : Answer)
    → slice_get (commands_of w.plan) n ≡ Some c → list_for w.plan c.command ≡ Some list
    → slice_get w.answers n ≡ Some (Some a) → is_cut_off a ≡ false
    → IsOver list c.command (state_by list c.command (own_entries n w.history)) a
over-by w legal n c list a at listed is whole = elim (answer-due w legal n c list a at listed is) [
  | inl over ↦ over
  | inr cut ↦ absurd (both_ways (is_cut_off a) whole cut)
]

-- where it leased nothing, and is no GC, its ending is what holds of its last state
pub answered-by : (list : NetList) (c : Command) (st : State) (a : Answer) (At : State → Type 0)
    (Ends : Ending → Type 0)
    → ((ending : Ending) (given : List Addr) → At (Over ending given) → (given ≡ []) × Ends ending)
    → ((work : Work) (faults : List ℕ) → At (Collecting work faults) → ⊥) → IsOver list c st a → At st
    → (ending : Ending) × (a ≡ answer_of_ending list c ending []) × Ends ending
unfolding answer_of
answered-by list c st a At Ends ends none over at = elim over.state_is [
  | inl is ↦
      (let e = ends over.ending over.given (subst At is at) in
      (over.ending, over.answer_is ∙ ap (answer_of_ending list c over.ending) e.0, e.1))
  | inr swept ↦ absurd (none swept.work swept.faults (subst At swept.collecting at))
]
