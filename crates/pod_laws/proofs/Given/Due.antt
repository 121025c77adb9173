-- An answer is what the command's script came to, or it was stopped or refused memory.
use Rattle.pod_laws.proofs.Names.{◌≡◌, ℕ, List, [], ◌∷◌, Some, refl, slice_get, sym, ◌∙◌, ap, inl, inr, ◌⊎◌, true}
use Rattle.pod_laws.proofs.Names.{NetList, Call, Command, answer_of, turn_by, answer_by, State, AtBegin, BeforeLeases}
use Rattle.pod_laws.proofs.Names.{Leasing, AfterLeases, ReadingCache, Deleting, FindingEntry, Asking, Changing}
use Rattle.pod_laws.proofs.Names.{Collecting, Over, Calls, Finishes, Finish, turn, turn_of_work, state_after, swept}
use Rattle.pod_laws.proofs.Names.{Job, Sweep, Work, Answer, Ending, Addr, IsScripts, Legal, Placed, commands_of}
use Rattle.pod_laws.proofs.Names.{list_for, World, own_replies, answer_is_due}
use Rattle.cni_verbs.specs.Script.{finish_of_work}
use Rattle.pod_laws.specs.{Answers.is_cut_off, Moments.own_entries}
use Rattle.pod_laws.proofs.Histories.RunFacts.{state_by}

-- the run of a GC has nothing left to do
pub record IsSwept (st : State) (ending : Ending) : Type 0 where
  pub work : Work
  pub faults : List ℕ
  pub collecting : st ≡ Collecting work faults
  pub ends : ending ≡ swept faults
  pub finished : finish_of_work work.jobs work.sweeps faults ≡ Some (record { ending = swept faults; given = [] })

-- the run is over, with this ending and these addresses, and the answer is what they make
pub record IsOver (list : NetList) (c : Command) (st : State) (a : Answer) : Type 0 where
  pub ending : Ending
  pub given : List Addr
  pub state_is : (st ≡ Over ending given) ⊎ IsSwept st ending
  pub answer_is : a ≡ answer_of list c (record { ending = ending; given = given })

-- ---- by the run's state

abbrev EndsBy : State → Finish → Type 0
EndsBy st finish = (st ≡ Over finish.ending finish.given) ⊎ IsSwept st finish.ending

work-over : (c : Command) (jobs : List Job) (sweeps : List Sweep) (faults : List ℕ) (finish : Finish)
    → turn_of_work c.network jobs sweeps faults ≡ Finishes finish
    → (finish.ending ≡ swept faults)
    × (finish_of_work jobs sweeps faults ≡ Some (record { ending = swept faults; given = [] }))
work-over c [] [] faults finish is = (let e : swept faults ≡ finish.ending = cc in sym e, refl)
work-over c [] (s ∷ sweeps) faults finish is = cc
work-over c (j ∷ jobs) sweeps faults finish is = cc

turn-over : (c : Command) (st : State) (finish : Finish) → turn c st ≡ Finishes finish → EndsBy st finish
unfolding turn
turn-over c (Over ending given) finish is =
    let e : ending ≡ finish.ending = cc in let g : given ≡ finish.given = cc in inl cc
turn-over c (Collecting work faults) finish is =
    let over = work-over c work.jobs work.sweeps faults finish is in
    inr (record { work = work; faults = faults; collecting = refl; ends = over.0; finished = over.1 })
turn-over c AtBegin finish is = cc
turn-over c (BeforeLeases next left) finish is = cc
turn-over c (Leasing next left given) finish is = cc
turn-over c (AfterLeases next left given) finish is = cc
turn-over c (ReadingCache ending) finish is = cc
turn-over c (Deleting next left ending) finish is = cc
turn-over c FindingEntry finish is = cc
turn-over c (Asking next left) finish is = cc
turn-over c (Changing change) finish is = cc

-- where a command has an answer, its run is over and made it, or it was cut off
by-scripts : (w : World) (n : ℕ) (c : Placed) (list : NetList) (a : Answer) → list_for w.plan c.command ≡ Some list
    → IsScripts w n c a → IsOver list c.command (state_after list c.command (own_replies w n)) a
by-scripts w n c list a listed due =
    let finish = due.0 in
    let rs = own_replies w n in
    let turn_is : turn c.command (state_after list c.command rs) ≡ Finishes finish =
    ap (λ p. turn_by p c.command rs) (sym listed) ∙ due.1 in
    record {
      ending = finish.ending;
      given = finish.given;
      state_is = turn-over c.command (state_after list c.command rs) finish turn_is;
      answer_is = due.2 ∙ ap (λ p. answer_by p c.command finish) listed;
    }

pub answer-due : (w : World) → Legal w → (n : ℕ) (c : Placed) (list : NetList) (a : Answer)
    → slice_get (commands_of w.plan) n ≡ Some c → list_for w.plan c.command ≡ Some list
    → slice_get w.answers n ≡ Some (Some a)
    → IsOver list c.command (state_by list c.command (own_entries n w.history)) a ⊎ (is_cut_off a ≡ true)
answer-due w legal n c list a at listed is = elim (answer_is_due w legal n c at a is) [
  | inl scripts ↦ inl (by-scripts w n c list a listed scripts)
  | inr (inl stopped) ↦ inr (ap is_cut_off stopped.0.2)
  | inr (inr memory) ↦ inr (ap is_cut_off memory)
]

-- a run that is over makes no call
pub over-calls : (c : Command) (ending : Ending) (given : List Addr) (call : Call)
    → turn c (Over ending given) ≡ Calls call → ⊥
unfolding turn
over-calls c ending given call is = cc
