-- In each state a run makes a call or is over.
use Rattle.std.proofs.Common.{◌≡◌, ℕ, List, [], ◌∷◌, Some, None, refl, sym, ap, ◌∙◌, subst, inl, inr, ◌⊎◌}
use Rattle.kernel_types.specs.declared.call.Call.{Call}
use Rattle.pod_file.specs.declared.command.Command.{Command}
use Rattle.cni_verbs.specs.{Laws.{IsCalling, IsFinished, EachStateCallsOrIsOver}, Script.{State, Act, Makes, Collects}}
use Rattle.cni_verbs.specs.Script.{Ends, IsUnended, Calls, Finishes, Finish, act_of, turn, turn_by_act, next_call}
use Rattle.cni_verbs.specs.{Script.{call_by, finish_of, finish_by}, Sweep.{Job, Sweep}}

-- ---- a state, by what it does

calling : (c : Command) (s : State) (act : Act) (call : Call) → act_of s ≡ act → call_by c act ≡ Some call
    → turn_by_act c act ≡ Calls call → finish_by act ≡ None → IsUnended act → IsCalling c s
unfolding turn next_call finish_of
calling c s act call is next_is turn_is unfinished is_open = record {
  call = call;
  next_is = ap (call_by c) is ∙ next_is;
  turn_is = ap (turn_by_act c) is ∙ turn_is;
  unfinished = ap finish_by is ∙ unfinished;
  is_open = subst IsUnended (sym is) is_open;
}

finished : (c : Command) (s : State) (act : Act) (finish : Finish) → act_of s ≡ act → call_by c act ≡ None
    → turn_by_act c act ≡ Finishes finish → finish_by act ≡ Some finish → (IsUnended act → ⊥)
    → IsFinished c s
unfolding turn next_call finish_of
finished c s act finish is none_next turn_is finish_is not_open = record {
  finish = finish;
  none_next = ap (call_by c) is ∙ none_next;
  turn_is = ap (turn_by_act c) is ∙ turn_is;
  finish_is = ap finish_by is ∙ finish_is;
  not_open = λ h. not_open (subst IsUnended is h);
}

-- a GC, by what is left of its work
collects : (c : Command) (s : State) (jobs : List Job) (sweeps : List Sweep) (faults : List ℕ)
    → act_of s ≡ Collects (record { jobs = jobs; sweeps = sweeps }) faults → IsCalling c s ⊎ IsFinished c s
collects c s [] [] faults is = inr (finished c s _ _ is refl refl refl (λ h. h))
collects c s [] (sweep ∷ sweeps) faults is = inl (calling c s _ _ is refl refl refl tt)
collects c s (job ∷ jobs) sweeps faults is = inl (calling c s _ _ is refl refl refl tt)

by_act : (c : Command) (s : State) (act : Act) → act_of s ≡ act → IsCalling c s ⊎ IsFinished c s
by_act c s (Makes call_of) is = inl (calling c s _ _ is refl refl refl tt)
by_act c s (Collects work faults) is = collects c s work.jobs work.sweeps faults is
by_act c s (Ends finish) is = inr (finished c s _ _ is refl refl refl (λ h. h))

pub calls_or_over : EachStateCallsOrIsOver
calls_or_over c s = by_act c s (act_of s) refl
