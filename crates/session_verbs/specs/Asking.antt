-- How the questions of a check go on.
use Rattle.std.specs.{List.AllByRecursion, Prelude.{◌≡◌, ℕ, true, false, List, Option, Some, None, Result, Ok, Err}}
use Rattle.cni_addr.specs.declared.memory.NoMemory.{NoMemory}
use Rattle.kernel_types.specs.declared.call.{Call.{Call, TheVariants.HasObj}, Probe.Probe, Reply.Reply}
use Rattle.kernel_types.specs.declared.call.Reply.TheVariants.{Has, Entry}
use Rattle.pod_file.specs.declared.command.Command.{Command}
use Rattle.cni_errors.specs.declared.answer.{Cause.Cause, Ending.TheVariants.Refused, Question.Question}
use Rattle.cni_verbs.specs.Script.{Asking, asking}
use Rattle.gc_sweep.specs.Trace.{Made}
use Rattle.session_laws.specs.Course.{Course}
use Rattle.session_verbs.specs.{Journal.{EndsAs, JournalView, Went}, declared.part.PartEnd.{PartEnd, TheVariants.Over}}
use Rattle.cni_errors.specs.declared.answer.Cause.TheVariants as causes

-- the call asks whether an object is there
abbrev pub IsProbe : Call → Type 0
IsProbe call = (probe : Probe) × (call ≡ HasObj probe)

abbrev pub AreProbes : List Question → Type 0
AreProbes questions = AllByRecursion (λ (q : Question). IsProbe q.call) questions

-- how a check ends by the reply to a question, and by that about its cached result
abbrev pub end_by : Option Reply → Cause → ℕ → Option PartEnd
end_by (Some (Has true)) lack number = None
end_by (Some (Has false)) lack number = Some (Over (Refused lack))
end_by reply lack number = Some (Over (Refused (causes.Fault number)))

abbrev pub end_by_entry : Option Reply → ℕ → Option PartEnd
end_by_entry (Some (Entry (Some cached))) number = None
end_by_entry (Some (Entry None)) number = Some (Over (Refused causes.Unknown))
end_by_entry reply number = Some (Over (Refused (causes.Fault number)))

-- how one question goes on, with these left after it: to the next of them, or to the end of the part
abbrev pub AskedAs : Course → Command → JournalView → JournalView → Question → List Question
    → Result (Option PartEnd) NoMemory → Type 0
AskedAs co c old new question left (Ok None) =
    (es : List Made) × Went co c es old new (Asking question left) (asking left)
AskedAs co c old new question left (Ok (Some end)) = EndsAs co c old new (Asking question left) (Ok end)
AskedAs co c old new question left (Err e) = EndsAs co c old new (Asking question left) (Err e)
