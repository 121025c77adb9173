use Rattle.std.proofs.Common.{take}
use Rattle.pod_text.specs.Requests.{IsToldIn}
use Rattle.pod_text.proofs.told.told_in.Given as goal

-- the map has what the entries so far tell
abbrev pub invariant-loop-entry : goal.invariant-loop-entry
invariant-loop-entry l = IsToldIn (take l.entry-index l.history) l.told
