use Rattle.std.proofs.Common.{◌≡◌, take}
use Rattle.pod_file.specs.Indexed.{end_of}
use Rattle.pod_file.proofs.indexed.end_of.Given as goal

-- the end of what was passed
abbrev pub invariant-loop-byte : goal.invariant-loop-byte
invariant-loop-byte l = l.number ≡ end_of (take l.byte-index l.name)
