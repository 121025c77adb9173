use Rattle.std.proofs.Common.{◌≡◌, drop}
use Rattle.net_conf.specs.Tuning.{has_part}
use Rattle.net_conf.proofs.tuning.has_part.Given as goal

-- what is left decides
abbrev pub invariant-loop-start : goal.invariant-loop-start
invariant-loop-start l = has_part l.part (drop l.start l.text) ≡ has_part l.part l.text
