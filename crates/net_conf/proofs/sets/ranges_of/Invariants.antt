use Rattle.std.proofs.Common.{◌≡◌, take}
use Rattle.net_conf.specs.Sets.{ranges_of}
use Rattle.net_conf.proofs.sets.ranges_of.Given as goal

-- the ranges of the sets so far
abbrev pub invariant-loop-set : goal.invariant-loop-set
invariant-loop-set l = l.all.items ≡ ranges_of (take l.set-index l.sets)
