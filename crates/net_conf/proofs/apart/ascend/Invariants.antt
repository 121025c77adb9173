use Rattle.std.proofs.Common.{◌≡◌, None, drop, filter}
use Rattle.net_conf.specs.Apart.{has_address_of, ascend_after}
use Rattle.net_conf.proofs.apart.ascend.Given as goal

-- what is left decides
abbrev pub invariant-loop-range : goal.invariant-loop-range
invariant-loop-range l =
    ascend_after l.end (filter (has_address_of l.family) (drop l.range-index l.ranges))
    ≡ ascend_after None (filter (has_address_of l.family) l.ranges)
