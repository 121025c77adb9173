use Rattle.std.proofs.Common.{◌≡◌, ◌≤◌, length}
use Rattle.std.specs.{List.position_or_len, Prelude.min}
use Rattle.packet_probe.proofs.Filing.{is_found}
use Rattle.packet_probe.proofs.host_rules.Ruleset.first_place.Given as goal

-- the first of the kinds so far, or the first of those that are left
abbrev pub invariant-loop-kind : goal.invariant-loop-kind
invariant-loop-kind l =
    (l.first ≤ length l.self)
    × (min l.first (position_or_len (is_found l.chain l.packet l.kind-iterator) l.self)
    ≡ position_or_len (is_found l.chain l.packet l.initial.kind-iterator) l.self)
