use Rattle.std.proofs.Common.{◌≡◌}
use Rattle.serde_json.specs.View.{members_view}
use Rattle.net_conf.specs.Ipam.{all_null}
use Rattle.net_conf.proofs.ipam.all_null.Given as goal

-- what is left decides
abbrev pub invariant-loop-member : goal.invariant-loop-member
invariant-loop-member l = all_null (members_view l.member-iterator) ≡ all_null (members_view l.initial.member-iterator)
