use Rattle.std.proofs.Common.{◌≡◌}
use Rattle.serde_json.specs.View.{members_view}
use Rattle.cni_json.specs.Each.{with_prefix}
use Rattle.net_conf.specs.Tuning.{settings_of}
use Rattle.net_conf.proofs.tuning.settings.Given as goal

-- what was found, and then what is left, is the whole
abbrev pub invariant-loop-key : goal.invariant-loop-key
invariant-loop-key l =
    with_prefix l.found (settings_of (members_view l.key-iterator)) ≡ settings_of (members_view l.initial.key-iterator)
