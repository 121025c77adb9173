use Rattle.std.proofs.Common.{◌≡◌}
use Rattle.serde_json.specs.View.{members_view}
use Rattle.cni_json.specs.Each.{with_prefix}
use Rattle.session_file.specs.Tasks.{options_of}
use Rattle.session_file.proofs.options.all_options.Given as goal

-- what was found, and then what is left, is the whole
abbrev pub invariant-loop-key : goal.invariant-loop-key
invariant-loop-key l =
    with_prefix l.found (options_of l.place (members_view l.key-iterator))
    ≡ options_of l.place (members_view l.initial.key-iterator)
