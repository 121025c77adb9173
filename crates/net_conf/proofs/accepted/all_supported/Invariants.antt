use Rattle.std.proofs.Common.{◌≡◌, drop}
use Rattle.serde_json.specs.View.{view}
use Rattle.net_conf.specs.Accepted.{all_supported, rows_of}
use Rattle.net_conf.proofs.accepted.all_supported.Given as goal

-- what is left decides
abbrev pub invariant-loop-key : goal.invariant-loop-key
invariant-loop-key l =
    all_supported (rows_of (drop l.key-index l.rows)) (view l.object) ≡ all_supported (rows_of l.rows) (view l.object)
