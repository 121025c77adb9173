use Rattle.std.proofs.Common.{◌≤◌, Ok, ap, ◌∙◌, arith}
use Rattle.std.specs.Option.{option_copied}
use Rattle.serde_json.specs.{Data.depth, Read.max_depth, View.view}
use Rattle.exec_protocol.proofs.RequestAgain.{bytes_again}
use Rattle.exec_protocol.proofs.writing.request.Goals as goal

pub returns-clause-again : goal.returns-clause-again
returns-clause-again c =
    let shallow : depth (view c.in_ok-value.value) ≤ max_depth = omega (arith, c.in_ok-value.ensures.nests) in
    bytes_again c.a_request_is_read_again.ensures c.args.raw.now c.args.k (option_copied c.args.prev)
    c.args.mappings.now (option_copied c.args.valid) c.in_ok-text.text c.is_raw.ensures c.are_mappings.ensures
    (c.in_ok-text.ensures.again shallow ∙ ap Ok c.in_ok-value.ensures.json)
