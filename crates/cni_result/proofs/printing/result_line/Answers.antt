use Rattle.serde_json.specs.View.{view}
use Rattle.cni_result.proofs.ResultAgain.{line_again}
use Rattle.cni_result.proofs.printing.result_line.Goals as goal

pub returns-clause-again : goal.returns-clause-again
returns-clause-again c =
    line_again _ (view c.in_ok-value.value) c.args.added.now c.in_ok-value.ensures.json c.in_ok-text.ensures.again
