use Rattle.std.proofs.Common.{sym, ◌∙◌, rules}
use Rattle.cni_json.proofs.ReadingLemmas.{json_of-number, json_of-whole, json_of-decode}
use Rattle.cni_json.proofs.reading.read.Goals as goal

pub returns-in-Ok-clause-outcome : goal.returns-in-Ok-clause-outcome
returns-in-Ok-clause-outcome c =
    json_of-number c.args.bytes.now _ c.in-Ok.ensures.ok.0 c.in-Ok.ensures.ok.1
    (sym c.has_other_number.ensures ∙ c.if-has_other_number.true)

pub returns-in-Ok-2-clause-outcome : goal.returns-in-Ok-2-clause-outcome
returns-in-Ok-2-clause-outcome c =
    json_of-whole c.args.bytes.now _ c.in-Ok.ensures.ok.0 c.in-Ok.ensures.ok.1
    (sym c.has_other_number.ensures ∙ c.if-has_other_number.false)

pub returns-in-Err-2-clause-outcome : goal.returns-in-Err-2-clause-outcome
returns-in-Err-2-clause-outcome c = json_of-decode c.args.bytes.now (c.in-Err.ensures.err (search rules))
