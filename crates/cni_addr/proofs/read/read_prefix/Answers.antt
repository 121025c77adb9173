use Rattle.std.proofs.Common.{sym, ◌∙◌, subst}
use Rattle.std.specs.Str.Parse.{ParsesUnsigned}
use Rattle.cni_addr.proofs.CidrTexts.{parsed_plain, none_unless_utf8, none_unless_plain}
use Rattle.cni_addr.proofs.read.read_prefix.Goals as goal

pub returns-then-not-begins_plainly : goal.returns-then-not-begins_plainly
returns-then-not-begins_plainly c =
    sym (none_unless_plain c.args.text.now (sym c.begins_plainly.ensures ∙ c.if-not-begins_plainly.true))

pub returns-in-Ok : goal.returns-in-Ok
returns-in-Ok c =
    let parsed = subst (λ t. ParsesUnsigned 8 10 t c.parse.result) c.in-Ok.ensures.cases.0 c.parse.ensures.value.0 in
    c.ok.ensures.value
    ∙ parsed_plain c.args.text.now c.parse.result (sym c.begins_plainly.ensures ∙ c.if-not-begins_plainly.false) parsed

pub returns-in-Err : goal.returns-in-Err
returns-in-Err c = sym (none_unless_utf8 c.args.text.now c.in-Err.ensures.cases.0)
