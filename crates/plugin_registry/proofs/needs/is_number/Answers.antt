use Rattle.std.proofs.{Common.{◌≡◌, ◌∙◌, true, arith}, lemmas.Bool.{le-leb, lt-leb}}
use Rattle.plugin_registry.specs.Needs.{begins_plainly}
use Rattle.plugin_registry.proofs.Numbers.{spelled, unread, unspelled}
use Rattle.plugin_registry.proofs.needs.is_number.Goals as goal

pub returns-then-not-begins_plainly : goal.returns-then-not-begins_plainly
returns-then-not-begins_plainly c = unspelled c.args.least c.args.most c.args.text.now (omega arith) (cc)

pub returns-then-least-number : goal.returns-then-least-number
returns-then-least-number c =
    let plain : begins_plainly c.args.text.now ≡ true = cc in
    rw (le-leb c.args.least c.in-Ok.number c.if-least-number.true)
    at (spelled c.args.least c.args.most c.args.text.now c.in-Ok.number plain c.in-Ok.ensures.value.0)

pub returns-else-least-number : goal.returns-else-least-number
returns-else-least-number c =
    let plain : begins_plainly c.args.text.now ≡ true = cc in
    let above = lt-leb c.args.least c.in-Ok.number c.if-least-number.false in
    above
    ∙ rw above at (spelled c.args.least c.args.most c.args.text.now c.in-Ok.number plain c.in-Ok.ensures.value.0)

pub returns-in-Err : goal.returns-in-Err
returns-in-Err c =
    let plain : begins_plainly c.args.text.now ≡ true = cc in
    unread c.args.least c.args.most c.args.text.now (omega arith) plain c.in-Err.ensures.value.0
