use Rattle.std.proofs.Common.{◌≡◌, true, arith}
use Rattle.tool_words.specs.Source.{begins_plainly}
use Rattle.tool_words.proofs.Counts.{spelled, too_many, unread, unspelled}
use Rattle.tool_words.proofs.source.read_count.Goals as goal

pub returns-then-not-begins_plainly : goal.returns-then-not-begins_plainly
returns-then-not-begins_plainly c = unspelled c.args.text.now (cc)

pub returns-then-count-le-MOST_PODS : goal.returns-then-count-le-MOST_PODS
returns-then-count-le-MOST_PODS c =
    let plain : begins_plainly c.args.text.now ≡ true = cc in
    spelled c.args.text.now c.in-Ok.count plain c.in-Ok.ensures.value.0 c.if-count-le-MOST_PODS.true

pub returns-else-count-le-MOST_PODS : goal.returns-else-count-le-MOST_PODS
returns-else-count-le-MOST_PODS c =
    let plain : begins_plainly c.args.text.now ≡ true = cc in
    too_many c.args.text.now c.in-Ok.count plain c.in-Ok.ensures.value.0 (omega arith)

pub returns-in_default : goal.returns-in_default
returns-in_default c =
    let plain : begins_plainly c.args.text.now ≡ true = cc in
    unread c.args.text.now plain c.in_default.ensures.value.0
