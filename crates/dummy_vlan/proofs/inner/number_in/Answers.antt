use Rattle.dummy_vlan.proofs.Numbers.{parse-numeral}
use Rattle.dummy_vlan.proofs.inner.number_in.Goals as goal

pub unreachable-requires : goal.unreachable-requires
unreachable-requires c =
    let read = parse-numeral c.args.numeral.now c.parse.result c.parse.ensures.value.0 c.requires in
    cc

pub returns : goal.returns
returns c =
    let read = parse-numeral c.args.numeral.now c.parse.result c.parse.ensures.value.0 c.requires in
    cc
