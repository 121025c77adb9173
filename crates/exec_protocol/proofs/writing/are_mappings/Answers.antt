use Rattle.std.proofs.{Common.subst, lemmas.List.{take_all, Elements.All-more}}
use Rattle.std.specs.Prelude.{All}
use Rattle.cni_result.specs.Laws.{IsMapping}
use Rattle.exec_protocol.proofs.writing.are_mappings.Goals as goal

pub loop-mapping-preserved : goal.loop-mapping-preserved
loop-mapping-preserved c =
    All-more IsMapping c.args.mappings.now c.loop-mapping.mapping-index c.mapping-item.result c.loop-mapping-test.true
    c.loop-mapping.invariant (subst IsMapping c.mapping-item.is c.is_mapping.ensures)

pub returns : goal.returns
returns c =
    subst (All IsMapping) (take_all c.loop-mapping.mapping-index c.args.mappings.now c.loop-mapping-test.false)
    c.loop-mapping.invariant
