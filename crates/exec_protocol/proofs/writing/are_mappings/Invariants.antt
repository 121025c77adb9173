use Rattle.std.proofs.Common.{take}
use Rattle.std.specs.Prelude.{All}
use Rattle.cni_result.specs.Laws.{IsMapping}
use Rattle.exec_protocol.proofs.writing.are_mappings.Given as goal

-- the mappings so far are as their type keeps them
abbrev pub invariant-loop-mapping : goal.invariant-loop-mapping
invariant-loop-mapping l = All IsMapping (take l.mapping-index l.mappings)
