use Rattle.std.proofs.Common.{rules}
use Rattle.std.specs.Prelude.{codes}
use Rattle.net_conf.specs.declared.error.ConfError.TheVariants as refusal
use Rattle.exec_protocol.specs.Reading.{runtime_mappings_at, mapping_at}
use Rattle.exec_protocol.proofs.members.runtime_mappings.Goals as goal

pub returns : goal.returns
unfolding runtime_mappings_at
returns c =
    c.read_list_or.ensures (refusal.Invalid (codes "runtimeConfig")) (record { tells = λ e is. search rules })
    mapping_at (record { gives = λ member r is. search rules })
