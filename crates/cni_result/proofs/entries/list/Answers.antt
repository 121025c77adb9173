use Rattle.std.proofs.Common.{rules}
use Rattle.cni_result.specs.Fields.{list_at}
use Rattle.cni_result.specs.declared.refusal.ResultError.TheVariants as refusal
use Rattle.cni_result.proofs.entries.list.Goals as goal

pub returns : goal.returns
unfolding list_at
returns g c =
    λ wanted reads.
    c.read_list_or.ensures (refusal.Invalid c.args.key.now) (record { tells = λ e is. search rules }) wanted reads
