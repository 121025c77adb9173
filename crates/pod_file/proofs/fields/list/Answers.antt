use Rattle.std.proofs.Common.{rules}
use Rattle.pod_file.specs.{Members.list_at, Refusals.key_path}
use Rattle.pod_file.specs.declared.error.PodError.TheVariants as refusal
use Rattle.pod_file.proofs.fields.list.Goals as goal

pub returns : goal.returns
unfolding list_at
returns g c =
    λ read_as reads. c.read_list_or.ensures (refusal.Shape (key_path c.args.place c.args.key.now))
    (record { tells = λ e is. search rules }) read_as reads
