use Rattle.kernel_types.proofs.SoundHosts.{NoNamespaceOwned-sound}
use Rattle.kernel_types.proofs.laws.no_namespace_is_owned.Goals as goal

pub returns : goal.returns
returns c = NoNamespaceOwned-sound c.args.host.now c.requires
