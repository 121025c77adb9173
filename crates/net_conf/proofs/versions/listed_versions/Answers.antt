use Rattle.std.proofs.Common.{codes, rules}
use Rattle.net_conf.specs.Versions.{listed_versions_at}
use Rattle.net_conf.specs.declared.error.ConfError.TheVariants as refusal
use Rattle.net_conf.proofs.versions.listed_versions.Goals as goal

pub returns : goal.returns
unfolding listed_versions_at
returns c = c.read_texts.ensures (refusal.Invalid (codes "cniVersions")) (record { tells = λ e is. search rules })
