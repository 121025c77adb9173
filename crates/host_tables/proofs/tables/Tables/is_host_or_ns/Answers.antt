use Rattle.std.proofs.Common.{◌∙◌, ap, rules}
use Rattle.std.specs.{Prelude.is_some, Str.bytes_eq}
use Rattle.cni_addr.proofs.{Lists.is_some-find, Options.is_some-option_copied}
use Rattle.kernel_types.specs.declared.object.NsObj.{NsObj}
use Rattle.host_tables.proofs.tables.Tables.is_host_or_ns.Goals as goal

pub returns-else-is_host_ns : goal.returns-else-is_host_ns
returns-else-is_host_ns c =
    let there =
    c.is_some.ensures
    ∙ is_some-option_copied c.find.result
    ∙ ap is_some c.find.ensures
    ∙ is_some-find (λ (n : NsObj). bytes_eq n.name c.args.ns.now) c.self.inside.namespaces in
    search rules
