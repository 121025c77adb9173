use Rattle.std.proofs.Common.{◌∙◌, ap}
use Rattle.std.specs.{Prelude.is_some, Str.bytes_eq}
use Rattle.cni_addr.proofs.{Lists.is_some-find, Options.is_some-option_copied}
use Rattle.kernel_types.specs.{Terms.has_named_ns, declared.object.NsObj.NsObj}
use Rattle.host_tables.proofs.tables.Tables.has_named_ns.Goals as goal

pub returns : goal.returns
returns c =
    c.is_some.ensures
    ∙ is_some-option_copied c.find.result
    ∙ ap is_some c.find.ensures
    ∙ is_some-find (λ (n : NsObj). bytes_eq n.name c.args.name.now) c.self.inside.namespaces
    ∙ ap (λ host. has_named_ns host c.args.name.now) c.self.view_is
