use Rattle.std.proofs.Common.{◌∙◌, ap}
use Rattle.std.specs.{List.list_any, Prelude.{is_some, ◌&&◌}, Str.bytes_eq}
use Rattle.cni_addr.specs.Equal.{addr_eq}
use Rattle.cni_addr.proofs.{Lists.is_some-find, Options.is_some-option_copied}
use Rattle.kernel_types.specs.{Keys.is_same_addr, declared.keys.AddrKey.AddrKey}
use Rattle.host_tables.proofs.Free.{any-addr}
use Rattle.host_tables.proofs.tables.Tables.has_same_addr.Goals as goal

pub returns : goal.returns
returns c =
    c.is_some.ensures
    ∙ is_some-option_copied c.find.result
    ∙ ap is_some c.find.ensures
    ∙ is_some-find _ c.self.inside.addresses
    ∙ any-addr c.in_ok-key.key c.self.inside.addresses
    ∙ ap (λ (key : AddrKey).
    list_any (λ a. bytes_eq a.ns key.ns && bytes_eq a.link key.link && addr_eq a.cidr.addr key.addr)
    c.self.inside.addresses)
    c.in_ok-key.ensures
    ∙ ap (λ host. list_any (is_same_addr c.args.obj.now) host.addresses) c.self.view_is
