use Rattle.std.proofs.Common.{◌≡◌, ◌∙◌, ap, false, rules}
use Rattle.std.specs.List.{list_any}
use Rattle.kernel_types.specs.Keys.{is_same_addr}
use Rattle.host_tables.proofs.Free.{addr-alias_free}
use Rattle.host_tables.proofs.tables.Tables.gateway_ensure.Goals as goal

pub push-requires-clause-alias : goal.push-requires-clause-alias
push-requires-clause-alias c =
    let free : list_any (is_same_addr c.in_ok-gateway.gateway) c.args.self.now.addresses ≡ false = search rules in
    λ alias is. addr-alias_free c.self.inside.addresses c.in_ok-gateway.gateway alias
    (ap (λ host. list_any (is_same_addr c.in_ok-gateway.gateway) host.addresses) c.self.view_is ∙ free) is
