use Rattle.std.proofs.Common.{◌≡◌, ap, None, rules}
use Rattle.kernel_types.specs.declared.object.Host.{Host}
use Rattle.host_tables.proofs.Free.{link-alias_free, link-key_free, nothing-at, place-free}
use Rattle.host_tables.proofs.tables.Tables.macvlan_add.Goals as goal

pub push-requires-clause-key : goal.push-requires-clause-key
push-requires-clause-key c =
    let none : c.in_ok-tag.field-0 ≡ None = search rules in
    link-key_free c.self.inside.links c.in_ok-copy.field-0
    (place-free c.args.self.now c.args.link.now c.self.inside.links c.in_ok-copy.field-0
    (nothing-at c.args.self.now c.args.link.now c.in_ok-tag.field-0 c.in_ok-tag.ensures none)
    (ap (λ (host : Host). host.links) c.self.view_is) c.in_ok-copy.ensures)

pub push-requires-clause-alias : goal.push-requires-clause-alias
push-requires-clause-alias c =
    let none : c.in_ok-tag.field-0 ≡ None = search rules in
    link-alias_free c.self.inside.links c.in_ok-copy.field-0
    (place-free c.args.self.now c.args.link.now c.self.inside.links c.in_ok-copy.field-0
    (nothing-at c.args.self.now c.args.link.now c.in_ok-tag.field-0 c.in_ok-tag.ensures none)
    (ap (λ (host : Host). host.links) c.self.view_is) c.in_ok-copy.ensures)
