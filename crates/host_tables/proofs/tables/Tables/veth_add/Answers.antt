use Rattle.std.proofs.Common.{◌≡◌, None, true, rules}
use Rattle.kernel_types.specs.{Apply.Calls.master_is_bridge_or_none, Terms.has_named_ns}
use Rattle.host_tables.proofs.Free.{nothing-at, veth-added}
use Rattle.host_tables.proofs.tables.Tables.veth_add.Goals as goal

pub push_ends-requires-clause-host_free : goal.push_ends-requires-clause-host_free
push_ends-requires-clause-host_free c =
    let none : c.in_ok-tag-2.field-0 ≡ None = search rules in
    nothing-at c.args.self.now c.args.host_end.now c.in_ok-tag-2.field-0 c.in_ok-tag-2.ensures none

pub push_ends-requires-clause-inner_free : goal.push_ends-requires-clause-inner_free
push_ends-requires-clause-inner_free c =
    let none : c.in_ok-tag.field-0 ≡ None = search rules in
    nothing-at c.args.self.now c.args.inner_end.now c.in_ok-tag.field-0 c.in_ok-tag.ensures none

pub returns-clause-ok : goal.returns-clause-ok
returns-clause-ok c =
    let outer : c.in_ok-tag-2.field-0 ≡ None = search rules in
    let inner : c.in_ok-tag.field-0 ≡ None = search rules in
    let named : has_named_ns c.args.self.now c.args.inner_end.now.ns ≡ true = search rules in
    let over : master_is_bridge_or_none c.args.self.now c.args.host_end.now.master ≡ true = search rules in
    veth-added c.args.self.now c.push_ends.new.self c.args.host_end.now c.args.inner_end.now
    c.in_ok-push_ends.ensures.ok named over
    (nothing-at c.args.self.now c.args.inner_end.now c.in_ok-tag.field-0 c.in_ok-tag.ensures inner)
    (nothing-at c.args.self.now c.args.host_end.now c.in_ok-tag-2.field-0 c.in_ok-tag-2.ensures outer)
