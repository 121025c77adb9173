use Rattle.std.proofs.Common.{◌≡◌, ◌∙◌, Some, None, ap, sym, refl, true}
use Rattle.std.specs.Prelude.{find}
use Rattle.kernel_types.specs.{Apply.Calls.has_link_of, Keys.is_same_addr}
use Rattle.kernel_types.specs.contracts.keys.AddrKeyPartialEq.TheImpl.{eq-value}
use Rattle.kernel_types.specs.contracts.object.AddrObjPartialEq.TheImpl.{eq-value as same-value}
use Rattle.kernel_types.proofs.ListLemmas.{list_any-find_none}
use Rattle.host_tables.proofs.Added.{addr_key, addr-keyed, find-same_addr, free-key, free-alias}
use Rattle.host_tables.proofs.tables.Tables.addr_add.Goals as goal

pub push-requires-clause-key : goal.push-requires-clause-key
push-requires-clause-key c =
    let same : addr_key c.in_ok-copy-2.field-0 ≡ c.in_ok-of.field-0 =
    ap addr_key c.in_ok-copy-2.ensures ∙ sym c.in_ok-of.ensures in
    free-key eq-value.it (λ a. Some (addr_key a)) c.self.inside.addresses c.in_ok-of.field-0
    (addr_key c.in_ok-copy-2.field-0) (list_any-find_none _ c.self.inside.addresses (sym c.in_default.ensures)) same

pub push-requires-clause-alias : goal.push-requires-clause-alias
push-requires-clause-alias c =
    let same : addr_key c.in_ok-copy-2.field-0 ≡ c.in_ok-of.field-0 =
    ap addr_key c.in_ok-copy-2.ensures ∙ sym c.in_ok-of.ensures in
    free-alias eq-value.it same-value.it addr_key addr-keyed c.self.inside.addresses c.in_ok-of.field-0
    c.in_ok-copy-2.field-0 (list_any-find_none _ c.self.inside.addresses (sym c.in_default.ensures)) same

pub returns-in-Some-clause-ok : goal.returns-in-Some-clause-ok
returns-in-Some-clause-ok c =
    let there : has_link_of c.args.self.now c.args.obj.now.ns c.args.obj.now.link c.args.obj.now.tag ≡ true =
    sym c.in_ok-has_link_of.ensures ∙ c.if-not-branch.false in
    let found : find (is_same_addr c.args.obj.now) c.args.self.now.addresses ≡ Some c.in-Some.other.now =
    rw (← c.self.view_is)
    (find-same_addr c.args.obj.now c.self.inside.addresses ∙ rw c.in_ok-of.ensures at (sym c.in-Some.ensures)) in
    rw (there, found, c.in_ok-copy.ensures) refl

pub returns-clause-ok : goal.returns-clause-ok
returns-clause-ok c =
    let there : has_link_of c.args.self.now c.args.obj.now.ns c.args.obj.now.link c.args.obj.now.tag ≡ true =
    sym c.in_ok-has_link_of.ensures ∙ c.if-not-branch.false in
    let none : find (is_same_addr c.args.obj.now) c.args.self.now.addresses ≡ None =
    rw (← c.self.view_is)
    (find-same_addr c.args.obj.now c.self.inside.addresses ∙ rw c.in_ok-of.ensures at (sym c.in_default.ensures)) in
    rw (there, none, ← c.self.view_is) (rw (c.in_ok-push.ensures.ok, c.in_ok-copy-2.ensures) refl)
