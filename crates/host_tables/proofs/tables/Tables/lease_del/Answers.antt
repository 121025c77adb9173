use Rattle.std.proofs.Common.{◌≡◌, ◌∙◌, ap, sym, subst, refl, Some, None, rules}
use Rattle.std.specs.{List.list_any, Prelude.{find, is_some}}
use Rattle.cni_addr.specs.Lists.{without_first}
use Rattle.cni_addr.proofs.Lists.{is_some-find}
use Rattle.kernel_types.specs.{Keys.is_same_lease, Sound.HasDistinctKeys, Terms.is_own}
use Rattle.kernel_types.specs.contracts.object.AttPartialEq.TheImpl.{eq-value as att_eq-value}
use Rattle.kernel_types.specs.declared.object.Lease.{Lease}
use Rattle.kernel_types.proofs.ListLemmas.{list_any-find_none, without_first-none}
use Rattle.object_tables.specs.{Leased.AreLeased, Rows.owner_named, Table.is_key}
use Rattle.object_tables.proofs.Kept.{AreLeased-gone}
use Rattle.host_tables.proofs.{Owned.{any-own, first-own}, tables.Tables.lease_del.Goals.{in-Some, in_default}}
use Rattle.host_tables.proofs.tables.Tables.lease_del.Goals as goal

pub invariant_of-self : goal.invariant_of-self
invariant_of-self c =
    let own = λ (x : Lease). is_key att_eq-value.it (owner_named x.tag) c.args.att.now in
    let leases = c.self.inside.leases in
    let keys : HasDistinctKeys is_same_lease leases =
    subst (λ h. HasDistinctKeys is_same_lease h.leases) (sym c.self.view_is) c.requires.leases.keys in
    let found : find own leases ≡ Some c.in-Some.lease = sym c.take_first_owned-taken.ensures.first ∙ c.in-Some.is in
    subst (AreLeased c.remove_leased.new.leased) (sym c.take_first_owned-taken.ensures.rest)
    (AreLeased-gone own leases c.in-Some.lease keys found c.self.inside.leased c.remove_leased.new.leased
    c.remove_leased.ensures c.self.invariant)

pub invariant_of-self-in_default : goal.invariant_of-self-in_default
invariant_of-self-in_default c =
    let own = λ (x : Lease). is_key att_eq-value.it (owner_named x.tag) c.args.att.now in
    let leases = c.self.inside.leases in
    let none : find own leases ≡ None = sym c.take_first_owned-taken.ensures.first ∙ search rules in
    subst (AreLeased c.self.inside.leased)
    (sym (c.take_first_owned-taken.ensures.rest
    ∙ without_first-none own leases (list_any-find_none own leases none)))
    c.self.invariant

pub returns : goal.returns
returns c =
    let rest : c.take_first_owned-taken.new.self
    ≡ without_first (λ (x : Lease). is_own c.args.att.now x.tag) c.self.inside.leases =
    c.take_first_owned-taken.ensures.rest ∙ first-own (λ (x : Lease). x.tag) c.args.att.now c.self.inside.leases in
    let any : c.is_some.result ≡ list_any (λ (x : Lease). is_own c.args.att.now x.tag) c.self.inside.leases =
    c.is_some.ensures
    ∙ ap is_some c.take_first_owned-taken.ensures.first
    ∙ is_some-find _ c.self.inside.leases
    ∙ any-own (λ (x : Lease). x.tag) c.args.att.now c.self.inside.leases in
    elim c.match-taken.branch [
      | in-Some w ↦ rw (w.self-is, rest, any, ← c.self.view_is) refl
      | in_default w ↦ rw (w.self-is, rest, any, ← c.self.view_is) refl
    ]
