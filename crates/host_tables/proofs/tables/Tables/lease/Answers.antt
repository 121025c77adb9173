use Rattle.std.proofs.Common.{◌≡◌, ◌∙◌, ap, sym, subst, [], ◌∷◌, ◌++◌, ◌&&◌, ◌||◌, rules}
use Rattle.std.specs.Str.{bytes_eq}
use Rattle.cni_addr.specs.Equal.{addr_eq}
use Rattle.ip_pool.specs.NextAddress.{is_taken}
use Rattle.kernel_types.specs.Terms.{lease_of, leased_addresses}
use Rattle.object_tables.specs.Leased.{AreLeased}
use Rattle.object_tables.proofs.Kept.{taken-leased, AreLeased-new}
use Rattle.host_tables.proofs.tables.Tables.lease.Goals as goal

pub push_lease-requires : goal.push_lease-requires
push_lease-requires c =
    let network = c.args.att.now.network in
    let is : c.in_ok-lease.lease ≡ lease_of c.args.att.now c.args.addr = search rules in
    record {
      absent =
          rw is (sym (taken-leased c.self.inside.leases network c.args.addr)
          ∙ ap (λ h. is_taken (leased_addresses h network) c.args.addr) c.self.view_is
          ∙ c.requires.free);
    }

pub invariant_of-self-2 : goal.invariant_of-self-2
invariant_of-self-2 c =
    let lease = lease_of c.args.att.now c.args.addr in
    let is : c.in_ok-lease.lease ≡ lease = search rules in
    let pushed : c.push_lease.new.leases ≡ c.self.inside.leases ++ c.in_ok-lease.lease ∷ [] = search rules in
    subst (AreLeased c.add_leased.new.leased) (sym (pushed ∙ ap (λ l. c.self.inside.leases ++ l ∷ []) is))
    (AreLeased-new c.self.inside.leased c.add_leased.new.leased c.self.inside.leases lease
    (λ n a.
    c.add_leased.ensures n a
    ∙ ap (λ b. bytes_eq c.args.att.now.network n && addr_eq c.args.addr a || b) (c.make_room.ensures.same n a))
    c.self.invariant)
