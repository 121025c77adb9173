use Rattle.std.proofs.Common.{◌∙◌, ◌&&◌, ◌||◌, ap, rules}
use Rattle.std.specs.Str.{bytes_eq}
use Rattle.cni_addr.specs.Equal.{addr_eq}
use Rattle.object_tables.proofs.Kept.{address-free, AreLeased-more}
use Rattle.object_tables.proofs.leased.leased_of.Goals as goal

pub add_leased-requires-clause-absent : goal.add_leased-requires-clause-absent
add_leased-requires-clause-absent c =
    let leases = c.args.leases.now in
    let i = c.loop-lease.lease-index in
    c.make_room.ensures.same c.lease-item.result.network c.lease-item.result.addr
    ∙ c.loop-lease.invariant c.lease-item.result.network c.lease-item.result.addr
    ∙ address-free leases i c.lease-item.result (search rules) (search rules) c.requires

pub loop-lease-preserved : goal.loop-lease-preserved
loop-lease-preserved c =
    let leases = c.args.leases.now in
    let i = c.loop-lease.lease-index in
    let lease = c.lease-item.result in
    AreLeased-more leases i lease (search rules) (search rules) c.loop-lease.leased c.add_leased.new.leased
    (λ n a.
    c.add_leased.ensures n a
    ∙ ap (λ b. bytes_eq lease.network n && addr_eq lease.addr a || b) (c.make_room.ensures.same n a))
    c.loop-lease.invariant
