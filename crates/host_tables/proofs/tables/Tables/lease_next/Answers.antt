use Rattle.std.proofs.Common.{◌≡◌, ◌∙◌, Some, sym, subst, false, rules}
use Rattle.ip_pool.specs.{NextAddress.is_taken, Pool.pick_of}
use Rattle.ip_pool.proofs.Choice.{picked-free}
use Rattle.kernel_types.specs.Terms.{last_leased, leased_addresses}
use Rattle.host_tables.proofs.tables.Tables.lease_next.Goals as goal

pub lease-requires-clause-free : goal.lease-requires-clause-free
lease-requires-clause-free c =
    let host = c.args.self.now in
    let network = c.in_ok-copy.field-0 in
    let same : network ≡ c.args.att.now.network = search rules in
    let picked : pick_of c.args.set.now (last_leased host network c.args.number) (leased_addresses host network)
    ≡ Some c.in-Some.addr =
    sym c.next_address.ensures ∙ c.in-Some.is in
    subst (λ n. is_taken (leased_addresses host n) c.in-Some.addr ≡ false) same
    (picked-free c.args.set.now (last_leased host network c.args.number) (leased_addresses host network)
    c.in-Some.addr picked)
