use Rattle.std.proofs.Common.{sym, ◌∙◌}
use Rattle.std.specs.Str.{bytes_eq}
use Rattle.cni_addr.specs.Equal.{addr_eq}
use Rattle.kernel_types.proofs.ListLemmas.{list_any-map_filter}
use Rattle.kernel_model.proofs.list_kernel.pool.NetworkLeasesTaken.has.Goals as goal

pub returns : goal.returns
returns c =
    c.is_leased.ensures
    ∙ sym (list_any-map_filter (λ a. addr_eq a c.args.addr.now) (λ l. l.addr)
    (λ l. bytes_eq l.network c.args.self.now.network.now) c.args.self.now.leases.now)
