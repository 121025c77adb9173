use Rattle.std.proofs.Common.{◌≡◌, true, List, ap, subst}
use Rattle.cni_addr.specs.declared.address.Addr.{Addr}
use Rattle.ip_pool.specs.{AddrSets.ascends, Runs.addresses_of}
use Rattle.ip_pool.proofs.RunMembers.{addresses-ascend}
use Rattle.ip_pool.proofs.addr_runs.AddrRuns.addresses_ascend.Goals as goal

pub returns : goal.returns
returns c =
    let rs = c.self.inside.runs.items in
    let taken : addresses_of rs ≡ c.args.self.now.addresses = ap (λ s. s.addresses) c.self.view_is in
    subst (λ (l : List Addr). ascends l ≡ true) taken (addresses-ascend rs c.self.invariant.runs)
