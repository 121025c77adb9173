use Rattle.std.proofs.Common.{◌≡◌, List, subst, ap, sym, ◌∙◌, Some, None, find}
use Rattle.cni_addr.specs.declared.address.Addr.{Addr}
use Rattle.ip_pool.specs.{AddrSets.IsRunEnd, NextAddress.is_taken, Runs.{addresses_of, is_in_run}}
use Rattle.ip_pool.proofs.RunMembers.{run-end, no_run-not_taken}
use Rattle.ip_pool.proofs.addr_runs.AddrRuns.through.Goals as goal

pub returns-in-Some-clause-end : goal.returns-in-Some-clause-end
returns-in-Some-clause-end g c =
    let rs = c.self.inside.runs.items in
    let taken : addresses_of rs ≡ c.args.self.now.addresses = ap (λ s. s.addresses) c.self.view_is in
    let found : find (is_in_run c.args.addr.now) rs ≡ Some c.in-Some.run' =
    rw c.as_slice.ensures.value at (sym c.run_with.ensures ∙ c.in-Some.is) in
    subst (λ (l : List Addr). IsRunEnd l c.args.addr.now c.in-Some.run'.last) taken
    (run-end c.args.addr.now rs c.in-Some.run' c.self.invariant.runs found)

pub returns-in-None-clause-end : goal.returns-in-None-clause-end
returns-in-None-clause-end g c =
    let rs = c.self.inside.runs.items in
    let taken : c.args.self.now.addresses ≡ addresses_of rs = ap (λ s. s.addresses) (sym c.self.view_is) in
    let missed : find (is_in_run c.args.addr.now) rs ≡ None =
    rw c.as_slice.ensures.value at (sym c.run_with.ensures ∙ c.in-None.is) in
    ap (λ l. is_taken l c.args.addr.now) taken ∙ no_run-not_taken c.args.addr.now rs missed
