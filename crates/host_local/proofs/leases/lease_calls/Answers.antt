use Rattle.host_local.proofs.LeaseLemmas.{leases-more}
use Rattle.host_local.proofs.leases.lease_calls.Goals as goal

pub loop-place-preserved : goal.loop-place-preserved
loop-place-preserved c =
    let place = c.loop-place.place in
    leases-more _ _ _ c.args.att.now _ place c.index-sets-place.result _ c.loop-place-test.true c.index-sets-place.is
    c.in_ok-lease.ensures c.loop-place.invariant c.in_ok-push.ensures.items
