use Rattle.std.proofs.Common.{arith}
use Rattle.cni_addr.proofs.Networks.{last_fits, last_below_2_128, last_is}
use Rattle.cni_addr.proofs.network.last_of.Goals as goal

pub overflow_add-result : goal.overflow_add-result
overflow_add-result c =
    let below =
    last_below_2_128 _ _ _ _ c.addr.view_is c.cidr.view_is _ _ c.first_bits.ensures c.host_ones.ensures
    c.addr.invariant in
    omega (arith, below)

pub invariant_of-result : goal.invariant_of-result
invariant_of-result c =
    last_fits _ _ _ _ c.addr.view_is c.cidr.view_is _ _ c.first_bits.ensures c.host_ones.ensures c.addr.invariant

pub returns : goal.returns
returns c = last_is _ _ _ _ c.addr.view_is c.cidr.view_is _ _ c.first_bits.ensures c.host_ones.ensures
