use Rattle.std.proofs.Common.{rules}
use Rattle.cni_addr.specs.Network.{contains}
use Rattle.net_conf.specs.Ranges.{is_address_of}
use Rattle.net_conf.proofs.RangeFacts.{one_family}
use Rattle.net_conf.proofs.ranges.range.Goals as goal

pub invariant_of-result : goal.invariant_of-result
invariant_of-result c =
    let subnet = c.in_ok-subnet.subnet in
    one_family _ subnet _ _ c.in_ok-start.start c.in_ok-end.end c.in_ok-gateway.gateway c.first_host-first.ensures
    c.last_host.ensures c.in_ok-subnet.ensures.read
    (c.in_ok-start.ensures (contains subnet) (record { tells = λ addr b is. search rules }))
    (c.in_ok-end.ensures (contains subnet) (record { tells = λ addr b is. search rules }))
    (c.in_ok-gateway.ensures (is_address_of subnet.addr.family) (record { tells = λ addr b is. search rules }))
