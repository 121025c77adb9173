use Rattle.std.proofs.Common.{arith}
use Rattle.cni_addr.proofs.Networks.{none_at_end, next_before_end}
use Rattle.cni_addr.proofs.network.next_addr.Goals as goal

pub returns-then-addr-last_bits : goal.returns-then-addr-last_bits
returns-then-addr-last_bits c = none_at_end _ c.args.addr.now c.addr.view_is (omega (arith, c.last_bits.ensures))

pub returns : goal.returns
returns c = next_before_end _ c.args.addr.now c.addr.view_is (λ end. omega (arith, c.last_bits.ensures))
