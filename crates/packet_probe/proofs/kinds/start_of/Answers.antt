use Rattle.std.proofs.Common.{ap, ◌∙◌}
use Rattle.cni_addr.specs.{Network.network_of, declared.address.{Addr.Addr, Cidr.Cidr}}
use Rattle.packet_probe.proofs.kinds.start_of.Goals as goal

pub returns : goal.returns
unfolding network_of
returns c =
    ap (λ (a : Addr). a.bits) c.start.view_is
    ∙ ap (λ (n : Cidr). n.addr.bits) (c.first.view_is ∙ c.network_of-first.ensures)
