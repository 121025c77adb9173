use Rattle.std.proofs.Common.{ap, ◌∙◌}
use Rattle.cni_addr.specs.Value.{CidrValue}
use Rattle.net_conf.proofs.RangeLemmas.{first_host-is}
use Rattle.net_conf.proofs.ranges.first_host.Goals as goal

pub returns : goal.returns
returns c =
    let own = c.own.view_is ∙ ap (λ (n : CidrValue). n.addr) c.subnet.view_is in
    first_host-is c.args.subnet.now _ _ own (c.last.view_is ∙ c.last_of-last.ensures)
