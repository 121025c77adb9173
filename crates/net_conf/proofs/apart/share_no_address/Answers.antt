use Rattle.net_conf.proofs.ApartLemmas.{ascend-in_second, not_in_first}
use Rattle.net_conf.proofs.apart.share_no_address.Goals as goal

pub returns-then-ascend : goal.returns-then-ascend
returns-then-ascend c =
    ascend-in_second _ _ c.put_in_order.ensures.moved c.put_in_order.ensures.ordered _ c.ascend.ensures _
    c.ascend-then-ascend.ensures c.if-ascend.true

pub returns-else-ascend : goal.returns-else-ascend
returns-else-ascend c =
    not_in_first _ _ c.put_in_order.ensures.moved c.put_in_order.ensures.ordered _ c.ascend.ensures c.if-ascend.false
