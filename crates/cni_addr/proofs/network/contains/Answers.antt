use Rattle.std.proofs.Common.{true≢false, sym, ◌∙◌}
use Rattle.cni_addr.proofs.{Networks.{other_family, none_below, those_within}, network.contains.Goals.then-eq}
use Rattle.cni_addr.proofs.network.contains.Goals.{else-eq}
use Rattle.cni_addr.proofs.network.contains.Goals as goal

pub returns-then-first-addr : goal.returns-then-first-addr
returns-then-first-addr c =
    elim c.if-eq.branch [
      | then-eq w ↦
          those_within _ _ _ _ c.own.view_is c.cidr.view_is _ c.first_bits-first.ensures _ _ c.addr.view_is _
          c.host_ones.ensures
          (sym c.eq.ensures ∙ w.if-eq.true) (sym w.value-is ∙ c.if-first-addr.true)
      | else-eq w ↦ absurd (true≢false (sym c.if-first-addr.true ∙ w.value-is ∙ w.if-eq.false))
    ]

pub returns-else-first-addr : goal.returns-else-first-addr
returns-else-first-addr c =
    elim c.if-eq.branch [
      | then-eq w ↦
          c.if-first-addr.false
          ∙ none_below _ _ _ _ c.own.view_is c.cidr.view_is _ c.first_bits-first.ensures _ _ c.addr.view_is
          (sym c.eq.ensures ∙ w.if-eq.true) (sym w.value-is ∙ c.if-first-addr.false)
      | else-eq w ↦
          c.if-first-addr.false
          ∙ other_family _ _ _ _ c.own.view_is c.cidr.view_is _ c.first_bits-first.ensures _ _ c.addr.view_is
          (sym c.eq.ensures ∙ w.if-eq.false)
    ]
