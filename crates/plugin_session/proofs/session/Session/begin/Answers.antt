use Rattle.plugin_session.proofs.Names.{length, ap, refl, ◌∙◌, arith}
use Rattle.plugin_session.proofs.SessionKept.{begun-is, begun-kept}
use Rattle.plugin_session.proofs.session.Session.begin.Goals as goal

pub invariant_of-result : goal.invariant_of-result
invariant_of-result g c =
    let count = ap length c.as_slice-tasks.ensures in (
      begun-kept _ _ _ _ c.args.conf _ c.requires.conf (c.in_ok-new.ensures.host ∙ c.requires.opening)
          c.in_ok-new.ensures.history c.in_ok-with_capacity-2.ensures.items
          (rw c.as_slice-tasks.ensures at (c.in_ok-numbered.ensures.numbered c.args.conf.network))
          c.in_ok-numbered.ensures.none
          (begun-is c.args.conf _ refl c.in_ok-new.ensures.history c.in_ok-with_capacity.ensures.items
          c.in_ok-with_capacity-3.ensures.items),
      omega (arith, c.in_ok-with_capacity.ensures.capacity),
      omega (arith, c.in_ok-with_capacity-2.ensures.capacity),
      omega (arith, c.in_ok-with_capacity-3.ensures.capacity),
    )
