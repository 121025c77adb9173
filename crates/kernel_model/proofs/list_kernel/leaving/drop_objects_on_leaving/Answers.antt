use Rattle.std.proofs.Common.{not, ap, sym, ◌∙◌, arith}
use Rattle.std.specs.Prelude.{filter}
use Rattle.cni_addr.proofs.Lists.{filter-every}
use Rattle.kernel_model.proofs.OnLeavingLinks.{drops-one, drops-none}
use Rattle.kernel_model.proofs.list_kernel.leaving.drop_objects_on_leaving.Goals.{then-is_leaving, else-is_leaving}
use Rattle.kernel_model.proofs.list_kernel.leaving.drop_objects_on_leaving.Goals as goal

pub loop-link-init : goal.loop-link-init
loop-link-init g c = sym (filter-every c.args.objects.now.items)

pub loop-link-preserved : goal.loop-link-preserved
loop-link-preserved g c =
    elim c.if-is_leaving.branch [
      | then-is_leaving w ↦
          rw w.objects-is
          (w.drop_objects_on.ensures
          ∙ ap (filter (λ x. not (g.T.OnLink.on_link x c.link-item.result))) c.loop-link.invariant
          ∙ drops-one (g.L.Leaving.leaving c.args.leaving.now) g.T.OnLink.on_link c.args.links.now
          c.loop-link.link-index c.link-item.result (omega arith) c.link-item.is
          (sym c.is_leaving.ensures ∙ w.if-is_leaving.true) c.args.objects.now.items)
      | else-is_leaving w ↦
          rw w.objects-is
          (c.loop-link.invariant
          ∙ drops-none (g.L.Leaving.leaving c.args.leaving.now) g.T.OnLink.on_link c.args.links.now
          c.loop-link.link-index c.link-item.result (omega arith) c.link-item.is
          (sym c.is_leaving.ensures ∙ w.if-is_leaving.false) c.args.objects.now.items)
    ]
