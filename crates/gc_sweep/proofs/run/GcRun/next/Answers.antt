use Rattle.gc_sweep.proofs.Names.{◌∙◌, ap, sym, NetList, kinds_of}
use Rattle.cni_verbs.proofs.NextCalls.{ok_by}
use Rattle.gc_sweep.specs.{Sweep.is_early, View.work_of}
use Rattle.gc_sweep.proofs.Phases.{next_early, next_late}
use Rattle.gc_sweep.proofs.run.GcRun.next.Goals as goal

pub returns-then-is_early : goal.returns-then-is_early
returns-then-is_early c =
    let r = c.self.inside in
    rw (← c.self.view_is)
    (next_early r.list.version r.list.disable_gc (work_of (kinds_of r.list) r.place) r.faults r.command
    (ap (λ (l : NetList). is_early l.version l.disable_gc) (sym c.get.ensures)
    ∙ sym c.is_early.ensures
    ∙ c.if-is_early.true))

pub returns-else-is_early : goal.returns-else-is_early
returns-else-is_early c =
    let r = c.self.inside in
    rw (← c.self.view_is)
    (ok_by c.next_call.result
    (next_late r.list r.command r.place r.faults c.as_slice.result.now (c.as_slice.ensures ∙ c.self.invariant.0.0)
    (ap (λ (l : NetList). is_early l.version l.disable_gc) (sym c.get.ensures)
    ∙ sym c.is_early.ensures
    ∙ c.if-is_early.false))
    c.next_call.ensures)
