use Rattle.gc_sweep.proofs.Names.{◌∙◌, true, false, ap, sym, Some, is_some, NetList, early_ending, kinds_of}
use Rattle.gc_sweep.specs.{Sweep.is_early, View.work_of}
use Rattle.gc_sweep.proofs.Phases.{ends_early, ends_late}
use Rattle.gc_sweep.proofs.run.GcRun.ending.Goals as goal

pub returns-in-Some : goal.returns-in-Some
returns-in-Some c =
    let r = c.self.inside in
    rw (← c.self.view_is)
    (ends_early r.list.version r.list.disable_gc (work_of (kinds_of r.list) r.place) r.faults c.in-Some.ending
    (ap (λ (l : NetList). early_ending l.version l.disable_gc) (sym c.get.ensures)
    ∙ sym c.early_ending.ensures
    ∙ c.in-Some.is))

pub returns-in_ok-swept-in-None : goal.returns-in_ok-swept-in-None
returns-in_ok-swept-in-None c =
    let r = c.self.inside in
    rw (← c.self.view_is)
    (ap Some c.in_ok-swept-in-None.ensures
    ∙ ends_late r.list r.place r.faults r.kinds true c.self.invariant.0
    (λ ks in_ks. sym c.if-is_done.true ∙ c.is_done.ensures ks in_ks)
    (ap (λ (l : NetList). is_early l.version l.disable_gc) (sym c.get.ensures)
    ∙ ap is_some (sym c.early_ending.ensures ∙ c.in-None.is)))

pub returns-else-is_done : goal.returns-else-is_done
returns-else-is_done c =
    let r = c.self.inside in
    rw (← c.self.view_is)
    (ends_late r.list r.place r.faults r.kinds false c.self.invariant.0
    (λ ks in_ks. sym c.if-is_done.false ∙ c.is_done.ensures ks in_ks)
    (ap (λ (l : NetList). is_early l.version l.disable_gc) (sym c.get.ensures)
    ∙ ap is_some (sym c.early_ending.ensures ∙ c.in-None.is)))
