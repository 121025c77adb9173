use Rattle.gc_sweep.proofs.Names.{◌∙◌, ◌+◌, ap, sym, subst, Progress, IsOpen, faults_after}
use Rattle.gc_sweep.proofs.Phases.{taken}
use Rattle.gc_sweep.proofs.run.GcRun.take.Goals as goal

pub returns-clause-ok : goal.returns-clause-ok
returns-clause-ok c =
    let r = c.self.inside in
    let opened = subst (λ (p : Progress). IsOpen p.state) (sym c.self.view_is) c.requires.open in
    let note = c.in_ok-note_fault.ensures.ok ∙ ap (faults_after (r.made + 1) r.faults) c.is_fault-faulty.ensures in
    rw (← c.self.view_is)
    (taken r.list r.command r.made r.kinds c.as_slice.result.now r.place c.take.new.self r.faults
    c.note_fault.new.faults c.args.reply.now opened c.self.invariant.0.0
    c.as_slice.ensures (c.in_ok-take.ensures.work r.command.valid c.self.invariant.1) note)
