use Rattle.gc_sweep.proofs.Names.{◌≡◌, ◌∙◌, ap, sym, subst, Some, None, NetList, plain_answer, Progress, kinds_of}
use Rattle.gc_sweep.specs.View.{ending_in, work_of}
use Rattle.gc_sweep.proofs.Phases.{answers}
use Rattle.gc_sweep.proofs.run.GcRun.answer.Goals as goal

pub returns-in_ok-plain_answer-in-Some : goal.returns-in_ok-plain_answer-in-Some
returns-in_ok-plain_answer-in-Some c =
    let r = c.self.inside in
    let is =
    subst (λ (p : Progress). Some c.in-Some.ending ≡ ending_in p.state) (sym c.self.view_is)
    (sym c.in-Some.is ∙ c.in_ok-ending.ensures) in
    rw (← c.self.view_is)
    (ap Some c.in_ok-plain_answer-in-Some.ensures
    ∙ ap (λ (l : NetList). Some (plain_answer l.version r.command c.in-Some.ending)) c.get.ensures
    ∙ answers r.list r.command (work_of (kinds_of r.list) r.place) r.faults (Some c.in-Some.ending) is)

pub returns-in-None : goal.returns-in-None
returns-in-None c =
    let r = c.self.inside in
    let is =
    subst (λ (p : Progress). None ≡ ending_in p.state) (sym c.self.view_is)
    (sym c.in-None.is ∙ c.in_ok-ending.ensures) in
    rw (← c.self.view_is) (answers r.list r.command (work_of (kinds_of r.list) r.place) r.faults None is)
