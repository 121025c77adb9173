use Rattle.std.proofs.Common.{◌≡◌, ◌+◌, Ok, sym, ◌∙◌, ap, subst, arith}
use Rattle.pod_workers.specs.World.{IsReadyNumber}
use Rattle.pod_threads.specs.Guarded.{Guarded}
use Rattle.pod_threads.proofs.Entered.{entered, made_by}
use Rattle.pod_threads.proofs.shared.Shared.enter.Goals as goal

pub invariant_of-self : goal.invariant_of-self
invariant_of-self g c =
    let ready = subst (λ (x : Guarded). IsReadyNumber x.world c.args.command) (sym c.self.view_is) c.requires.ready in
    entered g.J.Origin.from _ c.step.new.self c.self.inside.made.total c.add.new.self.total c.step.result c.args.command
    c.self.invariant ready (c.step.ensures.ok, c.step.ensures.err)
    (c.add.ensures.total
    ∙ ap (λ r. c.self.inside.made.total + made_by r) (sym (c.in-Ok-Went.is ∙ ap Ok c.in-Ok-Went.field-0-is)))

pub invariant_of-self-in-Ok-Over : goal.invariant_of-self-in-Ok-Over
invariant_of-self-in-Ok-Over g c =
    let ready = subst (λ (x : Guarded). IsReadyNumber x.world c.args.command) (sym c.self.view_is) c.requires.ready in
    let none : c.self.inside.made.total ≡ c.self.inside.made.total + 0 = omega arith in
    entered g.J.Origin.from _ c.step.new.self c.self.inside.made.total c.self.inside.made.total c.step.result
    c.args.command c.self.invariant ready (c.step.ensures.ok, c.step.ensures.err)
    (none ∙ ap (λ r. c.self.inside.made.total + made_by r) (sym (c.in-Ok-Over.is ∙ ap Ok c.in-Ok-Over.field-0-is)))

pub invariant_of-self-in-Err : goal.invariant_of-self-in-Err
invariant_of-self-in-Err g c =
    let ready = subst (λ (x : Guarded). IsReadyNumber x.world c.args.command) (sym c.self.view_is) c.requires.ready in
    let none : c.self.inside.made.total ≡ c.self.inside.made.total + 0 = omega arith in
    entered g.J.Origin.from _ c.step.new.self c.self.inside.made.total c.self.inside.made.total c.step.result
    c.args.command c.self.invariant ready (c.step.ensures.ok, c.step.ensures.err)
    (none ∙ ap (λ r. c.self.inside.made.total + made_by r) (sym c.in-Err.is))
