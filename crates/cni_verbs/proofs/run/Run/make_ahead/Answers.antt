use Rattle.std.proofs.Common.{◌∙◌, Some, ap, sym}
use Rattle.std.specs.Prelude.{vec_capacity}
use Rattle.cni_verbs.proofs.NextCalls.{kept_prepared}
use Rattle.cni_verbs.proofs.run.Run.make_ahead.Goals as goal

pub invariant_of-self : goal.invariant_of-self
invariant_of-self c = (
  kept_prepared c.self.inside.list c.get.result.now c.self.inside.command
      (vec_capacity c.self.inside.given) c.self.inside.made
      c.self.inside.given.items c.as_slice.result.now c.self.inside.phase c.prepare_phase.new.phase
      (c.in-Some.is ∙ ap Some (sym c.get.ensures)) c.as_slice.ensures.value c.prepare_phase.ensures.same
      c.self.invariant.0,
  c.prepare_phase.ensures.names,
)
