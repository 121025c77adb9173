use Rattle.pod_workers.proofs.Names.{◌≡◌, ◌-◌, ◌<◌, ◌^◌, length, slice_get, sym, ◌∙◌, ap, subst, arith, length-set}
use Rattle.std.proofs.lemmas.List.{set-set}
use Rattle.pod_workers.specs.{Index.is_cut_by, World.World}
use Rattle.pod_workers.proofs.Books.KeptByNumber.{IsFound, cut-by, found, found-may, found-over, found-refused}
use Rattle.pod_workers.proofs.Books.KeptByNumber.{found-went, left-steps, number-command, number-within}
use Rattle.pod_workers.proofs.{Books.KeptByNumber.refused-runs_out, Plans.Listed.found-listed}
use Rattle.pod_workers.proofs.book.Book.step.{Given.Over, Goals.After-command_at-wanted}
use Rattle.pod_workers.proofs.book.Book.step.Goals as goal

-- the book as the step finds it
abbrev world : (g : Over) (c : After-command_at-wanted g) → World
world g c = record {
  plan = c.self.inside.plan;
  history = c.self.inside.history.items;
  answers = c.self.inside.answers.items;
  round = c.self.inside.round;
}

-- what the step has read: the command that is ready, with its run, and whether the round is stopped
seen : (g : Over) (c : After-command_at-wanted g)
    → IsFound (g.K.Kernel.host c.self.inside.kernel) c.self.inside.slots.items c.self.inside.places.items
    c.self.inside.before (world g c) c.args.number (c.args.number - 1) c.take_at-task.result
    c.command_at-wanted.result.now
    × (c.is_cut-cut.result
    ≡ is_cut_by c.self.inside.plan.stop_at c.self.inside.history.items c.self.inside.places.items
    c.self.inside.round)
seen g c = (
  found c.self.invariant c.self.view_is c.requires c.as_slice.ensures.value c.place_at-place.ensures
      c.as_slice-4.ensures c.command_at-wanted.ensures c.take_at-task.ensures.taken,
  cut-by _ _ c.is_cut-cut.ensures.cut c.as_slice-2.ensures.value c.as_slice-3.ensures.value,
)

pub place_at-place-requires : goal.place_at-place-requires
place_at-place-requires g c =
    rw c.as_slice.ensures.value (number-within _ _ _ _ _ _ _ c.self.invariant c.self.view_is c.requires).1

pub take_at-task-requires : goal.take_at-task-requires
take_at-task-requires g c = (number-within _ _ _ _ _ _ _ c.self.invariant c.self.view_is c.requires).2

pub command_at-wanted-requires : goal.command_at-wanted-requires
command_at-wanted-requires g c =
    rw c.as_slice-4.ensures (number-command _ _ _ _ _ _ _ _ c.self.invariant c.self.view_is c.requires
    (ap (λ ps. slice_get ps (c.args.number - 1)) (sym c.as_slice.ensures.value) ∙ c.place_at-place.ensures))

pub put_at-requires : goal.put_at-requires
put_at-requires g c = (number-within _ _ _ _ _ _ _ c.self.invariant c.self.view_is c.requires).3

pub put_at-requires-in-Called : goal.put_at-requires-in-Called
put_at-requires-in-Called g c =
    rw (c.take_at-task.ensures.left, length-set)
    (number-within _ _ _ _ _ _ _ c.self.invariant c.self.view_is c.requires).2

pub put_at-requires-in-Answered : goal.put_at-requires-in-Answered
put_at-requires-in-Answered g c = (number-within _ _ _ _ _ _ _ c.self.invariant c.self.view_is c.requires).3

pub step_command-requires-clause-may : goal.step_command-requires-clause-may
step_command-requires-clause-may g c =
    let s = seen g (goal.at.step_command-requires-clause-may g c).After-command_at-wanted in
    rw c.as_slice-5.ensures
    (found-may _ _ _ _ _ _ _ _ _ _ s.0 s.1
    (λ reached. subst (λ h. length h < 2 ^ 32) c.as_slice-2.ensures.value (c.is_cut-cut.ensures.small reached)))

pub step_command-requires-clause-listed : goal.step_command-requires-clause-listed
step_command-requires-clause-listed g c =
    let s = seen g (goal.at.step_command-requires-clause-listed g c).After-command_at-wanted in
    rw c.as_slice-5.ensures (found-listed _ _ _ _ _ _ _ _ _ s.0)

pub invariant_of-self : goal.invariant_of-self
invariant_of-self g c =
    let s = seen g (goal.at.invariant_of-self g c).After-command_at-wanted in
    rw (c.take_at-task.ensures.left, c.put_at.ensures) (found-refused _ _ _ _ _ _ _ _ _ _ _ s.0 c.in-Err.ensures.err)

pub invariant_of-self-in-Called : goal.invariant_of-self-in-Called
invariant_of-self-in-Called g c =
    let s = seen g (goal.at.invariant_of-self-in-Called g c).After-command_at-wanted in
    let left =
    found-went _ _ _ _ _ _ _ _ _ _ _ _ _ _ s.0 s.1 (rw c.as_slice-5.ensures at c.in-Ok.ensures.ok) c.in-Called.is in
    rw (c.put_at-in-Called.ensures, c.take_at-task.ensures.left, set-set) left.2.kept

pub invariant_of-self-in-Answered : goal.invariant_of-self-in-Answered
invariant_of-self-in-Answered g c =
    let s = seen g (goal.at.invariant_of-self-in-Answered g c).After-command_at-wanted in
    let left =
    found-over _ _ _ _ _ _ _ _ _ _ _ _ _ _ s.0 s.1 (rw c.as_slice-5.ensures at c.in-Ok.ensures.ok)
    c.in-Answered.is in
    rw (c.take_at-task.ensures.left, c.put_at-in-Answered.ensures) left.2.kept

pub returns-in-Err-clause-err : goal.returns-in-Err-clause-err
returns-in-Err-clause-err g c =
    let s = seen g (goal.at.returns-in-Err-clause-err g c).After-command_at-wanted in
    rw c.put_at.ensures (refused-runs_out _ _ _ _ _ s.0.number_is c.self.view_is c.in-Err.ensures.err.1)

pub returns-in-Called : goal.returns-in-Called
returns-in-Called g c =
    let s = seen g (goal.at.returns-in-Called g c).After-command_at-wanted in
    let left =
    found-went _ _ _ _ _ _ _ _ _ _ _ _ _ _ s.0 s.1 (rw c.as_slice-5.ensures at c.in-Ok.ensures.ok) c.in-Called.is in
    record { ok = left-steps _ _ _ _ _ _ _ _ _ _ s.0.number_is c.self.view_is left; err = tt }

pub returns-in-Answered : goal.returns-in-Answered
returns-in-Answered g c =
    let s = seen g (goal.at.returns-in-Answered g c).After-command_at-wanted in
    let left =
    found-over _ _ _ _ _ _ _ _ _ _ _ _ _ _ s.0 s.1 (rw c.as_slice-5.ensures at c.in-Ok.ensures.ok)
    c.in-Answered.is in
    record {
      ok = rw c.put_at-in-Answered.ensures (left-steps _ _ _ _ _ _ _ _ _ _ s.0.number_is c.self.view_is left);
      err = tt;
    }

pub overflow_sub-n : goal.overflow_sub-n
overflow_sub-n g c = let r = c.requires in let is = r.2 in omega arith
