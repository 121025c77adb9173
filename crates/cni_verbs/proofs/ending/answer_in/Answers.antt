use Rattle.std.proofs.Common.{◌≡◌, Bool, true, false, Some}
use Rattle.cni_verbs.specs.{Phases.state_in, Script.{State, IsOpen}}
use Rattle.cni_verbs.specs.Progress as progress
use Rattle.cni_verbs.proofs.Ends.{IsOverIf, unended}
use Rattle.cni_verbs.proofs.ending.answer_in.Goals as goal

not-open : (s : State) (over : Bool) → over ≡ true → IsOverIf over s → IsOpen s → ⊥
not-open s true is h = h
not-open s false is h = absurd cc

pub answer_at_end-requires-clause-kept : goal.answer_at_end-requires-clause-kept
answer_at_end-requires-clause-kept c = (c.requires.0, c.requires.1, c.requires.2)

pub answer_at_end-requires-clause-over : goal.answer_at_end-requires-clause-over
answer_at_end-requires-clause-over c =
    not-open (state_in c.args.list.now c.args.command.now c.args.given.now c.args.phase.now) c.is_over.result
    c.if-is_over.true
    (c.is_over.ensures c.args.list.now c.args.command.now c.requires.0 c.requires.1 c.requires.2)

pub returns-else-is_over : goal.returns-else-is_over
returns-else-is_over c =
    unended c.args.command.now (state_in c.args.list.now c.args.command.now c.args.given.now c.args.phase.now)
    c.is_over.result
    (progress.answer_by (Some c.args.list.now) c.args.command.now) c.if-is_over.false
    (c.is_over.ensures c.args.list.now c.args.command.now c.requires.0 c.requires.1 c.requires.2)
