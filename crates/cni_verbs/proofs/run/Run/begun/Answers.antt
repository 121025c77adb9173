use Rattle.std.proofs.Common.{Some, ap}
use Rattle.cni_verbs.specs.{Progress.Progress, Script.State}
use Rattle.cni_verbs.proofs.NextCalls.{kept_at_start, seen_at_start}
use Rattle.cni_verbs.proofs.run.Run.begun.Goals as goal

pub invariant_of-run : goal.invariant_of-run
invariant_of-run c = (
  kept_at_start c.args.list c.args.command _ c.args.given.items c.args.phase
      c.requires.phase c.requires.room c.requires.empty,
  λ names is. absurd cc,
)

pub returns : goal.returns
returns c =
    let seen : State → Progress =
    λ state. record { list = Some c.args.list; command = c.args.command; made = 0; state = state } in
    ap seen (seen_at_start c.args.list c.args.command c.args.given.items c.args.phase c.requires.phase c.requires.empty)
