use Rattle.std.proofs.Common.{◌≡◌, take}
use Rattle.std.specs.List.{All}
use Rattle.net_conf.specs.WellFormed.{IsWellFormedList}
use Rattle.tool_plan.specs.Verdict.{lists_of}
use Rattle.tool_plan.proofs.plan.shared_lists.Given as goal

abbrev pub invariant-loop-raw : goal.invariant-loop-raw
invariant-loop-raw l = record {
  lists : l.lists ≡ lists_of (take l.raw-index l.raws);
  formed : All IsWellFormedList l.lists;
}
