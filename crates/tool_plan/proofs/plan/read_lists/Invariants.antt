use Rattle.std.proofs.Common.{◌≡◌, ◌≤◌, length}
use Rattle.tool_plan.proofs.Lists.{Front}
use Rattle.tool_plan.proofs.plan.read_lists.Given as goal

abbrev pub invariant-loop-name : goal.invariant-loop-name
invariant-loop-name g l = record {
  keeps : g.F.Files.files l.files ≡ g.F.Files.files l.initial.files;
  later : g.F.Files.failure_count l.initial.files ≤ g.F.Files.failure_count l.files;
  front : Front (g.F.Files.files l.initial.files) l.names l.raws l.name-index;
  count : length l.raws ≡ l.name-index;
}
