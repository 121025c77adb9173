use Rattle.std.proofs.Common.{◌≡◌, ◌++◌, take}
use Rattle.kernel_text.specs.Dump.{lines_of}
use Rattle.kernel_text.proofs.dump.push_lines.Given as goal

-- the objects so far have their lines
abbrev pub invariant-loop-object : goal.invariant-loop-object
invariant-loop-object g l =
    l.lines.items ≡ l.initial.lines.items ++ lines_of g.T.Dumped.shown (take l.object-index l.objects)
