use Rattle.std.proofs.Common.{◌≡◌, ◌++◌, length}
use Rattle.std.specs.Vec.Iter.{into_iter_items}
use Rattle.pod_text.specs.Requests.{lines_from, request_lines}
use Rattle.pod_text.proofs.request_lines.line_values.Given as goal

-- the lines so far, with those of the requests that are left, are all lines
abbrev pub invariant-loop-request : goal.invariant-loop-request
invariant-loop-request l =
    l.lines.items ++ lines_from l.env l.command (length l.lines.items) (into_iter_items l.request-iterator)
    ≡ request_lines l.env l.command l.fn.requests.items
