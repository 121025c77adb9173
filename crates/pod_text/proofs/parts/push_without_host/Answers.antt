use Rattle.std.proofs.Common.{◌∙◌, ◌++◌, List, ℕ, sym, ap, append_assoc}
use Rattle.pod_text.specs.Lines.{command_lines, requests_asked, trace_lines, where_asked}
use Rattle.pod_text.proofs.WithoutHost.{without_host}
use Rattle.pod_text.proofs.parts.push_without_host.Goals as goal

-- the lines of the commands, then those of the requests and of the history
pub returns : goal.returns
returns g c =
    let before : List ℕ = c.args.lines.now.items in
    let commands : List ℕ = command_lines c.args.book.now in
    let requests : List ℕ = requests_asked c.args.asked.now.requests c.args.book.now in
    let trace : List ℕ = where_asked c.args.asked.now.trace (trace_lines c.args.book.now) in
    c.in_ok-push_trace.ensures
    ∙ ap (λ (lines : List ℕ). lines ++ trace) c.in_ok-push_requests_asked.ensures
    ∙ ap (λ (lines : List ℕ). lines ++ requests ++ trace) c.in_ok-push_commands.ensures
    ∙ ap (λ (lines : List ℕ). lines ++ trace) (append_assoc before commands requests)
    ∙ append_assoc before (commands ++ requests) trace
    ∙ ap (λ (lines : List ℕ). before ++ lines) (sym (without_host c.args.book.now c.args.asked.now c.requires))
