use Rattle.std.proofs.Common.{◌≡◌, ◌++◌, OnOk, ℕ, List, subst}
use Rattle.pod_text.proofs.Rounds.{lines_of_commands}
use Rattle.pod_text.specs.Requests.{requests_of}
use Rattle.pod_text.proofs.requests.push_requests.Goals as goal

pub returns : goal.returns
returns g c =
    let lines =
    lines_of_commands (requests_of c.args.raws.now c.args.book.now) _ _ _ c.as_slice.ensures c.plan.ensures in
    subst
    (λ (text : List ℕ). OnOk c.push_rounds.result (c.push_rounds.new.lines.items ≡ c.args.lines.now.items ++ text))
    lines c.push_rounds.ensures
