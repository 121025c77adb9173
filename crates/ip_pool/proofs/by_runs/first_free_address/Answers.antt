use Rattle.std.proofs.Common.{rules, ◌≡◌, ◌+◌, ◌<◌, ◌≤◌, Some, ap, sym, ◌∙◌}
use Rattle.ip_pool.proofs.RunSearch.{find-past_run, find-covered}
use Rattle.ip_pool.proofs.by_runs.first_free_address.Goals as goal

pub returns-in-Some-clause-free : goal.returns-in-Some-clause-free
returns-in-Some-clause-free g c =
    let run = rw c.address_at-addr.ensures at c.in-Some.ensures.end in
    let below : c.in-Some.end.bits < c.args.high = search rules in
    let next : c.address_at.result ≡ record { family = c.args.range.now.start.family; bits = c.in-Some.end.bits + 1 } =
    search rules in
    ap Some next
    ∙ sym (find-past_run c.args.runs.now.addresses c.args.range.now.start.family c.args.low c.args.high c.in-Some.end
    run below)

pub returns-in-Some-2-clause-free : goal.returns-in-Some-2-clause-free
returns-in-Some-2-clause-free g c =
    let run = rw c.address_at-addr.ensures at c.in-Some.ensures.end in
    let above : c.args.high ≤ c.in-Some.end.bits = search rules in
    sym (find-covered c.args.runs.now.addresses c.args.range.now.start.family c.args.low c.args.high c.in-Some.end run
    above)
