use Rattle.std.proofs.Common.{rules, ◌≡◌, ◌<◌, length, ap, sym, ◌∙◌}
use Rattle.ip_pool.proofs.RunPlaces.{put-joins}
use Rattle.ip_pool.proofs.runs.begin_run.Goals as goal

pub returns-then-begins_after-clause-items : goal.returns-then-begins_after-clause-items
returns-then-begins_after-clause-items c =
    let below : c.args.place < length c.args.runs.now.items = search rules in
    let first : c.addr.inside.bits ≡ c.args.addr.now.bits = ap (λ a. a.bits) c.addr.view_is in
    rw first (put-joins c.args.runs.now.items c.args.place c.args.addr.now.bits c.args.addr.now c.index.result.now
    c.index_mut.result.now below c.index.ensures c.index_mut.ensures.value
    (sym c.begins_after.ensures ∙ c.if-begins_after.true))
