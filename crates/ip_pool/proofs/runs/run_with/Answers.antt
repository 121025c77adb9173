use Rattle.std.proofs.Common.{◌≡◌, ◌<◌, cond, Some, None, false, length, sym, ap, ◌∙◌, arith}
use Rattle.ip_pool.specs.Runs.{ends_before}
use Rattle.ip_pool.proofs.RunPlaces.{find-at, find-past_all}
use Rattle.ip_pool.proofs.runs.run_with.Goals as goal

pub returns-then-place-runs : goal.returns-then-place-runs
returns-then-place-runs c =
    sym (find-past_all c.args.addr.now c.args.runs.now c.place_of-place.result c.place_of-place.ensures.before
    (omega arith))

pub returns-then-has : goal.returns-then-has
returns-then-has c =
    let run = c.index-runs-place.result in
    let below : c.place_of-place.result < length c.args.runs.now = omega arith in
    let reaches : ends_before 0 c.args.addr.now run ≡ false =
    ap (ends_before 0 c.args.addr.now) c.index-runs-place.is ∙ c.place_of-place.ensures.at below run in
    sym (find-at c.args.addr.now c.args.runs.now c.place_of-place.result run c.requires c.place_of-place.ensures.before
    below c.index-runs-place.is reaches ∙ ap (λ b. cond b (Some run) None) (sym c.has.ensures ∙ c.if-has.true))

pub returns-else-has : goal.returns-else-has
returns-else-has c =
    let run = c.index-runs-place.result in
    let below : c.place_of-place.result < length c.args.runs.now = omega arith in
    let reaches : ends_before 0 c.args.addr.now run ≡ false =
    ap (ends_before 0 c.args.addr.now) c.index-runs-place.is ∙ c.place_of-place.ensures.at below run in
    sym (find-at c.args.addr.now c.args.runs.now c.place_of-place.result run c.requires c.place_of-place.ensures.before
    below c.index-runs-place.is reaches ∙ ap (λ b. cond b (Some run) None) (sym c.has.ensures ∙ c.if-has.false))
