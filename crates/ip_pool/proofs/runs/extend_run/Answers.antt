use Rattle.std.proofs.Common.{rules, ◌≡◌, ◌+◌, ◌≤◌, ◌<◌, length, take, drop, ◌++◌, slice_index_or, slice_set, ap, sym}
use Rattle.std.proofs.{Common.◌∙◌, lemmas.List.get_or_default}
use Rattle.ip_pool.specs.RunEdits.{run_up_to}
use Rattle.ip_pool.proofs.RunPlaces.{put-apart, put-last}
use Rattle.ip_pool.proofs.runs.extend_run.Goals.{else-next-len-via-then-next-len+else-begins_after}
use Rattle.ip_pool.proofs.runs.extend_run.Goals.{else-next-len-via-else-next-len}
use Rattle.ip_pool.proofs.runs.extend_run.Goals as goal

pub returns-else-next-len-clause-items : goal.returns-else-next-len-clause-items
returns-else-next-len-clause-items c = λ d.
    let rs = c.args.runs.now.items in
    let a = c.args.addr.now in
    let place = c.args.place in
    let run = c.index_mut-else-next-len.result.now in
    let below : place < length rs = search rules in
    let put : slice_set rs place (record { first = run.first; last = a })
    ≡ take place rs ++ run_up_to run.first a (drop (place + 1) rs) = elim c.else-next-len.branch [
      | else-next-len-via-then-next-len+else-begins_after w ↦
          let within : place + 1 < length rs = search rules in
          put-apart rs place run.first a w.index.result.now below within w.index.ensures
          (sym w.begins_after.ensures ∙ w.if-begins_after.false)
      | else-next-len-via-else-next-len w ↦
          let end : length rs ≤ place + 1 = search rules in
          put-last rs place run.first a below end
    ] in
    let same : run ≡ slice_index_or rs place d =
    c.index_mut-else-next-len.ensures.value ∙ get_or_default rs place run d below in
    put ∙ ap (λ r. take place rs ++ run_up_to r.first a (drop (place + 1) rs)) same
