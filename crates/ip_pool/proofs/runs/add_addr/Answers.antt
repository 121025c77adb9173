use Rattle.std.proofs.Common.{rules, ◌≡◌, ◌+◌, ◌≤◌, ◌<◌, true, false, length, take, drop, ◌++◌, ap, sym, ◌∙◌}
use Rattle.std.specs.List.{list_all}
use Rattle.ip_pool.specs.{RunEdits.{is_next, run_up_to, with_addr}, Runs.ends_before}
use Rattle.ip_pool.proofs.RunPlaces.{add-extends, add-begins, add-ends}
use Rattle.ip_pool.proofs.runs.add_addr.Goals.{else-place-len-via-then-place-len+else-is_after}
use Rattle.ip_pool.proofs.runs.add_addr.Goals.{else-place-len-via-else-place-len}
use Rattle.ip_pool.proofs.runs.add_addr.Goals as goal

pub returns-then-is_after-clause-items : goal.returns-then-is_after-clause-items
returns-then-is_after-clause-items c =
    let rs = c.args.runs.now.items in
    let a = c.args.addr.now in
    let place = c.place_of-place.result in
    let run = c.index.result.now in
    let below : place < length rs = search rules in
    let ended : list_all (ends_before 1 a) (take place rs) ≡ true =
    rw c.deref.ensures.value at c.place_of-place.ensures.before in
    let at-place = rw c.deref.ensures.value at c.place_of-place.ensures.at in
    let reaches : ends_before 1 a run ≡ false = ap (ends_before 1 a) c.index.ensures ∙ at-place below run in
    let next : is_next run.last a ≡ true = sym c.is_after.ensures ∙ c.if-is_after.true in
    c.extend_run.ensures.items run
    ∙ ap (λ r. take place rs ++ run_up_to r.first a (drop (place + 1) rs)) (sym c.index.ensures)
    ∙ add-extends a rs place run ended below c.index.ensures reaches next

pub returns-else-place-len-clause-items : goal.returns-else-place-len-clause-items
returns-else-place-len-clause-items c =
    let rs = c.args.runs.now.items in
    let a = c.args.addr.now in
    let place = c.place_of-place.result in
    let ended : list_all (ends_before 1 a) (take place rs) ≡ true =
    rw c.deref.ensures.value at c.place_of-place.ensures.before in
    let at-place = rw c.deref.ensures.value at c.place_of-place.ensures.at in
    let put : c.begin_run.new.runs.items ≡ take place rs ++ run_up_to a.bits a (drop place rs) = search rules in
    let rest : take place rs ++ run_up_to a.bits a (drop place rs) ≡ with_addr a rs = elim c.else-place-len.branch [
      | else-place-len-via-then-place-len+else-is_after w ↦
          let below : place < length rs = search rules in
          let reaches : ends_before 1 a w.index.result.now ≡ false =
          ap (ends_before 1 a) w.index.ensures ∙ at-place below w.index.result.now in
          add-begins a rs place w.index.result.now ended below w.index.ensures reaches
          (sym w.is_after.ensures ∙ w.if-is_after.false)
      | else-place-len-via-else-place-len w ↦
          let end : length rs ≤ place = search rules in
          add-ends a rs place ended end
    ] in
    put ∙ rest
