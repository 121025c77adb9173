use Rattle.std.proofs.Common.{rules, ◌≡◌, ◌+◌, ◌++◌, ◌≤◌, ◌<◌, true, false, cond, Some, None, length, take, drop, find}
use Rattle.std.proofs.Common.{ap, ap₂, sym, ◌∙◌, arith}
use Rattle.std.specs.List.{list_all}
use Rattle.ip_pool.specs.Runs.{ends_before, is_in_run, is_run, run_size}
use Rattle.cni_addr.proofs.Lists.{list_any-find_none}
use Rattle.ip_pool.proofs.RunPlaces.{find-at, find-past_all, keep-at, keep-all, remove-at, parts-length}
use Rattle.ip_pool.proofs.RunPlaces.{length-run-le-size}
use Rattle.ip_pool.proofs.runs.remove_addr.Goals as goal

pub returns-then-place-len-clause-found : goal.returns-then-place-len-clause-found
returns-then-place-len-clause-found c =
    let rs = c.args.runs.now.items in
    let a = c.args.addr.now in
    let place = c.place_of-place.result in
    let ended : list_all (ends_before 0 a) (take place rs) ≡ true =
    rw c.deref.ensures.value at c.place_of-place.ensures.before in
    let end : length rs ≤ place = search rules in
    sym (list_any-find_none (is_in_run a) rs (find-past_all a rs place ended end))

pub returns-then-place-len-clause-items : goal.returns-then-place-len-clause-items
returns-then-place-len-clause-items c =
    let rs = c.args.runs.now.items in
    let a = c.args.addr.now in
    let place = c.place_of-place.result in
    let ended : list_all (ends_before 0 a) (take place rs) ≡ true =
    rw c.deref.ensures.value at c.place_of-place.ensures.before in
    let end : length rs ≤ place = search rules in
    keep-all a rs place ended end

pub returns-then-not-has-clause-found : goal.returns-then-not-has-clause-found
returns-then-not-has-clause-found c =
    let rs = c.args.runs.now.items in
    let a = c.args.addr.now in
    let place = c.place_of-place.result in
    let run = c.index.result.now in
    let below : place < length rs = search rules in
    let ended : list_all (ends_before 0 a) (take place rs) ≡ true =
    rw c.deref.ensures.value at c.place_of-place.ensures.before in
    let at-place = rw c.deref.ensures.value at c.place_of-place.ensures.at in
    let reaches : ends_before 0 a run ≡ false = ap (ends_before 0 a) c.index.ensures ∙ at-place below run in
    let missed : find (is_in_run a) rs ≡ None =
    find-at a rs place run c.requires.runs ended below c.index.ensures reaches
    ∙ ap (λ b. cond b (Some run) None) (sym c.has.ensures ∙ c.if-not-has.true) in
    sym (list_any-find_none (is_in_run a) rs missed)

pub returns-then-not-has-clause-items : goal.returns-then-not-has-clause-items
returns-then-not-has-clause-items c =
    let rs = c.args.runs.now.items in
    let a = c.args.addr.now in
    let place = c.place_of-place.result in
    let run = c.index.result.now in
    let below : place < length rs = search rules in
    let ended : list_all (ends_before 0 a) (take place rs) ≡ true =
    rw c.deref.ensures.value at c.place_of-place.ensures.before in
    let at-place = rw c.deref.ensures.value at c.place_of-place.ensures.at in
    let reaches : ends_before 0 a run ≡ false = ap (ends_before 0 a) c.index.ensures ∙ at-place below run in
    keep-at a rs place run ended below c.index.ensures reaches (sym c.has.ensures ∙ c.if-not-has.true)

pub put_parts-requires-clause-room : goal.put_parts-requires-clause-room
put_parts-requires-clause-room c =
    let rs = c.args.runs.now.items in
    let a = c.args.addr.now in
    let place = c.place_of-place.result in
    let run = c.index.result.now in
    let below : place < length rs = search rules in
    let here : is_in_run a run ≡ true = sym c.has.ensures ∙ c.if-not-has.false in
    let runs : list_all is_run rs ≡ true = grind arith in
    let places = length-run-le-size rs place run runs below in
    let parts = parts-length a run here in
    omega (
      arith,
      ap run_size c.index.ensures,
      ap length c.part_below.ensures,
      ap length c.part_above.ensures,
      c.requires.room,
    )

pub returns-clause-items : goal.returns-clause-items
returns-clause-items c =
    let rs = c.args.runs.now.items in
    let a = c.args.addr.now in
    let place = c.place_of-place.result in
    let run = c.index.result.now in
    let below : place < length rs = search rules in
    let ended : list_all (ends_before 0 a) (take place rs) ≡ true =
    rw c.deref.ensures.value at c.place_of-place.ensures.before in
    let at-place = rw c.deref.ensures.value at c.place_of-place.ensures.at in
    let reaches : ends_before 0 a run ≡ false = ap (ends_before 0 a) c.index.ensures ∙ at-place below run in
    let here : is_in_run a run ≡ true = sym c.has.ensures ∙ c.if-not-has.false in
    c.put_parts.ensures.items ∙ ap₂ (λ lower upper. take place rs ++ (lower ++ (upper ++ drop (place + 1) rs)))
    c.part_below.ensures c.part_above.ensures ∙ sym (remove-at a rs place run ended below c.index.ensures reaches here)
