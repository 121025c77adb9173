use Rattle.std.proofs.{Common.{◌+◌, take, find, ap, sym, ◌∙◌}, lemmas.List.take_rest}
use Rattle.ip_pool.specs.{Pool.is_free, WayRound.way_round}
use Rattle.ip_pool.proofs.WayRound.{way_round-is, no_way_round, last-below_end}
use Rattle.ip_pool.proofs.free.first_free_after.Goals as goal

pub first_free_round-requires : goal.first_free_round-requires
first_free_round-requires g c =
    last-below_end c.args.last.now c.args.ranges.now c.in-Some.place c.index-ranges-place.result
    (sym c.place_of.ensures ∙ c.in-Some.is) c.index-ranges-place.is

pub returns-in-Some : goal.returns-in-Some
returns-in-Some g c =
    let p = is_free (g.T.Taken.taken c.args.taken.now) in
    let ranges = c.args.ranges.now in
    let place = c.in-Some.place in
    let range = c.index-ranges-place.result in
    let last = c.args.last.now in
    c.first_free_round.ensures
    ∙ ap (λ later. find p (way_round range (take place ranges) later last.bits)) (take_rest ranges (place + 1))
    ∙ ap (find p) (way_round-is last ranges place range (sym c.place_of.ensures ∙ c.in-Some.is) c.index-ranges-place.is)

pub returns-in-None : goal.returns-in-None
returns-in-None g c =
    c.first_free.ensures ∙ ap (find (is_free (g.T.Taken.taken c.args.taken.now)))
    (no_way_round c.args.last.now c.args.ranges.now (sym c.place_of.ensures ∙ c.in-None.is))
