use Rattle.std.proofs.{Common.{◌≡◌, ◌∙◌, [], Some, None, ap, sym, rules}, lemmas.Result.IfOk-weaker}
use Rattle.std.specs.{List.filter_map, Option.option_map_or, Str.bytes_eq, VecDeque.deque_items}
use Rattle.cni_addr.specs.Lists.{each_key_once}
use Rattle.indexmap.specs.IndexMap.{get}
use Rattle.object_tables.specs.Places.{rows_at}
use Rattle.object_tables.proofs.walks.owners_in.Goals as goal

pub returns-in-Some : goal.returns-in-Some
returns-in-Some g c =
    let at : get bytes_eq c.args.trails.now c.args.network.now ≡ Some c.in-Some.trail.now = search rules in
    IfOk-weaker c.owners_at.result _ _
    (λ owners h.
    h
    ∙ ap (λ o.
    each_key_once g.O.PartialEq.eq
    (filter_map g.T.Row.owner_of (rows_at c.args.places.now (option_map_or deque_items o []))))
    (sym at))
    c.owners_at.ensures

pub returns-in-None : goal.returns-in-None
returns-in-None g c =
    let at : get bytes_eq c.args.trails.now c.args.network.now ≡ None = search rules in
    c.new.ensures
    ∙ ap (λ o.
    each_key_once g.O.PartialEq.eq
    (filter_map g.T.Row.owner_of (rows_at c.args.places.now (option_map_or deque_items o []))))
    (sym at)
