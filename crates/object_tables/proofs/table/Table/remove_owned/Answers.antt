use Rattle.std.proofs.Common.{◌≡◌, ◌&&◌, ◌∙◌, [], ap, sym, None, Some, rules}
use Rattle.std.specs.{Option.option_map_or, Prelude.{filter, not}, VecDeque.deque_items}
use Rattle.indexmap.specs.IndexMap.{get}
use Rattle.object_tables.specs.{Places.{rows_of, passing, places_where}, Table.has_key}
use Rattle.object_tables.proofs.{Along.{emptied-along, both-along}, Candidates.Finds-retain, Places.rows_of-retain}
use Rattle.object_tables.proofs.table.Table.remove_owned.Goals as goal

pub invariant_of-self : goal.invariant_of-self
invariant_of-self g c =
    let owned = has_key g.O.PartialEq.eq g.T.Row.owner_of c.args.owner.now in
    let gone = g.Q.Test.passes c.args.gone.now in
    let at : get g.O.PartialEq.eq c.self.inside.trails c.args.owner.now ≡ Some c.in-Some.trail.now = search rules in
    let exact : passing owned c.self.inside.places.items c.in-Some.trail.now.items
    ≡ places_where owned c.self.inside.places.items =
    ap (λ o. passing owned c.self.inside.places.items (option_map_or deque_items o [])) (sym at)
    ∙ c.self.invariant.2.exact c.args.owner.now in
    let is =
    c.empty_along.ensures
    ∙ emptied-along (λ row. owned row && gone row) c.in-Some.trail.now.items c.self.inside.places.items
    (both-along owned gone c.self.inside.places.items c.in-Some.trail.now.items exact) in
    rw is (
      Finds-retain (λ row. owned row && gone row) c.self.invariant.0,
      Finds-retain (λ row. owned row && gone row) c.self.invariant.1,
      Finds-retain (λ row. owned row && gone row) c.self.invariant.2,
      Finds-retain (λ row. owned row && gone row) c.self.invariant.3,
      Finds-retain (λ row. owned row && gone row) c.self.invariant.4,
    )

pub returns-in-Some : goal.returns-in-Some
returns-in-Some g c =
    let owned = has_key g.O.PartialEq.eq g.T.Row.owner_of c.args.owner.now in
    let gone = g.Q.Test.passes c.args.gone.now in
    let at : get g.O.PartialEq.eq c.self.inside.trails c.args.owner.now ≡ Some c.in-Some.trail.now = search rules in
    let exact : passing owned c.self.inside.places.items c.in-Some.trail.now.items
    ≡ places_where owned c.self.inside.places.items =
    ap (λ o. passing owned c.self.inside.places.items (option_map_or deque_items o [])) (sym at)
    ∙ c.self.invariant.2.exact c.args.owner.now in
    let is =
    c.empty_along.ensures
    ∙ emptied-along (λ row. owned row && gone row) c.in-Some.trail.now.items c.self.inside.places.items
    (both-along owned gone c.self.inside.places.items c.in-Some.trail.now.items exact) in
    ap rows_of is
    ∙ rows_of-retain (λ row. owned row && gone row) c.self.inside.places.items
    ∙ ap (filter (λ row. not (owned row && gone row))) c.self.view_is

pub returns-in_default : goal.returns-in_default
returns-in_default g c =
    let owned = has_key g.O.PartialEq.eq g.T.Row.owner_of c.args.owner.now in
    let gone = g.Q.Test.passes c.args.gone.now in
    let at : get g.O.PartialEq.eq c.self.inside.trails c.args.owner.now ≡ None = search rules in
    let exact : passing owned c.self.inside.places.items [] ≡ places_where owned c.self.inside.places.items =
    ap (λ o. passing owned c.self.inside.places.items (option_map_or deque_items o [])) (sym at)
    ∙ c.self.invariant.2.exact c.args.owner.now in
    sym c.self.view_is
    ∙ ap rows_of (emptied-along (λ row. owned row && gone row) [] c.self.inside.places.items
    (both-along owned gone c.self.inside.places.items [] exact))
    ∙ rows_of-retain (λ row. owned row && gone row) c.self.inside.places.items
    ∙ ap (filter (λ row. not (owned row && gone row))) c.self.view_is
