use Rattle.std.proofs.Common.{◌≡◌, ◌&&◌, ◌∙◌, [], ap, sym, None, Some, rules}
use Rattle.std.specs.{List.list_any, Option.option_map_or, VecDeque.deque_items}
use Rattle.indexmap.specs.IndexMap.{get}
use Rattle.object_tables.specs.{Places.{passes, passing, places_where, row_at}, Table.has_key}
use Rattle.object_tables.proofs.Along.{any-along, both-along}
use Rattle.object_tables.proofs.table.Table.any_at.Goals as goal

pub returns-in-Some : goal.returns-in-Some
returns-in-Some g c =
    let owned = has_key g.P.PartialEq.eq g.T.Row.site_of c.args.site.now in
    let test = g.Q.Test.passes c.args.test.now in
    let at : get g.P.PartialEq.eq c.self.inside.sites c.args.site.now ≡ Some c.in-Some.trail.now = search rules in
    let exact : passing owned c.self.inside.places.items c.in-Some.trail.now.items
    ≡ places_where owned c.self.inside.places.items =
    ap (λ o. passing owned c.self.inside.places.items (option_map_or deque_items o [])) (sym at)
    ∙ c.self.invariant.4.exact c.args.site.now in
    c.any_along.ensures
    ∙ ap (λ l. list_any (λ p. passes (λ row. owned row && test row) (row_at l p)) c.in-Some.trail.now.items)
    c.deref.ensures.value
    ∙ any-along (λ row. owned row && test row) c.self.inside.places.items c.in-Some.trail.now.items
    (both-along owned test c.self.inside.places.items c.in-Some.trail.now.items exact)
    ∙ ap (list_any (λ row. owned row && test row)) c.self.view_is

pub returns-in-None : goal.returns-in-None
returns-in-None g c =
    let owned = has_key g.P.PartialEq.eq g.T.Row.site_of c.args.site.now in
    let test = g.Q.Test.passes c.args.test.now in
    let at : get g.P.PartialEq.eq c.self.inside.sites c.args.site.now ≡ None = search rules in
    let exact : passing owned c.self.inside.places.items [] ≡ places_where owned c.self.inside.places.items =
    ap (λ o. passing owned c.self.inside.places.items (option_map_or deque_items o [])) (sym at)
    ∙ c.self.invariant.4.exact c.args.site.now in
    any-along (λ row. owned row && test row) c.self.inside.places.items []
    (both-along owned test c.self.inside.places.items [] exact)
    ∙ ap (list_any (λ row. owned row && test row)) c.self.view_is
