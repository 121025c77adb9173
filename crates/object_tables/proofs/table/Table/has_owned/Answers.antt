use Rattle.std.proofs.Common.{◌≡◌, ◌∙◌, ap, refl, sym, subst, rules}
use Rattle.std.specs.{List.list_any, Prelude.is_some}
use Rattle.object_tables.specs.{Places.{first_of, passing, places_where}, Table.{has_key, AreTrails}, Trails.trail_of}
use Rattle.object_tables.proofs.Places.{any-first}
use Rattle.object_tables.proofs.table.Table.has_owned.Goals as goal

pub returns-clause-found : goal.returns-clause-found
returns-clause-found g c =
    let test = has_key g.O.PartialEq.eq g.T.Row.owner_of c.args.owner.now in
    let first : c.first_place.result ≡ first_of (places_where test c.self.inside.places.items) =
    c.first_place.ensures.first
    ∙ ap first_of (ap (λ l. passing test l (trail_of g.O.PartialEq.eq c.self.inside.trails c.args.owner.now))
    c.deref.ensures.value
    ∙ c.self.invariant.2.exact c.args.owner.now) in
    let found : is_some c.first_place.result ≡ list_any test c.args.self.now =
    ap is_some first
    ∙ any-first test c.self.inside.places.items _ (λ i. places_where test c.self.inside.places.items)
    ∙ ap (list_any test) c.self.view_is in
    search rules

pub invariant_of-self : goal.invariant_of-self
invariant_of-self g c =
    let trails : AreTrails g.O.PartialEq.eq g.T.Row.owner_of c.self.inside.places.items c.first_place.new.trails =
    subst (λ l. AreTrails g.O.PartialEq.eq g.T.Row.owner_of l c.first_place.new.trails) c.deref.ensures.value
    (c.first_place.ensures.trails g.T.Row.owner_of (λ row. refl)
    (subst (λ l. AreTrails g.O.PartialEq.eq g.T.Row.owner_of l c.self.inside.trails) (sym c.deref.ensures.value)
    c.self.invariant.2)) in
    (c.self.invariant.0, c.self.invariant.1, trails, c.self.invariant.3, c.self.invariant.4)
