use Rattle.std.proofs.{Common.{◌≡◌, ◌∙◌, ap, refl, sym, subst}, lemmas.Result.IfOk-weaker}
use Rattle.std.specs.{List.filter_map, Prelude.filter, Str.bytes_eq}
use Rattle.cni_addr.specs.Lists.{each_key_once}
use Rattle.object_tables.specs.{Places.{passing, places_where, rows_at}, Table.{has_key, AreTrails}, Trails.trail_of}
use Rattle.object_tables.proofs.Owners.{rows-where}
use Rattle.object_tables.proofs.table.Table.owners.Goals as goal

pub invariant_of-self : goal.invariant_of-self
invariant_of-self g c =
    let trails : AreTrails bytes_eq g.T.Row.network_of c.self.inside.places.items c.tidy.new.trails =
    subst (λ l. AreTrails bytes_eq g.T.Row.network_of l c.tidy.new.trails) c.deref.ensures.value
    (c.tidy.ensures.trails g.T.Row.network_of (λ row. refl)
    (subst (λ l. AreTrails bytes_eq g.T.Row.network_of l c.self.inside.networks) (sym c.deref.ensures.value)
    c.self.invariant.3)) in
    (c.self.invariant.0, c.self.invariant.1, c.self.invariant.2, trails, c.self.invariant.4)

pub returns-clause-ok : goal.returns-clause-ok
returns-clause-ok g c =
    let network = c.args.network.now in
    let test = has_key bytes_eq g.T.Row.network_of network in
    let places = c.self.inside.places.items in
    let trail : trail_of bytes_eq c.tidy.new.trails network ≡ places_where test places =
    c.tidy.ensures.trail
    ∙ ap (λ l. passing test l (trail_of bytes_eq c.self.inside.networks network)) c.deref.ensures.value
    ∙ c.self.invariant.3.exact network in
    let rows =
    ap (λ l. rows_at l (trail_of bytes_eq c.tidy.new.trails network)) c.deref-2.ensures.value
    ∙ ap (rows_at places) trail
    ∙ rows-where test places
    ∙ ap (filter test) c.self.view_is in
    IfOk-weaker c.owners_in.result _ _
    (λ owners h. h ∙ ap (λ l. each_key_once g.O.PartialEq.eq (filter_map g.T.Row.owner_of l)) rows)
    c.owners_in.ensures
