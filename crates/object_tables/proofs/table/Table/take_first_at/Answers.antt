use Rattle.std.proofs.{Common.{◌≡◌, ◌∙◌, ap, refl, sym, subst, None, set, rules}, lemmas.List.get_or_default}
use Rattle.std.specs.Prelude.{find}
use Rattle.cni_addr.specs.Lists.{without_first}
use Rattle.object_tables.specs.{Places.{first_of, passing, places_where, rows_of}, Table.{has_key, AreTrails}}
use Rattle.object_tables.specs.Trails.{trail_of}
use Rattle.object_tables.proofs.{Candidates.Finds-clear, Places.{goes-first, none-goes}}
use Rattle.object_tables.proofs.table.Table.take_first_at.Goals as goal

pub index_mut-requires : goal.index_mut-requires
index_mut-requires g c =
    let test = has_key g.P.PartialEq.eq g.T.Row.site_of c.args.site.now in
    let first : c.first_place.result ≡ first_of (places_where test c.self.inside.places.items) =
    c.first_place.ensures.first
    ∙ ap first_of (ap (λ l. passing test l (trail_of g.P.PartialEq.eq c.self.inside.sites c.args.site.now))
    c.deref.ensures.value
    ∙ c.self.invariant.4.exact c.args.site.now) in
    let within = (goes-first test c.self.inside.places.items c.in-Some.place (sym c.in-Some.is ∙ first)).within in
    search rules

pub invariant_of-self : goal.invariant_of-self
invariant_of-self g c =
    let trails : AreTrails g.P.PartialEq.eq g.T.Row.site_of c.self.inside.places.items c.first_place.new.trails =
    subst (λ l. AreTrails g.P.PartialEq.eq g.T.Row.site_of l c.first_place.new.trails) c.deref.ensures.value
    (c.first_place.ensures.trails g.T.Row.site_of (λ row. refl)
    (subst (λ l. AreTrails g.P.PartialEq.eq g.T.Row.site_of l c.self.inside.sites) (sym c.deref.ensures.value)
    c.self.invariant.4)) in
    rw c.take.ensures.after (
      Finds-clear c.in-Some.place c.self.invariant.0,
      Finds-clear c.in-Some.place c.self.invariant.1,
      Finds-clear c.in-Some.place c.self.invariant.2,
      Finds-clear c.in-Some.place c.self.invariant.3,
      Finds-clear c.in-Some.place trails,
    )

pub returns-in-Some-clause-first : goal.returns-in-Some-clause-first
returns-in-Some-clause-first g c =
    let test = has_key g.P.PartialEq.eq g.T.Row.site_of c.args.site.now in
    let first : c.first_place.result ≡ first_of (places_where test c.self.inside.places.items) =
    c.first_place.ensures.first
    ∙ ap first_of (ap (λ l. passing test l (trail_of g.P.PartialEq.eq c.self.inside.sites c.args.site.now))
    c.deref.ensures.value
    ∙ c.self.invariant.4.exact c.args.site.now) in
    let goes = goes-first test c.self.inside.places.items c.in-Some.place (sym c.in-Some.is ∙ first) in
    c.take.ensures.value
    ∙ c.index_mut.ensures.value
    ∙ get_or_default c.self.inside.places.items c.in-Some.place c.index_mut.result.now None goes.within
    ∙ goes.row
    ∙ ap (find test) c.self.view_is

pub returns-in-Some-clause-rest : goal.returns-in-Some-clause-rest
returns-in-Some-clause-rest g c =
    let test = has_key g.P.PartialEq.eq g.T.Row.site_of c.args.site.now in
    let first : c.first_place.result ≡ first_of (places_where test c.self.inside.places.items) =
    c.first_place.ensures.first
    ∙ ap first_of (ap (λ l. passing test l (trail_of g.P.PartialEq.eq c.self.inside.sites c.args.site.now))
    c.deref.ensures.value
    ∙ c.self.invariant.4.exact c.args.site.now) in
    let goes = goes-first test c.self.inside.places.items c.in-Some.place (sym c.in-Some.is ∙ first) in
    ap (λ o. rows_of (set c.self.inside.places.items c.in-Some.place o)) c.take.ensures.after
    ∙ goes.rest
    ∙ ap (without_first test) c.self.view_is

pub returns-in-None-clause-first : goal.returns-in-None-clause-first
returns-in-None-clause-first g c =
    let test = has_key g.P.PartialEq.eq g.T.Row.site_of c.args.site.now in
    let first : c.first_place.result ≡ first_of (places_where test c.self.inside.places.items) =
    c.first_place.ensures.first
    ∙ ap first_of (ap (λ l. passing test l (trail_of g.P.PartialEq.eq c.self.inside.sites c.args.site.now))
    c.deref.ensures.value
    ∙ c.self.invariant.4.exact c.args.site.now) in
    (none-goes test c.self.inside.places.items (sym c.in-None.is ∙ first)).0 ∙ ap (find test) c.self.view_is

pub returns-in-None-clause-rest : goal.returns-in-None-clause-rest
returns-in-None-clause-rest g c =
    let test = has_key g.P.PartialEq.eq g.T.Row.site_of c.args.site.now in
    let first : c.first_place.result ≡ first_of (places_where test c.self.inside.places.items) =
    c.first_place.ensures.first
    ∙ ap first_of (ap (λ l. passing test l (trail_of g.P.PartialEq.eq c.self.inside.sites c.args.site.now))
    c.deref.ensures.value
    ∙ c.self.invariant.4.exact c.args.site.now) in
    (none-goes test c.self.inside.places.items (sym c.in-None.is ∙ first)).1 ∙ ap (without_first test) c.self.view_is
