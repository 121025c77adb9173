use Rattle.std.proofs.Common.{◌≡◌, ◌∙◌, ap, sym, [], ◌∷◌, Some, None, false, true, set, rules}
use Rattle.std.proofs.lemmas.List.{get_or_default}
use Rattle.std.specs.{Option.option_to_list, Prelude.{find, filter, not}}
use Rattle.indexmap.specs.IndexMap.{get}
use Rattle.object_tables.specs.{Places.{passes, passing, places_where, row_at, rows_of}, Table.has_key}
use Rattle.object_tables.proofs.{Candidates.Finds-clear, Places.{goes-alone, none-alone, not-passing}}
use Rattle.object_tables.proofs.table.Table.take.Goals.{in_default-via-in-Some+else-is_keyed_at}
use Rattle.object_tables.proofs.table.Table.take.Goals.{in_default-via-in_default}
use Rattle.object_tables.proofs.table.Table.take.Goals as goal

pub invariant_of-self : goal.invariant_of-self
invariant_of-self g c =
    rw c.take.ensures.after (
      Finds-clear c.in-Some.place c.self.invariant.0,
      Finds-clear c.in-Some.place c.self.invariant.1,
      Finds-clear c.in-Some.place c.self.invariant.2,
      Finds-clear c.in-Some.place c.self.invariant.3,
      Finds-clear c.in-Some.place c.self.invariant.4,
    )

pub returns-in-Some-clause-row : goal.returns-in-Some-clause-row
returns-in-Some-clause-row g c =
    let test = has_key g.K.PartialEq.eq g.T.Row.key_of c.args.key.now in
    let noted : get g.K.PartialEq.eq c.self.inside.by_key c.args.key.now ≡ Some c.in-Some.place = search rules in
    let exact : passing test c.self.inside.places.items (c.in-Some.place ∷ [])
    ≡ places_where test c.self.inside.places.items =
    ap (λ o. passing test c.self.inside.places.items (option_to_list o)) (sym noted)
    ∙ c.self.invariant.0.exact c.args.key.now in
    let keyed : passes test (row_at c.self.inside.places.items c.in-Some.place) ≡ true = search rules in
    let goes = goes-alone test c.self.inside.places.items c.in-Some.place exact keyed in
    c.take.ensures.value
    ∙ c.index_mut.ensures.value
    ∙ get_or_default c.self.inside.places.items c.in-Some.place c.index_mut.result.now None goes.within
    ∙ goes.row
    ∙ ap (find test) c.self.view_is

pub returns-in-Some-clause-rest : goal.returns-in-Some-clause-rest
returns-in-Some-clause-rest g c =
    let test = has_key g.K.PartialEq.eq g.T.Row.key_of c.args.key.now in
    let noted : get g.K.PartialEq.eq c.self.inside.by_key c.args.key.now ≡ Some c.in-Some.place = search rules in
    let exact : passing test c.self.inside.places.items (c.in-Some.place ∷ [])
    ≡ places_where test c.self.inside.places.items =
    ap (λ o. passing test c.self.inside.places.items (option_to_list o)) (sym noted)
    ∙ c.self.invariant.0.exact c.args.key.now in
    let keyed : passes test (row_at c.self.inside.places.items c.in-Some.place) ≡ true = search rules in
    let goes = goes-alone test c.self.inside.places.items c.in-Some.place exact keyed in
    ap (λ o. rows_of (set c.self.inside.places.items c.in-Some.place o)) c.take.ensures.after
    ∙ goes.rest
    ∙ ap (filter (λ row. not (test row))) c.self.view_is

pub returns-in_default-clause-row : goal.returns-in_default-clause-row
returns-in_default-clause-row g c =
    let test = has_key g.K.PartialEq.eq g.T.Row.key_of c.args.key.now in
    let noted = get g.K.PartialEq.eq c.self.inside.by_key c.args.key.now in
    let exact = c.self.invariant.0.exact c.args.key.now in
    elim c.in_default.branch [
      | in_default-via-in-Some+else-is_keyed_at w ↦
          (let at : noted ≡ Some w.in-Some.place = search rules in
          let is : passes test (row_at c.self.inside.places.items w.in-Some.place) ≡ false = search rules in
          (none-alone test c.self.inside.places.items noted exact
          (ap (λ o. passing test c.self.inside.places.items (option_to_list o)) at
          ∙ not-passing test c.self.inside.places.items w.in-Some.place is)).0
          ∙ ap (find test) c.self.view_is)
      | in_default-via-in_default w ↦
          (let at : noted ≡ None = search rules in
          (none-alone test c.self.inside.places.items noted exact
          (ap (λ o. passing test c.self.inside.places.items (option_to_list o)) at)).0
          ∙ ap (find test) c.self.view_is)
    ]

pub returns-in_default-clause-rest : goal.returns-in_default-clause-rest
returns-in_default-clause-rest g c =
    let test = has_key g.K.PartialEq.eq g.T.Row.key_of c.args.key.now in
    let noted = get g.K.PartialEq.eq c.self.inside.by_key c.args.key.now in
    let exact = c.self.invariant.0.exact c.args.key.now in
    elim c.in_default.branch [
      | in_default-via-in-Some+else-is_keyed_at w ↦
          (let at : noted ≡ Some w.in-Some.place = search rules in
          let is : passes test (row_at c.self.inside.places.items w.in-Some.place) ≡ false = search rules in
          sym c.self.view_is
          ∙ (none-alone test c.self.inside.places.items noted exact
          (ap (λ o. passing test c.self.inside.places.items (option_to_list o)) at
          ∙ not-passing test c.self.inside.places.items w.in-Some.place is)).1
          ∙ ap (filter (λ row. not (test row))) c.self.view_is)
      | in_default-via-in_default w ↦
          (let at : noted ≡ None = search rules in
          sym c.self.view_is
          ∙ (none-alone test c.self.inside.places.items noted exact
          (ap (λ o. passing test c.self.inside.places.items (option_to_list o)) at)).1
          ∙ ap (filter (λ row. not (test row))) c.self.view_is)
    ]
