use Rattle.std.proofs.{Common.{◌≡◌, ◌∙◌, ap, sym, [], ◌∷◌, Some, None, length, set, rules}, lemmas.List.get_or_default}
use Rattle.std.specs.{Option.{option_map, option_to_list}, Prelude.{map, if◌then◌else◌}, Str.bytes_eq}
use Rattle.indexmap.specs.IndexMap.{get}
use Rattle.object_tables.specs.{Places.{passing, places_where, rows_of}, Table.{has_key, is_key}}
use Rattle.object_tables.proofs.{Candidates.Finds-changed, Places.{rows_of-changed, unless-test, noted-within}}
use Rattle.object_tables.proofs.Places.{none-changed}
use Rattle.object_tables.proofs.table.Table.update.Goals as goal

pub invariant_of-self : goal.invariant_of-self
invariant_of-self g c =
    let test = has_key g.K.PartialEq.eq g.T.Row.key_of c.args.key.now in
    let f = g.C.Change.changed c.args.change.now in
    let noted : get g.K.PartialEq.eq c.self.inside.by_key c.args.key.now ≡ Some c.in-Some.place = search rules in
    let within =
    noted-within (length c.self.inside.places.items) c.in-Some.place _ noted
    (c.self.invariant.0.inside c.args.key.now) in
    let here =
    c.index_mut.ensures.value
    ∙ get_or_default c.self.inside.places.items c.in-Some.place c.index_mut.result.now None within in
    let is = c.change_if.ensures ∙ ap (option_map (λ row. if test row then f row else row)) here in
    rw is (
      Finds-changed (λ row. if test row then f row else row) c.in-Some.place
          (λ k x. ap (λ o. is_key g.K.PartialEq.eq o k) (unless-test g.T.Row.key_of test f c.requires.key x))
          c.self.invariant.0,
      Finds-changed (λ row. if test row then f row else row) c.in-Some.place
          (λ k x. ap (λ o. is_key g.L.PartialEq.eq o k) (unless-test g.T.Row.alias_of test f c.requires.alias x))
          c.self.invariant.1,
      Finds-changed (λ row. if test row then f row else row) c.in-Some.place
          (λ k x. ap (λ o. is_key g.O.PartialEq.eq o k) (unless-test g.T.Row.owner_of test f c.requires.owner x))
          c.self.invariant.2,
      Finds-changed (λ row. if test row then f row else row) c.in-Some.place
          (λ k x. ap (λ o. is_key bytes_eq o k) (unless-test g.T.Row.network_of test f c.requires.network x))
          c.self.invariant.3,
      Finds-changed (λ row. if test row then f row else row) c.in-Some.place
          (λ k x. ap (λ o. is_key g.P.PartialEq.eq o k) (unless-test g.T.Row.site_of test f c.requires.site x))
          c.self.invariant.4,
    )

pub returns-in-Some : goal.returns-in-Some
returns-in-Some g c =
    let test = has_key g.K.PartialEq.eq g.T.Row.key_of c.args.key.now in
    let f = g.C.Change.changed c.args.change.now in
    let noted : get g.K.PartialEq.eq c.self.inside.by_key c.args.key.now ≡ Some c.in-Some.place = search rules in
    let within =
    noted-within (length c.self.inside.places.items) c.in-Some.place _ noted
    (c.self.invariant.0.inside c.args.key.now) in
    let here =
    c.index_mut.ensures.value
    ∙ get_or_default c.self.inside.places.items c.in-Some.place c.index_mut.result.now None within in
    let exact : passing test c.self.inside.places.items (c.in-Some.place ∷ [])
    ≡ places_where test c.self.inside.places.items =
    ap (λ o. passing test c.self.inside.places.items (option_to_list o)) (sym noted)
    ∙ c.self.invariant.0.exact c.args.key.now in
    ap (λ o. rows_of (set c.self.inside.places.items c.in-Some.place o))
    (c.change_if.ensures ∙ ap (option_map (λ row. if test row then f row else row)) here)
    ∙ rows_of-changed test f c.self.inside.places.items c.in-Some.place exact
    ∙ ap (map (λ row. if test row then f row else row)) c.self.view_is

pub returns-in_default : goal.returns-in_default
returns-in_default g c =
    let test = has_key g.K.PartialEq.eq g.T.Row.key_of c.args.key.now in
    let f = g.C.Change.changed c.args.change.now in
    let none : get g.K.PartialEq.eq c.self.inside.by_key c.args.key.now ≡ None = search rules in
    let nowhere : [] ≡ places_where test c.self.inside.places.items =
    ap (λ o. passing test c.self.inside.places.items (option_to_list o)) (sym none)
    ∙ c.self.invariant.0.exact c.args.key.now in
    sym c.self.view_is
    ∙ none-changed test f c.self.inside.places.items nowhere
    ∙ ap (map (λ row. if test row then f row else row)) c.self.view_is
