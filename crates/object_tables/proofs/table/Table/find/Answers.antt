use Rattle.std.proofs.Common.{◌≡◌, ◌∙◌, ap, Some, None, false, true, rules}
use Rattle.std.specs.{Option.option_to_list, Prelude.find}
use Rattle.indexmap.specs.IndexMap.{get}
use Rattle.object_tables.specs.{Places.at_first, Table.has_key}
use Rattle.object_tables.proofs.Places.{found-noted, passed-noted, empty-noted}
use Rattle.object_tables.proofs.table.Table.find.Goals.{in_default-via-in-Some+else-has_key, in_default-via-in_default}
use Rattle.object_tables.proofs.table.Table.find.Goals as goal

pub returns-in-Some : goal.returns-in-Some
returns-in-Some g c =
    let test = has_key g.K.PartialEq.eq g.T.Row.key_of c.args.key.now in
    let noted = get g.K.PartialEq.eq c.self.inside.by_key c.args.key.now in
    let at : at_first c.self.inside.places.items (option_to_list noted) ≡ Some c.in-Some.row.now = search rules in
    let is : test c.in-Some.row.now ≡ true = search rules in
    found-noted test c.self.inside.places.items noted c.in-Some.row.now (c.self.invariant.0.exact c.args.key.now) at is
    ∙ ap (find test) c.self.view_is

pub returns-in_default : goal.returns-in_default
returns-in_default g c =
    let test = has_key g.K.PartialEq.eq g.T.Row.key_of c.args.key.now in
    let noted = get g.K.PartialEq.eq c.self.inside.by_key c.args.key.now in
    let exact = c.self.invariant.0.exact c.args.key.now in
    elim c.in_default.branch [
      | in_default-via-in-Some+else-has_key w ↦
          (let at : at_first c.self.inside.places.items (option_to_list noted) ≡ Some w.in-Some.row.now =
          search rules in
          let is : test w.in-Some.row.now ≡ false = search rules in
          passed-noted test c.self.inside.places.items noted w.in-Some.row.now exact at is
          ∙ ap (find test) c.self.view_is)
      | in_default-via-in_default w ↦
          (let at : at_first c.self.inside.places.items (option_to_list noted) ≡ None = search rules in
          empty-noted test c.self.inside.places.items noted exact at ∙ ap (find test) c.self.view_is)
    ]
