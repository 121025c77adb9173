use Rattle.std.proofs.Common.{◌≡◌, ◌∙◌, ap, Some, None, false, true, rules}
use Rattle.std.specs.{Option.option_to_list, Prelude.find}
use Rattle.indexmap.specs.IndexMap.{get}
use Rattle.object_tables.specs.{Places.at_first, Table.has_key}
use Rattle.object_tables.proofs.Places.{found-noted, passed-noted, empty-noted}
use Rattle.object_tables.proofs.table.Table.find_alias.Goals.{in_default-via-in-Some+else-has_alias}
use Rattle.object_tables.proofs.table.Table.find_alias.Goals.{in_default-via-in_default}
use Rattle.object_tables.proofs.table.Table.find_alias.Goals as goal

pub returns-in-Some : goal.returns-in-Some
returns-in-Some g c =
    let test = has_key g.L.PartialEq.eq g.T.Row.alias_of c.args.alias.now in
    let noted = get g.L.PartialEq.eq c.self.inside.by_alias c.args.alias.now in
    let at : at_first c.self.inside.places.items (option_to_list noted) ≡ Some c.in-Some.row.now = search rules in
    let is : test c.in-Some.row.now ≡ true = search rules in
    found-noted test c.self.inside.places.items noted c.in-Some.row.now (c.self.invariant.1.exact c.args.alias.now)
    at is
    ∙ ap (find test) c.self.view_is

pub returns-in_default : goal.returns-in_default
returns-in_default g c =
    let test = has_key g.L.PartialEq.eq g.T.Row.alias_of c.args.alias.now in
    let noted = get g.L.PartialEq.eq c.self.inside.by_alias c.args.alias.now in
    let exact = c.self.invariant.1.exact c.args.alias.now in
    elim c.in_default.branch [
      | in_default-via-in-Some+else-has_alias w ↦
          (let at : at_first c.self.inside.places.items (option_to_list noted) ≡ Some w.in-Some.row.now =
          search rules in
          let is : test w.in-Some.row.now ≡ false = search rules in
          passed-noted test c.self.inside.places.items noted w.in-Some.row.now exact at is
          ∙ ap (find test) c.self.view_is)
      | in_default-via-in_default w ↦
          (let at : at_first c.self.inside.places.items (option_to_list noted) ≡ None = search rules in
          empty-noted test c.self.inside.places.items noted exact at ∙ ap (find test) c.self.view_is)
    ]
