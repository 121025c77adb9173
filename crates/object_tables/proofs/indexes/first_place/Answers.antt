use Rattle.std.proofs.Common.{◌≡◌, ◌∙◌, Some, ap, sym, rules}
use Rattle.std.specs.{List.list_all, Prelude.nat_lt}
use Rattle.indexmap.specs.IndexMap.{get}
use Rattle.object_tables.specs.Table.{has_key}
use Rattle.object_tables.proofs.{Candidates.inside-drop, Noted.{passing-same, trails-trimmed}}
use Rattle.object_tables.proofs.indexes.first_place.Goals as goal

pub returns-in-Some-clause-trails : goal.returns-in-Some-clause-trails
returns-in-Some-clause-trails g c =
    let test = g.Q.Test.passes c.args.test.now in
    let was : get g.G.PartialEq.eq c.args.trails.now c.args.group.now ≡ Some c.in-Some.trail.now = search rules in
    let writes = c.get_mut.follows.holds c.first_in.new.trail in
    λ group_of same.
    let owned = has_key g.G.PartialEq.eq group_of c.args.group.now in
    trails-trimmed g.G.PartialEq.eq g.met.G.Eq.laws group_of c.args.places.now c.args.trails.now
    (c.get_mut.follows.lender c.first_in.new.trail) c.args.group.now c.in-Some.trail.now c.first_in.new.trail
    was (writes.3 (search rules)).0 (λ n h.
    ap (list_all (λ p. nat_lt p n)) c.first_in.ensures.kept.1
    ∙ inside-drop n c.first_in.ensures.kept.0 c.in-Some.trail.now.items h)
    (passing-same owned test (λ row. sym (same row)) c.args.places.now c.first_in.new.trail.items
    ∙ c.first_in.ensures.rest
    ∙ passing-same test owned same c.args.places.now c.in-Some.trail.now.items)
