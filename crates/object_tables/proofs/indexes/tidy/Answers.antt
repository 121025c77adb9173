use Rattle.std.proofs.Common.{◌≡◌, ◌∙◌, Some, ap, sym, rules}
use Rattle.std.specs.{List.list_all, Prelude.nat_lt}
use Rattle.indexmap.specs.IndexMap.{get}
use Rattle.ip_pool.proofs.InOrder.{list_all-filter}
use Rattle.object_tables.specs.{Places.{passes, passing, row_at}, Table.has_key}
use Rattle.object_tables.proofs.{Candidates.passing-twice, Noted.{passing-same, trails-trimmed}}
use Rattle.object_tables.proofs.indexes.tidy.Goals as goal

pub returns-in-Some-clause-trails : goal.returns-in-Some-clause-trails
returns-in-Some-clause-trails g c =
    let test = g.Q.Test.passes c.args.test.now in
    let was : get g.G.PartialEq.eq c.args.trails.now c.args.group.now ≡ Some c.in-Some.trail.now = search rules in
    let writes = c.get_mut.follows.holds c.keep_passing.new.trail in
    λ group_of same.
    let owned = has_key g.G.PartialEq.eq group_of c.args.group.now in
    trails-trimmed g.G.PartialEq.eq g.met.G.Eq.laws group_of c.args.places.now c.args.trails.now
    (c.get_mut.follows.lender c.keep_passing.new.trail) c.args.group.now c.in-Some.trail.now
    c.keep_passing.new.trail
    was (writes.3 (search rules)).0 (λ n h.
    ap (list_all (λ p. nat_lt p n)) c.keep_passing.ensures
    ∙ list_all-filter (λ q. nat_lt q n) (λ p. passes test (row_at c.args.places.now p))
    c.in-Some.trail.now.items h)
    (passing-same owned test (λ row. sym (same row)) c.args.places.now c.keep_passing.new.trail.items
    ∙ (ap (passing test c.args.places.now) c.keep_passing.ensures
    ∙ passing-twice test c.args.places.now c.in-Some.trail.now.items)
    ∙ passing-same test owned same c.args.places.now c.in-Some.trail.now.items)
