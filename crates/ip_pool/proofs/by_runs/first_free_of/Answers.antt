use Rattle.std.proofs.Common.{rules, ◌≡◌, find, sym, ◌∙◌, arith}
use Rattle.ip_pool.specs.Pool.{is_free, candidates_in}
use Rattle.ip_pool.proofs.Lists.{find-flat_map_drop}
use Rattle.ip_pool.proofs.by_runs.first_free_of.Goals as goal

pub returns-in-Some-clause-free : goal.returns-in-Some-clause-free
returns-in-Some-clause-free g c =
    let p = is_free c.args.runs.now.addresses in
    let step =
    find-flat_map_drop p candidates_in c.args.ranges.now c.loop-range.range-index c.range-item.result
    c.loop-range-test.true c.range-item.is in
    let here : c.first_free_within.result ≡ find p (candidates_in c.range-item.result) = search rules in
    sym (rw (sym here ∙ c.in-Some.is) at step) ∙ c.loop-range.invariant.sought

pub loop-range-preserved : goal.loop-range-preserved
loop-range-preserved g c =
    let p = is_free c.args.runs.now.addresses in
    let step =
    find-flat_map_drop p candidates_in c.args.ranges.now c.loop-range.range-index c.range-item.result
    c.loop-range-test.true c.range-item.is in
    let here : c.first_free_within.result ≡ find p (candidates_in c.range-item.result) = search rules in
    record {
      sought = sym (rw (sym here ∙ c.in_default.is) at step) ∙ c.loop-range.invariant.sought;
      cost = omega (arith, c.loop-range.invariant.cost, c.first_free_within.ensures.cost);
    }
