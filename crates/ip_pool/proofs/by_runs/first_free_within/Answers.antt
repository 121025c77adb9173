use Rattle.std.proofs.Common.{rules, ◌≡◌, ◌-◌, ◌+◌, find, ap, sym, ◌∙◌}
use Rattle.ip_pool.specs.Pool.{is_free, run_of}
use Rattle.ip_pool.proofs.RunSearch.{no_gateway, find-before_gateway, find-after_gateway}
use Rattle.ip_pool.proofs.by_runs.first_free_within.Goals as goal

pub returns-then-not-has_gateway-clause-free : goal.returns-then-not-has_gateway-clause-free
returns-then-not-has_gateway-clause-free g c =
    c.first_free_address.ensures.free
    ∙ sym (ap (find (is_free c.args.runs.now.addresses))
    (no_gateway c.args.range.now c.args.low c.args.high (sym c.has_gateway.ensures ∙ c.if-not-has_gateway.true)))

pub returns-in-Some-clause-free : goal.returns-in-Some-clause-free
returns-in-Some-clause-free g c =
    let r = c.args.range.now in
    let taken = c.args.runs.now.addresses in
    let below : c.first_free_below.result
    ≡ find (is_free taken) (run_of r.start.family c.args.low (r.gateway.bits - c.args.low)) = search rules in
    find-before_gateway taken r c.args.low c.args.high c.in-Some.addr
    (sym c.has_gateway.ensures ∙ c.if-not-has_gateway.false) (sym c.in-Some.is ∙ below)

pub returns-in-None-clause-free : goal.returns-in-None-clause-free
returns-in-None-clause-free g c =
    let r = c.args.range.now in
    let taken = c.args.runs.now.addresses in
    let below : c.first_free_below.result
    ≡ find (is_free taken) (run_of r.start.family c.args.low (r.gateway.bits - c.args.low)) = search rules in
    let above : c.first_free_above.result
    ≡ find (is_free taken) (run_of r.start.family (r.gateway.bits + 1) (c.args.high - r.gateway.bits)) = search rules in
    find-after_gateway taken r c.args.low c.args.high c.first_free_above.result
    (sym c.has_gateway.ensures ∙ c.if-not-has_gateway.false) (sym c.in-None.is ∙ below) above
