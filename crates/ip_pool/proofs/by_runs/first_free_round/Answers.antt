use Rattle.std.proofs.Common.{rules, ◌≡◌, ◌+◌, find, sym, ◌∙◌}
use Rattle.std.specs.List.{flat_map}
use Rattle.ip_pool.specs.Pool.{is_free, candidates_in, candidates_between}
use Rattle.ip_pool.proofs.Lists.{first-of_four, second-of_four, third-of_four, fourth-of_four}
use Rattle.ip_pool.proofs.by_runs.first_free_round.Goals as goal

pub returns-in-Some-clause-free : goal.returns-in-Some-clause-free
returns-in-Some-clause-free g c =
    let p = is_free c.args.runs.now.addresses in
    let r = c.args.range.now in
    let last = c.args.last.now.bits in
    let rest : c.first_free_past.result ≡ find p (candidates_between r (last + 1) (r.end.bits + 1)) = search rules in
    sym (first-of_four p (candidates_between r (last + 1) (r.end.bits + 1)) (flat_map candidates_in c.args.later.now)
    (flat_map candidates_in c.args.earlier.now) (candidates_between r r.start.bits (last + 1)) c.in-Some.addr
    (sym rest ∙ c.in-Some.is))

pub returns-in-Some-first_free_of-clause-free : goal.returns-in-Some-first_free_of-clause-free
returns-in-Some-first_free_of-clause-free g c =
    let p = is_free c.args.runs.now.addresses in
    let r = c.args.range.now in
    let last = c.args.last.now.bits in
    let rest : c.first_free_past.result ≡ find p (candidates_between r (last + 1) (r.end.bits + 1)) = search rules in
    sym (second-of_four p (candidates_between r (last + 1) (r.end.bits + 1)) (flat_map candidates_in c.args.later.now)
    (flat_map candidates_in c.args.earlier.now)
    (candidates_between r r.start.bits (last + 1)) c.in-Some-first_free_of.addr (sym rest ∙ c.in_default.is)
    (sym c.first_free_of.ensures.free ∙ c.in-Some-first_free_of.is))

pub returns-in-Some-first_free_of-2-clause-free : goal.returns-in-Some-first_free_of-2-clause-free
returns-in-Some-first_free_of-2-clause-free g c =
    let p = is_free c.args.runs.now.addresses in
    let r = c.args.range.now in
    let last = c.args.last.now.bits in
    let rest : c.first_free_past.result ≡ find p (candidates_between r (last + 1) (r.end.bits + 1)) = search rules in
    sym (third-of_four p (candidates_between r (last + 1) (r.end.bits + 1)) (flat_map candidates_in c.args.later.now)
    (flat_map candidates_in c.args.earlier.now)
    (candidates_between r r.start.bits (last + 1)) c.in-Some-first_free_of-2.addr (sym rest ∙ c.in_default.is)
    (sym c.first_free_of.ensures.free ∙ c.in_default-first_free_of.is)
    (sym c.first_free_of-2.ensures.free ∙ c.in-Some-first_free_of-2.is))

pub returns-clause-free : goal.returns-clause-free
returns-clause-free g c =
    let p = is_free c.args.runs.now.addresses in
    let r = c.args.range.now in
    let last = c.args.last.now.bits in
    let rest : c.first_free_past.result ≡ find p (candidates_between r (last + 1) (r.end.bits + 1)) = search rules in
    let home : c.first_free_within.result ≡ find p (candidates_between r r.start.bits (last + 1)) = search rules in
    home
    ∙ sym (fourth-of_four p (candidates_between r (last + 1) (r.end.bits + 1)) (flat_map candidates_in c.args.later.now)
    (flat_map candidates_in c.args.earlier.now) (candidates_between r r.start.bits (last + 1))
    (sym rest ∙ c.in_default.is) (sym c.first_free_of.ensures.free ∙ c.in_default-first_free_of.is)
    (sym c.first_free_of-2.ensures.free ∙ c.in_default-first_free_of-2.is))
