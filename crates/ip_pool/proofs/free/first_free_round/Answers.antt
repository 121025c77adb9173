use Rattle.std.proofs.Common.{◌≡◌, rules, ◌+◌, find}
use Rattle.std.specs.{List.flat_map, Option.option_or}
use Rattle.ip_pool.specs.Pool.{is_free, candidates_in, candidates_between}
use Rattle.ip_pool.proofs.Lists.{find-four}
use Rattle.ip_pool.proofs.free.first_free_round.Goals as goal

pub returns : goal.returns
returns g c =
    let p = is_free (g.T.Taken.taken c.args.taken.now) in
    let r = c.args.range.now in
    let last = c.args.last.now.bits in
    let rest : c.first_free_past.result ≡ find p (candidates_between r (last + 1) (r.end.bits + 1)) = search rules in
    let later : c.or_else.result
    ≡ option_or c.first_free_past.result (find p (flat_map candidates_in c.args.later.now)) = search rules in
    let earlier : c.or_else-2.result ≡ option_or c.or_else.result (find p (flat_map candidates_in c.args.earlier.now)) =
    search rules in
    let start : c.or_else-3.result
    ≡ option_or c.or_else-2.result (find p (candidates_between r r.start.bits (last + 1))) = search rules in
    let all =
    find-four p (candidates_between r (last + 1) (r.end.bits + 1)) (flat_map candidates_in c.args.later.now)
    (flat_map candidates_in c.args.earlier.now) (candidates_between r r.start.bits (last + 1)) in
    cc
