use Rattle.std.proofs.Common.{find, ap, ◌∙◌}
use Rattle.std.specs.{List.flat_map, Option.is_some}
use Rattle.ip_pool.specs.Pool.{candidates_in, candidates_of, is_free}
use Rattle.cni_addr.proofs.Lists.{is_some-find}
use Rattle.ip_pool.proofs.Choice.{has_free-matches}
use Rattle.ip_pool.proofs.by_runs.has_free_runs.Goals as goal

pub returns-clause-free : goal.returns-clause-free
returns-clause-free g c =
    let taken = c.args.runs.now.addresses in
    let found =
    ap is_some c.first_free_of.ensures.free
    ∙ ap (λ ranges. is_some (find (is_free taken) (flat_map candidates_in ranges))) c.as_slice.ensures in
    c.is_some.ensures ∙ found ∙ is_some-find (is_free taken) (candidates_of c.args.set.now)

pub returns-clause-left : goal.returns-clause-left
returns-clause-left g c =
    let taken = c.args.runs.now.addresses in
    let found =
    ap is_some c.first_free_of.ensures.free
    ∙ ap (λ ranges. is_some (find (is_free taken) (flat_map candidates_in ranges))) c.as_slice.ensures in
    has_free-matches c.args.set.now taken c.is_some.result
    (c.is_some.ensures ∙ found ∙ is_some-find (is_free taken) (candidates_of c.args.set.now))
