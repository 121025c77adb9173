use Rattle.std.proofs.Common.{◌≡◌, find, ap, ◌∙◌}
use Rattle.std.specs.{List.flat_map, Option.is_some}
use Rattle.ip_pool.specs.Pool.{candidates_in, candidates_of, is_free, has_free_of}
use Rattle.cni_addr.proofs.Lists.{is_some-find}
use Rattle.ip_pool.proofs.Choice.{has_free-matches}
use Rattle.ip_pool.proofs.has_free.Goals as goal

pub returns : goal.returns
returns g c =
    let taken = g.T.Taken.taken c.args.taken.now in
    let found =
    ap is_some c.first_free.ensures
    ∙ ap (λ ranges. is_some (find (is_free taken) (flat_map candidates_in ranges))) c.as_slice.ensures in
    let free : c.is_some.result ≡ has_free_of c.args.set.now taken =
    c.is_some.ensures ∙ found ∙ is_some-find (is_free taken) (candidates_of c.args.set.now) in
    record { free = free; left = has_free-matches c.args.set.now taken c.is_some.result free }
