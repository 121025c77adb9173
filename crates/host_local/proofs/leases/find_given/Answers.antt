use Rattle.std.proofs.Common.{◌∙◌, sym, ap}
use Rattle.std.specs.Option.{option_copied}
use Rattle.cni_addr.proofs.Lists.{passes-find}
use Rattle.ip_pool.specs.NextAddress.{is_between}
use Rattle.host_local.proofs.leases.find_given.Goals as goal

pub given_by-requires : goal.given_by-requires
given_by-requires c =
    passes-find (is_between c.args.addr.now) c.as_slice.result.now c.in-Some.range.now
    (sym c.range_with.ensures ∙ ap option_copied c.in-Some.is)
