use Rattle.std.proofs.Common.{◌≡◌, ◌∙◌, ap, sym, true, false}
use Rattle.std.specs.{List.list_any, Prelude.is_some}
use Rattle.cni_addr.proofs.{Lists.is_some-find, Options.is_some-option_copied}
use Rattle.kernel_types.specs.Terms.{is_of_pool}
use Rattle.host_tables.proofs.NewLease.{any-pool}
use Rattle.host_tables.proofs.tables.pool.push_lease.Goals as goal

pub lease_first-requires-clause-none : goal.lease_first-requires-clause-none
lease_first-requires-clause-none c =
    let there =
    c.is_some.ensures
    ∙ is_some-option_copied c.find.result
    ∙ ap is_some c.find.ensures
    ∙ is_some-find _ c.args.lasts.now
    ∙ any-pool c.args.pool.now c.args.lasts.now in
    sym there ∙ c.if-is_some.false

pub returns-then-is_some-clause-lasts : goal.returns-then-is_some-clause-lasts
returns-then-is_some-clause-lasts c =
    let there =
    c.is_some.ensures
    ∙ is_some-option_copied c.find.result
    ∙ ap is_some c.find.ensures
    ∙ is_some-find _ c.args.lasts.now
    ∙ any-pool c.args.pool.now c.args.lasts.now in
    let is : list_any (is_of_pool c.args.pool.now.network c.args.pool.now.set) c.args.lasts.now ≡ true =
    sym there ∙ c.if-is_some.true in
    rw is c.lease_again.ensures.lasts

pub returns-else-is_some-clause-lasts : goal.returns-else-is_some-clause-lasts
returns-else-is_some-clause-lasts c =
    let there =
    c.is_some.ensures
    ∙ is_some-option_copied c.find.result
    ∙ ap is_some c.find.ensures
    ∙ is_some-find _ c.args.lasts.now
    ∙ any-pool c.args.pool.now c.args.lasts.now in
    let is : list_any (is_of_pool c.args.pool.now.network c.args.pool.now.set) c.args.lasts.now ≡ false =
    sym there ∙ c.if-is_some.false in
    rw is c.lease_first.ensures.lasts
