use Rattle.std.proofs.Common.{◌≡◌, ◌∙◌, ap, [], ◌∷◌, ◌++◌, true, arith, rules}
use Rattle.std.specs.Prelude.{filter, not}
use Rattle.kernel_types.specs.contracts.keys.PoolKeyPartialEq.TheImpl.{eq-value as pool_eq-value}
use Rattle.kernel_types.specs.declared.object.Last.{Last}
use Rattle.kernel_types.proofs.Leases.{pool_itself}
use Rattle.host_tables.proofs.NewLease.{absent-lease, any-pool, on_err-with, pushed-out, same-pool}
use Rattle.host_tables.proofs.tables.pool.lease_first.Goals as goal

pub push-pushed-requires-clause-key : goal.push-pushed-requires-clause-key
push-pushed-requires-clause-key c = absent-lease c.args.lease c.args.leases.now c.requires.absent

pub returns-then-is_err-clause-err : goal.returns-then-is_err-clause-err
returns-then-is_err-clause-err c =
    let pool = c.args.pool.now in
    let own = λ (l : Last). pool_eq-value.it (record { network = l.network; set = l.set }) pool in
    let last : Last = record { network = pool.network; set = pool.set; addr = c.args.lease.addr } in
    let pushed : c.push.new.self ≡ c.args.lasts.now ++ last ∷ [] = search rules in
    let itself : own last ≡ true =
    same-pool pool last ∙ grind (arith, pool_itself pool.network pool.set c.args.lease.addr) in
    let back : c.take.new.self ≡ c.args.lasts.now =
    c.take.ensures.rest
    ∙ ap (filter (λ l. not (own l))) pushed
    ∙ pushed-out own c.args.lasts.now last (any-pool pool c.args.lasts.now ∙ c.requires.none) itself in
    on_err-with _ _ c.push-pushed.result c.push-pushed.ensures.err back
