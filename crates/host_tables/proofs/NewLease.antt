-- A lease that comes, and the last of its pool.
use Rattle.std.proofs.Common.{◌≡◌, Bool, true, false, not, List, [], ◌∷◌, ◌++◌, Some, ◌∙◌, ap, subst, arith}
use Rattle.std.specs.{List.list_any, Prelude.{filter, Result, Ok, Err, OnErr}}
use Rattle.kernel_types.specs.Terms.{is_lease_at, is_of_pool}
use Rattle.kernel_types.specs.contracts.keys.PoolKeyPartialEq.TheImpl.{eq-value as pool_eq-value}
use Rattle.kernel_types.specs.contracts.object.LeasePartialEq.TheImpl.{eq-value as lease_eq-value}
use Rattle.kernel_types.specs.declared.{keys.PoolKey.PoolKey, object.{Last.Last, Lease.Lease}}
use Rattle.kernel_types.proofs.ListLemmas.{filter-push_dropped, list_any-none}
use Rattle.object_tables.specs.Table.{has_key}
use Rattle.object_tables.proofs.Lists.{filter-none}

-- a lease whose address none has is not there
pub absent-lease : (lease : Lease) (leases : List Lease)
    → list_any (is_lease_at lease.network lease.addr) leases ≡ false
    → (key : Lease) → Some lease ≡ Some key → list_any (has_key lease_eq-value.it (λ l. Some l) key) leases ≡ false
absent-lease lease leases none key e =
    let is : lease ≡ key = cc in
    subst (λ k. list_any (has_key lease_eq-value.it (λ l. Some l) k) leases ≡ false) is
    (list_any-none (λ row. lease_eq-value.it row lease) (is_lease_at lease.network lease.addr)
    (λ row h. grind (arith, h)) leases none)

-- what `==` computes of a pool
pub same-pool : (pool : PoolKey) (last : Last)
    → pool_eq-value.it (record { network = last.network; set = last.set }) pool ≡ is_of_pool pool.network pool.set last
same-pool pool last = grind arith

pub any-pool : (pool : PoolKey) (lasts : List Last)
    → list_any (λ l. pool_eq-value.it (record { network = l.network; set = l.set }) pool) lasts
    ≡ list_any (is_of_pool pool.network pool.set) lasts
any-pool pool lasts = λ i. list_any (λ l. same-pool pool l i) lasts

-- the one that came goes again
pub pushed-out : {X : Type 0} (t : X → Bool) (xs : List X) (x : X) → list_any t xs ≡ false → t x ≡ true
    → filter (λ y. not (t y)) (xs ++ x ∷ []) ≡ xs
pushed-out t xs x none own = filter-push_dropped (λ y. not (t y)) xs x (ap not own) ∙ filter-none t xs none

pub on_err-with : {T E : Type 0} (A B : Type 0) (r : Result T E) → OnErr r A → B → OnErr r (A × B)
on_err-with A B (Ok x) a b = a
on_err-with A B (Err e) a b = (a, b)
