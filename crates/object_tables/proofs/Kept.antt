-- The addresses that are leased, network by network.
use Rattle.std.proofs.Common.{◌≡◌, ◌<◌, ℕ, suc, ◌+◌, Bool, true, false, cond, ◌&&◌, ◌||◌, not, List, [], ◌∷◌, ◌++◌}
use Rattle.std.proofs.Common.{Option, Some, None, Bor, refl, sym, ◌∙◌, ap, subst, length, get_or, set, take, drop}
use Rattle.std.proofs.{Common.arith, lemmas.List.{set-get_or, set_split, take_more, Folds.list_any-append}}
use Rattle.std.proofs.lemmas.Slice.Eq.{bytes_eq-Decides}
use Rattle.std.specs.{Cmp.Lexicographic.nat_list_eq_equiv, List.list_any, Option.{option_copied, option_map_or}}
use Rattle.std.specs.{Prelude.{find, unwrap_or}, Str.bytes_eq}
use Rattle.cni_addr.specs.{Equal.addr_eq, Lists.{distinct, without_first}, declared.address.Addr.Addr}
use Rattle.cni_addr.proofs.Lists.{list_any-found, none-later}
use Rattle.indexmap.specs.IndexMap.{IndexMap}
use Rattle.ip_pool.specs.{AddrSets.AddrSet, NextAddress.is_taken}
use Rattle.ip_pool.proofs.Addresses.{same-address, addr_eq-itself}
use Rattle.kernel_types.specs.{Keys.is_same_lease, Sound.HasDistinctKeys, Terms.{addresses_in, is_lease_at}}
use Rattle.kernel_types.specs.declared.object.Lease.{Lease}
use Rattle.kernel_types.proofs.ListLemmas.{list_any-map_filter}
use Rattle.object_tables.specs.Leased.{kept_for, AreLeased}
use Rattle.object_tables.proofs.{KeysOnce.none-earlier, Lists.not_passing}

-- the set that is kept, or the empty one
pub kept-chosen : (o : Option (Bor AddrSet)) (none : Bor AddrSet) → none.now.addresses ≡ []
    → (unwrap_or o none).now.addresses ≡ option_map_or (λ set. set.addresses) (option_copied o) []
kept-chosen None none h = h
kept-chosen (Some set) none h = refl

-- ---- one goes

module _ {X : Type 0} (same : X → X → Bool) (own p : X → Bool)
    (key : (x y : X) → p x ≡ true → p y ≡ true → same x y ≡ true) where
  left-step : (x l : X) (xs : List X) → distinct same (x ∷ xs) ≡ true
      → (find own xs ≡ Some l → list_any p (without_first own xs) ≡ (list_any p xs && not (p l)))
      → (b : Bool) → own x ≡ b → cond b (Some x) (find own xs) ≡ Some l
      → list_any p (cond b xs (x ∷ without_first own xs)) ≡ (list_any p (x ∷ xs) && not (p l))
  left-step x l xs d later true e f =
      let is : x ≡ l = cc in subst (λ m. list_any p xs ≡ (list_any p (x ∷ xs) && not (p m))) is (gone (p x) refl)
    where
      gone : (b : Bool) → p x ≡ b → list_any p xs ≡ ((b || list_any p xs) && not b)
      gone true h = none-later same p key x xs d h
      gone false h = grind arith
  left-step x l xs d later false e f = stays (p x) refl
    where
      stays : (b : Bool) → p x ≡ b → (b || list_any p (without_first own xs)) ≡ ((b || list_any p xs) && not (p l))
      stays true h =
          let none = none-later same p key x xs d h in
          sym (ap not (not_passing (p l) (list_any p xs) (list_any-found own p xs l f) none))
      stays false h = later f

  pub any-left : (xs : List X) (l : X) → distinct same xs ≡ true → find own xs ≡ Some l
      → list_any p (without_first own xs) ≡ (list_any p xs && not (p l))
  any-left [] l d f = cc
  any-left (x ∷ xs) l d f = left-step x l xs d (any-left xs l (grind (arith, d))) (own x) refl f

same_lease : (network : List ℕ) (addr : Addr) (x y : Lease) → is_lease_at network addr x ≡ true
    → is_lease_at network addr y ≡ true → is_same_lease y x ≡ true
same_lease network addr x y hx hy =
    let xn : x.network ≡ network = (bytes_eq-Decides x.network network).0 (grind (arith, hx)) in
    let yn : y.network ≡ network = (bytes_eq-Decides y.network network).0 (grind (arith, hy)) in
    let xa : x.addr ≡ addr = same-address x.addr addr (grind (arith, hx)) in
    let ya : y.addr ≡ addr = same-address y.addr addr (grind (arith, hy)) in
    ap (λ n. bytes_eq n y.network && addr_eq x.addr y.addr) (xn ∙ sym yn)
    ∙ ap (λ a. bytes_eq y.network y.network && addr_eq a y.addr) (xa ∙ sym ya)
    ∙ grind (arith, nat_list_eq_equiv.refl y.network, addr_eq-itself y.addr)

-- an address is taken where some lease of the network has it
pub taken-leased : (leases : List Lease) (network : List ℕ) (addr : Addr)
    → is_taken (addresses_in leases network) addr ≡ list_any (is_lease_at network addr) leases
taken-leased leases network addr =
    list_any-map_filter (λ a. addr_eq a addr) (λ l. l.addr) (λ l. bytes_eq l.network network) leases

module _ (own : Lease → Bool) (leases : List Lease) (l : Lease) (keys : HasDistinctKeys is_same_lease leases)
    (found : find own leases ≡ Some l) where
  taken-gone : (network : List ℕ) (addr : Addr)
      → is_taken (addresses_in (without_first own leases) network) addr
      ≡ (is_taken (addresses_in leases network) addr && not (is_lease_at network addr l))
  taken-gone network addr =
      taken-leased (without_first own leases) network addr
      ∙ any-left (λ a b. is_same_lease b a) own (is_lease_at network addr) (same_lease network addr) leases l keys found
      ∙ ap (λ b. b && not (is_lease_at network addr l)) (sym (taken-leased leases network addr))

  -- its address goes out of what is kept for its network
  pub AreLeased-gone : {S : Type 0} (old new : IndexMap (List ℕ) AddrSet S)
      → ((n : List ℕ) (a : Addr)
      → is_taken (kept_for new n) a ≡ (is_taken (kept_for old n) a && not (is_lease_at n a l)))
      → AreLeased old leases → AreLeased new (without_first own leases)
  AreLeased-gone old new says was network addr =
      says network addr
      ∙ ap (λ b. b && not (is_lease_at network addr l)) (was network addr)
      ∙ sym (taken-gone network addr)

-- ---- one comes

-- its address is kept for its network
pub AreLeased-new : {S : Type 0} (old new : IndexMap (List ℕ) AddrSet S) (leases : List Lease) (lease : Lease)
    → ((n : List ℕ) (a : Addr)
    → is_taken (kept_for new n) a
    ≡ (bytes_eq lease.network n && addr_eq lease.addr a || is_taken (kept_for old n) a))
    → AreLeased old leases → AreLeased new (leases ++ lease ∷ [])
AreLeased-new old new leases lease says was n a =
    says n a ∙ ap (λ b. bytes_eq lease.network n && addr_eq lease.addr a || b) (was n a ∙ taken-leased leases n a)
    ∙ grind (arith, list_any-append (is_lease_at n a) leases (lease ∷ []), taken-leased (leases ++ lease ∷ []) n a)

-- ---- the addresses of the leases so far

module _ (leases : List Lease) (i : ℕ) (lease : Lease) (below : i < length leases)
    (at : lease ≡ get_or leases i lease) where
  pub address-free : HasDistinctKeys is_same_lease leases
      → is_taken (addresses_in (take i leases) lease.network) lease.addr ≡ false
  address-free once =
      let here : take i leases ++ lease ∷ drop (suc i) leases ≡ leases =
      sym (set_split leases i lease below) ∙ ap (set leases i) at ∙ set-get_or leases i lease in
      taken-leased (take i leases) lease.network lease.addr
      ∙ none-earlier (λ y x. is_same_lease x y) (take i leases) lease (drop (suc i) leases)
      (ap (distinct (λ y x. is_same_lease x y)) here ∙ once)

  pub AreLeased-more : {S : Type 0} (old new : IndexMap (List ℕ) AddrSet S)
      → ((n : List ℕ) (a : Addr)
      → is_taken (kept_for new n) a
      ≡ (bytes_eq lease.network n && addr_eq lease.addr a || is_taken (kept_for old n) a))
      → AreLeased old (take i leases) → AreLeased new (take (i + 1) leases)
  AreLeased-more old new says was =
      subst (AreLeased new) (ap (λ l. take i leases ++ l ∷ []) at ∙ sym (take_more leases i lease below))
      (AreLeased-new old new (take i leases) lease says was)
