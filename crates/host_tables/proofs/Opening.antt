-- The lists of a sound host, in each of which a key stands once.
use Rattle.std.proofs.Common.{◌≡◌, Bool, true, false, true≢false, List, [], ◌∷◌, Option, Some, None, refl, sym, ◌∙◌, ap}
use Rattle.std.proofs.Common.{set, arith}
use Rattle.std.specs.{Cmp.Lexicographic.nat_list_eq_equiv, List.list_any, Option.option_map_or, Prelude.{not, ◌&&◌}}
use Rattle.std.specs.{Prelude.if◌then◌else◌, Str.bytes_eq}
use Rattle.cni_addr.specs.Lists.{distinct}
use Rattle.kernel_types.specs.{Equal.tag_eq, Keys.{is_same_addr, is_same_cached, is_same_last, is_same_lease}}
use Rattle.kernel_types.specs.Keys.{is_same_link, is_same_namespace, is_same_route, is_same_rule, is_same_setting}
use Rattle.kernel_types.specs.{Sound.HasDistinctKeys, Terms.is_host_ns}
use Rattle.kernel_types.specs.contracts.keys.AddrKeyPartialEq.TheImpl.{eq-value as addr_key-value}
use Rattle.kernel_types.specs.contracts.keys.PoolKeyPartialEq.TheImpl.{eq-value as pool-value}
use Rattle.kernel_types.specs.contracts.keys.RouteKeyPartialEq.TheImpl.{eq-value as route_key-value}
use Rattle.kernel_types.specs.contracts.keys.SettingKeyPartialEq.TheImpl.{eq-value as setting_key-value}
use Rattle.kernel_types.specs.contracts.object.AddrObjPartialEq.TheImpl.{eq-value as addr_obj-value}
use Rattle.kernel_types.specs.contracts.object.AttPartialEq.TheImpl.{eq-value as att-value}
use Rattle.kernel_types.specs.contracts.object.LeasePartialEq.TheImpl.{eq-value as lease-value}
use Rattle.kernel_types.specs.contracts.object.LinkKeyPartialEq.TheImpl.{eq-value as link_key-value}
use Rattle.kernel_types.specs.contracts.object.RouteObjPartialEq.TheImpl.{eq-value as route-value}
use Rattle.kernel_types.specs.contracts.object.SettingPartialEq.TheImpl.{eq-value as setting-value}
use Rattle.kernel_types.specs.contracts.rule.RulePartialEq.TheImpl.{eq-value as rule-value}
use Rattle.kernel_types.specs.declared.{keys.PoolKey.PoolKey, object.{AddrObj.AddrObj, CachedObj.CachedObj, Last.Last}}
use Rattle.kernel_types.specs.declared.object.{Lease.Lease, Link.Link, LinkKey.LinkKey, NsObj.NsObj, RouteObj.RouteObj}
use Rattle.kernel_types.specs.declared.object.{Setting.Setting, Tag.{Tag, TheVariants.{Outside, Base, Own}}}
use Rattle.kernel_types.specs.declared.rule.Rule.{Rule}
use Rattle.kernel_types.proofs.ListLemmas.{list_any-none}
use Rattle.object_tables.specs.{Rows.{host_name, owner_named}, Table.{is_key, has_same_key, HasEachKeyOnce}}
use Rattle.object_tables.proofs.Noted.{any-false}
use Rattle.host_tables.proofs.Added.{addr_key, addr-keyed, route_key, route-keyed, rule-same, setting_key}
use Rattle.host_tables.proofs.{Added.setting-keyed, Free.{host-alike, host-named}, NewLease.same-pool, Owned.att-same}

distinct-finer : {X : Type 0} (same finer : X → X → Bool) → ((x y : X) → finer x y ≡ true → same x y ≡ true)
    → (xs : List X) → distinct same xs ≡ true → distinct finer xs ≡ true
distinct-finer same finer h [] d = refl
distinct-finer same finer h (x ∷ xs) d =
    let none : list_any (finer x) xs ≡ false = list_any-none (finer x) (same x) (h x) xs (grind (arith, d)) in
    let rest : distinct finer xs ≡ true = distinct-finer same finer h xs (grind (arith, d)) in
    grind (arith, none, rest)

abbrev link_key : Link → Option LinkKey
link_key l = Some (record { ns = l.ns; name = l.name })

abbrev pool_key : Last → PoolKey
pool_key l = record { network = l.network; set = l.set }

-- where rows of one key are the same
once-if : {K T : Type 0} (eq : K → K → Bool) (key_of : T → Option K) (is_same : T → T → Bool)
    → ((new row : T) → has_same_key eq key_of new row ≡ true → is_same new row ≡ true)
    → (rows : List T) → HasDistinctKeys is_same rows → HasEachKeyOnce eq key_of rows
once-if eq key_of is_same h rows once =
    distinct-finer (λ a b. is_same b a) (λ a b. has_same_key eq key_of b a) (λ x y. h y x) rows once

-- where no row has a key
pub once-none : {K T : Type 0} (eq : K → K → Bool) (rows : List T) → HasEachKeyOnce eq (λ row. None) rows
once-none eq [] = refl
once-none {K} {T} eq (row ∷ rows) =
    let none : T → Option K = λ row. None in
    ap (λ b. not b && distinct (λ older newer. has_same_key eq none newer older) rows) (any-false rows)
    ∙ once-none eq rows

module _ (namespaces : List NsObj) (once : HasDistinctKeys is_same_namespace namespaces) where
  pub namespace-keys : HasEachKeyOnce bytes_eq (λ (n : NsObj). Some n.name) namespaces
  namespace-keys = once-if bytes_eq (λ (n : NsObj). Some n.name) is_same_namespace (λ new row h. h) namespaces once

link-same : (new row : Link) → has_same_key link_key-value.it link_key new row ≡ true → is_same_link new row ≡ true
link-same new row h = grind (arith, h)

named-same : (b : Bool) (new row : Link) → is_host_ns new.ns ≡ b
    → option_map_or (λ name. is_key bytes_eq (host_name row) name) (if b then Some new.name else None) false ≡ true
    → is_same_link new row ≡ true
named-same true new row e h =
    host-alike new.name row new (sym (host-named new.name row) ∙ h) (grind (arith, e, nat_list_eq_equiv.refl new.name))
named-same false new row e h = absurd (true≢false (sym h))

module _ (links : List Link) (once : HasDistinctKeys is_same_link links) where
  pub link-keys : HasEachKeyOnce link_key-value.it link_key links
  link-keys = once-if link_key-value.it link_key is_same_link link-same links once

  pub link-aliases : HasEachKeyOnce bytes_eq host_name links
  link-aliases =
      once-if bytes_eq host_name is_same_link (λ new row h. named-same (is_host_ns new.ns) new row refl h) links once

addr-same : (new row : AddrObj) → addr_key-value.it (addr_key row) (addr_key new) ≡ true → is_same_addr new row ≡ true
addr-same new row h = grind (arith, h)

module _ (addresses : List AddrObj) (once : HasDistinctKeys is_same_addr addresses) where
  pub addr-keys : HasEachKeyOnce addr_key-value.it (λ a. Some (addr_key a)) addresses
  addr-keys = once-if addr_key-value.it (λ a. Some (addr_key a)) is_same_addr addr-same addresses once

  pub addr-aliases : HasEachKeyOnce addr_obj-value.it (λ a. Some a) addresses
  addr-aliases =
      once-if addr_obj-value.it (λ a. Some a) is_same_addr
      (λ new row h. addr-same new row (addr-keyed row new h)) addresses once

route-same : (new row : RouteObj) → route_key-value.it (route_key row) (route_key new) ≡ true
    → is_same_route new row ≡ true
route-same new row h = grind (arith, h)

module _ (routes : List RouteObj) (once : HasDistinctKeys is_same_route routes) where
  pub route-keys : HasEachKeyOnce route_key-value.it (λ r. Some (route_key r)) routes
  route-keys = once-if route_key-value.it (λ r. Some (route_key r)) is_same_route route-same routes once

  pub route-aliases : HasEachKeyOnce route-value.it (λ r. Some r) routes
  route-aliases =
      once-if route-value.it (λ r. Some r) is_same_route
      (λ new row h. route-same new row (route-keyed row new h)) routes once

pub rule-keys : (rules : List Rule) → HasDistinctKeys is_same_rule rules
    → HasEachKeyOnce rule-value.it (λ r. Some r) rules
rule-keys rules once =
    once-if rule-value.it (λ r. Some r) is_same_rule (λ new row h. sym (rule-same row new) ∙ h) rules once

setting-same : (new row : Setting) → setting_key-value.it (setting_key row) (setting_key new) ≡ true
    → is_same_setting new row ≡ true
setting-same new row h = grind (arith, h)

module _ (settings : List Setting) (once : HasDistinctKeys is_same_setting settings) where
  pub setting-keys : HasEachKeyOnce setting_key-value.it (λ s. Some (setting_key s)) settings
  setting-keys = once-if setting_key-value.it (λ s. Some (setting_key s)) is_same_setting setting-same settings once

  pub setting-aliases : HasEachKeyOnce setting-value.it (λ s. Some s) settings
  setting-aliases =
      once-if setting-value.it (λ s. Some s) is_same_setting
      (λ new row h. setting-same new row (setting-keyed row new h)) settings once

lease-same : (new row : Lease) → lease-value.it row new ≡ true → is_same_lease new row ≡ true
lease-same new row h = grind (arith, h)

pub lease-keys : (leases : List Lease) → HasDistinctKeys is_same_lease leases
    → HasEachKeyOnce lease-value.it (λ l. Some l) leases
lease-keys leases once = once-if lease-value.it (λ l. Some l) is_same_lease lease-same leases once

owner-same : (new row : Tag)
    → option_map_or (λ att. is_key att-value.it (owner_named row) att) (owner_named new) false ≡ true
    → tag_eq row new ≡ true
owner-same Outside row h = absurd (true≢false (sym h))
owner-same Base row h = absurd (true≢false (sym h))
owner-same (Own att) Outside h = absurd (true≢false (sym h))
owner-same (Own att) Base h = absurd (true≢false (sym h))
owner-same (Own att) (Own own) h = sym (att-same own att) ∙ h

pub cached-keys : (cached : List CachedObj) → HasDistinctKeys is_same_cached cached
    → HasEachKeyOnce att-value.it (λ (c : CachedObj). owner_named c.tag) cached
cached-keys cached once =
    once-if att-value.it (λ (c : CachedObj). owner_named c.tag) is_same_cached
    (λ new row h. owner-same new.tag row.tag h) cached once

pub last-keys : (lasts : List Last) → HasDistinctKeys is_same_last lasts
    → HasEachKeyOnce pool-value.it (λ l. Some (pool_key l)) lasts
last-keys lasts once =
    once-if pool-value.it (λ l. Some (pool_key l)) is_same_last
    (λ new row h. sym (same-pool (pool_key new) row) ∙ h) lasts once
