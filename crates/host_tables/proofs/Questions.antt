-- What is asked of rows and answered by a look-up.
use Rattle.std.proofs.Common.{◌≡◌, Bool, true, false, ap, List, [], ◌∷◌, ◌++◌, Option, Some, None, refl, sym, ◌∙◌}
use Rattle.std.proofs.{Common.{arith, rules, ℕ}, lemmas.{Bool.and_parts, Slice.Eq.bytes_eq-Decides}}
use Rattle.std.specs.{List.{list_any, filter_map}, Option.{option_eq, option_map_or, option_to_list}, Prelude.filter}
use Rattle.std.specs.{Prelude.{map, find, ◌&&◌, if◌then◌else◌}, Str.bytes_eq}
use Rattle.cni_addr.specs.{Lists.each_key_once, declared.mac.Mac.Mac}
use Rattle.kernel_types.specs.Equal.{addr_eq, addr_obj_eq, att_eq, cidr_eq, lease_eq, link_eq, mac_eq, route_eq}
use Rattle.kernel_types.specs.{Equal.{setting_eq, tag_eq}, Keys.is_same_link, Sound.HasDistinctKeys, Terms.is_at}
use Rattle.kernel_types.specs.Terms.{is_bridge, is_bridge_with, is_host_link, is_host_ns, owner_in}
use Rattle.kernel_types.specs.contracts.object.AddrObjPartialEq.TheImpl.{eq-value as address_eq-value}
use Rattle.kernel_types.specs.contracts.object.AttPartialEq.TheImpl.{eq-value as att_eq-value}
use Rattle.kernel_types.specs.contracts.object.LeasePartialEq.TheImpl.{eq-value as lease_eq-value}
use Rattle.kernel_types.specs.contracts.object.RouteObjPartialEq.TheImpl.{eq-value as route_eq-value}
use Rattle.kernel_types.specs.contracts.object.SettingPartialEq.TheImpl.{eq-value as setting_eq-value}
use Rattle.kernel_types.specs.declared.object.{AddrObj.AddrObj, Att.Att, Lease.Lease, Link.Link, RouteObj.RouteObj}
use Rattle.kernel_types.specs.declared.object.{Setting.Setting, Tag.{Tag, TheVariants.{Outside, Base, Own}}}
use Rattle.object_tables.specs.{Rows.{host_name, inner_ns, network_named, owner_named}, Table.is_key}
use Rattle.kernel_types.proofs.{Cases.tag_eq-own, ToldByKeys.link_eq-tag}
use Rattle.kernel_model.proofs.RouteTests.{five_tests}
use Rattle.host_tables.proofs.{Free.{any-both, host-alike, host-named}, Namespaces.inner-is, Owned.{att-same, own-is}}
use Rattle.cni_addr.proofs.Tests.{and_implied}

-- ---- the owners of a network

filter_map-cons : {A B : Type 0} (f : A → Option B) (x : A) (xs : List A)
    → filter_map f (x ∷ xs) ≡ option_to_list (f x) ++ filter_map f xs
filter_map-cons f x xs = by (f x) refl
  where
    by : (o : Option _) → f x ≡ o → filter_map f (x ∷ xs) ≡ option_to_list o ++ filter_map f xs
    by None e = rw e refl
    by (Some y) e = rw e refl

module _ {T : Type 0} (tag_of : T → Tag) (network : List ℕ) where
  abbrev named : T → Option Att
  named x = owner_named (tag_of x)

  abbrev within : T → Bool
  within x = is_key bytes_eq (network_named (tag_of x)) network

  owners-step : (x : T) (ys : List T) (ts : List Tag) → filter_map named ys ≡ filter_map (owner_in network) ts
      → (t : Tag) → tag_of x ≡ t
      → filter_map named (if within x then x ∷ ys else ys) ≡ filter_map (owner_in network) (tag_of x ∷ ts)
  owners-step x ys ts rest Outside e =
      (λ i. filter_map named (if is_key bytes_eq (network_named (e i)) network then x ∷ ys else ys))
      ∙ rest
      ∙ ap (λ t. filter_map (owner_in network) (t ∷ ts)) (sym e)
  owners-step x ys ts rest Base e =
      (λ i. filter_map named (if is_key bytes_eq (network_named (e i)) network then x ∷ ys else ys))
      ∙ rest
      ∙ ap (λ t. filter_map (owner_in network) (t ∷ ts)) (sym e)
  owners-step x ys ts rest (Own att) e =
      (λ i. filter_map named (if is_key bytes_eq (network_named (e i)) network then x ∷ ys else ys))
      ∙ own (bytes_eq att.network network)
      ∙ sym (filter_map-cons (owner_in network) (Own att) ts) ∙ ap (λ t. filter_map (owner_in network) (t ∷ ts)) (sym e)
    where
      own : (b : Bool)
          → filter_map named (if b then x ∷ ys else ys)
          ≡ option_to_list (if b then Some att else None) ++ filter_map (owner_in network) ts
      own true =
          filter_map-cons named x ys
          ∙ ap (λ t. option_to_list (owner_named t) ++ filter_map named ys) e
          ∙ ap (λ l. att ∷ l) rest
      own false = rest

  owners-in : (xs : List T)
      → filter_map named (filter within xs) ≡ filter_map (owner_in network) (map (λ x. tag_of x) xs)
  owners-in [] = refl
  owners-in (x ∷ xs) = owners-step x (filter within xs) (map (λ x. tag_of x) xs) (owners-in xs) (tag_of x) refl

  pub owners-once : (xs : List T)
      → each_key_once att_eq-value.it
      (filter_map (λ x. owner_named (tag_of x))
      (filter (λ x. is_key bytes_eq (network_named (tag_of x)) network) xs))
      ≡ each_key_once att_eq (filter_map (owner_in network) (map (λ x. tag_of x) xs))
  owners-once xs = (λ i. each_key_once (λ a b. att-same a b i) (owners-in xs i))

-- ---- links of the host, by their name

-- in a sound host one link of the host has the name: what is asked of all is asked of it
pub one-named : (name : List ℕ) (t u : Link → Bool) → ((l : Link) → t l ≡ (is_host_link name l && u l))
    → (links : List Link) → HasDistinctKeys is_same_link links
    → list_any t links ≡ option_map_or u (find (λ l. is_key bytes_eq (host_name l) name) links) false
one-named name t u is links d =
    (λ i. list_any (λ l. is l i) links)
    ∙ any-both (λ a b. is_same_link b a) (is_host_link name) u (host-alike name) links d
    ∙ (λ i. option_map_or u (find (λ l. sym (host-named name l) i) links) false)

equal-place : (l link : Link) → link_eq l link ≡ true → is_at link.ns link.name l ≡ true
equal-place l link h = grind (arith, h)

-- a link that is equal to one of the host is one of its name
pub equal-named : (link : Link) → is_host_ns link.ns ≡ true → (l : Link)
    → link_eq l link ≡ (is_host_link link.name l && link_eq l link)
equal-named link host l =
    and_implied (is_host_link link.name l) (link_eq l link)
    (λ h. let at = and_parts (bytes_eq l.ns link.ns) (bytes_eq l.name link.name) (equal-place l link h) in
    let ns : is_host_ns l.ns ≡ true = ap is_host_ns ((bytes_eq-Decides l.ns link.ns).0 at.0) ∙ host in
    grind (arith, ns, at.1))

-- a link that is equal to the attachment's is its own too
pub equal-owned : (att : Att) (link : Link) → link.tag ≡ Own att → (l : Link)
    → link_eq l link ≡ (is_key att_eq-value.it (owner_named l.tag) att && link_eq l link)
equal-owned att link tag l =
    and_implied (is_key att_eq-value.it (owner_named l.tag) att) (link_eq l link)
    (λ h.
    own-is att_eq-value.it att-same att l.tag
    ∙ sym (tag_eq-own att l.tag)
    ∙ ap (tag_eq l.tag) (sym tag)
    ∙ link_eq-tag l link h)

-- a link that is equal to one elsewhere is in its namespace
pub equal-sited : (link : Link) → is_host_ns link.ns ≡ false → (l : Link)
    → link_eq l link ≡ (is_key bytes_eq (inner_ns l.ns) link.ns && link_eq l link)
equal-sited link inner l =
    and_implied (is_key bytes_eq (inner_ns l.ns) link.ns) (link_eq l link)
    (λ h.
    inner-is link.ns inner l.ns
    ∙ (and_parts (bytes_eq l.ns link.ns) (bytes_eq l.name link.name) (equal-place l link h)).0)

pub bridge-named : (name : List ℕ) (mac : Mac) (l : Link)
    → is_bridge_with name mac l ≡ (is_host_link name l && (is_bridge l.kind && mac_eq l.mac mac))
bridge-named name mac l = grind arith

-- ---- what `==` computes of whole objects

pub address-same : (a b : AddrObj) → address_eq-value.it a b ≡ addr_obj_eq a b
address-same a b = grind arith

pub route-same : (a b : RouteObj) → route_eq-value.it a b ≡ route_eq a b
route-same a b =
    let right : route_eq-value.it a b
    ≡ (bytes_eq a.ns b.ns
    && (cidr_eq a.dst b.dst
    && (bytes_eq a.link b.link && (option_eq addr_eq a.gw b.gw && tag_eq a.tag b.tag)))) =
    search rules in
    right
    ∙ five_tests (bytes_eq a.ns b.ns) (cidr_eq a.dst b.dst) (bytes_eq a.link b.link) (option_eq addr_eq a.gw b.gw)
    (tag_eq a.tag b.tag)

pub setting-same : (a b : Setting) → setting_eq-value.it a b ≡ setting_eq a b
setting-same a b = grind arith

pub lease-same : (a b : Lease) → lease_eq-value.it a b ≡ lease_eq a b
lease-same a b = grind arith
