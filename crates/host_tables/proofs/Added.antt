-- What a look-up says of a list before a row is put at its end.
pub use Rattle.kernel_types.specs.Keys.{addr_key, route_key, setting_key}
use Rattle.std.proofs.Common.{◌≡◌, ℕ, Bool, true, false, ap, List, [], ◌∷◌, Option, Some, None, refl, sym, ◌∙◌, arith}
use Rattle.std.proofs.lemmas.Option.{same_Some}
use Rattle.std.specs.{List.list_any, Prelude.{find, not, ◌&&◌}, Str.bytes_eq}
use Rattle.cni_addr.specs.Lists.{distinct}
use Rattle.kernel_types.proofs.{ListLemmas.{list_any-find_none, list_any-none}, Removal.same_place}
use Rattle.kernel_types.specs.{Equal.{tag_eq, rule_eq}, Keys.{is_same_addr, is_same_link, is_same_route, is_same_rule}}
use Rattle.kernel_types.specs.Terms.{is_at, has_link_in, is_link_of}
use Rattle.kernel_types.specs.contracts.keys.AddrKeyPartialEq.TheImpl.{eq-value as addr_key-value}
use Rattle.kernel_types.specs.contracts.keys.RouteKeyPartialEq.TheImpl.{eq-value as route_key-value}
use Rattle.kernel_types.specs.contracts.keys.SettingKeyPartialEq.TheImpl.{eq-value as setting_key-value}
use Rattle.kernel_types.specs.contracts.object.AddrObjPartialEq.TheImpl.{eq-value as addr_obj-value}
use Rattle.kernel_types.specs.contracts.object.RouteObjPartialEq.TheImpl.{eq-value as route-value}
use Rattle.kernel_types.specs.contracts.object.SettingPartialEq.TheImpl.{eq-value as setting-value}
use Rattle.kernel_types.specs.contracts.object.TagPartialEq.TheImpl.{eq-value as tag-value}
use Rattle.kernel_types.specs.contracts.rule.RulePartialEq.TheImpl.{eq-value as rule-value}
use Rattle.kernel_types.specs.declared.object.{AddrObj.AddrObj, Link.Link, RouteObj.RouteObj, Setting.Setting, Tag.Tag}
use Rattle.kernel_types.specs.declared.{object.Tag.TheVariants.{Outside, Base, Own}, rule.Rule.Rule}
use Rattle.object_tables.specs.Table.{has_key, has_same_key}
use Rattle.host_tables.proofs.Owned.{att-same}

-- a key that is not found is free
pub free-key : {K T : Type 0} (eq : K → K → Bool) (key_of : T → Option K) (rows : List T) (sought own : K)
    → list_any (has_key eq key_of sought) rows ≡ false → own ≡ sought
    → (key : K) → Some own ≡ Some key → list_any (has_key eq key_of key) rows ≡ false
free-key eq key_of rows sought own none same key is =
    ap (λ k. list_any (has_key eq key_of k) rows) (sym (same_Some own key is) ∙ same) ∙ none

-- where no row has an object's key, none is the same object
pub free-alias : {K T : Type 0} (eq : K → K → Bool) (same : T → T → Bool) (key_of : T → K)
    → ((a b : T) → same a b ≡ true → eq (key_of a) (key_of b) ≡ true)
    → (rows : List T) (sought : K) (own : T) → list_any (has_key eq (λ x. Some (key_of x)) sought) rows ≡ false
    → key_of own ≡ sought
    → (alias : T) → Some own ≡ Some alias → list_any (has_key same (λ x. Some x) alias) rows ≡ false
free-alias eq same key_of keyed rows sought own none at alias is =
    ap (λ a. list_any (has_key same (λ x. Some x) a) rows) (sym (same_Some own alias is))
    ∙ list_any-none (λ x. same x own) (λ x. eq (key_of x) sought)
    (λ x h. ap (eq (key_of x)) (sym at) ∙ keyed x own h) rows none

-- an object that has the key is the same by it
addr-at : (a b : AddrObj) → addr_key-value.it (addr_key a) (addr_key b) ≡ is_same_addr b a
addr-at a b = grind arith

route-at : (a b : RouteObj) → route_key-value.it (route_key a) (route_key b) ≡ is_same_route b a
route-at a b = grind arith

pub find-same_addr : (obj : AddrObj) (xs : List AddrObj)
    → find (is_same_addr obj) xs ≡ find (has_key addr_key-value.it (λ a. Some (addr_key a)) (addr_key obj)) xs
find-same_addr obj xs = sym (λ i. find (λ a. addr-at a obj i) xs)

pub find-same_route : (obj : RouteObj) (xs : List RouteObj)
    → find (is_same_route obj) xs ≡ find (has_key route_key-value.it (λ r. Some (route_key r)) (route_key obj)) xs
find-same_route obj xs = sym (λ i. find (λ r. route-at r obj i) xs)

-- equal objects have equal keys
pub addr-keyed : (a b : AddrObj) → addr_obj-value.it a b ≡ true → addr_key-value.it (addr_key a) (addr_key b) ≡ true
addr-keyed a b h = grind (arith, h)

pub route-keyed : (a b : RouteObj) → route-value.it a b ≡ true → route_key-value.it (route_key a) (route_key b) ≡ true
route-keyed a b h = grind (arith, h)

pub setting-keyed : (a b : Setting) → setting-value.it a b ≡ true
    → setting_key-value.it (setting_key a) (setting_key b) ≡ true
setting-keyed a b h = grind (arith, h)

-- ---- what `==` computes

pub tag-same : (a b : Tag) → tag-value.it a b ≡ tag_eq a b
tag-same Outside Outside = refl
tag-same Outside Base = refl
tag-same Outside (Own b) = refl
tag-same Base Outside = refl
tag-same Base Base = refl
tag-same Base (Own b) = refl
tag-same (Own a) Outside = refl
tag-same (Own a) Base = refl
tag-same (Own a) (Own b) = att-same a b

pub rule-same : (a b : Rule) → rule-value.it a b ≡ rule_eq a b
rule-same a b = grind (arith, tag-same a.tag b.tag)

-- ---- the link at a place, where no two links have one

-- no other link of the place follows
later-none : (ns name : List ℕ) (tag : Tag) (x : Link) (xs : List Link) → is_at ns name x ≡ true
    → list_any (λ b. is_same_link b x) xs ≡ false → list_any (is_link_of ns name tag) xs ≡ false
later-none ns name tag x xs at none =
    list_any-none (is_link_of ns name tag) (λ b. is_same_link b x)
    (λ b h. let there : bytes_eq b.ns ns && bytes_eq b.name name ≡ true = grind (arith, h) in
    same_place b.ns b.name ns name (λ p q. is_at p q x) there ∙ at)
    xs none

link-found-step : (ns name : List ℕ) (tag : Tag) (x : Link) (xs : List Link) (l : Link) (b : Bool) → is_at ns name x ≡ b
    → distinct (λ a b. is_same_link b a) (x ∷ xs) ≡ true
    → Some l ≡ find (is_at ns name) (x ∷ xs)
    → (Some l ≡ find (is_at ns name) xs → tag_eq l.tag tag ≡ has_link_in xs ns name tag)
    → tag_eq l.tag tag ≡ has_link_in (x ∷ xs) ns name tag
link-found-step ns name tag x xs l true at keys is later =
    let same : l ≡ x = grind (arith, is, at) in
    let none : list_any (is_link_of ns name tag) xs ≡ false = later-none ns name tag x xs at (grind (arith, keys)) in
    ap (λ v. tag_eq v.tag tag) same ∙ grind (arith, at, none)
link-found-step ns name tag x xs l false at keys is later = later (grind (arith, is, at)) ∙ grind (arith, at)

pub link-found : (ns name : List ℕ) (tag : Tag) (links : List Link) (l : Link)
    → distinct (λ a b. is_same_link b a) links ≡ true → Some l ≡ find (is_at ns name) links
    → tag_eq l.tag tag ≡ has_link_in links ns name tag
link-found ns name tag [] l keys is = grind (arith, is)
link-found ns name tag (x ∷ xs) l keys is =
    link-found-step ns name tag x xs l (is_at ns name x) refl keys is
    (link-found ns name tag xs l (grind (arith, keys)))

pub link-missed : (ns name : List ℕ) (tag : Tag) (links : List Link) → find (is_at ns name) links ≡ None
    → false ≡ has_link_in links ns name tag
link-missed ns name tag links none =
    sym (list_any-none (is_link_of ns name tag) (is_at ns name) (λ b h. grind (arith, h)) links
    (list_any-find_none (is_at ns name) links none))

-- ---- a rule is its own key

pub any-same_rule : (rule : Rule) (rules : List Rule)
    → list_any (has_key rule-value.it (λ r. Some r) rule) rules ≡ list_any (is_same_rule rule) rules
any-same_rule rule rules = λ i. list_any (λ r. rule-same r rule i) rules

-- it is a new one exactly where none of the list is the same
pub new-rule : (rule own : Rule) (rules : List Rule) (is_new : Bool) → own ≡ rule
    → is_new ≡ not (list_any (has_same_key rule-value.it (λ r. Some r) own) rules)
    → list_any (is_same_rule rule) rules ≡ not is_new
new-rule rule own rules is_new same is =
    ap (λ r. list_any (is_same_rule r) rules) (sym same)
    ∙ sym (any-same_rule own rules)
    ∙ sym (ap not is ∙ twice (list_any (has_key rule-value.it (λ r. Some r) own) rules))
  where
    twice : (b : Bool) → not (not b) ≡ b
    twice true = refl
    twice false = refl
