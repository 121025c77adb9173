-- What is free for a new row, and what follows as at most one row has a key.
use Rattle.std.proofs.Common.{append_assoc, ◌≡◌, ℕ, Bool, true, false, ap, List, [], ◌∷◌, ◌++◌, Option, Some, None}
use Rattle.std.proofs.{Common.{refl, sym, ◌∙◌, arith}, Math.Bool.or-false, lemmas.Slice.Eq.bytes_eq-Decides}
use Rattle.std.specs.{List.list_any, Option.{option_map, option_map_or}, Prelude.{find, filter, map, not, ◌&&◌, ◌||◌}}
use Rattle.std.specs.{Prelude.if◌then◌else◌, Str.bytes_eq}
use Rattle.cni_addr.specs.{Equal.addr_eq, Lists.distinct, declared.mac.Mac.Mac}
use Rattle.cni_addr.proofs.Lists.{none-later}
use Rattle.kernel_types.specs.Apply.Calls.{is_own_at, link_set_of, master_is_bridge_or_none, set_link, veth_add_of}
use Rattle.kernel_types.specs.{Apply.Calls.with_values, Keys.{is_same_addr, is_same_link, is_same_setting}, Terms.is_at}
use Rattle.kernel_types.specs.Terms.{is_host_link, is_host_ns, has_named_ns, is_own, link_at}
use Rattle.kernel_types.specs.contracts.keys.AddrKeyPartialEq.TheImpl.{eq-value as addr_key_eq-value}
use Rattle.kernel_types.specs.contracts.keys.SettingKeyPartialEq.TheImpl.{eq-value as setting_key_eq-value}
use Rattle.kernel_types.specs.contracts.object.AddrObjPartialEq.TheImpl.{eq-value as addr_obj_eq-value}
use Rattle.kernel_types.specs.contracts.object.LinkKeyPartialEq.TheImpl.{eq-value as link_key_eq-value}
use Rattle.kernel_types.specs.contracts.object.SettingPartialEq.TheImpl.{eq-value as setting_eq-value}
use Rattle.kernel_types.specs.declared.{call.Reply.{Reply, TheVariants.Done}, keys.AddrKey.AddrKey}
use Rattle.kernel_types.specs.declared.{keys.SettingKey.SettingKey, object.{AddrObj.AddrObj, Att.Att, Host.Host}}
use Rattle.kernel_types.specs.declared.object.{Link.Link, LinkKey.LinkKey, Setting.Setting, Tag.Tag}
use Rattle.kernel_types.proofs.Cases.{host_ns-eq, other_host, is_at-itself, none-option_map}
use Rattle.kernel_types.proofs.ListLemmas.{list_any-append_none, list_any-find_none, list_any-none}
use Rattle.kernel_types.proofs.TouchRemoval.{one_place}
use Rattle.object_tables.specs.{Rows.host_name, Table.{is_key, has_key}}
use Rattle.object_tables.proofs.Lists.{map-none}
use Rattle.host_tables.proofs.{Lists.none-both, NewLease.pushed-out}

-- ---- at most one element passes

module _ {X : Type 0} (same : X → X → Bool) (p q : X → Bool)
    (alike : (x y : X) → p x ≡ true → p y ≡ true → same x y ≡ true) where
  pub any-both : (xs : List X) → distinct same xs ≡ true
      → list_any (λ x. p x && q x) xs ≡ option_map_or q (find p xs) false
  any-both [] d = refl
  any-both (x ∷ xs) d = by (p x) refl (any-both xs (grind (arith, d)))
    where
      by : (b : Bool) → p x ≡ b → list_any (λ y. p y && q y) xs ≡ option_map_or q (find p xs) false
          → list_any (λ y. p y && q y) (x ∷ xs) ≡ option_map_or q (find p (x ∷ xs)) false
      by true e more =
          let no = none-both p q xs (none-later same p alike x xs d e) in
          rw e (ap (λ b. q x || b) no ∙ or-false (q x))
      by false e more = rw e more

module _ {X : Type 0} (same : X → X → Bool) (p q : X → Bool)
    (alike : (x y : X) → p x ≡ true → p y ≡ true → same x y ≡ true) (f : X → X) where
  pub map-both : (xs : List X) → distinct same xs ≡ true → list_any (λ x. p x && q x) xs ≡ true
      → map (λ x. if p x then f x else x) xs ≡ map (λ x. if p x && q x then f x else x) xs
  map-both [] d h = refl
  map-both (x ∷ xs) d h = by (p x) refl (λ e. map-both xs (grind (arith, d)) (grind (arith, h, e)))
    where
      by : (b : Bool) → p x ≡ b
          → (p x ≡ false → map (λ y. if p y then f y else y) xs ≡ map (λ y. if p y && q y then f y else y) xs)
          → map (λ y. if p y then f y else y) (x ∷ xs) ≡ map (λ y. if p y && q y then f y else y) (x ∷ xs)
      by true e more =
          let one = none-later same p alike x xs d e in
          let no = none-both p q xs one in
          let is : q x ≡ true = grind (arith, h, e, no) in
          rw (e, is) (ap (λ l. f x ∷ l) (map-none p f xs one ∙ sym (map-none (λ y. p y && q y) f xs no)))
      by false e more = let rest = more e in rw e (ap (λ l. x ∷ l) rest)

-- ---- links

key-at : (key : LinkKey) (l : Link)
    → link_key_eq-value.it (record { ns = l.ns; name = l.name }) key ≡ is_at key.ns key.name l
key-at key l = grind arith

module _ (key : LinkKey) (links : List Link) where
  pub any-at : list_any (has_key link_key_eq-value.it (λ (l : Link). Some (record { ns = l.ns; name = l.name })) key)
      links
      ≡ list_any (is_at key.ns key.name) links
  any-at = λ i. list_any (λ l. key-at key l i) links

  pub find-at : find (has_key link_key_eq-value.it (λ (l : Link). Some (record { ns = l.ns; name = l.name })) key) links
      ≡ find (is_at key.ns key.name) links
  find-at = λ i. find (λ l. key-at key l i) links

named-if : (b : Bool) (n name : List ℕ) → is_key bytes_eq (if b then Some n else None) name ≡ (b && bytes_eq n name)
named-if true n name = refl
named-if false n name = refl

pub host-named : (name : List ℕ) (l : Link) → is_key bytes_eq (host_name l) name ≡ is_host_link name l
host-named name l = named-if (is_host_ns l.ns) l.name name

host-at : (name : List ℕ) (l : Link) → is_host_link name l ≡ is_at [] name l
host-at name l = ap (λ b. b && bytes_eq l.name name) (host_ns-eq l.ns)

module _ (name : List ℕ) (links : List Link) where
  pub find-named : find (has_key bytes_eq host_name name) links ≡ find (is_host_link name) links
  find-named = λ i. find (λ l. host-named name l i) links

  pub any-named : list_any (has_key bytes_eq host_name name) links ≡ list_any (is_at [] name) links
  any-named = λ i. list_any (λ l. (host-named name l ∙ host-at name l) i) links

  pub any-host : list_any (is_host_link name) links ≡ list_any (is_at [] name) links
  any-host = λ i. list_any (λ l. host-at name l i) links

pub host-alike : (name : List ℕ) (x y : Link) → is_host_link name x ≡ true → is_host_link name y ≡ true
    → is_same_link y x ≡ true
host-alike name x y h g =
    let outer : is_host_ns y.ns ≡ true = grind (arith, g) in
    let named : bytes_eq y.name name ≡ true = grind (arith, g) in
    ap (λ n. is_at n y.name x) ((bytes_eq-Decides y.ns []).0 (sym (host_ns-eq y.ns) ∙ outer))
    ∙ ap (λ m. is_at [] m x) ((bytes_eq-Decides y.name name).0 named) ∙ sym (host-at name x) ∙ h

named-free : (links : List Link) (b : Bool) (ns name alias : List ℕ) → is_host_ns ns ≡ b
    → (if b then Some name else None) ≡ Some alias
    → list_any (is_at ns name) links ≡ false → list_any (has_key bytes_eq host_name alias) links ≡ false
named-free links true ns name alias e h free =
    let is : name ≡ alias = cc in
    let host : ns ≡ [] = (bytes_eq-Decides ns []).0 (sym (host_ns-eq ns) ∙ e) in
    any-named alias links
    ∙ ap (λ n. list_any (is_at n alias) links) (sym host)
    ∙ ap (λ m. list_any (is_at ns m) links) (sym is)
    ∙ free
named-free links false ns name alias e h free = cc

module _ (links : List Link) (row : Link) (free : list_any (is_at row.ns row.name) links ≡ false) where
  pub link-key_free : (key : LinkKey)
      → ◌≡◌ {A = Option LinkKey} (Some (record { ns = row.ns; name = row.name })) (Some key)
      → list_any (has_key link_key_eq-value.it (λ (l : Link). Some (record { ns = l.ns; name = l.name })) key) links
      ≡ false
  link-key_free key h =
      let is : ◌≡◌ {A = LinkKey} (record { ns = row.ns; name = row.name }) key = cc in
      any-at key links ∙ ap (λ (k : LinkKey). list_any (is_at k.ns k.name) links) (sym is) ∙ free

  pub link-alias_free : (alias : List ℕ) → host_name row ≡ Some alias
      → list_any (has_key bytes_eq host_name alias) links ≡ false
  link-alias_free alias h = named-free links (is_host_ns row.ns) row.ns row.name alias refl h free

-- no link stands where none was found
pub nothing-at : (host : Host) (link : Link) (tag : Option Tag)
    → tag ≡ option_map (λ l. l.tag) (link_at host link.ns link.name) → tag ≡ None
    → link_at host link.ns link.name ≡ None
nothing-at host link tag tag_is none_is =
    none-option_map (λ l. l.tag) (link_at host link.ns link.name) (sym tag_is ∙ none_is)

pub place-free : (host : Host) (link : Link) (links : List Link) (row : Link)
    → link_at host link.ns link.name ≡ None → links ≡ host.links → row ≡ link
    → list_any (is_at row.ns row.name) links ≡ false
place-free host link links row nothing links_is row_is =
    ap (λ (r : Link). list_any (is_at r.ns r.name) links) row_is
    ∙ ap (λ ls. list_any (is_at link.ns link.name) ls) links_is
    ∙ list_any-find_none (is_at link.ns link.name) host.links nothing

pub second-free : (links new : List Link) (first second : Link) → new ≡ links ++ first ∷ [] → is_host_ns first.ns ≡ true
    → is_host_ns second.ns ≡ false
    → list_any (is_at second.ns second.name) links ≡ false → list_any (is_at second.ns second.name) new ≡ false
second-free links new first second is outer inner free =
    let other = other_host first.ns second.ns outer inner in
    ap (λ ls. list_any (is_at second.ns second.name) ls) is
    ∙ list_any-append_none (is_at second.ns second.name) links (first ∷ []) free (grind (arith, other))

pub first-back : (key : LinkKey) (links pushed later rest : List Link) (row link : Link) → pushed ≡ links ++ row ∷ []
    → later ≡ pushed
    → rest
    ≡ filter
    (λ l. not (has_key link_key_eq-value.it (λ (l : Link). Some (record { ns = l.ns; name = l.name })) key l))
    later
    → key ≡ record { ns = link.ns; name = link.name } → row ≡ link → list_any (is_at row.ns row.name) links ≡ false
    → rest ≡ links
first-back key links pushed later rest row link pushed_is later_is rest_is key_is row_is free =
    let own : key ≡ record { ns = row.ns; name = row.name } =
    key_is ∙ ap (λ (l : Link). record { ns = l.ns; name = l.name }) (sym row_is) in
    let here : is_at key.ns key.name row ≡ true = ap (λ (k : LinkKey). is_at k.ns k.name row) own ∙ is_at-itself row in
    let gone : list_any (is_at key.ns key.name) links ≡ false =
    ap (λ (k : LinkKey). list_any (is_at k.ns k.name) links) own ∙ free in
    rest_is
    ∙ (λ i. filter (λ (l : Link). not (key-at key l i)) later)
    ∙ ap (filter (λ l. not (is_at key.ns key.name l))) (later_is ∙ pushed_is)
    ∙ pushed-out (is_at key.ns key.name) links row gone here

-- ---- the host after a call

pub ends-added : (old host : Host) (links pushed : List Link) (a b first second : Link) → old ≡ host
    → pushed ≡ old.links ++ a ∷ [] → links ≡ pushed ++ b ∷ [] → a ≡ first → b ≡ second
    → record old { links = links } ≡ record host { links = host.links ++ first ∷ second ∷ [] }
ends-added old host links pushed a b first second old_is pushed_is links_is a_is b_is =
    let both : links ≡ host.links ++ first ∷ second ∷ [] =
    links_is
    ∙ ap (λ ls. ls ++ b ∷ []) pushed_is
    ∙ append_assoc old.links (a ∷ []) (b ∷ [])
    ∙ ap (λ (h : Host). h.links ++ a ∷ b ∷ []) old_is
    ∙ ap (λ l. host.links ++ l ∷ b ∷ []) a_is ∙ ap (λ l. host.links ++ first ∷ l ∷ []) b_is in
    rw (both, old_is) refl

pub veth-added : (host new : Host) (first second : Link)
    → new ≡ record host { links = host.links ++ first ∷ second ∷ [] }
    → has_named_ns host second.ns ≡ true → master_is_bridge_or_none host first.master ≡ true
    → link_at host second.ns second.name ≡ None → link_at host first.ns first.name ≡ None
    → ◌≡◌ {A = Host × Reply} (new, Done) (veth_add_of host first second)
veth-added host new first second new_is named over inner outer = rw (new_is, named, over, inner, outer) refl

pub values-set : (att : Att) (key : LinkKey) (mac : Option Mac) (mtu tx_qlen : Option ℕ) (promisc allmulti : Bool)
    (old host : Host) (links : List Link)
    → old ≡ host
    → distinct (λ a b. is_same_link b a) host.links ≡ true → list_any (is_own_at att key) host.links ≡ true
    → links
    ≡ map (λ (l : Link).
    if has_key link_key_eq-value.it (λ (l : Link). Some (record { ns = l.ns; name = l.name })) key l
    then with_values mac mtu tx_qlen promisc allmulti l
    else l)
    old.links
    → ◌≡◌ {A = Host × Reply} (record old { links = links }, Done)
    (link_set_of host att key mac mtu tx_qlen promisc allmulti)
values-set att key mac mtu tx_qlen promisc allmulti old host links old_is keys own links_is =
    let set : links ≡ map (set_link att key mac mtu tx_qlen promisc allmulti) host.links =
    links_is
    ∙ (λ i. map (λ (l : Link). if key-at key l i then with_values mac mtu tx_qlen promisc allmulti l else l) old.links)
    ∙ ap (λ (h : Host).
    map (λ (l : Link). if is_at key.ns key.name l then with_values mac mtu tx_qlen promisc allmulti l else l)
    h.links)
    old_is
    ∙ map-both (λ a b. is_same_link b a) (is_at key.ns key.name) (λ (l : Link). is_own att l.tag)
    (one_place key.ns key.name) (with_values mac mtu tx_qlen promisc allmulti) host.links keys own in
    rw (set, old_is, own) refl

-- ---- addresses and settings

addr-at : (key : AddrKey) (a : AddrObj)
    → addr_key_eq-value.it (record { ns = a.ns; link = a.link; addr = a.cidr.addr }) key
    ≡ (bytes_eq a.ns key.ns && bytes_eq a.link key.link && addr_eq a.cidr.addr key.addr)
addr-at key a = grind arith

pub any-addr : (key : AddrKey) (addresses : List AddrObj)
    → list_any (has_key addr_key_eq-value.it
    (λ (a : AddrObj). Some (record { ns = a.ns; link = a.link; addr = a.cidr.addr })) key)
    addresses
    ≡ list_any (λ a. bytes_eq a.ns key.ns && bytes_eq a.link key.link && addr_eq a.cidr.addr key.addr) addresses
any-addr key addresses = λ i. list_any (λ a. addr-at key a i) addresses

addr-whole : (new a : AddrObj) → addr_obj_eq-value.it a new ≡ true → is_same_addr new a ≡ true
addr-whole new a h = grind (arith, h)

pub addr-alias_free : (addresses : List AddrObj) (row alias : AddrObj) → list_any (is_same_addr row) addresses ≡ false
    → ◌≡◌ {A = Option AddrObj} (Some row) (Some alias)
    → list_any (has_key addr_obj_eq-value.it (λ (a : AddrObj). Some a) alias) addresses ≡ false
addr-alias_free addresses row alias free h =
    let is : row ≡ alias = cc in
    ap (λ r. list_any (λ a. addr_obj_eq-value.it a r) addresses) (sym is)
    ∙ list_any-none (λ a. addr_obj_eq-value.it a row) (is_same_addr row) (λ a g. addr-whole row a g) addresses free

setting-at : (key : SettingKey) (s : Setting)
    → setting_key_eq-value.it (record { ns = s.ns; key = s.key }) key ≡ (bytes_eq s.ns key.ns && bytes_eq s.key key.key)
setting-at key s = grind arith

pub any-setting : (key : SettingKey) (settings : List Setting)
    → list_any (has_key setting_key_eq-value.it (λ (s : Setting). Some (record { ns = s.ns; key = s.key })) key)
    settings
    ≡ list_any (λ s. bytes_eq s.ns key.ns && bytes_eq s.key key.key) settings
any-setting key settings = λ i. list_any (λ s. setting-at key s i) settings

setting-whole : (new s : Setting) → setting_eq-value.it s new ≡ true → is_same_setting new s ≡ true
setting-whole new s h = grind (arith, h)

pub setting-alias_free : (settings : List Setting) (row alias : Setting)
    → list_any (is_same_setting row) settings ≡ false → ◌≡◌ {A = Option Setting} (Some row) (Some alias)
    → list_any (has_key setting_eq-value.it (λ (s : Setting). Some s) alias) settings ≡ false
setting-alias_free settings row alias free h =
    let is : row ≡ alias = cc in
    ap (λ r. list_any (λ s. setting_eq-value.it s r) settings) (sym is)
    ∙ list_any-none (λ s. setting_eq-value.it s row) (is_same_setting row) (λ s g. setting-whole row s g) settings free
