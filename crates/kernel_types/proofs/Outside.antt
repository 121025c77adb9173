-- What is done from outside leaves a host sound, and removes nothing that is shared.
use Rattle.std.proofs.Common.{◌≡◌, ℕ, Bool, true, false, not, List, Option, Some, None, refl, arith}
use Rattle.std.proofs.lemmas.Slice.Eq.{bytes_eq-Decides}
use Rattle.std.specs.{List.{list_any, list_all}, Prelude.{is_some, ◌&&◌, ◌||◌}}
use Rattle.kernel_types.specs.Apply.Calls.{drop_link_of, flush_of, goes_with, without_link, without_links}
use Rattle.kernel_types.specs.{Equal.{rule_eq, table_eq, tag_eq}, Sound.{IsSound, link_fits_tag, peer_fits}}
use Rattle.kernel_types.specs.Terms.{is_host_ns, is_at, is_peer_at, is_bridge, is_owned, is_veth, has_named_ns, link_at}
use Rattle.kernel_types.specs.{Touch.{RemovesUnshared, is_unshared}, declared.{call.Reply.Reply, object.Host.Host}}
use Rattle.kernel_types.specs.declared.object.{Link.Link, LinkKey.LinkKey, LinkKind.{LinkKind, TheVariants.Device}}
use Rattle.kernel_types.specs.declared.object.{LinkKind.TheVariants.{Bridge, Veth, Macvlan, Dummy, Vlan}, Tag.Tag}
use Rattle.kernel_types.specs.declared.{object.Tag.TheVariants.{Outside, Base, Own}, rule.Table.Table}
use Rattle.cni_addr.proofs.Cases.{by_test}
use Rattle.kernel_types.proofs.{Cases.shared-no_veth, ChangeLemmas.{DropsOnly-nothing, DropsOnly-filter}}
use Rattle.kernel_types.proofs.ListLemmas.{list_all-filter, list_all-weaker, distinct-filter, passes-find}
use Rattle.kernel_types.proofs.{OneList.IsSound-with_rules, Removal.IsSound-without_link, TouchRemoval.addresses_gone}
use Rattle.kernel_types.proofs.TouchRemoval.{routes_gone, may_go, keeps_or_owns, list_all-both}

-- ---- tags that are not shared

owned-unshared : (t : Tag) → is_owned t ≡ true → is_unshared t ≡ true
owned-unshared Outside h = refl
owned-unshared Base h = cc
owned-unshared (Own att) h = refl

pub outside-unshared : (t : Tag) → tag_eq t Outside ≡ true → is_unshared t ≡ true
outside-unshared Outside h = refl
outside-unshared Base h = cc
outside-unshared (Own att) h = refl

pub RemovesUnshared-nothing : (host : Host) → RemovesUnshared host host
RemovesUnshared-nothing host = record {
  namespaces = DropsOnly-nothing (λ n. is_unshared n.tag) host.namespaces;
  links = DropsOnly-nothing (λ l. is_unshared l.tag) host.links;
  addresses = DropsOnly-nothing (λ a. is_unshared a.tag) host.addresses;
  routes = DropsOnly-nothing (λ r. is_unshared r.tag) host.routes;
  rules = DropsOnly-nothing (λ r. is_unshared r.tag) host.rules;
  settings = DropsOnly-nothing (λ s. is_unshared s.tag) host.settings;
  leases = refl;
  cached = refl;
  lasts = refl;
}

-- ---- links that are removed from outside

-- not in the host's own namespace, or the end of a pair
abbrev pub is_loose : Link → Bool
is_loose l = not (is_host_ns l.ns) || is_some l.peer

veth-unshared : (l : Link) (t : Tag) → link_fits_tag l t ≡ true → is_veth l.kind ≡ true → is_unshared t ≡ true
veth-unshared l Outside h v = refl
veth-unshared l Base h v = grind (arith, h, v, shared-no_veth l.kind)
veth-unshared l (Own att) h v = refl

inner-unshared : (l : Link) (t : Tag) → link_fits_tag l t ≡ true → is_host_ns l.ns ≡ false → is_unshared t ≡ true
inner-unshared l Outside h n = refl
inner-unshared l Base h n = grind (arith, h, n)
inner-unshared l (Own att) h n = refl

veth_no_bridge : (k : LinkKind) → is_veth k ≡ true → is_bridge k ≡ false
veth_no_bridge Device h = refl
veth_no_bridge Bridge h = cc
veth_no_bridge Veth h = refl
veth_no_bridge (Macvlan mode) h = refl
veth_no_bridge Dummy h = refl
veth_no_bridge (Vlan id) h = refl

peer-veth : (links : List Link) (l : Link) (o : Option LinkKey) → peer_fits links l o ≡ true → is_some o ≡ true
    → is_veth l.kind ≡ true
peer-veth links l None h s = cc
peer-veth links l (Some key) h s = grind (arith, h)

by_loose : (links : List Link) (l : Link) (inner : Bool) → is_host_ns l.ns ≡ inner → link_fits_tag l l.tag ≡ true
    → peer_fits links l l.peer ≡ true → is_loose l ≡ true → may_go is_unshared l ≡ true
by_loose links l false e t p loose =
    let unshared : is_unshared l.tag ≡ true = inner-unshared l l.tag t e in grind (arith, unshared, e)
by_loose links l true e t p loose =
    let veth : is_veth l.kind ≡ true = peer-veth links l l.peer p (grind (arith, loose, e)) in
    let unshared : is_unshared l.tag ≡ true = veth-unshared l l.tag t veth in
    grind (arith, unshared, veth_no_bridge l.kind veth)

-- where all that go are loose, nothing that goes is shared
loose-may_go : (gone : Link → Bool) (host : Host) → IsSound host → ((l : Link) → gone l ≡ true → is_loose l ≡ true)
    → list_all (λ l. not (gone l) || may_go is_unshared l) host.links ≡ true
loose-may_go gone host sound loose =
    list_all-both (λ l. link_fits_tag l l.tag) (λ l. peer_fits host.links l l.peer)
    (λ l. not (gone l) || may_go is_unshared l)
    (λ l t p. keeps_or_owns (gone l) (may_go is_unshared l)
    (λ g. by_loose host.links l (is_host_ns l.ns) refl t p (loose l g))) host.links sound.links.tags sound.links.peers

pub RemovesUnshared-without_links : (gone : Link → Bool) (host : Host) → IsSound host
    → ((l : Link) → gone l ≡ true → is_loose l ≡ true) → RemovesUnshared host (without_links gone host)
RemovesUnshared-without_links gone host sound loose =
    let may : list_all (λ l. not (gone l) || may_go is_unshared l) host.links ≡ true =
    loose-may_go gone host sound loose in
    record {
      namespaces = DropsOnly-nothing (λ n. is_unshared n.tag) host.namespaces;
      links = DropsOnly-filter (λ l. is_unshared l.tag) (λ l. not (gone l)) host.links
          (list_all-weaker (λ l. not (gone l) || may_go is_unshared l) (λ l. not (gone l) || is_unshared l.tag)
          (λ l h. grind (arith, h)) host.links may);
      addresses =
          DropsOnly-filter (λ a. is_unshared a.tag)
          (λ a. not (list_any (λ l. gone l && is_at a.ns a.link l) host.links)) host.addresses
          (addresses_gone is_unshared gone host.links host.addresses sound.links.keys may sound.addresses);
      routes =
          DropsOnly-filter (λ r. is_unshared r.tag)
          (λ r. not (list_any (λ l. gone l && is_at r.ns r.link l) host.links)) host.routes
          (routes_gone is_unshared gone host.links host.routes sound.links.keys may sound.routes);
      rules = DropsOnly-nothing (λ r. is_unshared r.tag) host.rules;
      settings = DropsOnly-nothing (λ s. is_unshared s.tag) host.settings;
      leases = refl;
      cached = refl;
      lasts = refl;
    }

-- ---- a link

peer_at-some : (ns name : List ℕ) (o : Option LinkKey) → is_peer_at ns name o ≡ true → is_some o ≡ true
peer_at-some ns name None h = cc
peer_at-some ns name (Some key) h = refl

at-inner : (ns name : List ℕ) (l : Link) → is_host_ns ns ≡ false → is_at ns name l ≡ true → is_host_ns l.ns ≡ false
at-inner ns name l inner h = let e : l.ns ≡ ns = (bytes_eq-Decides l.ns ns).0 (grind (arith, h)) in rw e inner

goes_with-loose : (ns name : List ℕ) → is_host_ns ns ≡ false → (l : Link) → goes_with ns name l ≡ true
    → is_loose l ≡ true
goes_with-loose ns name inner l h = grind (arith, h, at-inner ns name l inner, peer_at-some ns name l.peer)

drops_found : (host : Host) (key : LinkKey) (o : Option Link) → is_host_ns key.ns ≡ false
    → link_at host key.ns key.name ≡ o → IsSound host → RemovesUnshared host (without_link host o).0
drops_found host key None inner f sound = RemovesUnshared-nothing host
drops_found host key (Some found) inner f sound =
    RemovesUnshared-without_links (goes_with found.ns found.name) host sound
    (goes_with-loose found.ns found.name
    (at-inner key.ns key.name found inner (passes-find (is_at key.ns key.name) host.links found f)))

pub IsSound-drop_link : (host : Host) (key : LinkKey) → IsSound host → IsSound (drop_link_of host key).0
IsSound-drop_link host key sound =
    by_test (λ (step : Host × Reply). IsSound step.0) (has_named_ns host key.ns) _ _
    (λ _. IsSound-without_link host (link_at host key.ns key.name) sound) (λ _. sound)

pub RemovesUnshared-drop_link : (host : Host) (key : LinkKey) → is_host_ns key.ns ≡ false → IsSound host
    → RemovesUnshared host (drop_link_of host key).0
RemovesUnshared-drop_link host key inner sound =
    by_test (λ (step : Host × Reply). RemovesUnshared host step.0) (has_named_ns host key.ns) _ _
    (λ _. drops_found host key (link_at host key.ns key.name) inner refl sound) (λ _. RemovesUnshared-nothing host)

-- ---- the rules of a table

pub IsSound-flush : (host : Host) (table : Table) → IsSound host → IsSound (flush_of host table).0
IsSound-flush host table sound = IsSound-with_rules host _ sound (record {
  keys = distinct-filter (λ a b. rule_eq a b) (λ r. not (table_eq r.table table)) host.rules sound.rules.keys;
  tags = list_all-filter (λ r. is_owned r.tag) (λ r. not (table_eq r.table table)) host.rules sound.rules.tags;
})

pub RemovesUnshared-flush : (host : Host) (table : Table) → IsSound host → RemovesUnshared host (flush_of host table).0
RemovesUnshared-flush host table sound = record {
  namespaces = DropsOnly-nothing (λ n. is_unshared n.tag) host.namespaces;
  links = DropsOnly-nothing (λ l. is_unshared l.tag) host.links;
  addresses = DropsOnly-nothing (λ a. is_unshared a.tag) host.addresses;
  routes = DropsOnly-nothing (λ r. is_unshared r.tag) host.routes;
  rules = DropsOnly-filter (λ r. is_unshared r.tag) (λ r. not (table_eq r.table table)) host.rules
      (list_all-weaker (λ r. is_owned r.tag) (λ r. not (table_eq r.table table) || is_unshared r.tag)
      (λ r h. grind (arith, owned-unshared r.tag h)) host.rules sound.rules.tags);
  settings = DropsOnly-nothing (λ s. is_unshared s.tag) host.settings;
  leases = refl;
  cached = refl;
  lasts = refl;
}
