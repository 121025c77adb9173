-- What leaves a sound host with a link.
use Rattle.std.proofs.Common.{◌≡◌, ℕ, Bool, true, false, not, ap, List, Option, Some, None, true≢false, refl, sym, ◌∙◌}
use Rattle.std.proofs.{Common.arith, lemmas.{Bool.and_parts, Slice.Eq.bytes_eq-Decides}}
use Rattle.std.specs.{Cmp.{both_ways, Lexicographic.nat_list_eq_equiv}, List.list_any, Prelude.{filter, find, ◌&&◌}}
use Rattle.std.specs.{Prelude.{◌||◌, if◌then◌else◌}, Str.bytes_eq}
use Rattle.cni_addr.specs.Lists.{IsAmong, without_first}
use Rattle.cni_addr.proofs.Lists.{all-among, any-among, filter-every, from-among}
use Rattle.kernel_types.specs.Apply.Calls.{drop_link_of, goes_with, link_del_of, without_link, without_links}
use Rattle.kernel_types.specs.{Equal.tag_eq, Sound.{HasTagsOn, IsSound, is_link_or_peer, is_unowned_kind}}
use Rattle.kernel_types.specs.{Sound.{link_fits_tag, may_be_on, peer_fits, peers_back}, Terms.{has_ns_in, is_at}}
use Rattle.kernel_types.specs.Terms.{is_bridge, is_host_ns, is_own, is_owned, is_peer_at, is_veth}
use Rattle.kernel_types.specs.contracts.object.AttPartialEq.TheImpl.{eq-value as att_eq-value}
use Rattle.kernel_types.specs.contracts.object.LinkKeyPartialEq.TheImpl.{eq-value as link_key-value}
use Rattle.kernel_types.specs.declared.{call.Reply.TheVariants.{Gone, NoNs}, object.{Att.Att, Host.Host, Link.Link}}
use Rattle.kernel_types.specs.declared.object.{LinkKey.LinkKey, Tag.{Tag, TheVariants.{Outside, Base, Own}}}
use Rattle.kernel_types.proofs.{Cases.{is_at-itself, own-own, tag_eq-refl, shared-no_veth}, Isolation.tag_eq-same}
use Rattle.kernel_types.proofs.{Isolation.is_own-one, ListLemmas.{list_any-find_none, list_any-weaker}}
use Rattle.kernel_types.proofs.{ListLemmas.{without_first-none, passes-find}, Removal.goes_with-itself}
use Rattle.kernel_types.proofs.{Removal.{link_del-found, same_place}, SoundHosts.{goes_with-sound, HasTagsOn-sound}}
use Rattle.kernel_types.proofs.TouchRemoval.{is_at-symm, keeps_or_owns, owned_no_bridge}
use Rattle.object_tables.proofs.Lists.{filter-none}
use Rattle.host_tables.specs.Leaving.{has_end_at, is_peer, is_unowned_on, left_by, left_by_owner, left_unowned}
use Rattle.host_tables.specs.Leaving.{left_with}
use Rattle.object_tables.specs.{Rows.{owner_named, unowned_on}, Table.is_key}
use Rattle.host_tables.proofs.Lists.{among-contains, filter-among, filter-twice, found-among, without_first-one}
use Rattle.host_tables.proofs.Owned.{att-same, own-is}

-- ---- a link and its peer

peer-turned : (o : Option LinkKey) (l : Link) → is_peer_at l.ns l.name o ≡ is_peer o l
peer-turned None l = refl
peer-turned (Some key) l = grind (arith, nat_list_eq_equiv.symm key.ns l.ns, nat_list_eq_equiv.symm key.name l.name)

module _ (host : Host) (sound : IsSound host) (link : Link) (there : IsAmong link host.links) where
  goes : (l : Link) → IsAmong l host.links → goes_with link.ns link.name l ≡ is_link_or_peer link l
  goes l at = goes_with-sound host link l sound (among-contains link host.links there) (among-contains l host.links at)

  goes-key : (l : Link) → IsAmong l host.links
      → goes_with link.ns link.name l ≡ (is_at link.ns link.name l || is_peer link.peer l)
  goes-key l at = goes l at ∙ ap (λ b. is_at link.ns link.name l || b) (peer-turned link.peer l)

  -- the links that stay
  pub links-stay : filter (λ l. not (is_peer link.peer l)) (filter (λ l. not (is_at link.ns link.name l)) host.links)
      ≡ filter (λ l. not (goes_with link.ns link.name l)) host.links
  links-stay =
      filter-twice (is_at link.ns link.name) (is_peer link.peer) host.links
      ∙ filter-among (λ l. not (is_at link.ns link.name l || is_peer link.peer l))
      (λ l. not (goes_with link.ns link.name l)) host.links (λ l at. ap not (sym (goes-key l at)))

  -- one that goes stands at an end
  goes-end : (ns name : List ℕ) (l : Link) → IsAmong l host.links
      → goes_with link.ns link.name l && is_at ns name l ≡ true → has_end_at link ns name ≡ true
  goes-end ns name l at h =
      let parts = and_parts (goes_with link.ns link.name l) (is_at ns name l) h in
      let here = and_parts (bytes_eq l.ns ns) (bytes_eq l.name name) parts.1 in
      let one : l.ns ≡ ns = (bytes_eq-Decides l.ns ns).0 here.0 in
      let two : l.name ≡ name = (bytes_eq-Decides l.name name).0 here.1 in
      let end : has_end_at link l.ns l.name ≡ true =
      ap (λ b. b || is_peer_at l.ns l.name link.peer) (is_at-symm link l) ∙ sym (goes l at) ∙ parts.0 in
      ap (λ n. has_end_at link n name) (sym one) ∙ ap (has_end_at link l.ns) (sym two) ∙ end

  peer-goes : (ns name : List ℕ) (o : Option LinkKey) → peer_fits host.links link o ≡ true → is_peer_at ns name o ≡ true
      → list_any (λ l. goes_with link.ns link.name l && is_at ns name l) host.links ≡ true
  peer-goes ns name None fits h = absurd (cc h)
  peer-goes ns name (Some key) fits h =
      let here = and_parts (bytes_eq key.ns ns) (bytes_eq key.name name) h in
      let one : key.ns ≡ ns = (bytes_eq-Decides key.ns ns).0 here.0 in
      let two : key.name ≡ name = (bytes_eq-Decides key.name name).0 here.1 in
      list_any-weaker (peers_back link key) (λ l. goes_with link.ns link.name l && is_at ns name l)
      (λ l back. rw (← one, ← two) (grind (arith, back))) host.links (grind (arith, fits))

  end-goes : (ns name : List ℕ) → has_end_at link ns name ≡ true
      → list_any (λ l. goes_with link.ns link.name l && is_at ns name l) host.links ≡ true
  end-goes ns name h =
      let own :
      is_at ns name link ≡ true
      → list_any (λ l. goes_with link.ns link.name l && is_at ns name l) host.links ≡ true =
      λ at. any-among (λ l. goes_with link.ns link.name l && is_at ns name l) link host.links there
      (rw (goes_with-itself link, at) refl) in
      let fits : peer_fits host.links link link.peer ≡ true =
      all-among (λ l. peer_fits host.links l l.peer) link host.links there sound.links.peers in
      grind (arith, h, own, peer-goes ns name link.peer fits)

  pub goes-at : (ns name : List ℕ)
      → list_any (λ l. goes_with link.ns link.name l && is_at ns name l) host.links ≡ has_end_at link ns name
  goes-at ns name =
      both_ways (list_any (λ l. goes_with link.ns link.name l && is_at ns name l) host.links) (has_end_at link ns name)
      (from-among (λ l. goes_with link.ns link.name l && is_at ns name l) (has_end_at link ns name) host.links
      (goes-end ns name))
      (end-goes ns name)

owned-alone : (g o : Bool) → (not g || o) ≡ true → not (o && g) ≡ not g
owned-alone true o h = grind (arith, h)
owned-alone false o h = grind arith

pub none-leaves : (host : Host) (att : Att) → find (λ l. is_own att l.tag) host.links ≡ None
    → (record host { links = without_first (λ l. is_own att l.tag) host.links }, Gone false) ≡ link_del_of host att
none-leaves host att none =
    ap (λ ls. (record host { links = ls }, Gone false))
    (without_first-none (λ l. is_own att l.tag) host.links
    (list_any-find_none (λ l. is_own att l.tag) host.links none))
    ∙ ap (without_link host) (sym none)

-- ---- what is dropped

pub gone-own : {T : Type 0} (tag_of : T → Tag) (att : Att) (gone : T → Bool) (xs : List T)
    → filter (λ x. not (is_key att_eq-value.it (owner_named (tag_of x)) att && gone x)) xs
    ≡ filter (λ x. not (is_own att (tag_of x) && gone x)) xs
gone-own tag_of att gone xs = (λ i. filter (λ x. not (own-is att_eq-value.it att-same att (tag_of x) i && gone x)) xs)

on-is : (link : Link) (t : Tag) (ns name : List ℕ)
    → is_key link_key-value.it (unowned_on t ns name) (record { ns = link.ns; name = link.name })
    ≡ is_unowned_on link t ns name
on-is link Outside ns name = grind (arith, nat_list_eq_equiv.symm ns link.ns, nat_list_eq_equiv.symm name link.name)
on-is link Base ns name = grind (arith, nat_list_eq_equiv.symm ns link.ns, nat_list_eq_equiv.symm name link.name)
on-is link (Own att) ns name = refl

pub gone-unowned : {T : Type 0} (tag_of : T → Tag) (ns_of name_of : T → List ℕ) (link : Link) (xs : List T)
    → filter (λ x.
    not (is_key link_key-value.it (unowned_on (tag_of x) (ns_of x) (name_of x))
    (record { ns = link.ns; name = link.name })))
    xs
    ≡ filter (λ x. not (is_unowned_on link (tag_of x) (ns_of x) (name_of x))) xs
gone-unowned tag_of ns_of name_of link xs = (λ i. filter (λ x. not (on-is link (tag_of x) (ns_of x) (name_of x) i)) xs)

pub no-peer : (o : Option LinkKey) (links : List Link) → o ≡ None → links ≡ filter (λ l. not (is_peer o l)) links
no-peer o links none = sym (ap (λ p. filter (λ l. not (is_peer p l)) links) none ∙ filter-every links)

-- ---- the link at a place

pub at-key : (ns name : List ℕ) (link : Link) (links : List Link) → is_at ns name link ≡ true
    → filter (λ l. not (is_at ns name l)) links ≡ filter (λ l. not (is_at link.ns link.name l)) links
at-key ns name link links h =
    let parts = and_parts (bytes_eq link.ns ns) (bytes_eq link.name name) h in
    let one : link.ns ≡ ns = (bytes_eq-Decides link.ns ns).0 parts.0 in
    let two : link.name ≡ name = (bytes_eq-Decides link.name name).0 parts.1 in
    (λ i. filter (λ l. not (is_at (sym one i) (sym two i) l)) links)

-- ---- a link that was taken out

no-veth : (l : Link) (t : Tag) → is_owned t ≡ false → link_fits_tag l t ≡ true → is_veth l.kind ≡ false
no-veth l Outside off fits = shared-no_veth l.kind fits
no-veth l Base off fits = shared-no_veth l.kind (and_parts (is_unowned_kind l.kind) (is_host_ns l.ns) fits).0
no-veth l (Own att) off fits = absurd (true≢false off)

no-peer-of : (links : List Link) (l : Link) (o : Option LinkKey) → is_veth l.kind ≡ false → peer_fits links l o ≡ true
    → o ≡ None
no-peer-of links l None off fits = refl
no-peer-of links l (Some key) off fits =
    let veth : is_veth l.kind ≡ true = grind (arith, fits) in absurd (true≢false (sym veth ∙ off))

not-own : (s t : Tag) → is_owned s ≡ false → tag_eq s t ≡ true → is_owned t ≡ false
not-own s Outside off same = refl
not-own s Base off same = refl
not-own Outside (Own b) off same = absurd (true≢false (sym same))
not-own Base (Own b) off same = absurd (true≢false (sym same))
not-own (Own a) (Own b) off same = absurd (true≢false off)

may-not-own : (m : Link) (t : Tag) → is_owned m.tag ≡ false → may_be_on m t ≡ true → is_owned t ≡ false
may-not-own m Outside off may = refl
may-not-own m Base off may = refl
may-not-own m (Own b) off may = not-own m.tag (Own b) off (grind (arith, may))

module _ (host : Host) (sound : IsSound host) (link : Link) (at_place : IsAmong link host.links) where
  tags-on : (m : Link) → IsAmong m host.links → HasTagsOn m host
  tags-on m at = HasTagsOn-sound host m sound (among-contains m host.links at)

  fits : peer_fits host.links link link.peer ≡ true
  fits = all-among (λ l. peer_fits host.links l l.peer) link host.links at_place sound.links.peers

  link-leaves : (rest : List Link) → rest ≡ filter (λ l. not (is_at link.ns link.name l)) host.links → record host {
    links = filter (λ l. not (is_peer link.peer l)) rest;
    addresses = filter (λ a. not (has_end_at link a.ns a.link)) host.addresses;
    routes = filter (λ r. not (has_end_at link r.ns r.link)) host.routes;
  } ≡ without_links (goes_with link.ns link.name) host
  link-leaves rest is =
      let links = ap (filter (λ l. not (is_peer link.peer l))) is ∙ links-stay host sound link at_place in
      (λ i. record host {
        links = links i;
        addresses = filter (λ a. not (sym (goes-at host sound link at_place a.ns a.link) i)) host.addresses;
        routes = filter (λ r. not (sym (goes-at host sound link at_place r.ns r.link) i)) host.routes;
      })

  -- ---- where an attachment owns it, what may be on it is the attachment's

  may-own : (att : Att) → link.tag ≡ Own att → (m : Link) → IsAmong m host.links → tag_eq m.tag link.tag ≡ true
      → (t : Tag) → may_be_on m t ≡ true → is_own att t ≡ true
  may-own att owned m at same t may =
      let tag : m.tag ≡ Own att = tag_eq-same m.tag link.tag same ∙ owned in
      let is : link_fits_tag m m.tag ≡ true = all-among (λ l. link_fits_tag l l.tag) m host.links at sound.links.tags in
      let no_bridge : is_bridge m.kind ≡ false = owned_no_bridge m.ns m.kind (ap (link_fits_tag m) (sym tag) ∙ is) in
      let own : tag_eq m.tag t ≡ true = grind (arith, may, no_bridge) in
      own-own att t (sym (tag_eq-same m.tag t own) ∙ tag)

  peer-own : (att : Att) → link.tag ≡ Own att → (place at : List ℕ) (t : Tag)
      → ((m : Link) → IsAmong m host.links → is_at place at m ≡ true → may_be_on m t ≡ true) → (o : Option LinkKey)
      → peer_fits host.links link o ≡ true → is_peer_at place at o ≡ true → is_own att t ≡ true
  peer-own att owned place at t lies None fits h = absurd (cc h)
  peer-own att owned place at t lies (Some key) fits h =
      from-among (peers_back link key) (is_own att t) host.links
      (λ m among back.
      let here : is_at key.ns key.name m ≡ true = grind (arith, back) in
      let same : tag_eq m.tag link.tag ≡ true = grind (arith, back) in
      may-own att owned m among same t
      (lies m among (sym (same_place key.ns key.name place at (λ a b. is_at a b m) h) ∙ here)))
      (grind (arith, fits))

  -- what is on an end is the attachment's
  end-own : (att : Att) → link.tag ≡ Own att → (place at : List ℕ) (t : Tag)
      → ((m : Link) → IsAmong m host.links → is_at place at m ≡ true → may_be_on m t ≡ true)
      → not (is_own att t && has_end_at link place at) ≡ not (has_end_at link place at)
  end-own att owned place at t lies =
      let here : is_at place at link ≡ true → is_own att t ≡ true = λ on.
      may-own att owned link at_place (tag_eq-refl link.tag) t (lies link at_place on) in
      let peer : is_peer_at place at link.peer ≡ true → is_own att t ≡ true =
      peer-own att owned place at t lies link.peer fits in
      owned-alone (has_end_at link place at) (is_own att t)
      (keeps_or_owns (has_end_at link place at) (is_own att t) (λ h. grind (arith, h, here, peer)))

  end-addresses : (att : Att) → link.tag ≡ Own att
      → filter (λ a. not (is_own att a.tag && has_end_at link a.ns a.link)) host.addresses
      ≡ filter (λ a. not (has_end_at link a.ns a.link)) host.addresses
  end-addresses att owned =
      filter-among (λ a. not (is_own att a.tag && has_end_at link a.ns a.link))
      (λ a. not (has_end_at link a.ns a.link)) host.addresses
      (λ a there. end-own att owned a.ns a.link a.tag
      (λ m at on.
      let may =
      all-among (λ a. not (is_at a.ns a.link m) || may_be_on m a.tag) a host.addresses there
      (tags-on m at).addresses in
      grind (arith, may, on)))

  end-routes : (att : Att) → link.tag ≡ Own att
      → filter (λ r. not (is_own att r.tag && has_end_at link r.ns r.link)) host.routes
      ≡ filter (λ r. not (has_end_at link r.ns r.link)) host.routes
  end-routes att owned =
      filter-among (λ r. not (is_own att r.tag && has_end_at link r.ns r.link))
      (λ r. not (has_end_at link r.ns r.link)) host.routes
      (λ r there. end-own att owned r.ns r.link r.tag
      (λ m at on.
      let has =
      all-among (λ r. not (is_at r.ns r.link m) || tag_eq m.tag r.tag) r host.routes there
      (tags-on m at).routes in
      grind (arith, has, on)))

  owned-leaves : (att : Att) → link.tag ≡ Own att → (rest : List Link)
      → rest ≡ filter (λ l. not (is_at link.ns link.name l)) host.links
      → left_by_owner link att (record host { links = rest }) ≡ without_links (goes_with link.ns link.name) host
  owned-leaves att owned rest is =
      (λ i. record host {
        links = filter (λ l. not (is_peer link.peer l)) rest;
        addresses = end-addresses att owned i;
        routes = end-routes att owned i;
      }) ∙ link-leaves rest is

  -- ---- where none owns it, it has no peer, and what is on it none owns either

  peer-none : is_owned link.tag ≡ false → link.peer ≡ None
  peer-none off =
      no-peer-of host.links link link.peer
      (no-veth link link.tag off (all-among (λ l. link_fits_tag l l.tag) link host.links at_place sound.links.tags))
      fits

  end-unowned : is_owned link.tag ≡ false → (ns name : List ℕ) (t : Tag)
      → (is_at ns name link ≡ true → is_owned t ≡ false)
      → not (is_unowned_on link t ns name) ≡ not (has_end_at link ns name)
  end-unowned off ns name t lies = by (is_at ns name link) refl (ap (is_peer_at ns name) (peer-none off))
    where
      by : (b : Bool) → is_at ns name link ≡ b → is_peer_at ns name link.peer ≡ false
          → not (is_unowned_on link t ns name) ≡ not (has_end_at link ns name)
      by true e none = let free = lies e in grind (arith, e, free)
      by false e none = grind (arith, e, none)

  unowned-addresses : is_owned link.tag ≡ false
      → filter (λ a. not (is_unowned_on link a.tag a.ns a.link)) host.addresses
      ≡ filter (λ a. not (has_end_at link a.ns a.link)) host.addresses
  unowned-addresses off =
      filter-among (λ a. not (is_unowned_on link a.tag a.ns a.link))
      (λ a. not (has_end_at link a.ns a.link)) host.addresses
      (λ a there. end-unowned off a.ns a.link a.tag
      (λ on.
      let may =
      all-among (λ a. not (is_at a.ns a.link link) || may_be_on link a.tag) a host.addresses there
      (tags-on link at_place).addresses in
      may-not-own link a.tag off (grind (arith, may, on))))

  unowned-routes : is_owned link.tag ≡ false
      → filter (λ r. not (is_unowned_on link r.tag r.ns r.link)) host.routes
      ≡ filter (λ r. not (has_end_at link r.ns r.link)) host.routes
  unowned-routes off =
      filter-among (λ r. not (is_unowned_on link r.tag r.ns r.link))
      (λ r. not (has_end_at link r.ns r.link)) host.routes
      (λ r there. end-unowned off r.ns r.link r.tag
      (λ on.
      let has =
      all-among (λ r. not (is_at r.ns r.link link) || tag_eq link.tag r.tag) r host.routes there
      (tags-on link at_place).routes in
      not-own link.tag r.tag off (grind (arith, has, on))))

  unowned-leaves : is_owned link.tag ≡ false → (rest : List Link)
      → rest ≡ filter (λ l. not (is_at link.ns link.name l)) host.links
      → left_unowned link (record host { links = rest }) ≡ without_links (goes_with link.ns link.name) host
  unowned-leaves off rest is =
      (λ i. record host {
        links = no-peer link.peer rest (peer-none off) i;
        addresses = unowned-addresses off i;
        routes = unowned-routes off i;
      }) ∙ link-leaves rest is

  left-by : (t : Tag) → link.tag ≡ t → (rest : List Link)
      → rest ≡ filter (λ l. not (is_at link.ns link.name l)) host.links
      → left_by link t (record host { links = rest }) ≡ without_links (goes_with link.ns link.name) host
  left-by Outside e rest is = unowned-leaves (ap is_owned e) rest is
  left-by Base e rest is = unowned-leaves (ap is_owned e) rest is
  left-by (Own att) e rest is = owned-leaves att e rest is

  -- what goes with a link that was taken out of a sound host
  pub left-leaves : (rest : List Link) → rest ≡ filter (λ l. not (is_at link.ns link.name l)) host.links
      → left_with link (record host { links = rest }) ≡ without_links (goes_with link.ns link.name) host
  left-leaves rest is = left-by link.tag refl rest is

-- the first link that passes
pub left-first : (host : Host) → IsSound host → (p : Link → Bool) (link : Link) → find p host.links ≡ Some link
    → left_with link (record host { links = without_first p host.links })
    ≡ without_links (goes_with link.ns link.name) host
left-first host sound p link found =
    left-leaves host sound link (found-among p host.links link found) (without_first p host.links)
    (without_first-one p (λ a b. is_at b.ns b.name a) is_at-itself (λ a b. is_at-symm a b) host.links link
    sound.links.keys found)

pub drop_link-there : (host : Host) (key : LinkKey) (link : Link) → has_ns_in host.namespaces key.ns ≡ true
    → IsSound host → find (is_at key.ns key.name) host.links ≡ Some link
    → (left_with link (record host { links = filter (λ l. not (is_at key.ns key.name l)) host.links }), Gone true)
    ≡ drop_link_of host key
drop_link-there host key link there sound found =
    ap (λ h. (h, Gone true)) (left-leaves host sound link (found-among (is_at key.ns key.name) host.links link found)
    (filter (λ l. not (is_at key.ns key.name l)) host.links)
    (at-key key.ns key.name link host.links (passes-find (is_at key.ns key.name) host.links link found)))
    ∙ ap (without_link host) (sym found)
    ∙ ap (λ b. if b then without_link host (find (is_at key.ns key.name) host.links) else (host, NoNs)) (sym there)

pub drop_link-none : (host : Host) (key : LinkKey) → has_ns_in host.namespaces key.ns ≡ true
    → find (is_at key.ns key.name) host.links ≡ None
    → (record host { links = filter (λ l. not (is_at key.ns key.name l)) host.links }, Gone false)
    ≡ drop_link_of host key
drop_link-none host key there none =
    ap (λ ls. (record host { links = ls }, Gone false))
    (filter-none (is_at key.ns key.name) host.links (list_any-find_none (is_at key.ns key.name) host.links none))
    ∙ ap (without_link host) (sym none)
    ∙ ap (λ b. if b then without_link host (find (is_at key.ns key.name) host.links) else (host, NoNs)) (sym there)

-- ---- the first link of an attachment

pub own-leaves : (host : Host) → IsSound host → (att : Att) (link : Link)
    → find (λ l. is_own att l.tag) host.links ≡ Some link
    → (left_by_owner link att (record host { links = without_first (λ l. is_own att l.tag) host.links }), Gone true)
    ≡ link_del_of host att
own-leaves host sound att link found =
    let owned : link.tag ≡ Own att =
    is_own-one att link.tag (passes-find (λ l. is_own att l.tag) host.links link found) in
    ap (λ t. (left_by link t (record host { links = without_first (λ l. is_own att l.tag) host.links }), Gone true))
    (sym owned)
    ∙ ap (λ h. (h, Gone true)) (left-first host sound (λ l. is_own att l.tag) link found)
    ∙ link_del-found host att link found
