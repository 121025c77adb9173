-- What goes with an attachment's link is the attachment's.
use Rattle.std.proofs.Common.{◌≡◌, ℕ, Bool, true, false, not, List, [], ◌∷◌, Option, Some, None, refl, ◌∙◌, ap, subst}
use Rattle.std.proofs.{Common.arith, lemmas.{Bool.and_parts, Option.same_Some}}
use Rattle.std.specs.{Cmp.Lexicographic.nat_list_eq_equiv, List.{list_any, list_all}, Prelude.{find, ◌&&◌, ◌||◌}}
use Rattle.cni_addr.specs.Lists.{distinct}
use Rattle.kernel_types.specs.{Apply.Calls.goes_with, Equal.tag_eq, Sound.{IsSound, AreAddresses, AreRoutes, peer_fits}}
use Rattle.kernel_types.specs.{Sound.{peers_back, address_fits_tag, link_fits_tag, is_owned_kind}, Terms.is_host_ns}
use Rattle.kernel_types.specs.Terms.{is_own, is_at, is_peer_at, is_bridge, is_link_of, is_host_bridge}
use Rattle.kernel_types.specs.declared.object.{AddrObj.AddrObj, Att.Att, Host.Host, Link.Link, LinkKey.LinkKey}
use Rattle.kernel_types.specs.declared.object.LinkKind.{LinkKind, TheVariants.{Device, Bridge, Veth, Macvlan, Dummy}}
use Rattle.kernel_types.specs.declared.object.{LinkKind.TheVariants.Vlan, RouteObj.RouteObj, Tag.Tag}
use Rattle.kernel_types.specs.declared.object.Tag.TheVariants.{Outside, Base, Own}
use Rattle.kernel_types.proofs.{Cases.host_bridge-at, Isolation.tag_eq-same, ListLemmas.list_any-weaker}
use Rattle.kernel_types.proofs.{ListLemmas.list_all-weaker, Removal.same_place}

-- ---- lists

pub by_bool : {C : Type 0} (b : Bool) → (b ≡ true → C) → (b ≡ false → C) → C
by_bool true h g = h refl
by_bool false h g = g refl

none_same : {X : Type 0} (same : X → X → Bool) (p : X → Bool) → ((x y : X) → same x y ≡ same y x)
    → (x : X) (xs : List X) → list_any (same x) xs ≡ false → list_all (λ z. not (same z x) || p z) xs ≡ true
none_same same p s x [] h = refl
none_same same p s x (z ∷ xs) h = grind (arith, s z x, none_same same p s x xs)

fails-found : {X : Type 0} (p q : X → Bool) (xs : List X) (y : X) → list_any q xs ≡ false → find p xs ≡ Some y
    → q y ≡ false
fails-found p q [] y h f = cc
fails-found p q (x ∷ xs) y h f = grind (arith, fails-found p q xs y)

-- where keys are distinct, what is the same as the one that was found passes too
same-found : {X : Type 0} (same : X → X → Bool) (p : X → Bool) → ((x y : X) → same x y ≡ same y x)
    → (xs : List X) (y : X) → distinct same xs ≡ true → find p xs ≡ Some y
    → list_all (λ z. not (same z y) || p z) xs ≡ true
same-found same p s [] y d f = refl
same-found {X} same p s (x ∷ xs) y d f =
    by_bool (p x)
    (λ t. let e : x ≡ y = same_Some x y (rw t at f) in
    let P : X → Type 0 = λ v. list_all (λ z. not (same z v) || p z) xs ≡ true in
    let tail : list_all (λ z. not (same z y) || p z) xs ≡ true =
    subst P e (none_same same p s x xs (grind (arith, d))) in
    grind (arith, t, tail))
    (λ n. let later : find p xs ≡ Some y = rw n at f in
    let tail : list_all (λ z. not (same z y) || p z) xs ≡ true = same-found same p s xs y (grind (arith, d)) later in
    let head : same x y ≡ false = fails-found p (same x) xs y (grind (arith, d)) later in
    grind (arith, head, tail))

pub list_all-both : {X : Type 0} (p q r : X → Bool) → ((x : X) → p x ≡ true → q x ≡ true → r x ≡ true) → (xs : List X)
    → list_all p xs ≡ true → list_all q xs ≡ true → list_all r xs ≡ true
list_all-both p q r w [] h g = refl
list_all-both p q r w (x ∷ xs) h g = grind (arith, w x, list_all-both p q r w xs)

-- from one that passes, where all pass another test
pub from_one : {X : Type 0} (p q : X → Bool) (c : Bool) → ((x : X) → p x ≡ true → q x ≡ true → c ≡ true) → (xs : List X)
    → list_any p xs ≡ true → list_all q xs ≡ true → c ≡ true
from_one p q c w [] h g = cc
from_one p q c w (x ∷ xs) h g = grind (arith, w x, from_one p q c w xs)

-- two that pass at one place are one
both_at : {X : Type 0} (same : X → X → Bool) (p q at : X → Bool) → ((x : X) → p x ≡ true → at x ≡ true)
    → ((x : X) → q x ≡ true → at x ≡ true) → ((x y : X) → at x ≡ true → at y ≡ true → same x y ≡ true)
    → (xs : List X) → distinct same xs ≡ true → list_any p xs ≡ true → list_any q xs ≡ true
    → list_any (λ x. p x && q x) xs ≡ true
both_at same p q at wp wq one [] d h g = cc
both_at same p q at wp wq one (x ∷ xs) d h g =
    let later = both_at same p q at wp wq one xs in
    let p_here : p x ≡ true → list_any q xs ≡ true → list_any (same x) xs ≡ true =
    λ px qs. list_any-weaker q (same x) (λ y qy. one x y (wp x px) (wq y qy)) xs qs in
    let q_here : q x ≡ true → list_any p xs ≡ true → list_any (same x) xs ≡ true =
    λ qx ps. list_any-weaker p (same x) (λ y py. one x y (wq x qx) (wp y py)) xs ps in
    grind (arith, d, h, g, later, p_here, q_here)

-- ---- tags and places

pub is_own-tag_eq : (att : Att) (t u : Tag) → tag_eq t u ≡ true → is_own att t ≡ is_own att u
is_own-tag_eq att t u h = ap (is_own att) (tag_eq-same t u h)

pub is_at-symm : (a b : Link) → is_at b.ns b.name a ≡ is_at a.ns a.name b
is_at-symm a b = grind (arith, nat_list_eq_equiv.symm a.ns b.ns, nat_list_eq_equiv.symm a.name b.name)

pub one_place : (ns name : List ℕ) (a b : Link) → is_at ns name a ≡ true → is_at ns name b ≡ true
    → is_at b.ns b.name a ≡ true
one_place ns name a b h g = same_place b.ns b.name ns name (λ m n. is_at m n a) g ∙ h

pub keeps_or_owns : (g o : Bool) → (g ≡ true → o ≡ true) → (not g || o) ≡ true
keeps_or_owns true o h = h refl
keeps_or_owns false o h = refl

-- ---- what is on the links that go

-- a link that may go with objects of these tags: it has such a tag, and is no bridge of the host
abbrev pub may_go : (Tag → Bool) → Link → Bool
may_go mine l = mine l.tag && not (is_host_ns l.ns && is_bridge l.kind)

-- an object whose link with its tag goes has such a tag
on_gone : (mine : Tag → Bool) → (gone : Link → Bool) (links : List Link) (ns name : List ℕ) (t : Tag)
    → distinct (λ a b. is_at b.ns b.name a) links ≡ true → list_all (λ m. not (gone m) || may_go mine m) links ≡ true
    → list_any (is_link_of ns name t) links ≡ true → list_any (λ l. gone l && is_at ns name l) links ≡ true
    → mine t ≡ true
on_gone mine gone links ns name t keys may lies goes =
    from_one (λ x. is_link_of ns name t x && (gone x && is_at ns name x)) (λ m. not (gone m) || may_go mine m) (mine t)
    (λ x a w.
    let same : mine x.tag ≡ mine t = ap mine (tag_eq-same x.tag t (grind (arith, a))) in grind (arith, a, w, same))
    links
    (both_at (λ a b. is_at b.ns b.name a) (is_link_of ns name t) (λ l. gone l && is_at ns name l) (is_at ns name)
    (λ x h. (and_parts (is_at ns name x) (tag_eq x.tag t) h).0) (λ x h. (and_parts (gone x) (is_at ns name x) h).1)
    (one_place ns name) links keys lies goes)
    may

address_gone : (mine : Tag → Bool) → (gone : Link → Bool) (links : List Link)
    → distinct (λ a b. is_at b.ns b.name a) links ≡ true → list_all (λ m. not (gone m) || may_go mine m) links ≡ true
    → (a : AddrObj) (t : Tag) → address_fits_tag links a t ≡ true
    → list_any (λ l. gone l && is_at a.ns a.link l) links ≡ true → mine t ≡ true
address_gone mine gone links keys may a Outside lies goes = cc
address_gone mine gone links keys may a Base lies goes =
    let on = and_parts (is_host_ns a.ns) (list_any (is_host_bridge a.link) links) lies in
    from_one (λ x. is_host_bridge a.link x && (gone x && is_at a.ns a.link x)) (λ m. not (gone m) || may_go mine m)
    (mine Base)
    (λ x h w. grind (arith, h, w))
    links
    (both_at (λ x y. is_at y.ns y.name x) (is_host_bridge a.link) (λ l. gone l && is_at a.ns a.link l)
    (is_at a.ns a.link) (λ x b. host_bridge-at a.ns a.link x on.0 b)
    (λ x h. (and_parts (gone x) (is_at a.ns a.link x) h).1) (one_place a.ns a.link) links keys on.1 goes)
    may
address_gone mine gone links keys may a (Own b) lies goes =
    on_gone mine gone links a.ns a.link (Own b) keys may lies goes

pub addresses_gone : (mine : Tag → Bool) → (gone : Link → Bool) (links : List Link) (addresses : List AddrObj)
    → distinct (λ a b. is_at b.ns b.name a) links ≡ true → list_all (λ m. not (gone m) || may_go mine m) links ≡ true
    → AreAddresses links addresses
    → list_all (λ a. not (list_any (λ l. gone l && is_at a.ns a.link l) links) || mine a.tag) addresses ≡ true
addresses_gone mine gone links addresses keys may sound =
    list_all-weaker (λ a. address_fits_tag links a a.tag)
    (λ a. not (list_any (λ l. gone l && is_at a.ns a.link l) links) || mine a.tag)
    (λ a h. keeps_or_owns (list_any (λ l. gone l && is_at a.ns a.link l) links) (mine a.tag)
    (address_gone mine gone links keys may a a.tag h)) addresses sound.on_links

pub routes_gone : (mine : Tag → Bool) → (gone : Link → Bool) (links : List Link) (routes : List RouteObj)
    → distinct (λ a b. is_at b.ns b.name a) links ≡ true → list_all (λ m. not (gone m) || may_go mine m) links ≡ true
    → AreRoutes links routes
    → list_all (λ r. not (list_any (λ l. gone l && is_at r.ns r.link l) links) || mine r.tag) routes ≡ true
routes_gone mine gone links routes keys may sound =
    list_all-weaker (λ r. list_any (is_link_of r.ns r.link r.tag) links)
    (λ r. not (list_any (λ l. gone l && is_at r.ns r.link l) links) || mine r.tag)
    (λ r h. keeps_or_owns (list_any (λ l. gone l && is_at r.ns r.link l) links) (mine r.tag)
    (on_gone mine gone links r.ns r.link r.tag keys may h)) routes sound.on_links

-- ---- the links that go with one of an attachment

-- a link whose peer stands where only the attachment's do is the attachment's
peer_owned : (att : Att) (found : Link) (links : List Link)
    → list_all (λ z. not (is_at found.ns found.name z) || is_own att z.tag) links ≡ true
    → (m : Link) (o : Option LinkKey) → peer_fits links m o ≡ true → is_peer_at found.ns found.name o ≡ true
    → is_own att m.tag ≡ true
peer_owned att found links owned m None h p = cc
peer_owned att found links owned m (Some key) h p =
    from_one (peers_back m key) (λ z. not (is_at found.ns found.name z) || is_own att z.tag) (is_own att m.tag)
    (λ x a w. let at = same_place key.ns key.name found.ns found.name (λ m n. is_at m n x) p in
    grind (arith, a, w, at, is_own-tag_eq att x.tag m.tag))
    links (grind (arith, h)) owned

pub owned_no_bridge : (ns : List ℕ) (k : LinkKind) → is_owned_kind ns k ≡ true → is_bridge k ≡ false
owned_no_bridge ns Device h = cc
owned_no_bridge ns Bridge h = cc
owned_no_bridge ns Veth h = refl
owned_no_bridge ns (Macvlan mode) h = refl
owned_no_bridge ns Dummy h = refl
owned_no_bridge ns (Vlan id) h = refl

own_no_bridge : (att : Att) (l : Link) (t : Tag) → is_own att t ≡ true → link_fits_tag l t ≡ true
    → is_bridge l.kind ≡ false
own_no_bridge att l Outside h g = cc
own_no_bridge att l Base h g = cc
own_no_bridge att l (Own b) h g = owned_no_bridge l.ns l.kind g

-- each link that goes is the attachment's
pub gone_owned : (att : Att) (host : Host) (found : Link) → IsSound host
    → find (λ l. is_own att l.tag) host.links ≡ Some found
    → list_all (λ m. not (goes_with found.ns found.name m) || is_own att m.tag) host.links ≡ true
gone_owned att host found sound f =
    let owned : list_all (λ z. not (is_at found.ns found.name z) || is_own att z.tag) host.links ≡ true =
    same-found (λ a b. is_at b.ns b.name a) (λ l. is_own att l.tag) is_at-symm host.links found sound.links.keys f in
    list_all-both (λ m. peer_fits host.links m m.peer) (λ z. not (is_at found.ns found.name z) || is_own att z.tag)
    (λ m. not (goes_with found.ns found.name m) || is_own att m.tag)
    (λ m h w. grind (arith, w, h, peer_owned att found host.links owned m m.peer h)) host.links sound.links.peers owned

pub gone_may_go : (att : Att) (host : Host) (found : Link) → IsSound host
    → find (λ l. is_own att l.tag) host.links ≡ Some found
    → list_all (λ m. not (goes_with found.ns found.name m) || may_go (is_own att) m) host.links ≡ true
gone_may_go att host found sound f =
    list_all-both (λ m. not (goes_with found.ns found.name m) || is_own att m.tag) (λ m. link_fits_tag m m.tag)
    (λ m. not (goes_with found.ns found.name m) || may_go (is_own att) m)
    (λ m w h. grind (arith, w, own_no_bridge att m m.tag, h)) host.links
    (gone_owned att host found sound f) sound.links.tags
