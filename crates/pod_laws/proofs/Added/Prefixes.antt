-- What the calls so far have made is a prefix of what all of them make.
use Rattle.pod_laws.proofs.Names.{◌≡◌, ℕ, Bool, true, false, List, [], ◌∷◌, ◌++◌, map, Option, refl, sym, ◌∙◌, ap}
use Rattle.pod_laws.proofs.Names.{subst, inl, inr, append_assoc, and_parts, append-nil, list_all-append, list_all}
use Rattle.pod_laws.proofs.Names.{filter, if◌then◌else◌, IsAmong, Addr, First, NetList, Command, set_link, is_own}
use Rattle.pod_laws.proofs.Names.{DropsOnly, Call, VethAdd, MacvlanAdd, LinkSet, AddrAdd, RouteAdd, RuleAppend}
use Rattle.pod_laws.proofs.Names.{SettingSet, CachePut, Att, Host, Own, list_all-weaker, makes_interface, Share}
use Rattle.pod_laws.proofs.Names.{share_of, no_objects, share_after_call, share_after_calls, share_after_calls-append}
use Rattle.pod_laws.proofs.Names.{att_of, mappings_of, before_of, back_of, bridge_of, calls_before, links_made}
use Rattle.pod_laws.proofs.Names.{OnlyRemoves, first_laws, adds-links, makes-wanted}
use Rattle.cni_result.proofs.ReadAgain.{everywhere}
use Rattle.pod_laws.specs.{Apart.GrowsAtEnd, AskedFor.{AreAmong, links_after_part, AreLinksOf, AreAskedFor}}
use Rattle.pod_laws.proofs.{Added.Achieved.{with_leases, wanted_by, no_leases}, Parts.{part-left, part-prefix}}

-- ---- lists

pub grows-same : {X : Type 0} (xs : List X) → GrowsAtEnd xs xs
grows-same xs = ([], sym (append-nil xs), tt)

grows-more : {X : Type 0} (xs ys : List X) → GrowsAtEnd xs (xs ++ ys)
grows-more xs ys = (ys, refl, tt)

grows-on : {X : Type 0} (xs ys zs : List X) → GrowsAtEnd xs ys → GrowsAtEnd ys zs → GrowsAtEnd xs zs
grows-on xs ys zs h g = (h.0 ++ g.0, g.1 ∙ ap (λ l. l ++ g.0) h.1 ∙ append_assoc xs h.0 g.0, tt)

pub among-right : {X : Type 0} (x : X) (xs ys : List X) → IsAmong x ys → IsAmong x (xs ++ ys)
among-right x [] ys h = h
among-right x (z ∷ zs) ys h = inr (among-right x zs ys h)

are-right : {X : Type 0} (all xs ys : List X) → AreAmong all ys → AreAmong all (xs ++ ys)
are-right all xs ys h = everywhere (λ x. IsAmong x ys) (λ x. IsAmong x (xs ++ ys)) all (λ x. among-right x xs ys) h

among-append : {X : Type 0} (xs rest : List X) → AreAmong xs (xs ++ rest)
among-append [] rest = tt
among-append (x ∷ xs) rest = (inl refl, are-right xs (x ∷ []) (xs ++ rest) (among-append xs rest))

pub among-prefix : {X : Type 0} (long short : List X) → GrowsAtEnd short long → AreAmong short long
among-prefix long short h = subst (AreAmong short) (sym h.1) (among-append short h.0)

-- ---- what is left of a list is among what it was among

among-if : {X : Type 0} (b : Bool) (x : X) (xs all : List X) → AreAmong (if b then x ∷ xs else xs) all
    → (b ≡ true → IsAmong x all) × AreAmong xs all
among-if true x xs all h = (λ t. h.0, h.1)
among-if false x xs all h = (λ t. cc, h)

if-among : {X : Type 0} (b : Bool) (x : X) (xs all : List X) → (b ≡ true → IsAmong x all) → AreAmong xs all
    → AreAmong (if b then x ∷ xs else xs) all
if-among true x xs all h g = (h refl, g)
if-among false x xs all h g = g

among-drops : {X : Type 0} (p gone : X → Bool) (all old new : List X) → DropsOnly gone old new
    → AreAmong (filter p old) all → AreAmong (filter p new) all
among-drops p gone all [] new d h = subst (λ l. AreAmong (filter p l) all) (sym d) tt
among-drops p gone all (x ∷ old) [] d h = tt
among-drops p gone all (x ∷ old) (y ∷ new) d h =
    let parts = among-if (p x) x (filter p old) all h in
    elim d [
      | inl same ↦
          if-among (p y) y (filter p new) all (λ t. subst (λ z. IsAmong z all) same.0 (parts.0 (ap p same.0 ∙ t)))
          (among-drops p gone all old new same.1 parts.1)
      | inr drop ↦ among-drops p gone all old (y ∷ new) drop.1 parts.1
    ]

-- ---- prefixes of shares

-- list by list, but for the links, which a later call may set
pub record IsPrefix (s t : Share) : Type 0 where
  pub addresses : GrowsAtEnd s.addresses t.addresses
  pub routes : GrowsAtEnd s.routes t.routes
  pub rules : GrowsAtEnd s.rules t.rules
  pub settings : GrowsAtEnd s.settings t.settings
  pub leases : GrowsAtEnd s.leases t.leases
  pub cached : GrowsAtEnd s.cached t.cached

prefix-same : (s : Share) → IsPrefix s s
prefix-same s = record {
  addresses = grows-same s.addresses;
  routes = grows-same s.routes;
  rules = grows-same s.rules;
  settings = grows-same s.settings;
  leases = grows-same s.leases;
  cached = grows-same s.cached;
}

prefix-on : (s t u : Share) → IsPrefix s t → IsPrefix t u → IsPrefix s u
prefix-on s t u h g = record {
  addresses = grows-on s.addresses t.addresses u.addresses h.addresses g.addresses;
  routes = grows-on s.routes t.routes u.routes h.routes g.routes;
  rules = grows-on s.rules t.rules u.rules h.rules g.rules;
  settings = grows-on s.settings t.settings u.settings h.settings g.settings;
  leases = grows-on s.leases t.leases u.leases h.leases g.leases;
  cached = grows-on s.cached t.cached u.cached h.cached g.cached;
}

prefix-call : (s : Share) (call : Call) → IsPrefix s (share_after_call s call)
prefix-call s (AddrAdd obj) = record {
  addresses = grows-more s.addresses (obj ∷ []);
  routes = grows-same s.routes;
  rules = grows-same s.rules;
  settings = grows-same s.settings;
  leases = grows-same s.leases;
  cached = grows-same s.cached;
}
prefix-call s (RouteAdd obj) = record {
  addresses = grows-same s.addresses;
  routes = grows-more s.routes (obj ∷ []);
  rules = grows-same s.rules;
  settings = grows-same s.settings;
  leases = grows-same s.leases;
  cached = grows-same s.cached;
}
prefix-call s (RuleAppend obj) = record {
  addresses = grows-same s.addresses;
  routes = grows-same s.routes;
  rules = grows-more s.rules (obj ∷ []);
  settings = grows-same s.settings;
  leases = grows-same s.leases;
  cached = grows-same s.cached;
}
prefix-call s (SettingSet obj) = record {
  addresses = grows-same s.addresses;
  routes = grows-same s.routes;
  rules = grows-same s.rules;
  settings = grows-more s.settings (obj ∷ []);
  leases = grows-same s.leases;
  cached = grows-same s.cached;
}
prefix-call s (CachePut att cached) =
    record {
      addresses = grows-same s.addresses;
      routes = grows-same s.routes;
      rules = grows-same s.rules;
      settings = grows-same s.settings;
      leases = grows-same s.leases;
      cached = grows-more s.cached (record { cached = cached; tag = Own att } ∷ []);
    }
prefix-call s _ = record {
  addresses = grows-same s.addresses;
  routes = grows-same s.routes;
  rules = grows-same s.rules;
  settings = grows-same s.settings;
  leases = grows-same s.leases;
  cached = grows-same s.cached;
}

prefix-calls : (s : Share) (calls : List Call) → IsPrefix s (share_after_calls s calls)
prefix-calls s [] = prefix-same s
prefix-calls s (c ∷ cs) =
    prefix-on s (share_after_call s c) (share_after_calls (share_after_call s c) cs) (prefix-call s c)
    (prefix-calls (share_after_call s c) cs)

prefix-part : (s t : Share) (all made left : List Call) → all ≡ made ++ left → share_after_calls s all ≡ t
    → IsPrefix (share_after_calls s made) t
prefix-part s t all made left is makes =
    let whole : share_after_calls (share_after_calls s made) left ≡ t =
    sym (share_after_calls-append s made left) ∙ ap (share_after_calls s) (sym is) ∙ makes in
    subst (IsPrefix (share_after_calls s made)) whole (prefix-calls (share_after_calls s made) left)

-- nothing is cached before the last lease

pub front-none : {X : Type 0} (xs ys : List X) → [] ≡ xs ++ ys → xs ≡ []
front-none [] ys e = refl
front-none (x ∷ xs) ys e = cc

pub none_cached-before : (list : NetList) (c : Command) (made left : List Call) → before_of list c ≡ made ++ left
    → (share_after_calls no_objects made).cached ≡ []
none_cached-before list c made left part =
    let front =
    (prefix-part no_objects (record no_objects { links = links_made list (att_of c) c.netns }) (before_of list c)
    made left part (adds-links list.first (att_of c) c.netns no_objects)).cached in
    front-none (share_after_calls no_objects made).cached front.0 front.1

-- ---- links

links-call : (s t : Share) (call : Call) → s.links ≡ t.links
    → (share_after_call s call).links ≡ (share_after_call t call).links
links-call s t (VethAdd h i) e = ap (λ l. l ++ h ∷ i ∷ []) e
links-call s t (MacvlanAdd x) e = ap (λ l. l ++ x ∷ []) e
links-call s t (LinkSet a b d f g i j) e = ap (map (set_link a b d f g i j)) e
links-call s t _ e = e

pub links-calls : (s t : Share) (calls : List Call) → s.links ≡ t.links
    → (share_after_calls s calls).links ≡ (share_after_calls t calls).links
links-calls s t [] e = e
links-calls s t (x ∷ xs) e = links-calls (share_after_call s x) (share_after_call t x) xs (links-call s t x e)

-- no call before the leases sets a link: each only appends
abbrev appends_links : Call → Bool
appends_links (LinkSet a b d f g i j) = false
appends_links _ = true

links-appended : (s : Share) (call : Call) → appends_links call ≡ true
    → GrowsAtEnd s.links (share_after_call s call).links
links-appended s (VethAdd h i) e = grows-more s.links (h ∷ i ∷ [])
links-appended s (MacvlanAdd x) e = grows-more s.links (x ∷ [])
links-appended s (LinkSet a b d f g i j) e = cc
links-appended s _ e = grows-same s.links

-- ---- what a run has is asked for

asked-prefix : (list : NetList) (c : Command) (given : List Addr) (s : Share) → AreLinksOf list c given s.links
    → IsPrefix s (wanted_by list c given) → AreAskedFor list c given s
asked-prefix list c given s links front = record {
  links = links;
  addresses = part-prefix _ s.addresses front.addresses;
  routes = part-prefix _ s.routes front.routes;
  rules = part-prefix _ s.rules front.rules;
  settings = part-prefix _ s.settings front.settings;
  leases = part-prefix _ s.leases front.leases;
  cached = part-prefix _ s.cached front.cached;
}

pub links_made-leased : (list : NetList) (c : Command) (given : List Addr)
    → (with_leases list c given).links ≡ links_made list (att_of c) c.netns
links_made-leased list c given = ap (λ (u : Share). u.links) (adds-links list.first (att_of c) c.netns no_objects)

-- after the leases
pub asked-after_leases : (list : NetList) (c : Command) (given : List Addr) (made left : List Call)
    → back_of list c given ≡ made ++ left → AreAskedFor list c given (share_after_calls (with_leases list c given) made)
asked-after_leases list c given made left part =
    let s = share_after_calls (with_leases list c given) made in
    let links : s.links ≡ links_after_part list c made =
    links-calls (with_leases list c given) (record no_objects { links = links_made list (att_of c) c.netns }) made
    (links_made-leased list c given) in
    asked-prefix list c given s
    (record {
      made = made;
      left = left;
      part = part;
      among = among-prefix (links_after_part list c made) s.links ([], sym links ∙ sym (append-nil s.links), tt);
    })
    (prefix-part (with_leases list c given) (wanted_by list c given) (back_of list c given) made left part
    (makes-wanted list (att_of c) c.netns (mappings_of list c) given))

-- while they are leased
pub asked-leasing : (list : NetList) (c : Command) (given : List Addr)
    → AreAskedFor list c given (with_leases list c given)
asked-leasing list c given = asked-after_leases list c given [] (back_of list c given) refl

-- ---- before the leases

links-appended_all : (s : Share) (calls : List Call) → list_all appends_links calls ≡ true
    → GrowsAtEnd s.links (share_after_calls s calls).links
links-appended_all s [] h = grows-same s.links
links-appended_all s (x ∷ xs) h =
    let both = and_parts (appends_links x) (list_all appends_links xs) h in
    grows-on s.links (share_after_call s x).links (share_after_calls (share_after_call s x) xs).links
    (links-appended s x both.0) (links-appended_all (share_after_call s x) xs both.1)

interface-appends : (bridge : Option (List ℕ)) (call : Call) → makes_interface bridge call ≡ true
    → appends_links call ≡ true
interface-appends bridge (LinkSet att key mac mtu tx_qlen promisc allmulti) h = cc
interface-appends bridge _ h = refl

before-appends : (first : First) (att : Att) (netns : List ℕ)
    → list_all appends_links (calls_before first att netns) ≡ true
before-appends first att netns =
    list_all-weaker (makes_interface (bridge_of first)) appends_links (interface-appends (bridge_of first))
    (calls_before first att netns) ((first_laws first).before att netns).make_interface

pub asked-before_leases : (list : NetList) (c : Command) (made left : List Call) → before_of list c ≡ made ++ left
    → AreAskedFor list c [] (share_after_calls no_objects made)
asked-before_leases list c made left part =
    let s = share_after_calls no_objects made in
    let all : list_all appends_links (made ++ left) ≡ true =
    ap (list_all appends_links) (sym part) ∙ before-appends list.first (att_of c) c.netns in
    let appends : list_all appends_links left ≡ true =
    (and_parts (list_all appends_links made) (list_all appends_links left)
    (sym (list_all-append appends_links made left) ∙ all)).1 in
    let whole : share_after_calls s left ≡ record no_objects { links = links_made list (att_of c) c.netns } =
    sym (share_after_calls-append no_objects made left)
    ∙ ap (share_after_calls no_objects) (sym part)
    ∙ adds-links list.first (att_of c) c.netns no_objects in
    let links : GrowsAtEnd s.links (links_made list (att_of c) c.netns) =
    subst (λ (t : Share). GrowsAtEnd s.links t.links) whole (links-appended_all s left appends) in
    asked-prefix list c [] s
    (record {
      made = [];
      left = back_of list c [];
      part = refl;
      among = among-prefix (links_made list (att_of c) c.netns) s.links links;
    })
    (prefix-on s (with_leases list c []) (wanted_by list c [])
    (prefix-part no_objects (with_leases list c []) (before_of list c) made left part
    (no_leases list.first (att_of c) c.netns))
    (prefix-part (with_leases list c []) (wanted_by list c []) (back_of list c []) [] (back_of list c []) refl
    (makes-wanted list (att_of c) c.netns (mappings_of list c) [])))

-- ---- what a removal leaves

pub asked-removes : (list : NetList) (c : Command) (given : List Addr) (att : Att) (old new : Host)
    → OnlyRemoves old new → AreAskedFor list c given (share_of att old) → AreAskedFor list c given (share_of att new)
asked-removes list c given att old new d a = record {
  links = record {
    made = a.links.made;
    left = a.links.left;
    part = a.links.part;
    among =
        among-drops (λ l. is_own att l.tag) (λ l. true) (links_after_part list c a.links.made) old.links new.links
        d.links a.links.among;
  };
  addresses = part-left (λ l. is_own att l.tag) (λ l. true) _ old.addresses new.addresses d.addresses a.addresses;
  routes = part-left (λ l. is_own att l.tag) (λ l. true) _ old.routes new.routes d.routes a.routes;
  rules = part-left (λ l. is_own att l.tag) (λ l. true) _ old.rules new.rules d.rules a.rules;
  settings = part-left (λ l. is_own att l.tag) (λ l. true) _ old.settings new.settings d.settings a.settings;
  leases = part-left (λ l. is_own att l.tag) (λ l. true) _ old.leases new.leases d.leases a.leases;
  cached =
      part-left (λ l. is_own att l.tag) (λ l. true) (wanted_by list c given).cached old.cached new.cached
      d.cached a.cached;
}
