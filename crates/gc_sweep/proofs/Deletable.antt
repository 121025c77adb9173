-- How many deletions an attachment's objects take, before and after each call of a run.
use Rattle.gc_sweep.proofs.Names.{◌≡◌, ℕ, ◌+◌, ◌≤◌, Bool, true, false, List, [], ◌∷◌, ◌++◌, map, length, Option, Some}
use Rattle.gc_sweep.proofs.Names.{None, refl, sym, ◌∙◌, ap, subst, inl, inr, ◌⊎◌, arith, not, both_ways, not-true}
use Rattle.gc_sweep.proofs.Names.{length-append, length-map, list_any, filter, find, ◌&&◌, one_if, without_first}
use Rattle.gc_sweep.proofs.Names.{IsAllowed, apply, goes_with, without_link, IsSound, is_own, Call, VethAdd, MacvlanAdd}
use Rattle.gc_sweep.proofs.Names.{LinkSet, AddrAdd, RouteAdd, RuleAppend, SettingSet, CachePut, Kind, Reply, Gone, Att}
use Rattle.gc_sweep.proofs.Names.{Host, Link, is_own-one, passes-find, goes_with-itself, is_own-tag_eq, Share, share_of}
use Rattle.gc_sweep.proofs.Names.{share_after_call, deletion}
use Rattle.std.proofs.lemmas.{Bool.{cases_Bool, not_from_true}, Slice.Eq.bytes_eq-Decides}
use Rattle.cni_addr.specs.declared.{address.Addr.Addr, mac.Mac.Mac, range.RangeSet.RangeSet}
use Rattle.kernel_types.specs.{Apply.Calls.{is_own_at, set_link, with_values}, Sound.{link_fits_tag, peer_fits}}
use Rattle.kernel_types.specs.{Sound.{peers_back, is_owned_kind}, Terms.{is_host_ns, is_peer_at, is_veth, lease_of}}
use Rattle.kernel_types.specs.declared.call.Call.TheVariants.{Begin, BridgeEnsure, GatewayEnsure, ForwardEnsure}
use Rattle.kernel_types.specs.declared.call.{Call.TheVariants.LeaseNext, Reply.TheVariants.{Done, Leased}}
use Rattle.kernel_types.specs.declared.object.{LinkKey.LinkKey, LinkKind.LinkKind}
use Rattle.cni_addr.proofs.{Cases.by_test, Lists.{length-filter_le, list_any-found}}
use Rattle.kernel_types.proofs.ListLemmas.{list_any-weaker, passes-list_all}
use Rattle.kernel_types.specs.declared.object.Tag.TheVariants as tags
use Rattle.kernel_types.specs.declared.object.LinkKind.TheVariants as link_kinds
use Rattle.kernel_types.specs.declared.call.Kind.TheVariants as kinds
use Rattle.plugin_base.specs.Calls.{is_plugin_call_of}
use Rattle.plugin_base.proofs.{KeyLists.filter-map_kept, OwnCalls.{share-own, share-lease, share-begin}}
use Rattle.plugin_base.proofs.Refusals.{refused-same, refused-lease}
use Rattle.gc_sweep.specs.Deletions.{deletions_of}
use Rattle.gc_sweep.proofs.Lists.{count_append, count_without_first}

-- ---- counts

count-push : {X : Type 0} (q : X → Bool) (xs : List X) (x : X)
    → length (filter q (xs ++ x ∷ [])) ≤ length (filter q xs) + 1
count-push q xs x = let sum = count_append q xs (x ∷ []) in let one = length-filter_le q (x ∷ []) in omega arith

count-pair : {X : Type 0} (q : X → Bool) (xs : List X) (x y : X) → q x ≡ false
    → length (filter q (xs ++ x ∷ y ∷ [])) ≤ length (filter q xs) + 1
count-pair q xs x y h =
    let sum = count_append q xs (x ∷ y ∷ []) in
    let later : length (filter q (x ∷ y ∷ [])) ≡ length (filter q (y ∷ [])) = rw h refl in
    let one = length-filter_le q (y ∷ []) in
    omega arith

count-map : {X : Type 0} (q : X → Bool) (f : X → X) → ((x : X) → q (f x) ≡ q x) → (xs : List X)
    → length (filter q (map f xs)) ≡ length (filter q xs)
count-map q f same xs = ap length (filter-map_kept q f same xs) ∙ length-map (filter q xs) f

count-without_first : {X : Type 0} (own : X → Bool) (xs : List X)
    → length (filter own (without_first own xs)) + one_if (list_any own xs) ≤ length (filter own xs)
count-without_first own xs = count_without_first own own (λ x h. h) xs

count-fewer : {X : Type 0} (q own gone : X → Bool) (xs : List X)
    → length (filter q (filter own (filter (λ x. not (gone x)) xs))) ≤ length (filter q (filter own xs))
count-fewer q own gone [] = omega arith
count-fewer q own gone (x ∷ xs) = grind (arith, count-fewer q own gone xs)

-- one of the own that count goes
count-gone : {X : Type 0} (q own gone : X → Bool) (xs : List X) → list_any (λ x. own x && (q x && gone x)) xs ≡ true
    → length (filter q (filter own (filter (λ x. not (gone x)) xs))) + 1 ≤ length (filter q (filter own xs))
count-gone q own gone [] h = cc
count-gone q own gone (x ∷ xs) h = grind (arith, h, count-fewer q own gone xs, count-gone q own gone xs)

-- ---- a call that makes objects

pub done_or_not : (r : Reply) → (r ≡ Done) ⊎ (r ≡ Done → ⊥)
done_or_not Done = inl refl
done_or_not _ = inr (λ is. cc)

pub leased_or_not : (r : Reply) → ((a : Addr) × (r ≡ Leased a)) ⊎ ((a : Addr) → r ≡ Leased a → ⊥)
leased_or_not (Leased addr) = inl (addr, refl)
leased_or_not _ = inr (λ a is. cc)

set-inner : (att : Att) (key : LinkKey) (mac : Option Mac) (mtu tx_qlen : Option ℕ) (promisc allmulti : Bool) (l : Link)
    → not (is_host_ns (set_link att key mac mtu tx_qlen promisc allmulti l).ns) ≡ not (is_host_ns l.ns)
set-inner att key mac mtu tx_qlen promisc allmulti l =
    by_test (λ (m : Link). not (is_host_ns m.ns) ≡ not (is_host_ns l.ns)) (is_own_at att key l)
    (with_values mac mtu tx_qlen promisc allmulti l) l (λ _. refl) (λ _. refl)

-- at most one object more, a pair of links as one
after_call-more : (att : Att) (host : Host) (call : Call) (s : Share) → is_plugin_call_of att call ≡ true
    → IsAllowed host call → deletions_of (share_after_call s call) ≤ deletions_of s + 1
after_call-more att host (VethAdd h i) s is allowed =
    let c = count-pair (λ l. not (is_host_ns l.ns)) s.links h i (not_from_true (is_host_ns h.ns) allowed.outer) in
    omega arith
after_call-more att host (MacvlanAdd link) s is allowed =
    let c = count-push (λ l. not (is_host_ns l.ns)) s.links link in omega arith
after_call-more att host (LinkSet own key mac mtu tx_qlen promisc allmulti) s is allowed =
    let c =
    count-map (λ (l : Link). not (is_host_ns l.ns)) (set_link own key mac mtu tx_qlen promisc allmulti)
    (set-inner own key mac mtu tx_qlen promisc allmulti) s.links in
    omega arith
after_call-more att host (BridgeEnsure name mtu promisc) s is allowed = omega arith
after_call-more att host (GatewayEnsure bridge cidr) s is allowed = omega arith
after_call-more att host (ForwardEnsure family) s is allowed = omega arith
after_call-more att host (AddrAdd obj) s is allowed = omega arith
after_call-more att host (RouteAdd obj) s is allowed = omega arith
after_call-more att host (RuleAppend rule) s is allowed = let c = length-append s.rules (rule ∷ []) in omega arith
after_call-more att host (SettingSet setting) s is allowed =
    let c = length-append s.settings (setting ∷ []) in omega arith
after_call-more att host (CachePut own cached) s is allowed =
    let c = length-append s.cached (record { cached = cached; tag = tags.Own own } ∷ []) in omega arith
after_call-more att host _ s is allowed = cc

abbrev AtMostOneMore : Att → Host → Host → Type 0
AtMostOneMore att old new = deletions_of (share_of att new) ≤ deletions_of (share_of att old) + 1

same-more : (att : Att) (old new : Host) → new ≡ old → AtMostOneMore att old new
same-more att old new is = subst (λ k. AtMostOneMore att old k) (sym is) (omega arith)

pub call-more : (att : Att) (host : Host) (call : Call) → is_plugin_call_of att call ≡ true → IsAllowed host call
    → AtMostOneMore att host (apply host call).0
call-more att host call is allowed = elim (done_or_not (apply host call).1) [
  | inl done ↦
      subst (λ s. deletions_of s ≤ deletions_of (share_of att host) + 1) (sym (share-own att host call is done))
      (after_call-more att host call (share_of att host) is allowed)
  | inr refused ↦ same-more att host (apply host call).0 (refused-same att host call is refused)
]

pub lease-more : (att : Att) (host : Host) (number : ℕ) (set : RangeSet)
    → AtMostOneMore att host (apply host (LeaseNext att number set)).0
lease-more att host number set = elim (leased_or_not (apply host (LeaseNext att number set)).1) [
  | inl leased ↦
      let s = share_of att host in
      subst (λ t. deletions_of t ≤ deletions_of s + 1) (sym (share-lease att host number set leased.0 leased.1))
      (let c = length-append s.leases (lease_of att leased.0 ∷ []) in omega arith)
  | inr refused ↦
      same-more att host (apply host (LeaseNext att number set)).0 (refused-lease host att number set refused)
]

-- an attachment whose Begin was done has nothing to take back
pub begin-none : (att : Att) (host : Host) (netns : List ℕ) → (apply host (Begin att netns)).1 ≡ Done
    → deletions_of (share_of att (apply host (Begin att netns)).0) ≡ 0
begin-none att host netns done = ap deletions_of (share-begin att host netns done)

-- ---- a deletion

-- its reply says whether an object went, and with it at least one deletion
pub record Falls (att : Att) (old : Host) (step : Host × Reply) : Type 0 where
  pub gone : Bool
  pub reply : step.1 ≡ Gone gone
  pub fewer : deletions_of (share_of att step.0) + one_if gone ≤ deletions_of (share_of att old)

-- the first own link goes, and with it an own link outside the host: itself, or the other end
abbrev takes_inner : Att → Link → Link → Bool
takes_inner att found l = is_own att l.tag && (not (is_host_ns l.ns) && goes_with found.ns found.name l)

veth-of : (ns : List ℕ) (kind : LinkKind) → is_owned_kind ns kind ≡ true → is_host_ns ns ≡ true → is_veth kind ≡ true
veth-of ns link_kinds.Device fits outer = cc
veth-of ns link_kinds.Bridge fits outer = cc
veth-of ns link_kinds.Veth fits outer = refl
veth-of ns (link_kinds.Macvlan mode) fits outer =
    absurd (both_ways (is_host_ns ns) (not-true (is_host_ns ns) fits) outer)
veth-of ns link_kinds.Dummy fits outer = absurd (both_ways (is_host_ns ns) (not-true (is_host_ns ns) fits) outer)
veth-of ns (link_kinds.Vlan id) fits outer = absurd (both_ways (is_host_ns ns) (not-true (is_host_ns ns) fits) outer)

inner-peer : (att : Att) (l m : Link) (key : LinkKey) → is_own att l.tag ≡ true → is_host_ns key.ns ≡ false
    → peers_back l key m ≡ true → takes_inner att l m ≡ true
inner-peer att l m key own far back =
    let same_ns : m.ns ≡ key.ns = (bytes_eq-Decides m.ns key.ns).0 (grind (arith, back)) in
    let outside : not (is_host_ns m.ns) ≡ true = ap (λ ns. not (is_host_ns ns)) same_ns ∙ ap not far in
    let tagged : is_own att m.tag ≡ true = is_own-tag_eq att m.tag l.tag (grind (arith, back)) ∙ own in
    let goes : is_peer_at l.ns l.name m.peer ≡ true = grind (arith, back) in
    grind (arith, outside, tagged, goes)

other-end : (att : Att) (links : List Link) (l : Link) (o : Option LinkKey) → is_own att l.tag ≡ true
    → is_veth l.kind ≡ true → is_host_ns l.ns ≡ true → peer_fits links l o ≡ true
    → list_any (takes_inner att l) links ≡ true
other-end att links l None own veth outer fits =
    absurd (both_ways (is_veth l.kind) (not-true (is_veth l.kind) fits) veth)
other-end att links l (Some key) own veth outer fits =
    let there : list_any (peers_back l key) links ≡ true = grind (arith, fits) in
    let far : is_host_ns key.ns ≡ false = grind (arith, fits, outer) in
    list_any-weaker (peers_back l key) (takes_inner att l) (λ m back. inner-peer att l m key own far back) links there

takes-inner : (att : Att) (host : Host) (l : Link) → IsSound host → find (λ l. is_own att l.tag) host.links ≡ Some l
    → list_any (takes_inner att l) host.links ≡ true
takes-inner att host l sound is =
    let own : is_own att l.tag ≡ true = passes-find (λ l. is_own att l.tag) host.links l is in
    elim (cases_Bool (is_host_ns l.ns)) [
      | inl outer ↦
          let fits : link_fits_tag l l.tag ≡ true =
          passes-list_all (λ l. link_fits_tag l l.tag) (λ l. is_own att l.tag) host.links l sound.links.tags is in
          let owned : is_owned_kind l.ns l.kind ≡ true =
          subst (λ t. link_fits_tag l t ≡ true) (is_own-one att l.tag own) fits in
          let peer : peer_fits host.links l l.peer ≡ true =
          passes-list_all (λ m. peer_fits host.links m m.peer) (λ l. is_own att l.tag) host.links l
          sound.links.peers is in
          other-end att host.links l l.peer own (veth-of l.ns l.kind owned outer) outer peer
      | inr inner ↦
          list_any-found (λ l. is_own att l.tag) (takes_inner att l) host.links l is
          (let goes = goes_with-itself l in grind (arith, own, inner, goes))
    ]

links-fall : (att : Att) (host : Host) (o : Option Link) → IsSound host → find (λ l. is_own att l.tag) host.links ≡ o
    → Falls att host (without_link host o)
links-fall att host None sound is = record { gone = false; reply = refl; fewer = omega arith }
links-fall att host (Some l) sound is = record {
  gone = true;
  reply = refl;
  fewer =
      let c =
      count-gone (λ m. not (is_host_ns m.ns)) (λ m. is_own att m.tag) (goes_with l.ns l.name) host.links
      (takes-inner att host l sound is) in
      omega arith;
}

pub deletion-falls : (att : Att) (kind : Kind) (host : Host) → IsSound host
    → Falls att host (apply host (deletion att kind))
deletion-falls att kinds.Links host sound = links-fall att host (find (λ l. is_own att l.tag) host.links) sound refl
deletion-falls att kinds.Rules host sound = record {
  gone = list_any (λ r. is_own att r.tag) host.rules;
  reply = refl;
  fewer = let c = count-without_first (λ r. is_own att r.tag) host.rules in omega arith;
}
deletion-falls att kinds.Settings host sound = record {
  gone = list_any (λ s. is_own att s.tag) host.settings;
  reply = refl;
  fewer = let c = count-without_first (λ s. is_own att s.tag) host.settings in omega arith;
}
deletion-falls att kinds.Leases host sound = record {
  gone = list_any (λ l. is_own att l.tag) host.leases;
  reply = refl;
  fewer = let c = count-without_first (λ l. is_own att l.tag) host.leases in omega arith;
}
deletion-falls att kinds.Cached host sound = record {
  gone = list_any (λ c. is_own att c.tag) host.cached;
  reply = refl;
  fewer = let n = count-without_first (λ c. is_own att c.tag) host.cached in omega arith;
}
