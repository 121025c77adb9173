-- What a CHECK asks for is in the host before its first entry as after its last.
use Rattle.pod_laws.proofs.Names.{◌≡◌, ◌≢◌, ℕ, Bool, true, not, List, [], ◌∷◌, ◌++◌, length, Option, Some, None, refl}
use Rattle.pod_laws.proofs.Names.{sym, ◌∙◌, ap, subst, inl, inr, arith, and_parts, both_ways, cases_Bool, eqb_tells}
use Rattle.pod_laws.proofs.Names.{nil_from_length, any-filter_same, bytes_eq-Decides, nat_list_eq_equiv, list_all}
use Rattle.pod_laws.proofs.Names.{list_any, ◌&&◌, filter, if◌then◌else◌, bytes_eq, mac_eq, distinct, Mac, Cached}
use Rattle.pod_laws.proofs.Names.{Interface, att_of, addresses_of_result, cached_share, bridge_of, has_object}
use Rattle.pod_laws.proofs.Names.{addr_obj_eq, lease_eq, link_eq, route_eq, rule_eq, setting_eq, tag_eq, IsSound}
use Rattle.pod_laws.proofs.Names.{cached_in, is_at, is_bridge, is_bridge_with, is_host_bridge, is_host_link, is_host_ns}
use Rattle.pod_laws.proofs.Names.{is_own, BridgeAt, Att, Host, Link, Tag, is_own-tag_eq, NetList, Share, share_of}
use Rattle.pod_laws.proofs.Names.{is_of_network, Command, Legal, Placed, list_for, World, after, entry_of, host_of}
use Rattle.pod_laws.proofs.Names.{Entry, Plan, after-append, listed_network, none-or-some}
use Rattle.kernel_types.proofs.{ListLemmas.list_any-weaker, ToldByKeys.link_eq-tag}
use Rattle.pod_laws.specs.Checked.{ChecksHoldFromTheirStart, HoldAlike, are_in, has_bridge_by, has_bridge_for}
use Rattle.pod_laws.specs.{Checked.has_objects_of, Granted.only_asks, Moments.{host_at_end, host_at_start, is_of}}
use Rattle.pod_laws.specs.Moments.{own_entries, until_first, until_last}
use Rattle.pod_laws.proofs.Checked.{CachedBridges.{always-named, has_bridge_named}, OwnWanted.{AreOwn, own-wanted}}
use Rattle.pod_laws.proofs.Checked.Questions.{address-tag, cached-stays, lease-tag, route-tag, rule-tag, setting-tag}
use Rattle.pod_laws.proofs.Histories.{AloneRuns.until_first-own, Entries.{is_of-own, no-entries, own_entries-other}}
use Rattle.pod_laws.proofs.Histories.{Entries.{until_last-other, until_last-own}, Steps.{AllListed, IsOtherKept}}
use Rattle.pod_laws.proofs.{Histories.Steps.{IsOwnKept, ListFact, by-listed}, Questions.Entries.question-entered}
use Rattle.pod_laws.proofs.Questions.SteadyHosts.{KeepsAsked, KeepsBridges, asked-kept, keeps-same}
use Rattle.pod_laws.proofs.Shares.DistinctLeases.{sound-at_end}
use Rattle.std.specs.Cmp.Derive.{one_truth}
use Rattle.pod_workers.proofs.Hosts.GoesWell.{list_named-listed}

-- ---- from the first entry to the last

-- where there is an own entry, one more entry leaves what stands before the first
until_first-more : (n : ℕ) (h : List Entry) (e : Entry) → own_entries n h ≢ []
    → until_first n (h ++ e ∷ []) ≡ until_first n h
until_first-more n [] e some = absurd (some refl)
until_first-more n (x ∷ xs) e some = elim (cases_Bool (is_of n x)) [
  | inl own ↦
      ap (λ b. if b then [] else x ∷ until_first n (xs ++ e ∷ [])) own
      ∙ sym (ap (λ b. if b then [] else x ∷ until_first n xs) own)
  | inr other ↦
      let later : own_entries n xs ≢ [] = λ none.
      some (ap (λ b. if b then x ∷ own_entries n xs else own_entries n xs) other ∙ none) in
      ap (λ b. if b then [] else x ∷ until_first n (xs ++ e ∷ [])) other
      ∙ ap (λ l. x ∷ l) (until_first-more n xs e later)
      ∙ sym (ap (λ b. if b then [] else x ∷ until_first n xs) other)
]

keeps-on : (c : Command) (first middle last : Host) → KeepsAsked c first middle → KeepsAsked c middle last
    → KeepsAsked c first last
keeps-on c first middle last before later = record {
  share = later.share ∙ before.share;
  bridges = λ name mac there. later.bridges name mac (before.bridges name mac there);
  alone = λ exclusive. later.alone exclusive ∙ before.alone exclusive;
}

-- a command that only asks, and has asked, finds kept what it asks for
abbrev KeepsFromStart : ListFact
KeepsFromStart p h n c list =
    only_asks c.command.verb ≡ true → own_entries n h ≢ []
    → KeepsAsked c.command (after p.pods.opening (until_first n h)) (after p.pods.opening (until_last n h))

from_start-begun : (p : Plan) (n : ℕ) (c : Placed) (list : NetList) → KeepsFromStart p [] n c list
from_start-begun p n c list = λ only some. absurd (some refl)

from_start-other : IsOtherKept KeepsFromStart
from_start-other p h m d list e far was = λ only some.
    let opening = p.pods.opening in
    let there : own_entries m h ≢ [] = λ none. some (own_entries-other m h e far ∙ none) in
    subst (λ l. KeepsAsked d.command (after opening l) (after opening (until_last m (h ++ e ∷ []))))
    (sym (until_first-more m h e there))
    (subst (λ l. KeepsAsked d.command (after opening (until_first m h)) (after opening l))
    (sym (until_last-other m h e far)) (was only there))

from_start-own : IsOwnKept KeepsFromStart
from_start-own w n c list call faulty on was = λ only some.
    let h = w.history in
    let e = entry_of (host_of w) n call faulty in
    let opening = w.plan.pods.opening in
    let own : is_of n e ≡ true = is_of-own n e refl in
    let last : after opening (until_last n (h ++ e ∷ [])) ≡ host_of w =
    ap (after opening) (until_last-own n h e own)
    ∙ after-append opening h e
    ∙ question-entered w n c list call faulty on only in
    elim (none-or-some (own_entries n h)) [
      | inl none ↦
          let first : until_first n (h ++ e ∷ []) ≡ h = until_first-own n h e [] none own in
          subst (λ l. KeepsAsked c.command (after opening l) (after opening (until_last n (h ++ e ∷ []))))
          (sym first)
          (subst (KeepsAsked c.command (host_of w)) (sym last) (keeps-same c.command (host_of w)))
      | inr there ↦ elim (asked-kept.since w on.legal n c on.ready.there on.ready.unanswered) [
        | inl none ↦ absurd (there (no-entries (own_entries n h) none))
        | inr since ↦
            let kept =
            keeps-on c.command (after opening (until_first n h)) (after opening (until_last n h)) (host_of w)
            (was only there) since in
            subst (λ l. KeepsAsked c.command (after opening l) (after opening (until_last n (h ++ e ∷ []))))
            (sym (until_first-more n h e there))
            (subst (KeepsAsked c.command (after opening (until_first n h))) (sym last) kept)
      ]
    ]

from_start : (w : World) → Legal w → AllListed KeepsFromStart w.plan w.history
from_start w legal = by-listed KeepsFromStart from_start-begun from_start-own from_start-other w legal

-- ---- the objects of its share

alike-any : {X : Type 0} (p own : X → Bool) → ((x : X) → p x ≡ true → own x ≡ true) → (old new : List X)
    → filter own new ≡ filter own old → list_any p old ≡ list_any p new
alike-any p own w old new same =
    sym (any-filter_same p own true w old) ∙ ap (list_any p) (sym same) ∙ any-filter_same p own true w new

alike-both : (a b c d : Bool) → a ≡ b → c ≡ d → (a && c) ≡ (b && d)
alike-both a b c d h g = ap (λ t. t && c) h ∙ ap (λ t. b && t) g

alike-list : {X : Type 0} (equal : X → X → Bool) (att : Att) (tag : X → Tag)
    → ((a b : X) → equal a b ≡ true → tag_eq (tag a) (tag b) ≡ true) → (old new : List X)
    → filter (λ y. is_own att (tag y)) new ≡ filter (λ y. is_own att (tag y)) old → (xs : List X)
    → list_all (λ x. is_own att (tag x)) xs ≡ true → are_in equal xs old ≡ are_in equal xs new
alike-list equal att tag same_tag old new same [] own = refl
alike-list equal att tag same_tag old new same (x ∷ xs) own =
    let parts = and_parts (is_own att (tag x)) (list_all (λ y. is_own att (tag y)) xs) own in
    let among =
    alike-any (λ y. equal y x) (λ y. is_own att (tag y))
    (λ y h. is_own-tag_eq att (tag y) (tag x) (same_tag y x h) ∙ parts.0) old new same in
    alike-both (list_any (λ y. equal y x) old) (list_any (λ y. equal y x) new) (are_in equal xs old)
    (are_in equal xs new) among (alike-list equal att tag same_tag old new same xs parts.1)

alike-objects : (att : Att) (s : Share) → AreOwn att s → (old new : Host) → share_of att new ≡ share_of att old
    → has_objects_of old s ≡ has_objects_of new s
alike-objects att s own old new same =
    alike-both _ _ _ _
    (alike-list link_eq att (λ x. x.tag) link_eq-tag old.links new.links (ap (λ (k : Share). k.links) same)
    s.links own.links)
    (alike-both _ _ _ _
    (alike-list addr_obj_eq att (λ x. x.tag) address-tag old.addresses new.addresses
    (ap (λ (k : Share). k.addresses) same) s.addresses own.addresses)
    (alike-both _ _ _ _
    (alike-list route_eq att (λ x. x.tag) route-tag old.routes new.routes
    (ap (λ (k : Share). k.routes) same) s.routes own.routes)
    (alike-both _ _ _ _
    (alike-list rule_eq att (λ x. x.tag) rule-tag old.rules new.rules (ap (λ (k : Share). k.rules) same)
    s.rules own.rules)
    (alike-both _ _ _ _
    (alike-list setting_eq att (λ x. x.tag) setting-tag old.settings new.settings
    (ap (λ (k : Share). k.settings) same) s.settings own.settings)
    (alike-list lease_eq att (λ x. x.tag) lease-tag old.leases new.leases
    (ap (λ (k : Share). k.leases) same) s.leases own.leases)))))

-- ---- the bridge

host-name : (ns : List ℕ) → is_host_ns ns ≡ true → ns ≡ []
host-name ns h = elim (eqb_tells (length ns) 0) [
  | inl t ↦ nil_from_length ns t.1
  | inr f ↦ absurd (both_ways (is_host_ns ns) f.0 h)
]

host-ns : (a b : List ℕ) → is_host_ns a ≡ true → is_host_ns b ≡ true → bytes_eq a b ≡ true
host-ns a b h g = (bytes_eq-Decides a b).1 (host-name a h ∙ sym (host-name b g))

one-place : (name : List ℕ) (x y : Link) → is_host_link name x ≡ true → is_host_link name y ≡ true
    → is_at y.ns y.name x ≡ true
one-place name x y h g =
    let a = and_parts (is_host_ns x.ns) (bytes_eq x.name name) h in
    let b = and_parts (is_host_ns y.ns) (bytes_eq y.name name) g in
    let named : bytes_eq x.name y.name ≡ true =
    (bytes_eq-Decides x.name y.name).1
    ((bytes_eq-Decides x.name name).0 a.1 ∙ sym ((bytes_eq-Decides y.name name).0 b.1)) in
    let placed : bytes_eq x.ns y.ns ≡ true = host-ns x.ns y.ns a.0 b.0 in
    grind (arith, named, placed)

is-link : (name : List ℕ) (x : Link) → is_host_bridge name x ≡ true → is_host_link name x ≡ true
is-link name x h = (and_parts (is_host_link name x) (is_bridge x.kind) h).0

-- a bridge stands before another of its name, where places are distinct
place-taken : (name : List ℕ) (mac : Mac) (x : Link) (xs : List Link) → is_host_bridge name x ≡ true
    → list_any (is_bridge_with name mac) xs ≡ true → not (list_any (λ y. is_at y.ns y.name x) xs) ≡ true → ⊥
place-taken name mac x xs here later free =
    let taken : list_any (λ y. is_at y.ns y.name x) xs ≡ true =
    list_any-weaker (is_bridge_with name mac) (λ y. is_at y.ns y.name x)
    (λ y h. one-place name x y (is-link name x here)
    (is-link name y (and_parts (is_host_bridge name y) (mac_eq y.mac mac) h).0))
    xs later in
    both_ways (list_any (λ y. is_at y.ns y.name x) xs) (grind (arith, free)) taken

-- so one bridge has the name
one-mac : (name : List ℕ) (a b : Mac) (links : List Link) → distinct (λ x y. is_at y.ns y.name x) links ≡ true
    → list_any (is_bridge_with name a) links ≡ true → list_any (is_bridge_with name b) links ≡ true → mac_eq a b ≡ true
one-mac name a b [] keys h g = cc
one-mac name a b (x ∷ xs) keys h g =
    let key =
    and_parts (not (list_any (λ y. is_at y.ns y.name x) xs)) (distinct (λ u v. is_at v.ns v.name u) xs) keys in
    elim (cases_Bool (is_bridge_with name a x)) [
      | inl ha ↦ elim (cases_Bool (is_bridge_with name b x)) [
        | inl hb ↦
            let first = and_parts (is_host_bridge name x) (mac_eq x.mac a) ha in
            let second = and_parts (is_host_bridge name x) (mac_eq x.mac b) hb in
            (bytes_eq-Decides a.bytes b.bytes).1
            (sym ((bytes_eq-Decides x.mac.bytes a.bytes).0 first.1)
            ∙ (bytes_eq-Decides x.mac.bytes b.bytes).0 second.1)
        | inr gb ↦
            absurd (place-taken name b x xs (and_parts (is_host_bridge name x) (mac_eq x.mac a) ha).0
            (grind (arith, g, gb)) key.0)
      ]
      | inr ga ↦ elim (cases_Bool (is_bridge_with name b x)) [
        | inl hb ↦
            absurd (place-taken name a x xs (and_parts (is_host_bridge name x) (mac_eq x.mac b) hb).0
            (grind (arith, h, ga)) key.0)
        | inr gb ↦ one-mac name a b xs key.1 (grind (arith, h, ga)) (grind (arith, g, gb))
      ]
    ]

-- a bridge of this name, with its hardware address
record IsBridgeOf (name : List ℕ) (links : List Link) : Type 0 where
  mac : Mac
  there : list_any (is_bridge_with name mac) links ≡ true
  alike : (other : Mac) → mac_eq mac other ≡ true → list_any (is_bridge_with name other) links ≡ true

bridge-of : (name : List ℕ) (links : List Link) → list_any (is_host_bridge name) links ≡ true → IsBridgeOf name links
bridge-of name [] h = cc
bridge-of name (x ∷ xs) h = elim (cases_Bool (is_host_bridge name x)) [
  | inl here ↦ record {
    mac = x.mac;
    there = grind (arith, here, nat_list_eq_equiv.refl x.mac.bytes);
    alike = λ other same. grind (arith, here, same);
  }
  | inr away ↦
      let later = bridge-of name xs (grind (arith, h, away)) in
      record {
        mac = later.mac;
        there = let more = later.there in grind (arith, more);
        alike = λ other same. let more = later.alike other same in grind (arith, more);
      }
]

alike-mac : (name : List ℕ) (mac : Option Mac) (old new : Host) → IsSound new → KeepsBridges old new
    → list_any (is_host_bridge name) old.links ≡ true → has_bridge_by old name mac ≡ has_bridge_by new name mac
alike-mac name None old new sound keeps there = refl
alike-mac name (Some mac) old new sound keeps there =
    one_truth (has_object old (BridgeAt name mac)) (has_object new (BridgeAt name mac)) (keeps name mac)
    (λ now.
    let was = bridge-of name old.links there in
    was.alike mac (one-mac name was.mac mac new.links sound.links.keys (keeps name was.mac was.there) now))

alike-bridge : (bridge : Option (List ℕ)) (interfaces : List Interface) (old new : Host) → IsSound new
    → KeepsBridges old new → has_bridge_named old bridge interfaces ≡ true
    → has_bridge_for old bridge interfaces ≡ has_bridge_for new bridge interfaces
alike-bridge None interfaces old new sound keeps there = refl
alike-bridge (Some bridge) [] old new sound keeps there = refl
alike-bridge (Some bridge) (i ∷ is) old new sound keeps there = alike-mac i.name i.mac old new sound keeps there

-- ---- all that it asks for

-- what comes before the first entry is a prefix of the history
prefix-first : (n : ℕ) (h : List Entry) → (rest : List Entry) × (h ≡ until_first n h ++ rest)
prefix-first n [] = ([], refl)
prefix-first n (x ∷ xs) = elim (cases_Bool (is_of n x)) [
  | inl own ↦ (x ∷ xs, sym (ap (λ b. (if b then [] else x ∷ until_first n xs) ++ x ∷ xs) own))
  | inr other ↦
      let later = prefix-first n xs in
      (later.0, ap (λ l. x ∷ l) later.1 ∙ sym (ap (λ b. (if b then [] else x ∷ until_first n xs) ++ later.0) other))
]

-- the bridge that the cached result names is there at the start
named-at_start : (w : World) → Legal w → (n : ℕ) (c : Placed) (list : NetList) (cached : Cached)
    → list_for w.plan c.command ≡ Some list → cached_in (host_at_start w n) (att_of c.command) ≡ Some cached
    → has_bridge_named (host_at_start w n) (bridge_of list.first) cached.result.interfaces ≡ true
named-at_start w legal n c list cached listed is =
    let front = prefix-first n w.history in
    always-named w legal (until_first n w.history) front.0 front.1 (att_of c.command) list cached
    (list_named-listed w.plan c.command list listed) is

hold-alike : (list : NetList) (c : Command) (start last : Host) → IsSound last → KeepsAsked c start last
    → ((cached : Cached) → cached_in start (att_of c) ≡ Some cached
    → has_bridge_named start (bridge_of list.first) cached.result.interfaces ≡ true)
    → HoldAlike list c start last
hold-alike list c start last sound keeps named = record {
  entry = sym (cached-stays c start last keeps);
  objects = λ cached is.
      alike-both _ _ _ _
      (alike-bridge (bridge_of list.first) cached.result.interfaces start last sound keeps.bridges
      (named cached is))
      (alike-objects (att_of c) (cached_share list c cached)
      (own-wanted list (att_of c) cached.netns cached.mappings (addresses_of_result cached.result)) start
      last keeps.share);
}

pub checks_hold_from_their_start : ChecksHoldFromTheirStart
checks_hold_from_their_start w legal n c at verb some =
    let found = listed_network w legal n c at (ap is_of_network verb) in (
      found.0,
      found.1,
      hold-alike found.0 c.command (host_at_start w n) (host_at_end w n) (sound-at_end w legal n)
          (from_start w legal n c found.0 at found.1 (ap only_asks verb) some)
          (λ cached is. named-at_start w legal n c found.0 cached found.1 is),
    )
