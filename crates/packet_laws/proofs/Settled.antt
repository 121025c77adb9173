-- A settled host: of each attachment it has nothing, or all that its cached result wants. What the rules mean for
-- packets follows from that alone.
use Rattle.packet_laws.proofs.Names.{◌≡◌, Bool, true, false, List, [], ◌∷◌, Some, refl, inl, inr, arith, none-some}
use Rattle.packet_laws.proofs.Names.{same_Some, list_any, option_map, find, if◌then◌else◌, IsAmong, Cached, PortMapping}
use Rattle.packet_laws.proofs.Names.{takes_mappings, addresses_of_result, AreCandidates, cached_in, is_own, Att}
use Rattle.packet_laws.proofs.Names.{CachedObj, Host, Lease, Tag, Outside, Base, Own, Rule, own-own, NetList, share_of}
use Rattle.packet_laws.proofs.Names.{given_by_list, sets_of, Plan, IsPart, among-part}
use Rattle.cni_addr.proofs.Lists.{all-among, any-among}
use Rattle.kernel_types.specs.{Sound.IsSound, Terms.{has_objects, is_owned}}
use Rattle.packet_laws.specs.{Complete.{IsAttached, wanted_of}, Packets.has_ip_masq}
use Rattle.packet_laws.proofs.{Lists.filter-among, WantedRules.rules_by}
use Rattle.kernel_types.proofs.Isolation.{is_own-one}

-- ---- a settled host

-- the rules that the cached result wants, plugin by plugin
abbrev pub rules_for : NetList → Att → Cached → List Rule
rules_for list att cached =
    rules_by (has_ip_masq list.first) att (given_by_list list (addresses_of_result cached.result)) cached.mappings
    cached.result.ips list.chained

-- the host has of the attachment what its cached result wants: these rules and leases, in order, and no other result
pub record IsSettledFor (host : Host) (att : Att) (list : NetList) (cached : Cached) : Type 0 where
  pub leased : AreCandidates (sets_of list) (addresses_of_result cached.result)
  pub takes : (m : PortMapping) → IsAmong m cached.mappings → list_any takes_mappings list.chained ≡ true
  pub rules : IsPart (share_of att host).rules (rules_for list att cached)
  pub rules_there : (r : Rule) → IsAmong r (rules_for list att cached) → IsAmong r host.rules
  pub leases : IsPart (share_of att host).leases (wanted_of list att cached).leases
  pub leases_there : (l : Lease) → IsAmong l (wanted_of list att cached).leases → IsAmong l host.leases
  pub only : (c : CachedObj) → IsAmong c host.cached → c.tag ≡ Own att → c.cached ≡ cached

-- an attachment with its list and its cached result
pub record Attached (p : Plan) (host : Host) (att : Att) : Type 0 where
  pub list : NetList
  pub cached : Cached
  pub is : IsAttached p host att list cached

pub record IsSettled (p : Plan) (host : Host) : Type 0 where
  pub sound : IsSound host
  pub attached : (att : Att) → has_objects host att ≡ true → Attached p host att
  pub settled : (att : Att) (list : NetList) (cached : Cached) → IsAttached p host att list cached
      → IsSettledFor host att list cached

-- ---- who owns an object

owner : (t : Tag) → is_owned t ≡ true → (att : Att) × (t ≡ Own att)
owner Outside is = cc
owner Base is = cc
owner (Own att) is = (att, refl)

-- a rule of the host, with its attachment
pub record IsRuleOf (p : Plan) (host : Host) (r : Rule) : Type 0 where
  pub att : Att
  pub tag : r.tag ≡ Own att
  pub attached : Attached p host att
  pub wanted : IsAmong r (rules_for attached.list att attached.cached)

some_rule-objects : (host : Host) (att : Att) → list_any (λ r. is_own att r.tag) host.rules ≡ true
    → has_objects host att ≡ true
some_rule-objects host att is = grind (arith, is)

some_lease-objects : (host : Host) (att : Att) → list_any (λ l. is_own att l.tag) host.leases ≡ true
    → has_objects host att ≡ true
some_lease-objects host att is = grind (arith, is)

some_cached-objects : (host : Host) (att : Att) → list_any (λ c. is_own att c.tag) host.cached ≡ true
    → has_objects host att ≡ true
some_cached-objects host att is = grind (arith, is)

pub rule-of : (p : Plan) (host : Host) → IsSettled p host → (r : Rule) → IsAmong r host.rules → IsRuleOf p host r
rule-of p host s r at =
    let own = owner r.tag (all-among (λ (x : Rule). is_owned x.tag) r host.rules at s.sound.rules.tags) in
    let mine = own-own own.0 r.tag own.1 in
    let a =
    s.attached own.0
    (some_rule-objects host own.0 (any-among (λ (x : Rule). is_own own.0 x.tag) r host.rules at mine)) in
    record {
      att = own.0;
      tag = own.1;
      attached = a;
      wanted =
          among-part r (share_of own.0 host).rules (rules_for a.list own.0 a.cached)
          (s.settled own.0 a.list a.cached a.is).rules
          (filter-among (λ (x : Rule). is_own own.0 x.tag) r host.rules at mine);
    }

pub lessee : (p : Plan) (host : Host) → IsSettled p host → (att : Att) (l : Lease) → IsAmong l host.leases
    → l.tag ≡ Own att → Attached p host att
lessee p host s att l at tag =
    s.attached att (some_lease-objects host att
    (any-among (λ (x : Lease). is_own att x.tag) l host.leases at (own-own att l.tag tag)))

pub keeper : (p : Plan) (host : Host) → IsSettled p host → (att : Att) (c : CachedObj) → IsAmong c host.cached
    → c.tag ≡ Own att → Attached p host att
keeper p host s att c at tag =
    s.attached att (some_cached-objects host att
    (any-among (λ (x : CachedObj). is_own att x.tag) c host.cached at (own-own att c.tag tag)))

-- the cached object of an attachment
found-object : (cs : List CachedObj) (p : CachedObj → Bool) (cached : Cached)
    → option_map (λ (c : CachedObj). c.cached) (find p cs) ≡ Some cached
    → (c : CachedObj) × IsAmong c cs × (p c ≡ true) × (c.cached ≡ cached)
found-object [] p cached is = absurd (none-some cached is)
found-object (c ∷ cs) p cached is = found-step (p c) c cs p cached refl is (λ later. found-object cs p cached later)
  where
    found-step : (b : Bool) (c : CachedObj) (cs : List CachedObj) (p : CachedObj → Bool) (cached : Cached) → p c ≡ b
        → option_map (λ (c : CachedObj). c.cached) (if b then Some c else find p cs) ≡ Some cached
        → (option_map (λ (c : CachedObj). c.cached) (find p cs) ≡ Some cached
        → (d : CachedObj) × IsAmong d cs × (p d ≡ true) × (d.cached ≡ cached))
        → (d : CachedObj) × IsAmong d (c ∷ cs) × (p d ≡ true) × (d.cached ≡ cached)
    found-step true c cs p cached test is rest = (c, inl refl, test, same_Some c.cached cached is)
    found-step false c cs p cached test is rest = let r = rest is in (r.0, inr r.1, r.2, r.3)

pub cached-object : (host : Host) (att : Att) (cached : Cached) → cached_in host att ≡ Some cached
    → (c : CachedObj) × IsAmong c host.cached × (c.tag ≡ Own att) × (c.cached ≡ cached)
cached-object host att cached is =
    let found = found-object host.cached (λ c. is_own att c.tag) cached is in
    (found.0, found.1, is_own-one att found.0.tag found.2, found.3)
