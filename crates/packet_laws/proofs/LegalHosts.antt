-- A complete host of a legal history is settled.
use Rattle.packet_laws.proofs.Names.{◌≡◌, ℕ, Bool, true, false, List, [], ◌∷◌, ◌++◌, Option, Some, None, refl, sym, ◌∙◌}
use Rattle.packet_laws.proofs.Names.{ap, subst, inl, inr, append-nil, same_Some, list_any, if◌then◌else◌, IsAmong, Addr}
use Rattle.packet_laws.proofs.Names.{Cached, PortMapping, takes_mappings, addresses_of_result, AreCandidates, lease_eq}
use Rattle.packet_laws.proofs.Names.{rule_eq, cached_in, is_own, Att, CachedObj, Own, own-own, NetList, share_of}
use Rattle.packet_laws.proofs.Names.{given_by_list, sets_of, list_named, host_of, Plan, IsPart, are_in}
use Rattle.packet_laws.proofs.Names.{EveryLegalHistoryIsGuaranteed, among-part}
use Rattle.std.specs.Prelude.{is_some}
use Rattle.cni_addr.proofs.Lists.{all-among}
use Rattle.cni_errors.specs.CommandFields.{att_of}
use Rattle.cni_verbs.specs.{Mappings.mappings_of, Script.leases_in}
use Rattle.plugin_chain.specs.Wanted.{cached_of, first_plugin_result, result_of_add, wanted}
use Rattle.plugin_chain.proofs.GivenAddresses.{all_chained-ips}
use Rattle.pod_file.specs.declared.command.Command.{Command}
use Rattle.pod_workers.specs.{Legal.Legal, World.{World, after, replies_of}, declared.plan.Entry.Entry}
use Rattle.pod_laws.specs.{CachedResults.IsResultOfItsAdd, Guaranteed.IsWellKept}
use Rattle.packet_laws.specs.{Complete.{IsAttached, IsComplete, wanted_of}, Packets.has_ip_masq}
use Rattle.packet_laws.proofs.{Equal.{lease-equal, rule-equal}, Lists.{some-among, filter-among}, Settled.IsSettled}
use Rattle.packet_laws.proofs.{Settled.{IsSettledFor, rules_for}, WantedRules.{chained_rules, first-rules, rules_by}}
use Rattle.pod_workers.proofs.Hosts.GoesWell.{list_named-listed}

-- ---- what is asked for is what the cached result wants

are_in-among : {X : Type 0} (same : X → X → Bool) → ((x y : X) → same x y ≡ true → x ≡ y) → (objects all : List X)
    → are_in same objects all ≡ true → (x : X) → IsAmong x objects → IsAmong x all
are_in-among same equal objects all is x at =
    let found = some-among (λ y. same y x) all (all-among (λ z. list_any (λ y. same y z) all) x objects at is) in
    subst (λ y. IsAmong y all) (equal found.0 x found.2) found.1

added-ips : (list : NetList) (att : Att) (netns : List ℕ) (addrs : List Addr)
    → (result_of_add list att netns addrs).ips ≡ (first_plugin_result list att netns addrs).ips
unfolding result_of_add
added-ips list att netns addrs = all_chained-ips list.chained (first_plugin_result list att netns addrs)

-- the rules of a cached result are those of its addresses
wanted-rules : (list : NetList) (att : Att) (cached : Cached)
    → cached ≡ cached_of list att cached.netns cached.mappings (addresses_of_result cached.result)
    → (wanted_of list att cached).rules ≡ rules_for list att cached
wanted-rules list att cached entry =
    let addrs = addresses_of_result cached.result in
    let ips : (first_plugin_result list att cached.netns addrs).ips ≡ cached.result.ips =
    sym (ap (λ (x : Cached). x.result.ips) entry ∙ added-ips list att cached.netns addrs) in
    ap (λ rules.
    rules
    ++ chained_rules att cached.mappings (first_plugin_result list att cached.netns addrs).ips list.chained)
    (first-rules list.first att (given_by_list list addrs))
    ∙ ap (λ i. rules_by (has_ip_masq list.first) att (given_by_list list addrs) cached.mappings i list.chained) ips

-- mappings are handed to a list that takes them alone
handed : (b : Bool) (ms : List PortMapping) (m : PortMapping) → IsAmong m (if b then ms else []) → b ≡ true
handed true ms m at = refl
handed false ms m at = absurd at

takes-handed : (list : NetList) (c : Command) (m : PortMapping) → IsAmong m (mappings_of list c)
    → list_any takes_mappings list.chained ≡ true
unfolding mappings_of
takes-handed list c m at = handed (list_any takes_mappings list.chained) _ m at

-- the list of the ADD is that of the attachment's network
add-listed : (p : Plan) (h : List Entry) (att : Att) (cached : Cached) (r : IsResultOfItsAdd p h att cached)
    → list_named p.lists att.network ≡ Some r.add.list
add-listed p h att cached r =
    ap (λ (a : Att). list_named p.lists a.network) (sym r.add.attachment)
    ∙ list_named-listed p r.add.by.command r.add.list r.add.listed

same-cached : (l m : NetList) (att : Att) (n o : List ℕ) (ms ns : List PortMapping) (g h : List Addr) → l ≡ m → n ≡ o
    → ms ≡ ns → g ≡ h → cached_of l att n ms g ≡ cached_of m att o ns h
same-cached l m att n o ms ns g h el en em eg = λ i. cached_of (el i) att (en i) (em i) (eg i)

same-wanted : (l m : NetList) (a b : Att) (n o : List ℕ) (ms ns : List PortMapping) (g h : List Addr) → l ≡ m → a ≡ b
    → n ≡ o → ms ≡ ns → g ≡ h → wanted l a n ms g ≡ wanted m b o ns h
same-wanted l m a b n o ms ns g h el ea en em eg = λ i. wanted (el i) (ea i) (en i) (em i) (eg i)

one-object : (c d : CachedObj) → IsAmong c (d ∷ []) → c ≡ d
one-object c d at = elim at [ inl e ↦ e | inr none ↦ absurd none ]

settled-by : (p : Plan) (h : List Entry) (att : Att) (list : NetList) (cached : Cached)
    → IsComplete p (after p.pods.opening h) → IsAttached p (after p.pods.opening h) att list cached
    → IsResultOfItsAdd p h att cached → IsSettledFor (after p.pods.opening h) att list cached
settled-by p h att list cached complete attached r =
    let host = after p.pods.opening h in
    let c = r.add.by.command in
    let given = leases_in (replies_of r.add.place h) in
    let lists : r.add.list ≡ list = same_Some r.add.list list (sym (add-listed p h att cached r) ∙ attached.listed) in
    let netns : c.netns ≡ cached.netns = sym (ap (λ (x : Cached). x.netns) r.entry) in
    let mappings : mappings_of r.add.list c ≡ cached.mappings = sym (ap (λ (x : Cached). x.mappings) r.entry) in
    let addresses : given ≡ addresses_of_result cached.result = sym r.addresses in
    let entry : cached ≡ cached_of list att cached.netns cached.mappings (addresses_of_result cached.result) =
    r.entry
    ∙ same-cached r.add.list list att c.netns cached.netns (mappings_of r.add.list c) cached.mappings given
    (addresses_of_result cached.result) lists netns mappings addresses in
    let all : wanted r.add.list (att_of c) c.netns (mappings_of r.add.list c) given ≡ wanted_of list att cached =
    same-wanted r.add.list list (att_of c) att c.netns cached.netns (mappings_of r.add.list c) cached.mappings given
    (addresses_of_result cached.result) lists r.add.attachment netns mappings addresses in
    let rules : (wanted r.add.list (att_of c) c.netns (mappings_of r.add.list c) given).rules
    ≡ rules_for list att cached =
    ap (λ s. s.rules) all ∙ wanted-rules list att cached entry in
    record {
      leased =
          subst (λ l. AreCandidates (sets_of l) (addresses_of_result cached.result)) lists
          (subst (AreCandidates (sets_of r.add.list)) addresses r.leased);
      takes = λ m at.
          subst (λ (l : NetList). list_any takes_mappings l.chained ≡ true) lists
          (takes-handed r.add.list c m (subst (IsAmong m) (sym mappings) at));
      rules = subst (IsPart (share_of att host).rules) rules r.add.objects.rules;
      rules_there = λ x at.
          are_in-among rule_eq rule-equal (wanted_of list att cached).rules host.rules
          (complete.rules att list cached attached) x
          (subst (IsAmong x) (sym (wanted-rules list att cached entry)) at);
      leases = subst (IsPart (share_of att host).leases) (ap (λ s. s.leases) all) r.add.objects.leases;
      leases_there =
          are_in-among lease_eq lease-equal (wanted_of list att cached).leases host.leases
          (complete.leases att list cached attached);
      only = λ o at tag.
          let mine = filter-among (λ (x : CachedObj). is_own att x.tag) o host.cached at (own-own att o.tag tag) in
          let kept : CachedObj = record {
            cached = cached_of r.add.list (att_of c) c.netns (mappings_of r.add.list c) given;
            tag = Own (att_of c);
          } in
          ap (λ (x : CachedObj). x.cached)
          (one-object o kept (among-part o (share_of att host).cached (kept ∷ []) r.add.objects.cached mine))
          ∙ ap (λ (a : Att). cached_of r.add.list a c.netns (mappings_of r.add.list c) given) r.add.attachment
          ∙ sym r.entry;
    }

some-of : (o : Option Cached) → is_some o ≡ true → (cached : Cached) × (o ≡ Some cached)
some-of None is = cc
some-of (Some cached) is = (cached, refl)

-- ---- every legal history

pub settled : EveryLegalHistoryIsGuaranteed → (w : World) → Legal w → IsComplete w.plan (host_of w)
    → IsSettled w.plan (host_of w)
settled law w legal complete =
    let now : IsWellKept w.plan w.history = (law w legal).moments w.history [] (sym (append-nil w.history)) in
    record {
      sound = now.sound;
      attached = λ att has.
          let kept = some-of (cached_in (host_of w) att) (complete.cached att has) in
          let r = now.results att kept.0 kept.1 in
          record {
            list = r.add.list;
            cached = kept.0;
            is = record { listed = add-listed w.plan w.history att kept.0 r; kept = kept.1 };
          };
      settled = λ att list cached attached.
          settled-by w.plan w.history att list cached complete attached (now.results att cached attached.kept);
    }
