-- Each entry leaves what was made outside, and removes nothing that is shared.
use Rattle.pod_laws.proofs.Names.{◌≡◌, Bool, true, false, not, List, [], ◌∷◌, ◌++◌, refl, sym, ◌∙◌, ap, subst, inl, inr}
use Rattle.pod_laws.proofs.Names.{◌⊎◌, filter, IsAllowed, apply, KeepsWhere, ensures_shared, is_from_outside, IsSound}
use Rattle.pod_laws.proofs.Names.{is_owned, Call, BridgeEnsure, GatewayEnsure, ForwardEnsure, NsChange, Outside}
use Rattle.pod_laws.proofs.Names.{AddrObj, Host, Link, Setting, Tag, Touches-apply, KeepsUnowned-Touches}
use Rattle.pod_laws.proofs.Names.{KeepsWhere-nothing, filter-within, is_of_network, entry_of, host_of, after_entry}
use Rattle.pod_laws.proofs.Names.{sound_host}
use Rattle.kernel_types.specs.{Isolation.KeepsUnowned, Touch.{AddsBridge, AddsAddress, AddsSetting, AddsNamespace}}
use Rattle.kernel_types.specs.{Touch.{RemovesUnshared, is_base}, declared.object.NsObj.NsObj}
use Rattle.kernel_types.proofs.Isolation.{KeepsWhere-AddsBridge, KeepsWhere-AddsAddress, KeepsWhere-AddsSetting}
use Rattle.kernel_types.proofs.Isolation.{KeepsWhere-RemovesUnshared}
use Rattle.kernel_types.specs.declared.object.Tag.TheVariants as tags
use Rattle.plugin_base.proofs.KeyLists.{filter-push_dropped, filter-push_kept}
use Rattle.pod_laws.specs.Apart.{is_outside, GrowsAtEnd, KeepsShared, KeepsTheRest, EachEntryKeepsTheRest}
use Rattle.pod_laws.proofs.{Added.{HostBridges.turn-inside, Prefixes.grows-same}, Histories.EachEntry.DoesNow}
use Rattle.pod_laws.proofs.Histories.{EachEntry.{DoesOutside, by-outside, each-entry}, Steps.on-entry, Turns.change-of}
use Rattle.pod_laws.proofs.Histories.Turns.{turn-of}

-- ---- what is unowned is the same

within-list : {X : Type 0} (p q : X → Bool) → ((x : X) → p x ≡ true → q x ≡ true) → (old new : List X)
    → filter q new ≡ filter q old → filter p new ≡ filter p old
within-list p q w old new e = sym (filter-within p q w new) ∙ ap (filter p) e ∙ filter-within p q w old

keeps-within : (test : Tag → Bool) (old new : Host) → ((t : Tag) → test t ≡ true → not (is_owned t) ≡ true)
    → KeepsUnowned old new → KeepsWhere test old new
keeps-within test old new w k = record {
  namespaces =
      within-list (λ x. test x.tag) (λ x. not (is_owned x.tag)) (λ x. w x.tag) old.namespaces
      new.namespaces k.namespaces;
  links = within-list (λ x. test x.tag) (λ x. not (is_owned x.tag)) (λ x. w x.tag) old.links new.links k.links;
  addresses =
      within-list (λ x. test x.tag) (λ x. not (is_owned x.tag)) (λ x. w x.tag) old.addresses new.addresses k.addresses;
  routes = within-list (λ x. test x.tag) (λ x. not (is_owned x.tag)) (λ x. w x.tag) old.routes new.routes k.routes;
  rules = within-list (λ x. test x.tag) (λ x. not (is_owned x.tag)) (λ x. w x.tag) old.rules new.rules k.rules;
  settings =
      within-list (λ x. test x.tag) (λ x. not (is_owned x.tag)) (λ x. w x.tag) old.settings new.settings k.settings;
  leases = within-list (λ x. test x.tag) (λ x. not (is_owned x.tag)) (λ x. w x.tag) old.leases new.leases k.leases;
  cached = within-list (λ x. test x.tag) (λ x. not (is_owned x.tag)) (λ x. w x.tag) old.cached new.cached k.cached;
}

same-list : {X : Type 0} (old new : List X) → new ≡ old → GrowsAtEnd old new
same-list old new e = subst (GrowsAtEnd old) (sym e) (grows-same old)

shared-same : (old new : Host) → KeepsWhere is_base old new → KeepsShared old new
shared-same old new k = record {
  namespaces = same-list _ _ k.namespaces;
  links = same-list _ _ k.links;
  addresses = same-list _ _ k.addresses;
  routes = same-list _ _ k.routes;
  rules = same-list _ _ k.rules;
  settings = same-list _ _ k.settings;
  leases = same-list _ _ k.leases;
  cached = same-list _ _ k.cached;
}

outside-unowned : (t : Tag) → is_outside t ≡ true → not (is_owned t) ≡ true
outside-unowned tags.Outside h = refl
outside-unowned tags.Base h = refl
outside-unowned (tags.Own att) h = cc

base-unowned : (t : Tag) → is_base t ≡ true → not (is_owned t) ≡ true
base-unowned tags.Outside h = refl
base-unowned tags.Base h = refl
base-unowned (tags.Own att) h = cc

-- what was made outside is the same, and nothing shared goes
record KeepsBoth (old new : Host) : Type 0 where
  outside : KeepsWhere is_outside old new
  shared : KeepsShared old new

rest-unowned : (old new : Host) → KeepsUnowned old new → KeepsBoth old new
rest-unowned old new k = record {
  outside = keeps-within is_outside old new outside-unowned k;
  shared = shared-same old new (keeps-within is_base old new base-unowned k);
}

rest-nothing : (host : Host) → KeepsBoth host host
rest-nothing host = record {
  outside = KeepsWhere-nothing is_outside host;
  shared = shared-same host host (KeepsWhere-nothing is_base host);
}

-- ---- one shared object more

shared-nothing : (host : Host) → KeepsShared host host
shared-nothing host = shared-same host host (KeepsWhere-nothing is_base host)

-- nothing is added, or one object of this tag
shared-adds : {X : Type 0} (tag : X → Tag) (t : Tag) (put : X → Host) (old new : Host)
    → (new ≡ old) ⊎ ((x : X) × (tag x ≡ t) × (new ≡ put x)) → ((x : X) → tag x ≡ t → KeepsShared old (put x))
    → KeepsShared old new
shared-adds tag t put old new adds keeps = elim adds [
  | inl e ↦ subst (KeepsShared old) (sym e) (shared-nothing old)
  | inr more ↦ subst (KeepsShared old) (sym more.2) (keeps more.0 more.1)
]

shared-bridge : (old new : Host) → AddsBridge old new → KeepsShared old new
shared-bridge old new adds =
    let s = shared-nothing old in
    shared-adds (λ (x : Link). x.tag) tags.Base (λ (x : Link). record old { links = old.links ++ x ∷ [] }) old new adds
    (λ x is. record {
      namespaces = s.namespaces;
      links = (x ∷ [], filter-push_kept (λ y. is_base y.tag) old.links x (ap is_base is), tt);
      addresses = s.addresses;
      routes = s.routes;
      rules = s.rules;
      settings = s.settings;
      leases = s.leases;
      cached = s.cached;
    })

shared-address : (old new : Host) → AddsAddress old new → KeepsShared old new
shared-address old new adds =
    let s = shared-nothing old in
    shared-adds (λ (x : AddrObj). x.tag) tags.Base
    (λ (x : AddrObj). record old { addresses = old.addresses ++ x ∷ [] }) old new adds
    (λ x is. record {
      namespaces = s.namespaces;
      links = s.links;
      addresses = (x ∷ [], filter-push_kept (λ y. is_base y.tag) old.addresses x (ap is_base is), tt);
      routes = s.routes;
      rules = s.rules;
      settings = s.settings;
      leases = s.leases;
      cached = s.cached;
    })

shared-setting : (old new : Host) → AddsSetting old new → KeepsShared old new
shared-setting old new adds =
    let s = shared-nothing old in
    shared-adds (λ (x : Setting). x.tag) tags.Base
    (λ (x : Setting). record old { settings = old.settings ++ x ∷ [] }) old new adds
    (λ x is. record {
      namespaces = s.namespaces;
      links = s.links;
      addresses = s.addresses;
      routes = s.routes;
      rules = s.rules;
      settings = (x ∷ [], filter-push_kept (λ y. is_base y.tag) old.settings x (ap is_base is), tt);
      leases = s.leases;
      cached = s.cached;
    })

-- ---- each call

rest-unshared : (host : Host) (call : Call) → IsSound host → IsAllowed host call → is_from_outside call ≡ false
    → ensures_shared call ≡ false → KeepsBoth host (apply host call).0
rest-unshared host call sound allowed inside own =
    rest-unowned host (apply host call).0
    (KeepsUnowned-Touches call host (apply host call).0 inside own (Touches-apply host call sound allowed))

rest-call : (host : Host) (call : Call) → IsSound host → IsAllowed host call → is_from_outside call ≡ false
    → KeepsBoth host (apply host call).0
rest-call host (BridgeEnsure name mtu promisc) sound allowed inside =
    let adds = Touches-apply host (BridgeEnsure name mtu promisc) sound allowed in
    record {
      outside = KeepsWhere-AddsBridge is_outside host (apply host (BridgeEnsure name mtu promisc)).0 refl adds;
      shared = shared-bridge host (apply host (BridgeEnsure name mtu promisc)).0 adds;
    }
rest-call host (GatewayEnsure bridge cidr) sound allowed inside =
    let adds = Touches-apply host (GatewayEnsure bridge cidr) sound allowed in
    record {
      outside = KeepsWhere-AddsAddress is_outside host (apply host (GatewayEnsure bridge cidr)).0 refl adds;
      shared = shared-address host (apply host (GatewayEnsure bridge cidr)).0 adds;
    }
rest-call host (ForwardEnsure family) sound allowed inside =
    let adds = Touches-apply host (ForwardEnsure family) sound allowed in
    record {
      outside = KeepsWhere-AddsSetting is_outside host (apply host (ForwardEnsure family)).0 refl adds;
      shared = shared-setting host (apply host (ForwardEnsure family)).0 adds;
    }
rest-call host call sound allowed inside = rest-unshared host call sound allowed inside refl

-- ---- changes from outside

unshared-base : (t : Tag) → not (is_base t) ≡ true → is_base t ≡ false
unshared-base tags.Outside h = refl
unshared-base tags.Base h = cc
unshared-base (tags.Own att) h = refl

shared-unshared : (old new : Host) → RemovesUnshared old new → KeepsShared old new
shared-unshared old new d = shared-same old new (KeepsWhere-RemovesUnshared is_base old new unshared-base d)

shared-namespace : (old new : Host) → AddsNamespace old new → KeepsShared old new
shared-namespace old new adds =
    let s = shared-nothing old in
    shared-adds (λ (x : NsObj). x.tag) tags.Outside
    (λ (x : NsObj). record old { namespaces = old.namespaces ++ x ∷ [] }) old new adds
    (λ x is. record {
      namespaces = same-list _ _ (filter-push_dropped (λ y. is_base y.tag) old.namespaces x (ap is_base is));
      links = s.links;
      addresses = s.addresses;
      routes = s.routes;
      rules = s.rules;
      settings = s.settings;
      leases = s.leases;
      cached = s.cached;
    })

shared-outside : (host : Host) (call : Call) → IsSound host → IsAllowed host call → is_from_outside call ≡ true
    → KeepsShared host (apply host call).0
shared-outside host (NsChange name true) sound allowed is =
    shared-namespace host (apply host (NsChange name true)).0 (Touches-apply host (NsChange name true) sound allowed)
shared-outside host (NsChange name false) sound allowed is =
    shared-unshared host (apply host (NsChange name false)).0 (Touches-apply host (NsChange name false) sound allowed)
shared-outside host (Outside change) sound allowed is =
    shared-unshared host (apply host (Outside change)).0 (Touches-apply host (Outside change) sound allowed)
shared-outside host _ sound allowed is = cc

-- ---- each entry

keep-now : DoesNow KeepsTheRest
keep-now w n c list call faulty on =
    let x = entry_of (host_of w) n call faulty in
    let both : KeepsBoth (host_of w) (after_entry (host_of w) x) =
    on-entry (λ k. KeepsBoth (host_of w) k) (host_of w) n call faulty (rest-nothing (host_of w))
    (λ f. rest-call (host_of w) call (sound_host w on.legal) (on.allowed f)
    (turn-inside c.command call (turn-of w n c list call faulty on))) in
    record { outside = λ m d at number verb. both.outside; shared = both.shared }

keep-outside : DoesOutside KeepsTheRest
keep-outside w n c call faulty on = record {
  outside = by-outside (λ v. is_of_network v ≡ true) (λ d. KeepsWhere is_outside) (λ v is. is) w n c call faulty on;
  shared =
      on-entry (λ k. KeepsShared (host_of w) k) (host_of w) n call faulty (shared-nothing (host_of w))
      (λ f. shared-outside (host_of w) call (sound_host w on.legal) (on.allowed f)
      (change-of w n c call faulty on).call_is);
}

pub each_entry_keeps_the_rest : EachEntryKeepsTheRest
each_entry_keeps_the_rest = each-entry KeepsTheRest keep-now keep-outside
