-- A share of a list's kinds alone stays so under calls of these kinds, and where objects are removed.
use Rattle.gc_sweep.proofs.Names.{◌≡◌, Bool, true, false, not, List, [], map, refl, ap, both_ways, not-true, filter}
use Rattle.gc_sweep.proofs.Names.{list_all-none, is_own, DropsOnly, Call, VethAdd, MacvlanAdd, LinkSet, AddrAdd}
use Rattle.gc_sweep.proofs.Names.{RouteAdd, RuleAppend, SettingSet, CachePut, Kind, Att, Host, Share, share_of}
use Rattle.gc_sweep.proofs.Names.{no_objects, share_after_call, empty_none, IsSound}
use Rattle.kernel_types.proofs.ListLemmas.{filter_never}
use Rattle.kernel_types.specs.declared.call.Kind.TheVariants as kinds
use Rattle.plugin_base.specs.Calls.{has_kind, is_of_kinds}
use Rattle.gc_sweep.specs.Keep.{OnlyRemoves}
use Rattle.gc_sweep.proofs.Lists.{list_all-drops}
use Rattle.plugin_base.proofs.Deletions.{no-links}

-- ---- a share within kinds

-- nothing is there of the kinds that are not listed. (Addresses and routes lie on links.)
pub record HasKindsAlone (ks : List Kind) (s : Share) : Type 0 where
  pub links : has_kind kinds.Links ks ≡ false → s.links ≡ []
  pub rules : has_kind kinds.Rules ks ≡ false → s.rules ≡ []
  pub settings : has_kind kinds.Settings ks ≡ false → s.settings ≡ []
  pub leases : has_kind kinds.Leases ks ≡ false → s.leases ≡ []
  pub cached : has_kind kinds.Cached ks ≡ false → s.cached ≡ []

pub HasKindsAlone-nothing : (ks : List Kind) → HasKindsAlone ks no_objects
HasKindsAlone-nothing ks =
    record { links = λ _. refl; rules = λ _. refl; settings = λ _. refl; leases = λ _. refl; cached = λ _. refl }

pub HasKindsAlone-none : (att : Att) (host : Host) → IsSound host → HasKindsAlone [] (share_of att host)
    → share_of att host ≡ no_objects
HasKindsAlone-none att host sound none =
    let lies = no-links att host sound (none.links refl) in
    rw (none.links refl, lies.0, lies.1, none.rules refl, none.settings refl, none.leases refl, none.cached refl) refl

-- a call of these kinds keeps it so
pub HasKindsAlone-call : (ks : List Kind) (s : Share) (call : Call) → is_of_kinds ks call ≡ true → HasKindsAlone ks s
    → HasKindsAlone ks (share_after_call s call)
HasKindsAlone-call ks s (VethAdd h i) fits w = record {
  links = λ g. absurd (both_ways (has_kind kinds.Links ks) g fits);
  rules = w.rules;
  settings = w.settings;
  leases = w.leases;
  cached = w.cached;
}
HasKindsAlone-call ks s (MacvlanAdd l) fits w = record {
  links = λ g. absurd (both_ways (has_kind kinds.Links ks) g fits);
  rules = w.rules;
  settings = w.settings;
  leases = w.leases;
  cached = w.cached;
}
HasKindsAlone-call ks s (LinkSet a b d e f g i) fits w = record {
  links = λ h. ap (map _) (w.links h);
  rules = w.rules;
  settings = w.settings;
  leases = w.leases;
  cached = w.cached;
}
HasKindsAlone-call ks s (RuleAppend r) fits w = record {
  links = w.links;
  rules = λ g. absurd (both_ways (has_kind kinds.Rules ks) g fits);
  settings = w.settings;
  leases = w.leases;
  cached = w.cached;
}
HasKindsAlone-call ks s (SettingSet r) fits w = record {
  links = w.links;
  rules = w.rules;
  settings = λ g. absurd (both_ways (has_kind kinds.Settings ks) g fits);
  leases = w.leases;
  cached = w.cached;
}
HasKindsAlone-call ks s (CachePut a r) fits w = record {
  links = w.links;
  rules = w.rules;
  settings = w.settings;
  leases = w.leases;
  cached = λ g. absurd (both_ways (has_kind kinds.Cached ks) g fits);
}
HasKindsAlone-call ks s (AddrAdd o) fits w =
    record { links = w.links; rules = w.rules; settings = w.settings; leases = w.leases; cached = w.cached }
HasKindsAlone-call ks s (RouteAdd o) fits w =
    record { links = w.links; rules = w.rules; settings = w.settings; leases = w.leases; cached = w.cached }
HasKindsAlone-call ks s _ fits w = w

-- ---- what removes only keeps a share within its kinds

pub still_none : {X : Type 0} (p gone : X → Bool) (old new : List X) → DropsOnly gone old new → filter p old ≡ []
    → filter p new ≡ []
still_none p gone old new d h =
    filter_never p (λ x. not (p x)) (λ x fails. not-true (p x) fails) new
    (list_all-drops (λ x. not (p x)) gone old new d (list_all-none p old (empty_none p old h)))

pub HasKindsAlone-removes : (att : Att) (ks : List Kind) (old new : Host) → OnlyRemoves old new
    → HasKindsAlone ks (share_of att old) → HasKindsAlone ks (share_of att new)
HasKindsAlone-removes att ks old new d w = record {
  links = λ h. still_none (λ l. is_own att l.tag) (λ l. true) old.links new.links d.links (w.links h);
  rules = λ h. still_none (λ r. is_own att r.tag) (λ r. true) old.rules new.rules d.rules (w.rules h);
  settings = λ h. still_none (λ s. is_own att s.tag) (λ s. true) old.settings new.settings d.settings (w.settings h);
  leases = λ h. still_none (λ l. is_own att l.tag) (λ l. true) old.leases new.leases d.leases (w.leases h);
  cached = λ h. still_none (λ c. is_own att c.tag) (λ c. true) old.cached new.cached d.cached (w.cached h);
}

-- what had nothing has nothing
pub share-removes_none : (att : Att) (old new : Host) → OnlyRemoves old new → share_of att old ≡ no_objects
    → share_of att new ≡ no_objects
share-removes_none att old new d none =
    let links =
    still_none (λ l. is_own att l.tag) (λ l. true) old.links new.links d.links (ap (λ (s : Share). s.links) none) in
    let addresses =
    still_none (λ l. is_own att l.tag) (λ l. true) old.addresses new.addresses d.addresses
    (ap (λ (s : Share). s.addresses) none) in
    let routes =
    still_none (λ l. is_own att l.tag) (λ l. true) old.routes new.routes d.routes
    (ap (λ (s : Share). s.routes) none) in
    let rules =
    still_none (λ l. is_own att l.tag) (λ l. true) old.rules new.rules d.rules (ap (λ (s : Share). s.rules) none) in
    let settings =
    still_none (λ l. is_own att l.tag) (λ l. true) old.settings new.settings d.settings
    (ap (λ (s : Share). s.settings) none) in
    let leases =
    still_none (λ l. is_own att l.tag) (λ l. true) old.leases new.leases d.leases
    (ap (λ (s : Share). s.leases) none) in
    let cached =
    still_none (λ l. is_own att l.tag) (λ l. true) old.cached new.cached d.cached
    (ap (λ (s : Share). s.cached) none) in
    rw (links, addresses, routes, rules, settings, leases, cached) refl
