-- What a GC keeps true at each call.
use Rattle.gc_sweep.proofs.Names.{◌≡◌, true, false, ap, List, refl, ◌∙◌, arith, apply, tags_of, IsSound, is_own}
use Rattle.gc_sweep.proofs.Names.{DropsOnly, TouchesOwn, Kind, Links, Rules, Settings, Leases, Cached, AddrObj, Att}
use Rattle.gc_sweep.proofs.Names.{CachedObj, Host, Lease, Link, NsObj, RouteObj, Setting, Tag, Rule, Gc, deletion}
use Rattle.kernel_types.specs.declared.object.Last.{Last}
use Rattle.kernel_types.proofs.Isolation.{KeepsWhere-TouchesOwn}
use Rattle.gc_sweep.specs.Keep.{stays, keep, IsWithin}
use Rattle.gc_sweep.proofs.{Deletions.deletes, Lists.drops-map, Owners.{is_stale, own_goes}, Removes.within_same}
use Rattle.gc_sweep.proofs.Removes.{within_trans}

-- ---- the hosts

-- the tags of a kind only get fewer
pub tags_within : (a b : Host) (kind : Kind) → IsWithin a b → DropsOnly (λ t. true) (tags_of b kind) (tags_of a kind)
tags_within a b Links p = drops-map (λ x. x.tag) b.links a.links p.removes.links
tags_within a b Rules p = drops-map (λ x. x.tag) b.rules a.rules p.removes.rules
tags_within a b Settings p = drops-map (λ x. x.tag) b.settings a.settings p.removes.settings
tags_within a b Leases p = drops-map (λ x. x.tag) b.leases a.leases p.removes.leases
tags_within a b Cached p = drops-map (λ x. x.tag) b.cached a.cached p.removes.cached

abbrev host_with : List NsObj → List Link → List AddrObj → List RouteObj → List Rule → List Setting → List Lease
    → List CachedObj → List Last → Host
host_with x1 x2 x3 x4 x5 x6 x7 x8 x9 = record {
  namespaces = x1;
  links = x2;
  addresses = x3;
  routes = x4;
  rules = x5;
  settings = x6;
  leases = x7;
  cached = x8;
  lasts = x9;
}

pub host_of_parts : (a b : Host) → a.namespaces ≡ b.namespaces → a.links ≡ b.links → a.addresses ≡ b.addresses
    → a.routes ≡ b.routes → a.rules ≡ b.rules → a.settings ≡ b.settings → a.leases ≡ b.leases → a.cached ≡ b.cached
    → a.lasts ≡ b.lasts → a ≡ b
host_of_parts a b e1 e2 e3 e4 e5 e6 e7 e8 e9 =
    ap (λ x. host_with x a.links a.addresses a.routes a.rules a.settings a.leases a.cached a.lasts) e1
    ∙ ap (λ x. host_with b.namespaces x a.addresses a.routes a.rules a.settings a.leases a.cached a.lasts) e2
    ∙ ap (λ x. host_with b.namespaces b.links x a.routes a.rules a.settings a.leases a.cached a.lasts) e3
    ∙ ap (λ x. host_with b.namespaces b.links b.addresses x a.rules a.settings a.leases a.cached a.lasts) e4
    ∙ ap (λ x. host_with b.namespaces b.links b.addresses b.routes x a.settings a.leases a.cached a.lasts) e5
    ∙ ap (λ x. host_with b.namespaces b.links b.addresses b.routes b.rules x a.leases a.cached a.lasts) e6
    ∙ ap (λ x. host_with b.namespaces b.links b.addresses b.routes b.rules b.settings x a.cached a.lasts) e7
    ∙ ap (λ x. host_with b.namespaces b.links b.addresses b.routes b.rules b.settings b.leases x a.lasts) e8
    ∙ ap (λ x. host_with b.namespaces b.links b.addresses b.routes b.rules b.settings b.leases b.cached x) e9

-- a call about a stale attachment leaves what is kept
keep_touched : (gc : Gc) (att : Att) (old new : Host) → is_stale gc.network gc.valid att ≡ true → TouchesOwn att old new
    → new.lasts ≡ old.lasts → keep gc.network gc.valid new ≡ keep gc.network gc.valid old
keep_touched gc att old new stale touch lasts =
    let apart : (t : Tag) → is_own att t ≡ true → stays gc.network gc.valid t ≡ false = λ t own.
    let gone = own_goes gc.network gc.valid att stale t own in grind (arith, gone) in
    let same = KeepsWhere-TouchesOwn (stays gc.network gc.valid) att old new apart touch in
    host_of_parts (keep gc.network gc.valid new) (keep gc.network gc.valid old) same.namespaces same.links
    same.addresses same.routes same.rules same.settings same.leases same.cached lasts

-- what holds of the host, from the one at the start
pub record Stays (gc : Gc) (h k : Host) : Type 0 where
  pub sound : IsSound k
  pub kept : keep gc.network gc.valid k ≡ keep gc.network gc.valid h
  pub within : IsWithin k h

pub stays_start : (gc : Gc) (h : Host) → IsSound h → Stays gc h h
stays_start gc h sound = record { sound = sound; kept = refl; within = within_same h }

pub stays_deleted : (gc : Gc) (att : Att) (kind : Kind) (h k : Host) → is_stale gc.network gc.valid att ≡ true
    → Stays gc h k → Stays gc h (apply k (deletion att kind)).0
stays_deleted gc att kind h k stale s =
    let d = deletes att kind k s.sound in
    let k' = (apply k (deletion att kind)).0 in
    record {
      sound = d.sound;
      kept = keep_touched gc att k k' stale d.touch d.within.lasts ∙ s.kept;
      within = within_trans k' k h d.within s.within;
    }
