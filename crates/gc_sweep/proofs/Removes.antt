-- Hosts that only lost objects, and what makes them lose some: deletions, and changes from outside.
use Rattle.gc_sweep.proofs.Names.{◌≡◌, true, false, not, Some, refl, sym, ◌∙◌, subst, inl, inr, IsAllowed, apply}
use Rattle.gc_sweep.proofs.Names.{RemovesOwn, IsSound, is_own, Call, Kind, Att, Host, deletion}
use Rattle.kernel_types.specs.{Isolation.{deletes_for, is_from_outside}, Touch.{AddsNamespace, RemovesUnshared}}
use Rattle.kernel_types.specs.{Touch.is_base, declared.call.Call.TheVariants.{NsChange, Outside}}
use Rattle.kernel_types.specs.declared.call.Kind.TheVariants as kinds
use Rattle.kernel_types.proofs.{DropsOwn.RemovesOwn-apply, EveryCall.Touches-apply}
use Rattle.gc_sweep.specs.Keep.{IsWithin, OnlyRemoves}
use Rattle.gc_sweep.proofs.Lists.{drops, drops-same, drops-trans}

pub removes-nothing : (host : Host) → OnlyRemoves host host
removes-nothing host = record {
  links = drops-same host.links host.links refl;
  addresses = drops-same host.addresses host.addresses refl;
  routes = drops-same host.routes host.routes refl;
  rules = drops-same host.rules host.rules refl;
  settings = drops-same host.settings host.settings refl;
  leases = drops-same host.leases host.leases refl;
  cached = drops-same host.cached host.cached refl;
}

pub removes-own : (att : Att) (old new : Host) → RemovesOwn att old new → OnlyRemoves old new
removes-own att old new d = record {
  links = drops (λ l. is_own att l.tag) old.links new.links d.links;
  addresses = drops (λ a. is_own att a.tag) old.addresses new.addresses d.addresses;
  routes = drops (λ r. is_own att r.tag) old.routes new.routes d.routes;
  rules = drops (λ r. is_own att r.tag) old.rules new.rules d.rules;
  settings = drops (λ s. is_own att s.tag) old.settings new.settings d.settings;
  leases = drops (λ l. is_own att l.tag) old.leases new.leases d.leases;
  cached = drops (λ c. is_own att c.tag) old.cached new.cached d.cached;
}

removes-unshared : (old new : Host) → RemovesUnshared old new → OnlyRemoves old new
removes-unshared old new d = record {
  links = drops (λ l. not (is_base l.tag)) old.links new.links d.links;
  addresses = drops (λ a. not (is_base a.tag)) old.addresses new.addresses d.addresses;
  routes = drops (λ r. not (is_base r.tag)) old.routes new.routes d.routes;
  rules = drops (λ r. not (is_base r.tag)) old.rules new.rules d.rules;
  settings = drops (λ s. not (is_base s.tag)) old.settings new.settings d.settings;
  leases = drops-same old.leases new.leases d.leases;
  cached = drops-same old.cached new.cached d.cached;
}

removes-namespace : (old new : Host) → AddsNamespace old new → OnlyRemoves old new
removes-namespace old new adds = elim adds [
  | inl e ↦ subst (OnlyRemoves old) (sym e) (removes-nothing old)
  | inr more ↦
      let P : Host → Type 0 = λ h. OnlyRemoves old h in subst P (sym more.2) (let none = removes-nothing old in record {
        links = none.links;
        addresses = none.addresses;
        routes = none.routes;
        rules = none.rules;
        settings = none.settings;
        leases = none.leases;
        cached = none.cached;
      })
]

removes-trans : (a b c : Host) → OnlyRemoves c b → OnlyRemoves b a → OnlyRemoves c a
removes-trans a b c p q = record {
  links = drops-trans (λ l. true) c.links b.links a.links p.links q.links;
  addresses = drops-trans (λ a. true) c.addresses b.addresses a.addresses p.addresses q.addresses;
  routes = drops-trans (λ r. true) c.routes b.routes a.routes p.routes q.routes;
  rules = drops-trans (λ r. true) c.rules b.rules a.rules p.rules q.rules;
  settings = drops-trans (λ s. true) c.settings b.settings a.settings p.settings q.settings;
  leases = drops-trans (λ l. true) c.leases b.leases a.leases p.leases q.leases;
  cached = drops-trans (λ c. true) c.cached b.cached a.cached p.cached q.cached;
}

-- ---- calls

pub deletes-deletion : (att : Att) (kind : Kind) → deletes_for (deletion att kind) ≡ Some att
deletes-deletion att kinds.Links = refl
deletes-deletion att kinds.Rules = refl
deletes-deletion att kinds.Settings = refl
deletes-deletion att kinds.Leases = refl
deletes-deletion att kinds.Cached = refl

pub removes-deletion : (att : Att) (host : Host) (kind : Kind) → IsSound host
    → OnlyRemoves host (apply host (deletion att kind)).0
removes-deletion att host kind sound =
    removes-own att host (apply host (deletion att kind)).0
    (RemovesOwn-apply host (deletion att kind) att sound (deletes-deletion att kind))

pub removes-outside : (host : Host) (call : Call) → IsSound host → IsAllowed host call → is_from_outside call ≡ true
    → OnlyRemoves host (apply host call).0
removes-outside host (NsChange name true) sound allowed is =
    removes-namespace host (apply host (NsChange name true)).0 (Touches-apply host (NsChange name true) sound allowed)
removes-outside host (NsChange name false) sound allowed is =
    removes-unshared host (apply host (NsChange name false)).0 (Touches-apply host (NsChange name false) sound allowed)
removes-outside host (Outside change) sound allowed is =
    removes-unshared host (apply host (Outside change)).0 (Touches-apply host (Outside change) sound allowed)
removes-outside host _ sound allowed is = cc

-- ---- within

pub within_same : (h : Host) → IsWithin h h
within_same h = record { namespaces = refl; removes = removes-nothing h; lasts = refl }

pub within_own : (att : Att) (old new : Host) → RemovesOwn att old new → IsWithin new old
within_own att old new d = record { namespaces = d.namespaces; removes = removes-own att old new d; lasts = d.lasts }

pub within_trans : (a b c : Host) → IsWithin a b → IsWithin b c → IsWithin a c
within_trans a b c p q = record {
  namespaces = p.namespaces ∙ q.namespaces;
  removes = removes-trans a b c q.removes p.removes;
  lasts = p.lasts ∙ q.lasts;
}
