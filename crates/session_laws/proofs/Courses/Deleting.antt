-- What the deletions of a course leave, whichever ending they come to.
use Rattle.session_laws.proofs.Names.{◌≡◌, ℕ, Bool, true, false, List, [], ◌∷◌, ◌++◌, Some, refl, sym, ◌∙◌, ap, subst}
use Rattle.session_laws.proofs.Names.{inl, inr, ◌⊎◌, arith, find, same_Some, list_any, att_of, Ending, reply_to, State}
use Rattle.session_laws.proofs.Names.{AtBegin, BeforeLeases, Leasing, AfterLeases, ReadingCache, Deleting, FindingEntry}
use Rattle.session_laws.proofs.Names.{Asking, Changing, Collecting, Over, deleting, faulted, next_call, at_deletion}
use Rattle.session_laws.proofs.Names.{leases_in, IsWithin, Made, host_on, HasKindsAlone, apply, att_eq, is_fault}
use Rattle.session_laws.proofs.Names.{IsSound, is_own, Call, CacheGet, Kind, Reply, Gone, Fault, Att, Host, Share}
use Rattle.session_laws.proofs.Names.{no_objects, share_of, share-other, deletion, Command}
use Rattle.gc_sweep.proofs.{Deletions.{deletes, deletion-none, deletion-own}, Lists.list_any-snoc}
use Rattle.gc_sweep.proofs.{OfKinds.HasKindsAlone-removes, Removes.within_same}
use Rattle.kernel_types.specs.declared.call.Kind.TheVariants as kinds
use Rattle.plugin_base.proofs.Deletions.{gone-links, gone-none}
use Rattle.session_laws.specs.{Course.{Course, advance, at_cache}, Pools.{IsReady, Pools}}
use Rattle.session_laws.proofs.Courses.{Ready.{deletion-allowed, made_on, on-call, ready-deletion}, Runs.host-made}
use Rattle.session_laws.proofs.Courses.Runs.{replied}

-- ---- no kind is left

-- a deletion that found nothing of its kind
pub gone-kind : (att : Att) (host : Host) (k : Kind) (ks : List Kind) → (apply host (deletion att k)).1 ≡ Gone false
    → HasKindsAlone (k ∷ ks) (share_of att host) → HasKindsAlone ks (share_of att host)
gone-kind att host kinds.Links ks gone was = record {
  links = λ _. (gone-links att host (find (λ l. is_own att l.tag) host.links) refl gone).1;
  rules = was.rules;
  settings = was.settings;
  leases = was.leases;
  cached = was.cached;
}
gone-kind att host kinds.Rules ks gone was = record {
  links = was.links;
  rules = λ _. (gone-none (λ r. is_own att r.tag) host.rules gone).1;
  settings = was.settings;
  leases = was.leases;
  cached = was.cached;
}
gone-kind att host kinds.Settings ks gone was = record {
  links = was.links;
  rules = was.rules;
  settings = λ _. (gone-none (λ s. is_own att s.tag) host.settings gone).1;
  leases = was.leases;
  cached = was.cached;
}
gone-kind att host kinds.Leases ks gone was = record {
  links = was.links;
  rules = was.rules;
  settings = was.settings;
  leases = λ _. (gone-none (λ l. is_own att l.tag) host.leases gone).1;
  cached = was.cached;
}
gone-kind att host kinds.Cached ks gone was = record {
  links = was.links;
  rules = was.rules;
  settings = was.settings;
  leases = was.leases;
  cached = λ _. (gone-none (λ c. is_own att c.tag) host.cached gone).1;
}

gone-same : (att : Att) (host : Host) (k : Kind) → (apply host (deletion att k)).1 ≡ Gone false
    → (apply host (deletion att k)).0 ≡ host
gone-same att host kinds.Links gone = (gone-links att host (find (λ l. is_own att l.tag) host.links) refl gone).0
gone-same att host kinds.Rules gone =
    ap (λ l. record host { rules = l }) (gone-none (λ r. is_own att r.tag) host.rules gone).0
gone-same att host kinds.Settings gone =
    ap (λ l. record host { settings = l }) (gone-none (λ s. is_own att s.tag) host.settings gone).0
gone-same att host kinds.Leases gone =
    ap (λ l. record host { leases = l }) (gone-none (λ l. is_own att l.tag) host.leases gone).0
gone-same att host kinds.Cached gone =
    ap (λ l. record host { cached = l }) (gone-none (λ c. is_own att c.tag) host.cached gone).0

-- ---- what is left to delete

-- Nothing but objects of the kinds that are left, on the way to this ending; or a fault ended the deletion.
abbrev pub Left : Course → Ending → List Made → State → Share → Type 0
Left co ending later AtBegin share = ⊥
Left co ending later (BeforeLeases next left) share = ⊥
Left co ending later (Leasing next left given) share = ⊥
Left co ending later (AfterLeases next left given) share = ⊥
Left co ending later (ReadingCache e) share = (e ≡ ending) × HasKindsAlone co.kinds share
Left co ending later (Deleting next left e) share = (e ≡ ending) × HasKindsAlone (next ∷ left) share
Left co ending later FindingEntry share = ⊥
Left co ending later (Asking next left) share = ⊥
Left co ending later (Changing change) share = ⊥
Left co ending later (Collecting work faults) share = ⊥
Left co ending later (Over e given) share =
    ((e ≡ ending) × HasKindsAlone [] share)
    ⊎ ((number : ℕ) × (e ≡ faulted number ending) × (list_any (λ (m : Made). is_fault m.reply) later ≡ true))

to-deleting : (co : Course) (ending : Ending) (later : List Made) (ks : List Kind) (e : Ending) (share : Share)
    → e ≡ ending → HasKindsAlone ks share → Left co ending later (deleting ks e) share
to-deleting co ending later [] e share is has = inl (is, has)
to-deleting co ending later (k ∷ ks) e share is has = (is, has)

fault-last : (later : List Made) (e : Made) → e.reply ≡ Fault
    → list_any (λ (m : Made). is_fault m.reply) (later ++ e ∷ []) ≡ true
fault-last later e is =
    let fault : is_fault e.reply ≡ true = ap is_fault is in
    list_any-snoc (λ (m : Made). is_fault m.reply) later e ∙ grind (arith, fault)

left-faulted : (co : Course) (ending : Ending) (later : List Made) (e : Made) (number : ℕ)
    (end : Ending) (share : Share)
    → e.reply ≡ Fault → end ≡ ending → Left co ending (later ++ e ∷ []) (Over (faulted number end) []) share
left-faulted co ending later e number end share fault is =
    inr (number, ap (faulted number) is, fault-last later e fault)

left-cache : (co : Course) (ending : Ending) (later : List Made) (e : Made) (number : ℕ) (end : Ending)
    (r : Reply) (share : Share)
    → e.reply ≡ r → end ≡ ending → HasKindsAlone co.kinds share
    → Left co ending (later ++ e ∷ []) (at_cache co number end r) share
left-cache co ending later e number end Fault share reply is has =
    left-faulted co ending later e number end share reply is
left-cache co ending later e number end _ share reply is has =
    to-deleting co ending (later ++ e ∷ []) co.kinds end share is has

left-deletion : (co : Course) (ending : Ending) (later : List Made) (e : Made) (number : ℕ) (k : Kind) (ks : List Kind)
    (end : Ending) (r : Reply) (share : Share)
    → e.reply ≡ r → end ≡ ending → HasKindsAlone (k ∷ ks) share → (r ≡ Gone false → HasKindsAlone ks share)
    → Left co ending (later ++ e ∷ []) (at_deletion number k ks end r) share
left-deletion co ending later e number k ks end (Gone false) share reply is has gone =
    to-deleting co ending (later ++ e ∷ []) ks end share is (gone refl)
left-deletion co ending later e number k ks end (Gone true) share reply is has gone = (is, has)
left-deletion co ending later e number k ks end Fault share reply is has gone =
    left-faulted co ending later e number end share reply is
left-deletion co ending later e number k ks end _ share reply is has gone = (is, has)

-- ---- a call that deletes, or reads the cached result

-- what such a call does to a sound host
pub record TakesBack (att : Att) (old new : Host) : Type 0 where
  pub sound : IsSound new
  pub within : IsWithin new old
  pub apart : (other : Att) → att_eq att other ≡ false → share_of other new ≡ share_of other old
  pub idle : share_of att old ≡ no_objects → new ≡ old
  pub ready : (pools : Pools) → IsReady pools old → IsReady pools new

pub takes-nothing : (att : Att) (host : Host) → IsSound host → TakesBack att host host
takes-nothing att host sound = record {
  sound = sound;
  within = within_same host;
  apart = λ other differ. refl;
  idle = λ none. refl;
  ready = λ pools ready. ready;
}

pub deletion-takes : (att : Att) (host : Host) (k : Kind) (fault : Bool) → IsSound host
    → TakesBack att host (host_on host (made_on host (deletion att k) fault))
deletion-takes att host k true sound = takes-nothing att host sound
deletion-takes att host k false sound =
    let d = deletes att k host sound in
    subst (TakesBack att host) (sym (host-made host (deletion att k))) (record {
      sound = d.sound;
      within = d.within;
      apart = λ other differ.
          share-other att other host (deletion att k) differ sound (deletion-allowed host att k) (deletion-own att k);
      idle = λ none. deletion-none att host k none;
      ready = λ pools ready.
          subst (IsReady pools) (host-made host (deletion att k)) (ready-deletion pools host att k false ready);
    })

-- ---- one entry of the deletion

-- no reply of a deletion leases
gone-no_lease : (att : Att) (host : Host) (k : Kind) (fault : Bool) → IsSound host
    → leases_in (reply_to host (deletion att k) fault ∷ []) ≡ []
gone-no_lease att host k true sound = refl
gone-no_lease att host k false sound = ap (λ r. leases_in (r ∷ [])) (deletes att k host sound).reply

cache-no_lease : (att : Att) (host : Host) (fault : Bool) → leases_in (reply_to host (CacheGet att) fault ∷ []) ≡ []
cache-no_lease att host true = refl
cache-no_lease att host false = refl

-- what it leaves, and what it does to the host
pub record Step (co : Course) (ending : Ending) (later : List Made) (c : Command) (number : ℕ) (s : State) (host : Host)
    (call : Call) (fault : Bool) : Type 0 where
  pub left : Left co ending (later ++ made_on host call fault ∷ []) (advance co number s (reply_to host call fault))
      (share_of (att_of c) (host_on host (made_on host call fault)))
  pub takes : TakesBack (att_of c) host (host_on host (made_on host call fault))
  pub leases : leases_in (reply_to host call fault ∷ []) ≡ []

step-cache : (co : Course) (ending : Ending) (later : List Made) (c : Command) (number : ℕ) (end : Ending)
    (host : Host) (fault : Bool)
    → IsSound host → end ≡ ending → HasKindsAlone co.kinds (share_of (att_of c) host)
    → Step co ending later c number (ReadingCache end) host (CacheGet (att_of c)) fault
unfolding advance
step-cache co ending later c number end host fault sound is has =
    let call = CacheGet (att_of c) in
    let e = made_on host call fault in record {
      left =
          left-cache co ending later e number end e.reply (share_of (att_of c) (host_on host e)) refl is
          (on-call (λ h. HasKindsAlone co.kinds (share_of (att_of c) h)) host call fault has has);
      takes =
          on-call (TakesBack (att_of c) host) host call fault (takes-nothing (att_of c) host sound)
          (takes-nothing (att_of c) host sound);
      leases = cache-no_lease (att_of c) host fault;
    }

not-gone : (b : Bool) → Gone b ≡ Fault → ⊥
not-gone b is = cc

step-deletion : (co : Course) (ending : Ending) (later : List Made) (c : Command) (number : ℕ) (k : Kind)
    (ks : List Kind) (end : Ending) (host : Host) (fault : Bool)
    → IsSound host → end ≡ ending → HasKindsAlone (k ∷ ks) (share_of (att_of c) host)
    → Step co ending later c number (Deleting k ks end) host (deletion (att_of c) k) fault
unfolding advance
step-deletion co ending later c number k ks end host fault sound is has =
    let att = att_of c in
    let call = deletion att k in
    let e = made_on host call fault in
    let takes = deletion-takes att host k fault sound in record {
      left = left-deletion co ending later e number k ks end e.reply (share_of att (host_on host e)) refl is
          (HasKindsAlone-removes att (k ∷ ks) host (host_on host e) takes.within.removes has)
          (λ gone.
          let was = replied host call fault (Gone false) (not-gone false) gone in
          subst (λ h. HasKindsAlone ks (share_of att h)) (sym (was.1 ∙ gone-same att host k was.0))
          (gone-kind att host k ks was.0 has));
      takes = takes;
      leases = gone-no_lease att host k fault sound;
    }

step-same_call : (co : Course) (ending : Ending) (later : List Made) (c : Command) (number : ℕ) (s : State)
    (host : Host) (call other : Call) (fault : Bool)
    → call ≡ other → Step co ending later c number s host call fault → Step co ending later c number s host other fault
step-same_call co ending later c number s host call other fault same step =
    subst (λ j. Step co ending later c number s host j fault) same step

pub deletes-on : (co : Course) (ending : Ending) (later : List Made) (c : Command) (number : ℕ) (s : State)
    (host : Host) (call : Call) (fault : Bool)
    → IsSound host → next_call c s ≡ Some call → Left co ending later s (share_of (att_of c) host)
    → Step co ending later c number s host call fault
unfolding next_call
deletes-on co ending later c number (ReadingCache e) host call fault sound next left =
    step-same_call co ending later c number (ReadingCache e) host (CacheGet (att_of c)) call fault
    (same_Some (CacheGet (att_of c)) call next)
    (step-cache co ending later c number e host fault sound left.0 left.1)
deletes-on co ending later c number (Deleting k ks e) host call fault sound next left =
    step-same_call co ending later c number (Deleting k ks e) host (deletion (att_of c) k) call fault
    (same_Some (deletion (att_of c) k) call next)
    (step-deletion co ending later c number k ks e host fault sound left.0 left.1)
deletes-on co ending later c number (Over e given) host call fault sound next left = cc
deletes-on co ending later c number _ host call fault sound next left = absurd left
