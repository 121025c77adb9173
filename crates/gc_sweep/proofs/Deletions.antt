-- What a deletion does to a sound host, for every kind.
use Rattle.gc_sweep.proofs.Names.{◌≡◌, ◌<◌, Bool, true, false, ap, List, Option, Some, None, length, map, refl, sym}
use Rattle.gc_sweep.proofs.Names.{◌∙◌, arith, list_any, filter, find, without_first, apply, tags_of, without_link}
use Rattle.gc_sweep.proofs.Names.{goes_with, RemovesOwn, IsSound, is_own, TouchesOwn, Kind, Links, Rules, Settings}
use Rattle.gc_sweep.proofs.Names.{Leases, Cached, Reply, Gone, Att, Host, Link, Tag, list_any-map, passes-find}
use Rattle.gc_sweep.proofs.Names.{goes_with-itself, Share, share_of, no_objects, empty_none, deletion, att_eq-refl}
use Rattle.cni_addr.proofs.Lists.{list_any-found}
use Rattle.kernel_types.proofs.Deletes.{IsSound-rule_del, IsSound-setting_del, IsSound-lease_del, IsSound-cache_del}
use Rattle.kernel_types.proofs.DropsOwn.{TouchesOwn-RemovesOwn, RemovesOwn-rule_del, RemovesOwn-setting_del}
use Rattle.kernel_types.proofs.DropsOwn.{RemovesOwn-lease_del, RemovesOwn-cache_del, RemovesOwn-link_del}
use Rattle.kernel_types.proofs.{ListLemmas.{without_first-none, list_any-find_none}, Removal.IsSound-link_del}
use Rattle.gc_sweep.specs.Keep.{IsWithin}
use Rattle.gc_sweep.proofs.{Lists.{count_found, count_without_first}, Removes.within_own, Weights.total}
use Rattle.plugin_base.specs.Calls.{is_call_of}

pub deletion-own : (att : Att) (kind : Kind) → is_call_of att (deletion att kind) ≡ true
deletion-own att Links = att_eq-refl att
deletion-own att Rules = att_eq-refl att
deletion-own att Settings = att_eq-refl att
deletion-own att Leases = att_eq-refl att
deletion-own att Cached = att_eq-refl att

-- all that the layer above uses of a deletion, as a host and a reply
pub record Deletes (a : Att) (kind : Kind) (h : Host) (step : Host × Reply) : Type 0 where
  pub sound : IsSound step.0
  pub touch : TouchesOwn a h step.0
  pub within : IsWithin step.0 h
  pub reply : step.1 ≡ Gone (list_any (is_own a) (tags_of h kind))
  pub none : list_any (is_own a) (tags_of h kind) ≡ false → step.0 ≡ h
  pub fewer : (p : Tag → Bool) → ((t : Tag) → is_own a t ≡ true → p t ≡ true)
      → list_any (is_own a) (tags_of h kind) ≡ true → total p step.0 < total p h

-- One list loses the first of the attachment's objects, and nothing else changes. `put` sets that list in a host.
deletes_first : {X : Type 0} (a : Att) (kind : Kind) (h : Host) (tag_of : X → Tag) (xs : List X) (put : List X → Host)
    (left : List X) (any : Bool)
    → left ≡ without_first (λ x. is_own a (tag_of x)) xs → any ≡ list_any (λ x. is_own a (tag_of x)) xs
    → tags_of h kind ≡ map tag_of xs → put xs ≡ h
    → ((p : Tag → Bool) → length (filter (λ x. p (tag_of x)) left) < length (filter (λ x. p (tag_of x)) xs)
    → total p (put left) < total p h)
    → IsSound (put left) → RemovesOwn a h (put left) → Deletes a kind h (put left, Gone any)
deletes_first a kind h tag_of xs put left any is_left is_any tags same less sound removes =
    let own : list_any (is_own a) (tags_of h kind) ≡ list_any (λ x. is_own a (tag_of x)) xs =
    ap (list_any (is_own a)) tags ∙ list_any-map (is_own a) tag_of xs in
    record {
      sound = sound;
      touch = TouchesOwn-RemovesOwn a h _ removes;
      within = within_own a h _ removes;
      reply = ap Gone (is_any ∙ sym own);
      none = λ e. ap put (is_left ∙ without_first-none (λ x. is_own a (tag_of x)) xs (sym own ∙ e)) ∙ same;
      fewer = λ p w e.
          let c =
          rw (sym own ∙ e) at
          (count_without_first (λ x. is_own a (tag_of x)) (λ x. p (tag_of x)) (λ x. w (tag_of x)) xs) in
          less p (rw is_left (omega (arith, c)));
    }

-- ---- links go with their peers

deletes_found : (a : Att) (h : Host) (o : Option Link) → find (λ l. is_own a l.tag) h.links ≡ o
    → IsSound (without_link h o).0 → RemovesOwn a h (without_link h o).0 → Deletes a Links h (without_link h o)
deletes_found a h None is sound removes =
    let any = list_any-map (is_own a) (λ (x : Link). x.tag) h.links in
    let none = list_any-find_none (λ l. is_own a l.tag) h.links is in
    record {
      sound = sound;
      touch = TouchesOwn-RemovesOwn a h _ removes;
      within = within_own a h _ removes;
      reply = ap Gone (sym (any ∙ none));
      none = λ e. refl;
      fewer = λ p w e. let off = sym (any ∙ none) ∙ e in cc;
    }
deletes_found a h (Some l) is sound removes =
    let any = list_any-map (is_own a) (λ (x : Link). x.tag) h.links in
    let own = passes-find (λ x. is_own a x.tag) h.links l is in
    let some = list_any-found (λ l. is_own a l.tag) (λ l. is_own a l.tag) h.links l is own in
    record {
      sound = sound;
      touch = TouchesOwn-RemovesOwn a h _ removes;
      within = within_own a h _ removes;
      reply = ap Gone (sym (any ∙ some));
      none = λ e. let off = sym (any ∙ some) ∙ e in cc;
      fewer = λ p w e.
          let c =
          count_found (λ x. is_own a x.tag) (goes_with l.ns l.name) (λ x. p x.tag) h.links l is
          (goes_with-itself l) (w l.tag own) in
          omega arith;
    }

pub deletes : (a : Att) (kind : Kind) (h : Host) → IsSound h → Deletes a kind h (apply h (deletion a kind))
deletes a Links h sound =
    deletes_found a h (find (λ l. is_own a l.tag) h.links) refl (IsSound-link_del h a sound)
    (RemovesOwn-link_del h a sound)
deletes a Rules h sound =
    deletes_first a Rules h (λ x. x.tag) h.rules (λ xs. record h { rules = xs }) _ _ refl refl refl refl
    (λ p c. omega arith) (IsSound-rule_del h a sound) (RemovesOwn-rule_del h a)
deletes a Settings h sound =
    deletes_first a Settings h (λ x. x.tag) h.settings (λ xs. record h { settings = xs }) _ _ refl refl refl refl
    (λ p c. omega arith) (IsSound-setting_del h a sound) (RemovesOwn-setting_del h a)
deletes a Leases h sound =
    deletes_first a Leases h (λ x. x.tag) h.leases (λ xs. record h { leases = xs }) _ _ refl refl refl refl
    (λ p c. omega arith) (IsSound-lease_del h a sound) (RemovesOwn-lease_del h a)
deletes a Cached h sound =
    deletes_first a Cached h (λ x. x.tag) h.cached (λ xs. record h { cached = xs }) _ _ refl refl refl refl
    (λ p c. omega arith) (IsSound-cache_del h a sound) (RemovesOwn-cache_del h a)

-- ---- an attachment that has nothing

without-none : (att : Att) (k : Host) (o : Option Link) → find (λ l. is_own att l.tag) k.links ≡ o
    → list_any (λ l. is_own att l.tag) k.links ≡ false → (without_link k o).0 ≡ k
without-none att k None found none = refl
without-none att k (Some link) found none =
    absurd (let there =
    list_any-found (λ l. is_own att l.tag) (λ l. is_own att l.tag) k.links link found
    (passes-find (λ l. is_own att l.tag) k.links link found) in
    let e : true ≡ false = sym there ∙ none in cc)

-- where nothing is the attachment's, a deletion leaves the host
pub deletion-none : (att : Att) (k : Host) (kind : Kind) → share_of att k ≡ no_objects
    → (apply k (deletion att kind)).0 ≡ k
deletion-none att k Links none =
    without-none att k (find (λ l. is_own att l.tag) k.links) refl
    (empty_none (λ l. is_own att l.tag) k.links (ap (λ (s : Share). s.links) none))
deletion-none att k Rules none =
    ap (λ l. record k { rules = l })
    (without_first-none (λ r. is_own att r.tag) k.rules
    (empty_none (λ r. is_own att r.tag) k.rules (ap (λ (s : Share). s.rules) none)))
deletion-none att k Settings none =
    ap (λ l. record k { settings = l })
    (without_first-none (λ r. is_own att r.tag) k.settings
    (empty_none (λ r. is_own att r.tag) k.settings (ap (λ (s : Share). s.settings) none)))
deletion-none att k Leases none =
    ap (λ l. record k { leases = l })
    (without_first-none (λ r. is_own att r.tag) k.leases
    (empty_none (λ r. is_own att r.tag) k.leases (ap (λ (s : Share). s.leases) none)))
deletion-none att k Cached none =
    ap (λ l. record k { cached = l })
    (without_first-none (λ r. is_own att r.tag) k.cached
    (empty_none (λ r. is_own att r.tag) k.cached (ap (λ (s : Share). s.cached) none)))
