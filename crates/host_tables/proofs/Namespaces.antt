-- What leaves a sound host with a namespace.
use Rattle.std.proofs.Common.{◌≡◌, ◌<◌, ℕ, suc, Bool, true, false, not, ap, List, [], ◌∷◌, Option, Some, None}
use Rattle.std.proofs.{Common.{true≢false, refl, sym, subst, ◌∙◌, length, arith}, lemmas.Bool.and_parts}
use Rattle.std.proofs.lemmas.Slice.Eq.{bytes_eq-Decides}
use Rattle.std.specs.{List.list_any, Prelude.{filter, find, ◌&&◌, ◌||◌, if◌then◌else◌}, Str.bytes_eq}
use Rattle.cni_addr.specs.Lists.{without_first}
use Rattle.cni_addr.proofs.Lists.{all-among, any-among, filter-every, from-among, length-filter_le}
use Rattle.kernel_types.specs.Apply.Calls.{goes_with, goes_with_ns, has_peer_in, ns_del_of, without_links, without_ns}
use Rattle.kernel_types.specs.{Sound.{IsSound, peer_fits, peers_back}, Terms.{has_named_ns, is_at, is_host_ns}}
use Rattle.kernel_types.specs.{Terms.is_peer_at, declared.{call.Reply.TheVariants.{Done, NoNs}, object.AddrObj.AddrObj}}
use Rattle.kernel_types.specs.declared.object.{Host.Host, Link.Link, LinkKey.LinkKey, RouteObj.RouteObj}
use Rattle.kernel_types.specs.declared.object.Setting.{Setting}
use Rattle.kernel_types.proofs.{ListLemmas.{list_any-find_none, list_any-weaker, passes-find}, Removal.goes_with-itself}
use Rattle.kernel_types.proofs.{Removal.IsSound-without_link, TouchRemoval.from_one}
use Rattle.object_tables.proofs.Lists.{filter-none}
use Rattle.host_tables.specs.Leaving.{left_with}
use Rattle.object_tables.specs.{Rows.inner_ns, Table.is_key}
use Rattle.host_tables.proofs.{Leaving.left-first, Lists.{filter-twice, found-among, none-both}}

pub inner-named : (host : Host) → IsSound host → (name : List ℕ) → has_named_ns host name ≡ true
    → is_host_ns name ≡ false
inner-named host sound name named =
    let inner : not (is_host_ns name) ≡ true =
    from_one (λ n. bytes_eq n.name name) (λ n. not (is_host_ns n.name)) (not (is_host_ns name))
    (λ n e g. ap (λ m. not (is_host_ns m)) (sym ((bytes_eq-Decides n.name name).0 e)) ∙ g) host.namespaces named
    sound.namespaces.named in
    grind (arith, inner)

-- what has its site in a namespace other than the host's own
apart : (name : List ℕ) → is_host_ns name ≡ false → (ns : List ℕ) → is_host_ns ns ≡ true → (b : Bool)
    → bytes_eq ns name ≡ b → false ≡ b
apart name inner ns host true e =
    absurd (true≢false (sym host ∙ ap is_host_ns ((bytes_eq-Decides ns name).0 e) ∙ inner))
apart name inner ns host false e = refl

pub inner-is : (name : List ℕ) → is_host_ns name ≡ false → (ns : List ℕ)
    → is_key bytes_eq (inner_ns ns) name ≡ bytes_eq ns name
inner-is name inner ns = by (is_host_ns ns) refl
  where
    by : (b : Bool) → is_host_ns ns ≡ b → is_key bytes_eq (if b then None else Some ns) name ≡ bytes_eq ns name
    by true host = apart name inner ns host (bytes_eq ns name) refl
    by false far = refl

-- ---- links that go in two steps

absorbed : (a b : Bool) → (a ≡ true → b ≡ true) → (a || b) ≡ b
absorbed true b h = sym (h refl)
absorbed false b h = refl

module _ (g k : Link → Bool) (more : (l : Link) → g l ≡ true → k l ≡ true) where
  links-again : (xs : List Link) → filter (λ l. not (k l)) (filter (λ l. not (g l)) xs) ≡ filter (λ l. not (k l)) xs
  links-again xs = filter-twice g k xs ∙ (λ i. filter (λ l. not (absorbed (g l) (k l) (more l) i)) xs)

  any-again : (at : Link → Bool) (xs : List Link)
      → (list_any (λ l. g l && at l) xs || list_any (λ l. k l && at l) (filter (λ l. not (g l)) xs))
      ≡ list_any (λ l. k l && at l) xs
  any-again at [] = refl
  any-again at (x ∷ xs) = by (g x) refl (any-again at xs)
    where
      by : (b : Bool) → g x ≡ b
          → (list_any (λ l. g l && at l) xs || list_any (λ l. k l && at l) (filter (λ l. not (g l)) xs))
          ≡ list_any (λ l. k l && at l) xs
          → (list_any (λ l. g l && at l) (x ∷ xs) || list_any (λ l. k l && at l) (filter (λ l. not (g l)) (x ∷ xs)))
          ≡ list_any (λ l. k l && at l) (x ∷ xs)
      by true e rest = let goes = more x e in grind (arith, e, goes, rest)
      by false e rest = grind (arith, e, rest)

  lies-again : {X : Type 0} (on : X → Link → Bool) (links : List Link) (xs : List X)
      → filter (λ x. not (list_any (λ l. k l && on x l) (filter (λ l. not (g l)) links)))
      (filter (λ x. not (list_any (λ l. g l && on x l) links)) xs)
      ≡ filter (λ x. not (list_any (λ l. k l && on x l) links)) xs
  lies-again on links xs =
      filter-twice (λ x. list_any (λ l. g l && on x l) links)
      (λ x. list_any (λ l. k l && on x l) (filter (λ l. not (g l)) links)) xs
      ∙ (λ i. filter (λ x. not (any-again (on x) links i)) xs)

  without-again : (host : Host) → without_links k (without_links g host) ≡ without_links k host
  without-again host = (λ i. record host {
    links = links-again host.links i;
    addresses = lies-again (λ (a : AddrObj) l. is_at a.ns a.link l) host.links host.addresses i;
    routes = lies-again (λ (r : RouteObj) l. is_at r.ns r.link l) host.links host.routes i;
  })

without-none : (k : Link → Bool) (host : Host) → list_any k host.links ≡ false → without_links k host ≡ host
without-none k host none =
    let links = filter-none k host.links none in
    let addresses =
    (λ j. filter (λ (a : AddrObj). not (none-both k (is_at a.ns a.link) host.links none j)) host.addresses)
    ∙ filter-every host.addresses in
    let routes =
    (λ j. filter (λ (r : RouteObj). not (none-both k (is_at r.ns r.link) host.links none j)) host.routes)
    ∙ filter-every host.routes in
    (λ i. record host { links = links i; addresses = addresses i; routes = routes i })

-- ---- one link of the namespace after the other

pub filter-fewer : {X : Type 0} (p : X → Bool) (xs : List X) → list_any p xs ≡ true
    → length (filter (λ x. not (p x)) xs) < length xs
filter-fewer p [] h = absurd (true≢false (sym h))
filter-fewer p (x ∷ xs) h = by (p x) h (filter-fewer p xs)
  where
    by : (b : Bool) → (b || list_any p xs) ≡ true
        → (list_any p xs ≡ true → length (filter (λ y. not (p y)) xs) < length xs)
        → length (if not b then x ∷ filter (λ y. not (p y)) xs else filter (λ y. not (p y)) xs) < suc (length xs)
    by true e less = omega (arith, length-filter_le (λ y. not (p y)) xs)
    by false e less = omega (arith, less e)

peer-in : (name : List ℕ) (link : Link) → link.ns ≡ name → (o : Option LinkKey) → is_peer_at link.ns link.name o ≡ true
    → has_peer_in name o ≡ true
peer-in name link one None g = absurd (true≢false (sym g))
peer-in name link one (Some key) g =
    ap (bytes_eq key.ns) (sym one) ∙ (and_parts (bytes_eq key.ns link.ns) (bytes_eq key.name link.name) g).0

module _ (name : List ℕ) (inner : is_host_ns name ≡ false) where
  -- what goes with a link of the namespace goes with the namespace
  with-link : (link : Link) → link.ns ≡ name → (l : Link) → goes_with link.ns link.name l ≡ true
      → goes_with_ns name l ≡ true
  with-link link one l h = by (is_at link.ns link.name l) refl
    where
      by : (b : Bool) → is_at link.ns link.name l ≡ b → goes_with_ns name l ≡ true
      by true e =
          let here : bytes_eq l.ns name ≡ true =
          ap (bytes_eq l.ns) (sym one) ∙ (and_parts (bytes_eq l.ns link.ns) (bytes_eq l.name link.name) e).0 in
          grind (arith, here)
      by false e =
          let there : is_peer_at link.ns link.name l.peer ≡ true = grind (arith, e, h) in
          let in_it : has_peer_in name l.peer ≡ true = peer-in name link one l.peer there in
          grind (arith, in_it)

  module _ (host : Host) (sound : IsSound host) where
    module _ (link : Link)
        (found : find (λ l. is_key bytes_eq (inner_ns l.ns) name) host.links ≡ Some link) (new : Host)
        (left : new
        ≡ left_with link
        (record host { links = without_first (λ l. is_key bytes_eq (inner_ns l.ns) name) host.links })) where
      gone : new ≡ without_links (goes_with link.ns link.name) host
      gone = left ∙ left-first host sound (λ l. is_key bytes_eq (inner_ns l.ns) name) link found

      one : link.ns ≡ name
      one =
          (bytes_eq-Decides link.ns name).0
          (sym (inner-is name inner link.ns)
          ∙ passes-find (λ l. is_key bytes_eq (inner_ns l.ns) name) host.links link found)

      pub step-leaves : without_links (goes_with_ns name) new ≡ without_links (goes_with_ns name) host
      step-leaves =
          ap (without_links (goes_with_ns name)) gone
          ∙ without-again (goes_with link.ns link.name) (goes_with_ns name) (with-link link one) host

      pub step-sound : IsSound new
      step-sound = subst IsSound (sym gone) (IsSound-without_link host (Some link) sound)

      pub step-fewer : length new.links < length host.links
      step-fewer =
          let some =
          any-among (goes_with link.ns link.name) link host.links
          (found-among (λ l. is_key bytes_eq (inner_ns l.ns) name) host.links link found)
          (goes_with-itself link) in
          let fewer = filter-fewer (goes_with link.ns link.name) host.links some in
          subst (λ n. n < length host.links) (ap (λ (h : Host). length h.links) (sym gone)) fewer

    peer-there : (l : Link) (o : Option LinkKey) → peer_fits host.links l o ≡ true → has_peer_in name o ≡ true
        → list_any (λ m. bytes_eq m.ns name) host.links ≡ true
    peer-there l None fits h = absurd (true≢false (sym h))
    peer-there l (Some key) fits h =
        let one : key.ns ≡ name = (bytes_eq-Decides key.ns name).0 h in
        list_any-weaker (peers_back l key) (λ m. bytes_eq m.ns name)
        (λ m back. let at : bytes_eq m.ns key.ns ≡ true = grind (arith, back) in ap (bytes_eq m.ns) (sym one) ∙ at)
        host.links (grind (arith, fits))

    some-there : list_any (goes_with_ns name) host.links ≡ true → list_any (λ m. bytes_eq m.ns name) host.links ≡ true
    some-there =
        from-among (goes_with_ns name) (list_any (λ m. bytes_eq m.ns name) host.links) host.links
        (λ l at h.
        let here : bytes_eq l.ns name ≡ true → list_any (λ m. bytes_eq m.ns name) host.links ≡ true =
        any-among (λ m. bytes_eq m.ns name) l host.links at in
        let fits : peer_fits host.links l l.peer ≡ true =
        all-among (λ l. peer_fits host.links l l.peer) l host.links at sound.links.peers in
        grind (arith, h, here, peer-there l l.peer fits))

    none-goes : list_any (λ m. bytes_eq m.ns name) host.links ≡ false → (b : Bool)
        → list_any (goes_with_ns name) host.links ≡ b → b ≡ false
    none-goes off true e = sym (some-there e) ∙ off
    none-goes off false e = refl

    -- where no link is in the namespace, none goes with it
    pub none-leaves : find (λ l. is_key bytes_eq (inner_ns l.ns) name) host.links ≡ None
        → without_links (goes_with_ns name) host ≡ host
    none-leaves none =
        let off : list_any (λ m. bytes_eq m.ns name) host.links ≡ false =
        sym (λ i. list_any (λ (l : Link). inner-is name inner l.ns i) host.links)
        ∙ list_any-find_none (λ l. is_key bytes_eq (inner_ns l.ns) name) host.links none in
        without-none (goes_with_ns name) host (none-goes off (list_any (goes_with_ns name) host.links) refl)

    settings-leave : filter (λ s. not (is_key bytes_eq (inner_ns s.ns) name)) host.settings
        ≡ filter (λ s. not (bytes_eq s.ns name)) host.settings
    settings-leave = (λ i. filter (λ (s : Setting). not (inner-is name inner s.ns i)) host.settings)

    pub ns-leaves : has_named_ns host name ≡ true → (left : Host) → left ≡ without_links (goes_with_ns name) host → (
      record left {
        namespaces = filter (λ n. not (bytes_eq n.name name)) left.namespaces;
        settings = filter (λ s. not (is_key bytes_eq (inner_ns s.ns) name)) left.settings;
      },
      Done,
    ) ≡ ns_del_of host name
    ns-leaves named left is =
        ap (λ (h : Host). (
          record h {
            namespaces = filter (λ n. not (bytes_eq n.name name)) h.namespaces;
            settings = filter (λ s. not (is_key bytes_eq (inner_ns s.ns) name)) h.settings;
          },
          Done,
        )) is
        ∙ (λ i. (
          record (without_links (goes_with_ns name) host) {
            namespaces = filter (λ n. not (bytes_eq n.name name)) host.namespaces;
            settings = settings-leave i;
          },
          Done,
        ))
        ∙ ap (λ b. if b then (without_ns name (without_links (goes_with_ns name) host), Done) else (host, NoNs))
        (sym named)
