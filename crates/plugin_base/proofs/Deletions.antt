-- What a deletion that finds nothing says, and what lies where an attachment has no link.
use Rattle.std.proofs.Common.{◌≡◌, ℕ, Bool, true, false, cond, List, [], ◌∷◌, Option, Some, None, refl, arith}
use Rattle.std.proofs.lemmas.Bool.{true≢false, both_ways}
use Rattle.std.specs.{List.list_any, Prelude.{filter, find, ◌||◌}}
use Rattle.cni_addr.specs.Lists.{without_first}
use Rattle.kernel_types.specs.{Apply.Calls.without_link, Sound.{IsSound, address_fits_tag}, Terms.{is_own, is_link_of}}
use Rattle.kernel_types.specs.declared.{call.Reply.TheVariants.Gone, object.{AddrObj.AddrObj, Att.Att, Host.Host}}
use Rattle.kernel_types.specs.declared.object.{Link.Link, RouteObj.RouteObj, Tag.{Tag, TheVariants.Own}}
use Rattle.kernel_types.proofs.{Isolation.is_own-one, ListLemmas.{filter_never, list_any-find_none, without_first-none}}
use Rattle.kernel_types.proofs.TouchRemoval.{by_bool}
use Rattle.plugin_base.specs.Share.{share_of}
use Rattle.plugin_base.proofs.KeyLists.{filter-none}

-- ---- deletions

cons_nil : {X : Type 0} (x : X) (xs : List X) → x ∷ xs ≡ [] → ⊥
cons_nil x xs h = cc

empty_none_by : {X : Type 0} (b : Bool) (x : X) (xs : List X) (rest : Bool) → (xs ≡ [] → rest ≡ false)
    → cond b (x ∷ xs) xs ≡ [] → (b || rest) ≡ false
empty_none_by true x xs rest h g = absurd (cons_nil x xs g)
empty_none_by false x xs rest h g = h g

-- a deletion of one object that found none leaves the host, and there is none
same_gone : (a b : Bool) → Gone a ≡ Gone b → a ≡ b
same_gone a b h = cc

pub gone-none : {X : Type 0} (p : X → Bool) (xs : List X) → Gone (list_any p xs) ≡ Gone false
    → (without_first p xs ≡ xs) × (filter p xs ≡ [])
gone-none p xs h = let none = same_gone (list_any p xs) false h in (without_first-none p xs none, filter-none p xs none)

pub gone-links : (att : Att) (host : Host) (o : Option Link) → find (λ l. is_own att l.tag) host.links ≡ o
    → (without_link host o).1 ≡ Gone false → ((without_link host o).0 ≡ host) × ((share_of att host).links ≡ [])
gone-links att host None is h =
    (refl, filter-none (λ l. is_own att l.tag) host.links (list_any-find_none (λ l. is_own att l.tag) host.links is))
gone-links att host (Some link) is h = absurd (true≢false (same_gone true false h))

-- ---- where there is no link of the attachment, no_objects lies on one

pub empty_none : {X : Type 0} (p : X → Bool) (xs : List X) → filter p xs ≡ [] → list_any p xs ≡ false
empty_none p [] h = refl
empty_none p (x ∷ xs) h = empty_none_by (p x) x (filter p xs) (list_any p xs) (λ e. empty_none p xs e) h

none_weaker : (att : Att) (ns name : List ℕ) (links : List Link) → list_any (λ l. is_own att l.tag) links ≡ false
    → list_any (is_link_of ns name (Own att)) links ≡ false
none_weaker att ns name [] h = refl
none_weaker att ns name (l ∷ ls) h = grind (arith, none_weaker att ns name ls)

-- what would lie on a link of the attachment's, if it were the attachment's, is not
unowned : (att : Att) (links : List Link) (ns name : List ℕ) (tag : Tag)
    → list_any (λ l. is_own att l.tag) links ≡ false
    → (is_own att tag ≡ true → list_any (is_link_of ns name (Own att)) links ≡ true) → is_own att tag ≡ false
unowned att links ns name tag none lies =
    by_bool (is_own att tag)
    (λ own.
    absurd (both_ways (list_any (is_link_of ns name (Own att)) links) (none_weaker att ns name links none) (lies own)))
    (λ f. f)

addr_lies : (att : Att) (links : List Link) (a : AddrObj) → list_any (λ l. is_own att l.tag) links ≡ false
    → address_fits_tag links a a.tag ≡ true → is_own att a.tag ≡ false
addr_lies att links a none lies =
    unowned att links a.ns a.link a.tag none (λ own. rw (is_own-one att a.tag own) at lies)

route_lies : (att : Att) (links : List Link) (r : RouteObj) → list_any (λ l. is_own att l.tag) links ≡ false
    → list_any (is_link_of r.ns r.link r.tag) links ≡ true → is_own att r.tag ≡ false
route_lies att links r none lies =
    unowned att links r.ns r.link r.tag none (λ own. rw (is_own-one att r.tag own) at lies)

pub no-links : (att : Att) (host : Host) → IsSound host → (share_of att host).links ≡ []
    → ((share_of att host).addresses ≡ []) × ((share_of att host).routes ≡ [])
no-links att host sound none =
    let no = empty_none (λ l. is_own att l.tag) host.links none in (
      filter_never (λ a. is_own att a.tag) (λ a. address_fits_tag host.links a a.tag)
          (λ a lies. addr_lies att host.links a no lies) host.addresses sound.addresses.on_links,
      filter_never (λ r. is_own att r.tag) (λ r. list_any (is_link_of r.ns r.link r.tag) host.links)
          (λ r lies. route_lies att host.links r no lies) host.routes sound.routes.on_links,
    )
