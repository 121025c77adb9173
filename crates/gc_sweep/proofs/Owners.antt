-- The owners that a kernel names are all that there are.
use Rattle.gc_sweep.proofs.Names.{◌≡◌, ℕ, Bool, true, false, not, cond, List, [], ◌∷◌, Some, None, refl, ap, ◌∙◌, arith}
use Rattle.gc_sweep.proofs.Names.{list_any, list_all, filter_map, cons_option, filter, ◌&&◌, ◌||◌, is_some, bytes_eq}
use Rattle.gc_sweep.proofs.Names.{owner_in, att_eq, is_own, Att, Tag, Outside, Base, Own, each_key_once, att_eq-refl}
use Rattle.gc_sweep.proofs.Names.{att_eq-laws, is_own-one, list_all-weaker, by_bool, ValidAtt, is_valid}
use Rattle.gc_sweep.proofs.Names.{list_all-each_key_once}
use Rattle.std.proofs.lemmas.{Bool.and_from, Map.Views.any-filter_same}
use Rattle.kernel_types.proofs.ListLemmas.{list_all-kept}
use Rattle.gc_sweep.specs.{Bound.stale_owners, Keep.goes}
use Rattle.plugin_base.proofs.KeyLists.{list_any-each_key_once}

-- the attachment is of the network and stale
abbrev pub is_stale : List ℕ → List ValidAtt → Att → Bool
is_stale network valid att = bytes_eq att.network network && not (is_valid valid att)

pub goes_own : (network : List ℕ) (valid : List ValidAtt) (a : Att)
    → goes network valid (Own a) ≡ is_stale network valid a
goes_own network valid a = grind (arith)

-- a stale attachment's objects go
pub own_goes : (network : List ℕ) (valid : List ValidAtt) (a : Att) → is_stale network valid a ≡ true → (t : Tag)
    → is_own a t ≡ true → goes network valid t ≡ true
own_goes network valid a stale t h = rw (is_own-one a t h) (goes_own network valid a ∙ stale)

abbrev pub has_att : List Att → Tag → Bool
has_att atts t = list_any (λ a. is_own a t) atts

more_owners : (x : Att) (xs : List Att) (network : List ℕ) (ts : List Tag)
    → list_all (λ t. not (is_some (owner_in network t)) || has_att xs t) ts ≡ true
    → list_all (λ t. not (is_some (owner_in network t)) || has_att (x ∷ xs) t) ts ≡ true
more_owners x xs network ts h =
    list_all-weaker (λ t. not (is_some (owner_in network t)) || has_att xs t)
    (λ t. not (is_some (owner_in network t)) || has_att (x ∷ xs) t) (λ t g. grind (arith, g)) ts h

abbrev owned_by : List Att → List ℕ → Tag → Bool
owned_by xs network t = not (is_some (owner_in network t)) || has_att xs t

own_case : (b : Bool) (a : Att) (network : List ℕ) (xs : List Att) (ts : List Tag)
    → list_all (owned_by xs network) ts ≡ true
    → ((not (is_some (cond b (Some a) None)) || has_att (cons_option (cond b (Some a) None) xs) (Own a))
    && list_all (owned_by (cons_option (cond b (Some a) None) xs) network) ts)
    ≡ true
own_case true a network xs ts h = grind (arith, att_eq-refl a, more_owners a xs network ts h)
own_case false a network xs ts h = h

owners_all : (network : List ℕ) (ts : List Tag)
    → list_all (owned_by (filter_map (owner_in network) ts) network) ts ≡ true
owners_all network [] = refl
owners_all network (Outside ∷ ts) = owners_all network ts
owners_all network (Base ∷ ts) = owners_all network ts
owners_all network (Own a ∷ ts) =
    own_case (bytes_eq a.network network) a network (filter_map (owner_in network) ts) ts (owners_all network ts)

unowned : (xs : List Att) → list_any (λ a. false) xs ≡ true → ⊥
unowned [] h = cc
unowned (x ∷ xs) h = unowned xs h

once_has : (xs : List Att) (t : Tag) → has_att xs t ≡ true → has_att (each_key_once att_eq xs) t ≡ true
once_has xs Outside h = absurd (unowned xs h)
once_has xs Base h = absurd (unowned xs h)
once_has xs (Own a) h = list_any-each_key_once att_eq att_eq-laws a xs ∙ h

stale_has : (network : List ℕ) (valid : List ValidAtt) (xs : List Att) (t : Tag) → goes network valid t ≡ true
    → has_att xs t ≡ true → has_att (filter (λ a. not (is_valid valid a)) xs) t ≡ true
stale_has network valid xs t stale h =
    any-filter_same (λ a. is_own a t) (λ a. not (is_valid valid a)) true
    (λ a own.
    let here : goes network valid (Own a) ≡ true = rw (is_own-one a t own) at stale in
    grind (arith, here, goes_own network valid a))
    xs
    ∙ h

goes_of : (network : List ℕ) (valid : List ValidAtt) (t : Tag) → goes network valid t ≡ true
    → is_some (owner_in network t) ≡ true
goes_of network valid Outside h = cc
goes_of network valid Base h = cc
goes_of network valid (Own a) h =
    let of : bytes_eq a.network network ≡ true = grind (arith, h, goes_own network valid a) in
    ap (λ b. is_some (cond b (Some a) None)) of

owned_or_stays : (network : List ℕ) (valid : List ValidAtt) (xs : List Att) (t : Tag) → owned_by xs network t ≡ true
    → (not (goes network valid t) || has_att (filter (λ a. not (is_valid valid a)) (each_key_once att_eq xs)) t) ≡ true
owned_or_stays network valid xs t h =
    by_bool (goes network valid t)
    (λ yes.
    let there : has_att xs t ≡ true = grind (arith, h, goes_of network valid t yes) in
    grind (arith, stale_has network valid (each_key_once att_eq xs) t yes (once_has xs t there)))
    (λ no. grind (arith, no))

pub owners_cover : (network : List ℕ) (valid : List ValidAtt) (ts : List Tag)
    → list_all (λ t. not (goes network valid t) || has_att (stale_owners network valid ts) t) ts ≡ true
owners_cover network valid ts =
    list_all-weaker (owned_by (filter_map (owner_in network) ts) network)
    (λ t. not (goes network valid t) || has_att (stale_owners network valid ts) t)
    (owned_or_stays network valid (filter_map (owner_in network) ts)) ts (owners_all network ts)

-- ---- each of them is stale

named_case : (b : Bool) (a : Att) (network : List ℕ) (xs : List Att) → bytes_eq a.network network ≡ b
    → list_all (λ x. bytes_eq x.network network) xs ≡ true
    → list_all (λ x. bytes_eq x.network network) (cons_option (cond b (Some a) None) xs) ≡ true
named_case true a network xs e h = grind (arith, e, h)
named_case false a network xs e h = h

owners_named : (network : List ℕ) (ts : List Tag)
    → list_all (λ x. bytes_eq x.network network) (filter_map (owner_in network) ts) ≡ true
owners_named network [] = refl
owners_named network (Outside ∷ ts) = owners_named network ts
owners_named network (Base ∷ ts) = owners_named network ts
owners_named network (Own a ∷ ts) =
    named_case (bytes_eq a.network network) a network (filter_map (owner_in network) ts) refl (owners_named network ts)

pub owners_stale : (network : List ℕ) (valid : List ValidAtt) (ts : List Tag)
    → list_all (is_stale network valid) (stale_owners network valid ts) ≡ true
owners_stale network valid ts =
    list_all-kept (λ (a : Att). bytes_eq a.network network) (is_stale network valid) (λ a. not (is_valid valid a))
    (λ a here stale. and_from (bytes_eq a.network network) (not (is_valid valid a)) here stale)
    (each_key_once att_eq (filter_map (owner_in network) ts))
    (list_all-each_key_once (λ x. bytes_eq x.network network) att_eq (filter_map (owner_in network) ts)
    (owners_named network ts))
