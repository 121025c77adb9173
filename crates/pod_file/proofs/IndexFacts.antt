-- One more key in a set that tells what a list has.
use Rattle.std.proofs.Common.{◌≡◌, ℕ, Bool, true, cond, List, [], ◌∷◌, ◌++◌, refl, subst, sym, ap₂, ◌∙◌}
use Rattle.std.proofs.{Math.Bool.and_comm, lemmas.{List.Folds.list_any-append, Slice.Eq.bytes_eq-Decides}}
use Rattle.std.specs.Cmp.{both_tied, nat_eq_equiv, unsigned_ties, Derive.one_truth, Lexicographic.slice_cmp}
use Rattle.std.specs.{Cmp.Lexicographic.texts_ties, List.list_any, Ordering.{is_eq, nat_cmp}, Prelude.{◌==◌, ◌&&◌}}
use Rattle.std.specs.{Str.bytes_eq, declared.cmp.Ordering.Ordering}
use Rattle.cni_addr.proofs.Tests.{and_implied, one_more}
use Rattle.kernel_types.specs.{Terms.is_at, declared.object.Link.Link}
use Rattle.pod_file.specs.Indexed.{EndedName, HasNames, HasPlaces, LinkPlace, end_of, link_place_cmp, name_cmp}

pub bytes_eq-swap : (s t : List ℕ) → bytes_eq s t ≡ true → bytes_eq t s ≡ true
bytes_eq-swap s t same = (bytes_eq-Decides t s).1 (sym ((bytes_eq-Decides s t).0 same))

bytes_eq-flip : (s t : List ℕ) → bytes_eq s t ≡ bytes_eq t s
bytes_eq-flip s t = one_truth (bytes_eq s t) (bytes_eq t s) (bytes_eq-swap s t) (bytes_eq-swap t s)

-- one more key in a set in this order
abbrev pub HasOneMore : {K : Type 0} → (K → K → Ordering) → (has more : K → Bool) → K → Type 0
HasOneMore {K} cmp has more key = (q : K) → more q ≡ cond (is_eq (cmp key q)) true (has q)

-- equal names have equal ends
ends_equal : (s t : List ℕ) → bytes_eq s t ≡ true → (end_of s == end_of t) ≡ true
ends_equal s t same =
    subst (λ u. (end_of s == end_of u) ≡ true) ((bytes_eq-Decides s t).0 same) (nat_eq_equiv.refl (end_of s))

names_tie : (s t : List ℕ) → bytes_eq s t ≡ is_eq (name_cmp (end_of s, s) (end_of t, t))
names_tie s t =
    and_implied (end_of s == end_of t) (bytes_eq s t) (ends_equal s t)
    ∙ both_tied (end_of s == end_of t) (bytes_eq s t) (nat_cmp (end_of s) (end_of t)) (slice_cmp nat_cmp s t)
    (unsigned_ties (end_of s) (end_of t)) (texts_ties s t)

places_tie : (ns name ms other : List ℕ)
    → (bytes_eq name other && bytes_eq ns ms)
    ≡ is_eq (link_place_cmp ((end_of name, name), ns) ((end_of other, other), ms))
places_tie ns name ms other =
    both_tied (bytes_eq name other) (bytes_eq ns ms) (name_cmp (end_of name, name) (end_of other, other))
    (slice_cmp nat_cmp ns ms) (names_tie name other) (texts_ties ns ms)

pub names-more : (has more : EndedName → Bool) (names : List (List ℕ)) (name : List ℕ) → HasNames has names
    → HasOneMore name_cmp has more (end_of name, name) → HasNames more (names ++ name ∷ [])
names-more has more names name old new q =
    new (end_of q, q)
    ∙ ap₂ (λ here before. cond here true before) (sym (names_tie name q) ∙ bytes_eq-flip name q) (old q)
    ∙ one_more (bytes_eq q name) (list_any (bytes_eq q) names)
    ∙ sym (list_any-append (bytes_eq q) names (name ∷ []))

pub places-more : (has more : LinkPlace → Bool) (links : List Link) (link : Link) → HasPlaces has links
    → HasOneMore link_place_cmp has more ((end_of link.name, link.name), link.ns)
    → HasPlaces more (links ++ link ∷ [])
places-more has more links link old new ns name =
    new ((end_of name, name), ns)
    ∙ ap₂ (λ here before. cond here true before)
    (sym (places_tie link.ns link.name ns name) ∙ and_comm (bytes_eq link.name name) (bytes_eq link.ns ns))
    (old ns name)
    ∙ one_more (is_at ns name link) (list_any (is_at ns name) links)
    ∙ sym (list_any-append (is_at ns name) links (link ∷ []))
