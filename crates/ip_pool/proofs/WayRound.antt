-- The way round from the last address is the candidates in the order in which they are tried.
use Rattle.std.proofs.Common.{◌≡◌, ℕ, ◌+◌, ◌<◌, ◌≤◌, true, false, Some, None, List, [], ◌∷◌, ◌++◌, length, get_or, take}
use Rattle.std.proofs.{Common.{drop, refl, ap, sym, ◌∙◌, arith, append_assoc}, lemmas.Bool.Decides.nat_tests}
use Rattle.std.proofs.lemmas.List.{drop_more, take-append-drop, Concat.flat_map-append, Folds.list_any-append}
use Rattle.std.proofs.lemmas.List.Quantifiers.{position-Some}
use Rattle.std.specs.List.{list_any, flat_map, position}
use Rattle.cni_addr.specs.{Equal.addr_eq, declared.{address.Addr.Addr, range.Range.Range}}
use Rattle.ip_pool.specs.{NextAddress.is_in, Pool.{candidates_between, candidates_in, after_last_first}}
use Rattle.ip_pool.specs.WayRound.{way_round}
use Rattle.ip_pool.proofs.Lists.{round-absent, round-split, list_any-take_position, list_any-no_position}
use Rattle.ip_pool.proofs.{Membership.{list_any-candidates_between, list_any-candidates}, Stretches.address_at}
use Rattle.ip_pool.proofs.Stretches.{candidates_between-split, candidates_between-first, candidates_between-empty}

-- ---- what it means to be in a range

pub is_in-above : (a : Addr) (r : Range) → is_in a r ≡ true → r.start.bits ≤ a.bits
is_in-above a r h = grind (arith, nat_tests)

pub is_in-below : (a : Addr) (r : Range) → is_in a r ≡ true → a.bits ≤ r.end.bits
is_in-below a r h = grind (arith, nat_tests)

is_in-same : (a : Addr) (r : Range) → is_in a r ≡ true → addr_eq a (address_at r a.bits) ≡ true
is_in-same a r h = grind (arith, nat_tests)

is_in-other : (a : Addr) (r : Range) → is_in a r ≡ true → addr_eq (address_at r a.bits) r.gateway ≡ false
is_in-other a r h = grind (arith, nat_tests)

-- ---- the candidates before the last one, that one, and those after it

before : Range → List Range → ℕ → List Addr
before r earlier last = flat_map candidates_in earlier ++ candidates_between r r.start.bits last

after : Range → List Range → ℕ → List Addr
after r later last = candidates_between r (last + 1) (r.end.bits + 1) ++ flat_map candidates_in later

candidates_in-split : (a : Addr) (r : Range) → is_in a r ≡ true
    → candidates_in r ≡ candidates_between r r.start.bits a.bits
    ++ (address_at r a.bits ∷ candidates_between r (a.bits + 1) (r.end.bits + 1))
candidates_in-split a r h =
    let above = is_in-above a r h in
    let below = is_in-below a r h in
    candidates_between-split r r.start.bits a.bits (r.end.bits + 1) above (omega arith)
    ∙ ap (λ l. candidates_between r r.start.bits a.bits ++ l)
    (candidates_between-first r a.bits (r.end.bits + 1) (omega arith) (is_in-other a r h))

up_to-split : (a : Addr) (r : Range) → is_in a r ≡ true → candidates_between r r.start.bits (a.bits + 1)
    ≡ candidates_between r r.start.bits a.bits ++ (address_at r a.bits ∷ [])
up_to-split a r h =
    let above = is_in-above a r h in
    candidates_between-split r r.start.bits a.bits (a.bits + 1) above (omega arith)
    ∙ ap (λ l. candidates_between r r.start.bits a.bits ++ l)
    (candidates_between-first r a.bits (a.bits + 1) (omega arith) (is_in-other a r h)
    ∙ ap (λ l. address_at r a.bits ∷ l) (candidates_between-empty r (a.bits + 1)))

regroup : {X : Type 0} (es fs gs hs : List X) (x : X) → es ++ ((fs ++ (x ∷ gs)) ++ hs) ≡ (es ++ fs) ++ (x ∷ (gs ++ hs))
regroup es fs gs hs x = simp append_assoc

candidates-split : (a : Addr) (rs : List Range) (i : ℕ) (r : Range) → i < length rs → r ≡ get_or rs i r
    → is_in a r ≡ true → flat_map candidates_in rs
    ≡ before r (take i rs) a.bits ++ (address_at r a.bits ∷ after r (drop (i + 1) rs) a.bits)
unfolding before after
candidates-split a rs i r below is h =
    let parts : rs ≡ take i rs ++ (r ∷ drop (i + 1) rs) =
    sym (take-append-drop i rs)
    ∙ ap (λ l. take i rs ++ l) (drop_more rs i r below ∙ ap (λ x. x ∷ drop (i + 1) rs) (sym is)) in
    ap (flat_map candidates_in) parts ∙ flat_map-append candidates_in (take i rs) (r ∷ drop (i + 1) rs)
    ∙ rw (candidates_in-split a r h) (regroup _ _ _ _ _)

last-not_before : (a : Addr) (rs : List Range) (i : ℕ) (r : Range) → position (is_in a) rs ≡ Some i
    → list_any (addr_eq a) (before r (take i rs) a.bits) ≡ false
unfolding before
last-not_before a rs i r found =
    let earlier : list_any (addr_eq a) (flat_map candidates_in (take i rs)) ≡ false =
    list_any-candidates a (take i rs) ∙ list_any-take_position (is_in a) rs i found in
    let here : list_any (addr_eq a) (candidates_between r r.start.bits a.bits) ≡ false =
    list_any-candidates_between a r r.start.bits a.bits ∙ grind (arith, nat_tests) in
    list_any-append (addr_eq a) (flat_map candidates_in (take i rs)) (candidates_between r r.start.bits a.bits)
    ∙ rw (earlier, here) refl

-- the way round from the place of the last one
pub way_round-is : (a : Addr) (rs : List Range) (i : ℕ) (r : Range) → position (is_in a) rs ≡ Some i → r ≡ get_or rs i r
    → way_round r (take i rs) (drop (i + 1) rs) a.bits ≡ after_last_first (Some a) (flat_map candidates_in rs)
unfolding before after
way_round-is a rs i r found is =
    let facts = position-Some (is_in a) rs i r found in
    let h : is_in a r ≡ true = ap (is_in a) is ∙ facts.1 in
    let turned =
    round-split (addr_eq a) (before r (take i rs) a.bits) (address_at r a.bits) (after r (drop (i + 1) rs) a.bits)
    (last-not_before a rs i r found) (is_in-same a r h) in
    rw (candidates-split a rs i r facts.0 is h, turned, up_to-split a r h) (simp append_assoc)

-- where no range has the last one, all are tried in order
pub no_way_round : (a : Addr) (rs : List Range) → position (is_in a) rs ≡ None
    → flat_map candidates_in rs ≡ after_last_first (Some a) (flat_map candidates_in rs)
no_way_round a rs missed =
    sym (round-absent (addr_eq a) (flat_map candidates_in rs)
    (list_any-candidates a rs ∙ list_any-no_position (is_in a) rs missed))

-- the last one is not past the end of the range that has it
pub last-below_end : (a : Addr) (rs : List Range) (i : ℕ) (r : Range) → position (is_in a) rs ≡ Some i
    → r ≡ get_or rs i r → a.bits ≤ r.end.bits
last-below_end a rs i r found is =
    let facts = position-Some (is_in a) rs i r found in
    is_in-below a r (ap (is_in a) is ∙ facts.1)
