-- The choice depends on which addresses are taken alone.
use Rattle.std.proofs.Common.{◌≡◌, Bool, not, Option, List, [], ◌∷◌, find, refl, ap}
use Rattle.cni_addr.specs.declared.{address.Addr.Addr, range.RangeSet.RangeSet}
use Rattle.cni_addr.proofs.Lists.{list_any-same_test}
use Rattle.ip_pool.specs.{NextAddress.is_taken, Pool.{candidates_of, after_last_first, is_free, pick_of, has_free_of}}

find-alike : {X : Type 0} (p q : X → Bool) → ((x : X) → p x ≡ q x) → (xs : List X) → find p xs ≡ find q xs
find-alike p q alike [] = refl
find-alike p q alike (x ∷ xs) = rw (alike x, find-alike p q alike xs) refl

pub pick-taken_alone : (set : RangeSet) (last : Option Addr) (taken other : List Addr)
    → ((a : Addr) → is_taken taken a ≡ is_taken other a) → pick_of set last taken ≡ pick_of set last other
pick-taken_alone set last taken other same =
    find-alike (is_free taken) (is_free other) (λ a. ap not (same a)) (after_last_first last (candidates_of set))

pub has_free-taken_alone : (set : RangeSet) (taken other : List Addr)
    → ((a : Addr) → is_taken taken a ≡ is_taken other a) → has_free_of set taken ≡ has_free_of set other
has_free-taken_alone set taken other same =
    list_any-same_test (is_free taken) (is_free other) (λ a. ap not (same a)) (candidates_of set)
