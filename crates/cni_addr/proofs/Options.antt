-- When an option holds a value, and when none.
use Rattle.std.proofs.Common.{◌≡◌, Option, Some, None, Bor, refl}
use Rattle.std.specs.Option.{is_some, option_copied}

-- an option without a value
pub none_of : {A : Type 0} (o : Option A) → ((x : A) → o ≡ Some x → ⊥) → o ≡ None
none_of None apart = refl
none_of (Some x) apart = absurd (apart x refl)

pub is_some-option_copied : {X : Type 0} (o : Option (Bor X)) → is_some o ≡ is_some (option_copied o)
is_some-option_copied None = refl
is_some-option_copied (Some x) = refl
