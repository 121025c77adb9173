-- How a list ends a verb before its first call, by cases: it is older than the verb, it disables it, or neither.
use Rattle.std.proofs.Common.{◌≡◌, Bool, true, false, Option, Some, None, refl}
use Rattle.std.specs.{Bool.then_some, Option.option_or}
use Rattle.cni_result.specs.{Versions.is_before_1_1, declared.version.Version.Version}
use Rattle.cni_verbs.specs.Script.{old_ending, early_ending}
use Rattle.cni_errors.specs.declared.answer.Cause.TheVariants as causes
use Rattle.cni_errors.specs.declared.answer.Ending.{Ending, TheVariants.{Skipped, Refused}}
use Rattle.cni_errors.specs.declared.answer.Skip.TheVariants as skips

-- the list is older than the verb
abbrev pub too_old : Version → Ending
too_old version = Refused (causes.TooOld version)

by_old : (version : Version) (before : Bool) (P : Option Ending → Type 0) → is_before_1_1 version ≡ before
    → (is_before_1_1 version ≡ true → P (Some (too_old version))) → (is_before_1_1 version ≡ false → P None)
    → P (then_some before (too_old version))
by_old version true P is old new = old is
by_old version false P is old new = new is

pub old_ending-cases : (version : Version) (P : Option Ending → Type 0)
    → (is_before_1_1 version ≡ true → P (Some (too_old version))) → (is_before_1_1 version ≡ false → P None)
    → P (old_ending version)
old_ending-cases version P old new = by_old version (is_before_1_1 version) P refl old new

by_early : (version : Version) (disabled before off : Bool) (P : Option Ending → Type 0)
    → is_before_1_1 version ≡ before → disabled ≡ off
    → (is_before_1_1 version ≡ true → P (Some (too_old version)))
    → (is_before_1_1 version ≡ false → disabled ≡ true → P (Some (Skipped skips.Gc)))
    → (is_before_1_1 version ≡ false → disabled ≡ false → P None)
    → P (option_or (then_some before (too_old version)) (then_some off (Skipped skips.Gc)))
by_early version disabled true off P is so old skipped open_to = old is
by_early version disabled false true P is so old skipped open_to = skipped is so
by_early version disabled false false P is so old skipped open_to = open_to is so

pub early_ending-cases : (version : Version) (disabled : Bool) (P : Option Ending → Type 0)
    → (is_before_1_1 version ≡ true → P (Some (too_old version)))
    → (is_before_1_1 version ≡ false → disabled ≡ true → P (Some (Skipped skips.Gc)))
    → (is_before_1_1 version ≡ false → disabled ≡ false → P None)
    → P (early_ending version disabled)
early_ending-cases version disabled P old skipped open_to =
    by_early version disabled (is_before_1_1 version) disabled P refl refl old skipped open_to
