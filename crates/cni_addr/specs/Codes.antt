-- Enums without fields, by number, and when two are the same.
use Rattle.std.specs.Prelude.{ℕ, Bool, ◌==◌}
use Rattle.cni_addr.specs.declared.{address.Family.Family, macvlan.MacvlanMode.MacvlanMode}
use Rattle.cni_addr.specs.declared.address.Family.TheVariants as families
use Rattle.cni_addr.specs.declared.macvlan.MacvlanMode.TheVariants as modes

abbrev pub family_code : Family → ℕ
family_code families.V4 = 0
family_code families.V6 = 1

abbrev pub family_eq : Family → Family → Bool
family_eq a b = family_code a == family_code b

abbrev pub mode_code : MacvlanMode → ℕ
mode_code modes.Bridge = 0
mode_code modes.Private = 1
mode_code modes.Vepa = 2
mode_code modes.Passthru = 3

abbrev pub mode_eq : MacvlanMode → MacvlanMode → Bool
mode_eq a b = mode_code a == mode_code b
