-- The modes of a macvlan link by their names (the `mode` of the reference plugin `macvlan`).
use Rattle.std.specs.{Prelude.{ℕ, List, codes, Option, find}, Str.bytes_eq}
use Rattle.cni_addr.specs.declared.macvlan.MacvlanMode.{MacvlanMode, TheVariants.{Bridge, Private, Vepa, Passthru}}
use Rattle.cni_addr.specs.declared.macvlan.TheConstants.MacvlanMode.{ALL}

-- a mode as the `macvlan` plugin is configured with it
abbrev pub mode_text : MacvlanMode → List ℕ
mode_text Bridge = codes "bridge"
mode_text Private = codes "private"
mode_text Vepa = codes "vepa"
mode_text Passthru = codes "passthru"

-- the mode that the text names
abbrev pub mode_named : List ℕ → Option MacvlanMode
mode_named text = find (λ mode. bytes_eq text (mode_text mode)) ALL
