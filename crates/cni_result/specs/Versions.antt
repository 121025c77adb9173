-- Versions by their texts, and what a result tells by its version (CNI specification, section 5, ADD Success; of 0.4.0,
-- "Result").
use Rattle.std.specs.Prelude.{ℕ, List, [], ◌∷◌, codes, Bool, true, false, if◌then◌else◌, Option, Some, None, find}
use Rattle.std.specs.Str.{bytes_eq}
use Rattle.cni_addr.specs.declared.address.Family.{Family, TheVariants.{V4, V6}}
use Rattle.cni_result.specs.declared.version.Version.{Version, TheVariants.{V0_4, V1_0, V1_1}}

-- a version as `cniVersion` names it
abbrev pub version_text : Version → List ℕ
version_text V0_4 = codes "0.4.0"
version_text V1_0 = codes "1.0.0"
version_text V1_1 = codes "1.1.0"

-- the versions that are known, each once, the oldest first
abbrev pub known_versions : List Version
known_versions = V0_4 ∷ V1_0 ∷ V1_1 ∷ []

-- the version that a text names as `cniVersion`, of those that are known
abbrev pub version_named : List ℕ → Option Version
version_named text = find (λ version. bytes_eq text (version_text version)) known_versions

-- the version came before 1.0.0, with which results lost the IP version of each address
abbrev pub is_before_1_0 : Version → Bool
is_before_1_0 V0_4 = true
is_before_1_0 V1_0 = false
is_before_1_0 V1_1 = false

-- the version came before 1.1.0, with which came GC, STATUS and the MTU of a result's interfaces
abbrev pub is_before_1_1 : Version → Bool
is_before_1_1 V0_4 = true
is_before_1_1 V1_0 = true
is_before_1_1 V1_1 = false

-- the MTU, where the version tells it
abbrev pub mtu_since_1_1 : Version → Option ℕ → Option ℕ
mtu_since_1_1 version mtu = if is_before_1_1 version then None else mtu

-- the IP version that addresses of the family have
abbrev pub ip_version : Family → List ℕ
ip_version V4 = codes "4"
ip_version V6 = codes "6"

-- the IP version, where the version tells it
abbrev pub ip_version_before_1_0 : Version → Family → Option (List ℕ)
ip_version_before_1_0 version family = if is_before_1_0 version then Some (ip_version family) else None
