-- Names and hardware addresses of links, by SHA-256 (FIPS 180-4). The derivations are this project's own.
use Rattle.std.specs.Prelude.{ℕ, List, ◌∷◌, ◌++◌, codes, take, drop}
use Rattle.sha2.specs.Sha256.{sha256}
use Rattle.hex.specs.Hex.{encode_lower}
use Rattle.cni_addr.specs.declared.mac.Mac.{Mac}

-- a locally administered address (IEEE 802) with these five bytes behind the first
abbrev pub local_mac : List ℕ → Mac
local_mac bytes = record { bytes = 0x0a ∷ bytes }

-- the host's end of a veth pair: `veth` and the first eight hex digits of the digest
abbrev pub host_name_by : List ℕ → List ℕ
host_name_by digest = codes "veth" ++ encode_lower (take 4 digest)

-- the container's end, and a macvlan link: bytes 4 to 8 of the digest
abbrev pub inner_mac_by : List ℕ → Mac
inner_mac_by digest = local_mac (take 5 (drop 4 digest))

-- the host's end: bytes 9 to 13 of the digest
abbrev pub host_mac_by : List ℕ → Mac
host_mac_by digest = local_mac (take 5 (drop 9 digest))

-- a link that no attachment owns: the first five bytes of its name's digest
unfoldable pub link_mac_of : List ℕ → Mac
link_mac_of name = local_mac (take 5 (sha256 name))
