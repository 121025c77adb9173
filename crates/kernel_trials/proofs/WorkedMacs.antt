-- A hardware address worked out, from the example of FIPS 180-4.
use Rattle.std.proofs.Common.{◌≡◌, [], ◌∷◌, ap}
use Rattle.std.specs.Prelude.{codes, take}
use Rattle.sha2.proofs.Facts256.{digest_of_abc_256}
use Rattle.link_names.specs.Names.{link_mac_of, local_mac}

pub mac_of_abc : link_mac_of (codes "abc") ≡ record { bytes = 0x0a ∷ 0xba ∷ 0x78 ∷ 0x16 ∷ 0xbf ∷ 0x8f ∷ [] }
unfolding link_mac_of
mac_of_abc = ap (λ digest. local_mac (take 5 digest)) digest_of_abc_256
