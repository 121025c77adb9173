-- A plugin that completes the address plugin's result keeps its addresses.
use Rattle.std.proofs.Common.{◌≡◌, ℕ, List, [], ◌∷◌, map, refl, ap}
use Rattle.cni_result.specs.declared.result.IpEntry.{IpEntry}
use Rattle.plugin_base.specs.Results.{at_interface}

pub addresses-at : (index : ℕ) (ips : List IpEntry)
    → map (λ ip. ip.address) (map (at_interface index) ips) ≡ map (λ ip. ip.address) ips
addresses-at index [] = refl
addresses-at index (ip ∷ ips) = ap (λ l. ip.address ∷ l) (addresses-at index ips)
