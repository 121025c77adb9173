-- The digest of an attachment (SHA-256, FIPS 180-4), and the names and hardware addresses by it. The derivations are
-- this project's own.
use Rattle.std.specs.Prelude.{ℕ, List, [], ◌∷◌, ◌++◌}
use Rattle.sha2.specs.Sha256.{sha256}
use Rattle.cni_addr.specs.declared.mac.Mac.{Mac}
use Rattle.link_names.specs.Names.{host_name_by, inner_mac_by, host_mac_by}
use Rattle.kernel_types.specs.declared.object.Att.{Att}

-- the network, a line feed, the container, a line feed, the interface name
abbrev pub att_bytes : Att → List ℕ
att_bytes att = att.network ++ 10 ∷ [] ++ att.container ++ 10 ∷ [] ++ att.ifname

unfoldable pub digest_of : Att → List ℕ
digest_of att = sha256 (att_bytes att)

abbrev pub host_name_of : Att → List ℕ
host_name_of att = host_name_by (digest_of att)

abbrev pub inner_mac_of : Att → Mac
inner_mac_of att = inner_mac_by (digest_of att)

abbrev pub host_mac_of : Att → Mac
host_mac_of att = host_mac_by (digest_of att)
