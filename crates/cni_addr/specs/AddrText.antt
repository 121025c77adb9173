-- Addresses as texts: read by the grammar of std's addresses, and written by RFC 5952, section 4.
use Rattle.std.specs.{Int.{w32, w128, to_be_bytes, from_be_bytes}, Net.Addr.{segments_of, octets_of}}
use Rattle.std.specs.Net.{Grammar.{IsDotted, IsColonHex}, Reader.{read_ipv4, read_ipv6, whole_value}, Text.ipv4_text}
use Rattle.std.specs.{Net.Text.hex_groups_text, Option.option_or, Prelude.{ℕ, List, Option, option_map}}
use Rattle.cni_addr.specs.{Value.{AddrValue, IsAddr}, declared.address.Family.{Family, TheVariants.{V4, V6}}}

-- the text spells the number as an address of the family: four decimal numbers without leading zeros, joined by
-- dots (RFC 3986, 3.2.2, IPv4address), or eight groups of one to four hex digits, joined by colons, of which the last
-- two may be dotted, and `::` may stand once for one or more groups of zeros (RFC 4291, 2.2); no zone (RFC 4007, 11)
abbrev pub Spells : List ℕ → Family → ℕ → Type 0
Spells text V4 bits = IsDotted text (to_be_bytes w32 bits)
Spells text V6 bits = IsColonHex text (segments_of (to_be_bytes w128 bits))

-- the text spells the address
pub record IsAddrText (text : List ℕ) (a : AddrValue) : Type 0 where
  pub fits : IsAddr a
  pub spelled : Spells text a.family a.bits

-- the address of four octets, the first the highest
abbrev pub address_of_octets : List ℕ → AddrValue
address_of_octets octets = record { family = V4; bits = from_be_bytes w32 octets }

-- the address of eight groups of 16 bits, the first the highest
abbrev pub address_of_groups : List ℕ → AddrValue
address_of_groups groups = record { family = V6; bits = from_be_bytes w128 (octets_of groups) }

-- the address that the whole text spells, which is of one family at most
unfoldable pub addr_of_text : List ℕ → Option AddrValue
addr_of_text text =
    option_or (option_map address_of_octets (whole_value (read_ipv4 text)))
    (option_map address_of_groups (whole_value (read_ipv6 text)))

-- the number as an address of the family is written. For IPv6 by RFC 5952, 4: hex digits in lower case, no leading
-- zeros, and the longest run of two or more groups of zeros as `::`, the first of equal ones; groups alone, never dots
abbrev pub bits_text : Family → ℕ → List ℕ
bits_text V4 bits = ipv4_text (to_be_bytes w32 bits)
bits_text V6 bits = hex_groups_text (segments_of (to_be_bytes w128 bits))

-- the text that is written of an address
unfoldable pub addr_text : AddrValue → List ℕ
addr_text a = bits_text a.family a.bits
