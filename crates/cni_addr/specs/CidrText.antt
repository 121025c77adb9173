-- Networks as texts: an address, a slash, and the length of the prefix (RFC 4632, 3.1).
use Rattle.std.specs.{List.{before_first, after_first}, Net.Reader.{read_octet, whole_value}, Prelude.{◌≡◌, ℕ, ◌≤◌}}
use Rattle.std.specs.Prelude.{◌==◌, nat_le, Bool, not, ◌&&◌, ◌||◌, slice_index, length, if◌then◌else◌, List, ◌++◌}
use Rattle.std.specs.{Prelude.{Option, Some, None, option_and_then, codes, decimal}, Str.byte}
use Rattle.cni_addr.specs.{AddrText.{IsAddrText, addr_of_text, addr_text}, Value.{AddrValue, CidrValue, longest_prefix}}

-- an address, a slash, and the length of the prefix in decimal, without leading zeros
pub record IsCidrText (text : List ℕ) (c : CidrValue) : Type 0 where
  pub address : List ℕ
  pub address_spelled : IsAddrText address c.addr
  pub fits : c.prefix ≤ longest_prefix c.addr.family
  pub spelled : text ≡ address ++ (codes "/" ++ decimal c.prefix)

-- `/`
abbrev pub slash : ℕ
slash = byte "/"

-- whether the byte is a slash
abbrev pub is_slash : ℕ → Bool
is_slash c = c == slash

-- no plus sign stands in front, and no zero stands in front of more
abbrev pub begins_plainly : List ℕ → Bool
begins_plainly text = not (slice_index text 0 == byte "+") && (not (slice_index text 0 == byte "0") || length text == 1)

-- the number below 256 that the whole text writes in decimal, without leading zeros
unfoldable pub prefix_of_text : List ℕ → Option ℕ
prefix_of_text text = whole_value (read_octet text)

-- the address with this prefix, if its family has prefixes of this length
abbrev pub with_prefix : AddrValue → ℕ → Option CidrValue
with_prefix a prefix =
    if nat_le prefix (longest_prefix a.family) then Some (record { addr = a; prefix = prefix }) else None

-- the network of an address and a prefix, where both were read
abbrev pub cidr_of_parts : Option AddrValue → Option ℕ → Option CidrValue
cidr_of_parts addr prefix = option_and_then (λ a. option_and_then (with_prefix a) prefix) addr

-- the network that the whole text spells: the address before the first slash, and the prefix after it
unfoldable pub cidr_of_text : List ℕ → Option CidrValue
cidr_of_text text =
    cidr_of_parts (addr_of_text (before_first is_slash text)) (prefix_of_text (after_first is_slash text))

-- the text that is written of a network
unfoldable pub cidr_text : CidrValue → List ℕ
cidr_text c = addr_text c.addr ++ (codes "/" ++ decimal c.prefix)
