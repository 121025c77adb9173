-- Hardware addresses as texts: six pairs of hex digits joined by colons, as `ip link` writes them (IEEE 802, EUI-48).
use Rattle.std.specs.{List.{join_with_byte, list_all}, Prelude.{◌≡◌, ℕ, ◌==◌, ◌&&◌, Bool, if◌then◌else◌, List, [], ◌∷◌}}
use Rattle.std.specs.{Prelude.{map, length, slice_index, Option, None, option_map}, Result.result_ok, Str.byte}
use Rattle.std.specs.Str.{str_to_ascii_lowercase}
use Rattle.hex.specs.Hex.{IsBytes, encode_lower, decode_sized}
use Rattle.cni_addr.specs.declared.mac.Mac.{Mac}

-- `:`
abbrev pub colon : ℕ
colon = byte ":"

-- a byte as two hex digits in lower case
abbrev pub byte_text : ℕ → List ℕ
byte_text b = encode_lower (b ∷ [])

-- the text that is written of a hardware address: its bytes with colons between them
unfoldable pub mac_text : Mac → List ℕ
mac_text m = join_with_byte colon (map byte_text m.bytes)

-- whether the text has the length of six pairs with a colon between each two, and has the colons
abbrev pub has_colons : List ℕ → Bool
has_colons text = length text == 17 && list_all (λ place. slice_index text place == colon) (2 ∷ 5 ∷ 8 ∷ 11 ∷ 14 ∷ [])

-- what stands around the colons
abbrev pub digits_in : List ℕ → List ℕ
digits_in text = map (λ place. slice_index text place) (0 ∷ 1 ∷ 3 ∷ 4 ∷ 6 ∷ 7 ∷ 9 ∷ 10 ∷ 12 ∷ 13 ∷ 15 ∷ 16 ∷ [])

-- the hardware address of these bytes
abbrev pub mac_of_bytes : List ℕ → Mac
mac_of_bytes bytes = record { bytes = bytes }

-- the hardware address of twelve hex digits of either case
abbrev pub mac_of_digits : List ℕ → Option Mac
mac_of_digits digits = option_map mac_of_bytes (result_ok (decode_sized digits 6))

-- the hardware address that the whole text spells
unfoldable pub mac_of_text : List ℕ → Option Mac
mac_of_text text = if has_colons text then mac_of_digits (digits_in text) else None

-- six bytes
pub record IsMac (m : Mac) : Type 0 where
  pub six : length m.bytes ≡ 6
  pub bytes : IsBytes m.bytes

-- the text spells the hardware address: in lower case it is the address's text
pub record IsMacText (text : List ℕ) (m : Mac) : Type 0 where
  pub fits : IsMac m
  pub spelled : str_to_ascii_lowercase text ≡ mac_text m
