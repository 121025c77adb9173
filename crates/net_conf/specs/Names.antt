-- The grammars of names, as tests.
use Rattle.std.specs.{Char.{is_ascii_alphanumeric, is_whitespace}, List.list_all, Prelude.{◌==◌, ◌&&◌, ◌||◌, ℕ, List}}
use Rattle.std.specs.{Prelude.{length, codes, Bool, not, nat_le, slice_index}, Str.{byte, bytes_eq, chars}}

-- a letter or digit of ASCII, `_`, `.` or `-`
abbrev pub is_name_byte : ℕ → Bool
is_name_byte b = is_ascii_alphanumeric b || (b == byte "_" || (b == byte "." || b == byte "-"))

-- a letter or digit, and then letters, digits, `_`, `.` and `-` (CNI specification 1.1.0, section 1, `name`)
unfoldable pub is_network_name : List ℕ → Bool
is_network_name text = is_ascii_alphanumeric (slice_index text 0) && list_all is_name_byte text

-- the same grammar (CNI specification 1.1.0, section 2, `CNI_CONTAINERID`)
abbrev pub is_container_id : List ℕ → Bool
is_container_id text = is_network_name text

-- neither `/` nor `:` nor white space
abbrev pub is_interface_char : ℕ → Bool
is_interface_char c = not (c == byte "/") && (not (c == byte ":") && not (is_whitespace c))

-- 1 to 15 bytes
abbrev pub is_short : List ℕ → Bool
is_short text = nat_le 1 (length text) && nat_le (length text) 15

-- the two names of directories
abbrev pub is_dots : List ℕ → Bool
is_dots text = bytes_eq text (codes ".") || bytes_eq text (codes "..")

-- 1 to 15 bytes, other than `.` and `..`, without `/`, `:` and white space (libcni's `ValidateInterfaceName`)
unfoldable pub is_interface_name : List ℕ → Bool
is_interface_name text = is_short text && (not (is_dots text) && list_all is_interface_char (chars text))
