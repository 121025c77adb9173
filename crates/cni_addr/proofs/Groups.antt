-- A number of 128 bits as sixteen octets, and as eight groups of 16 bits, the first the highest.
use Rattle.std.proofs.Common.{◌≡◌, ℕ, zero, suc, ◌+◌, ◌*◌, ◌/◌, ◌%◌, ◌^◌, ◌<◌, List, [], ◌∷◌, length, get_or, refl, sym}
use Rattle.std.proofs.{Common.{ap, ap₂, ◌∙◌, subst, arith, pow-suc}, NetLemmas.Arrays.sixteen_items}
use Rattle.std.proofs.{NetLemmas.Texts.AllSegments, lemmas.Nat.{mul-add-lt, div-mul-add, mod-mul-add}}
use Rattle.std.specs.{Int.{w128, to_be_bytes, from_be_bytes, byte_at, bytes_high_first}, Net.Addr.segments_of}
use Rattle.std.specs.Net.Addr.{octets_of}

-- each number is an octet
abbrev pub AllOctets : List ℕ → Type 0
AllOctets bytes = (k : ℕ) → get_or bytes k 0 < 256

-- the number that octets write
abbrev number_of : List ℕ → ℕ
number_of [] = 0
number_of (b ∷ bytes) = b * 256 ^ length bytes + number_of bytes

-- ---- octets as a number

sixteen : (a b c d e f g h i j k l m n o p : ℕ)
    → from_be_bytes w128 (a ∷ b ∷ c ∷ d ∷ e ∷ f ∷ g ∷ h ∷ i ∷ j ∷ k ∷ l ∷ m ∷ n ∷ o ∷ p ∷ [])
    ≡ number_of (a ∷ b ∷ c ∷ d ∷ e ∷ f ∷ g ∷ h ∷ i ∷ j ∷ k ∷ l ∷ m ∷ n ∷ o ∷ p ∷ [])
sixteen a b c d e f g h i j k l m n o p = omega arith

read_number : (bytes : List ℕ) → length bytes ≡ 16 → from_be_bytes w128 bytes ≡ number_of bytes
read_number bytes all =
    subst (λ t. from_be_bytes w128 t ≡ number_of t) (sym (sixteen_items bytes all))
    (sixteen _ _ _ _ _ _ _ _ _ _ _ _ _ _ _ _)

number_below : (bytes : List ℕ) → AllOctets bytes → number_of bytes < 256 ^ length bytes
number_below [] small = omega arith
number_below (b ∷ bytes) small =
    let rest = number_below bytes (λ k. small (suc k)) in
    let first : b < 256 = small zero in
    let below = mul-add-lt b (256 ^ length bytes) (number_of bytes) 256 first rest in
    omega (arith, pow-suc 256 (length bytes), below)

octet_at : (k n : ℕ) → byte_at k n ≡ n / 256 ^ k % 256
octet_at zero n = omega arith
octet_at (suc k) n = refl

-- the octets of a number, whatever stands above it
written_back : (bytes : List ℕ) (m : ℕ) → AllOctets bytes
    → bytes_high_first (length bytes) (m * 256 ^ length bytes + number_of bytes) ≡ bytes
written_back [] m small = refl
written_back (b ∷ bytes) m small =
    let unit = 256 ^ length bytes in
    let rest = number_below bytes (λ k. small (suc k)) in
    let first : b < 256 = small zero in
    let same : m * 256 ^ suc (length bytes) + (b * unit + number_of bytes) ≡ (m * 256 + b) * unit + number_of bytes =
    omega (arith, ap (λ n. m * n) (pow-suc 256 (length bytes))) in
    let head : byte_at (length bytes) ((m * 256 + b) * unit + number_of bytes) ≡ b =
    octet_at (length bytes) ((m * 256 + b) * unit + number_of bytes)
    ∙ ap (λ q. q % 256) (div-mul-add (m * 256 + b) unit (number_of bytes) rest) ∙ mod-mul-add m 256 b first in
    let tail = written_back bytes (m * 256 + b) (λ k. small (suc k)) in
    ap (λ n. byte_at (length bytes) n ∷ bytes_high_first (length bytes) n) same
    ∙ ap₂ (λ (x : ℕ) (xs : List ℕ). x ∷ xs) head tail

-- ---- a number as octets

unit_some : (k : ℕ) → 0 < 256 ^ k
unit_some zero = omega arith
unit_some (suc k) = omega (arith, pow-suc 256 k, unit_some k)

octet_small : (k n : ℕ) → byte_at k n < 256
octet_small k n = omega (arith, octet_at k n)

length-octets : (k n : ℕ) → length (bytes_high_first k n) ≡ k
length-octets zero n = refl
length-octets (suc k) n = ap suc (length-octets k n)

pub AllOctets-number : (k n : ℕ) → AllOctets (bytes_high_first k n)
AllOctets-number zero n i = omega arith
AllOctets-number (suc k) n zero = octet_small k n
AllOctets-number (suc k) n (suc i) = AllOctets-number k n i

-- one octet more
one_more : (n unit : ℕ) → 0 < unit → n % (unit * 256) ≡ n / unit % 256 * unit + n % unit
one_more n unit some =
    let low : n % unit < unit = omega arith in
    let digit : n / unit % 256 < 256 = omega arith in
    let rows : n / unit ≡ n / unit / 256 * 256 + n / unit % 256 = omega arith in
    let scaled : n / unit * unit ≡ (n / unit / 256 * 256 + n / unit % 256) * unit = ap (λ q. q * unit) rows in
    let whole : n ≡ n / unit * unit + n % unit = omega arith in
    let split : n ≡ n / unit / 256 * (unit * 256) + (n / unit % 256 * unit + n % unit) = omega (arith, scaled, whole) in
    let below = mul-add-lt (n / unit % 256) unit (n % unit) 256 digit low in
    ap (λ m. m % (unit * 256)) split
    ∙ mod-mul-add (n / unit / 256) (unit * 256) (n / unit % 256 * unit + n % unit) below

number_of_octets : (k n : ℕ) → number_of (bytes_high_first k n) ≡ n % 256 ^ k
number_of_octets zero n = omega arith
number_of_octets (suc k) n =
    let rest = number_of_octets k n in
    let place = ap (λ j. byte_at k n * 256 ^ j) (length-octets k n) in
    let digit = ap (λ d. d * 256 ^ k) (octet_at k n) in
    let more = one_more n (256 ^ k) (unit_some k) in
    omega (arith, rest, place, digit, more, ap (λ m. n % m) (pow-suc 256 k))

-- ---- octets and groups

groups_again : (groups : List ℕ) → segments_of (octets_of groups) ≡ groups
groups_again [] = refl
groups_again (s ∷ groups) =
    let later = groups_again groups in
    let here : s / 256 * 256 + s % 256 ≡ s = omega arith in
    λ i. here i ∷ later i

octets_again : (bytes : List ℕ) → length bytes % 2 ≡ 0 → AllOctets bytes → octets_of (segments_of bytes) ≡ bytes
octets_again [] even small = refl
octets_again (a ∷ []) even small = absurd (omega arith)
octets_again (a ∷ b ∷ bytes) even small =
    let later = octets_again bytes (omega arith) (λ k. small (suc (suc k))) in
    let fits : b < 256 = small (suc zero) in
    let high : (a * 256 + b) / 256 ≡ a = omega arith in
    let low : (a * 256 + b) % 256 ≡ b = omega arith in
    λ i. high i ∷ low i ∷ later i

length-octets_of : (groups : List ℕ) → length (octets_of groups) ≡ length groups + length groups
length-octets_of [] = omega arith
length-octets_of (s ∷ groups) = omega (arith, length-octets_of groups)

AllOctets-octets_of : (groups : List ℕ) → AllSegments groups → AllOctets (octets_of groups)
AllOctets-octets_of [] fits i = omega arith
AllOctets-octets_of (s ∷ groups) fits zero = let here : s < 65536 = fits zero in omega arith
AllOctets-octets_of (s ∷ groups) fits (suc zero) = omega arith
AllOctets-octets_of (s ∷ groups) fits (suc (suc i)) = AllOctets-octets_of groups (λ k. fits (suc k)) i

pub AllSegments-segments_of : (bytes : List ℕ) → AllOctets bytes → AllSegments (segments_of bytes)
AllSegments-segments_of [] small k = omega arith
AllSegments-segments_of (a ∷ []) small k = omega arith
AllSegments-segments_of (a ∷ b ∷ bytes) small zero =
    let first : a < 256 = small zero in
    let second : b < 256 = small (suc zero) in
    omega arith
AllSegments-segments_of (a ∷ b ∷ bytes) small (suc k) = AllSegments-segments_of bytes (λ j. small (suc (suc j))) k

-- ---- both ways

-- eight groups make sixteen octets
sixteen_octets : (groups : List ℕ) → length groups ≡ 8 → length (octets_of groups) ≡ 16
sixteen_octets groups eight = omega (arith, length-octets_of groups)

-- groups are those of their number
pub groups_of_number : (groups : List ℕ) → length groups ≡ 8 → AllSegments groups
    → segments_of (to_be_bytes w128 (from_be_bytes w128 (octets_of groups))) ≡ groups
groups_of_number groups eight fits =
    let bytes = octets_of groups in
    let all = sixteen_octets groups eight in
    let small = AllOctets-octets_of groups fits in
    let value : from_be_bytes w128 bytes ≡ 0 * 256 ^ length bytes + number_of bytes =
    omega (arith, read_number bytes all) in
    let back : to_be_bytes w128 (from_be_bytes w128 bytes) ≡ bytes =
    ap₂ (λ (k n : ℕ). bytes_high_first k n) (sym all) value ∙ written_back bytes 0 small in
    ap segments_of back ∙ groups_again groups

-- and their number fits
pub number_of_groups_fits : (groups : List ℕ) → length groups ≡ 8 → AllSegments groups
    → from_be_bytes w128 (octets_of groups) < 2 ^ 128
number_of_groups_fits groups eight fits =
    let bytes = octets_of groups in
    let all = sixteen_octets groups eight in
    let below : number_of bytes < 256 ^ 16 =
    subst (λ k. number_of bytes < 256 ^ k) all (number_below bytes (AllOctets-octets_of groups fits)) in
    omega (arith, below, read_number bytes all)

-- a number is that of its groups
pub number_of_groups : (n : ℕ) → n < 2 ^ 128 → from_be_bytes w128 (octets_of (segments_of (to_be_bytes w128 n))) ≡ n
number_of_groups n fits =
    let bytes = to_be_bytes w128 n in
    let all : length bytes ≡ 16 = length-octets 16 n in
    let again : octets_of (segments_of bytes) ≡ bytes =
    octets_again bytes (omega (arith, all)) (AllOctets-number 16 n) in
    let kept : n % 256 ^ 16 ≡ n = omega arith in
    ap (λ b. from_be_bytes w128 b) again ∙ read_number bytes all ∙ number_of_octets 16 n ∙ kept
