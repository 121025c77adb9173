-- Hex digits of either case: what decodes is, in lower case, the encoding of what it decodes to.
use Rattle.std.proofs.Common.{◌≡◌, ℕ, zero, suc, ◌+◌, ◌*◌, ◌/◌, ◌%◌, ◌<◌, ◌==◌, nat_lt, Bool, true, ◌&&◌, List, [], ◌∷◌}
use Rattle.std.proofs.Common.{slice_index, Option, Some, None, Result, Ok, Err, refl, sym, ap, ap₂, ◌∙◌, arith, inl}
use Rattle.std.proofs.{Common.{inr, eqb-true}, lemmas.Bool.{and_parts, cases_lt, Decides.nat_tests}}
use Rattle.std.specs.{Char.to_ascii_lowercase, Prelude.if◌then◌else◌, Str.str_to_ascii_lowercase}
use Rattle.hex.specs.Hex.{IsBytes, decode_pairs, digit_or_error, encode_lower, encode_with, hex_digit_value}
use Rattle.hex.specs.{Hex.{lower_digits, pair_value, value_at, ◌>>=◌}, declared.error.FromHexError.FromHexError}
use Rattle.hex.proofs.{HexLemmas.IsDigits-lower_digits, Pairs.{cons_byte, decode_pairs-ok_pair}}

-- the digit of a number below sixteen, in lower case
abbrev glyph : ℕ → ℕ
glyph d = if nat_lt d 10 then 48 + d else 87 + d

-- the table of digits, place by place
abbrev is_table : ℕ → Bool
is_table zero = true
is_table (suc n) = slice_index lower_digits n == glyph n && is_table n

-- what the test of the table shows of one place
table_at : (n d : ℕ) → is_table n ≡ true → d < n → slice_index lower_digits d ≡ glyph d
table_at zero d test fits = absurd (omega arith)
table_at (suc n) d test fits =
    let (here, below) = and_parts (slice_index lower_digits n == glyph n) (is_table n) test in
    elim (cases_lt d n) [
      | inl less ↦ table_at n d below less
      | inr top ↦
          let same : n ≡ d = omega arith in
          ap (λ k. slice_index lower_digits k) (sym same) ∙ eqb-true (slice_index lower_digits n) (glyph n) here
          ∙ ap glyph same
    ]

-- each place of the table has the digit of its number
pub lower_digit : (d : ℕ) → d < 16 → slice_index lower_digits d ≡ glyph d
lower_digit d fits = table_at 16 d refl fits

-- a lower-case digit stays as it is
pub lower_of_digit : (d : ℕ) → d < 16 → to_ascii_lowercase (slice_index lower_digits d) ≡ slice_index lower_digits d
lower_of_digit d fits = rw (lower_digit d fits) (glyph_stays d fits)
  where
    glyph_stays : (d : ℕ) → d < 16 → to_ascii_lowercase (glyph d) ≡ glyph d
    glyph_stays d fits = grind (arith, nat_tests)

-- a digit has the value of its lower case
value_of_lower : (c : ℕ) → hex_digit_value (to_ascii_lowercase c) ≡ hex_digit_value c
value_of_lower c = grind (arith, nat_tests)

-- what has a value is a digit in lower case
lower_of_value : (c d : ℕ) → hex_digit_value c ≡ Some d → (d < 16) × (to_ascii_lowercase c ≡ glyph d)
lower_of_value c d e = grind (arith, nat_tests)

-- the value of what is a digit in lower case
pub value_if_lower : (c d : ℕ) → d < 16 → to_ascii_lowercase c ≡ slice_index lower_digits d → hex_digit_value c ≡ Some d
value_if_lower c d fits e = sym (value_of_lower c) ∙ ap hex_digit_value e ∙ IsDigits-lower_digits d fits

-- a digit that has a value is that digit in lower case
lower_if_value : (c d : ℕ) → hex_digit_value c ≡ Some d → (d < 16) × (to_ascii_lowercase c ≡ slice_index lower_digits d)
lower_if_value c d e = let (fits, is) = lower_of_value c d e in (fits, is ∙ sym (lower_digit d fits))

-- the value of a step that went well, and what the step after it gave
step_ok : {A B : Type 0} (r : Result A FromHexError) (f : A → Result B FromHexError) (y : B) → (r >>= f) ≡ Ok y
    → (x : A) × (r ≡ Ok x) × (f x ≡ Ok y)
step_ok (Ok x) f y e = (x, refl, e)
step_ok (Err d) f y e = absurd (cc e)

-- a digit that was taken has a value
digit_ok : (c i v : ℕ) (o : Option ℕ) → digit_or_error c i o ≡ Ok v → o ≡ Some v
digit_ok c i v (Some w) e = cc e
digit_ok c i v None e = absurd (cc e)

-- two digits that are a byte are its digits in lower case
pair_lower : (a b i v : ℕ) → pair_value a b i ≡ Ok v → (to_ascii_lowercase a ≡ slice_index lower_digits (v / 16))
    × (to_ascii_lowercase b ≡ slice_index lower_digits (v % 16))
pair_lower a b i v e =
    let (high, high_read, more) = step_ok (value_at a i) _ v e in
    let (low, low_read, last) = step_ok (value_at b (i + 1)) _ v more in
    let (high_fits, high_is) = lower_if_value a high (digit_ok a i high (hex_digit_value a) high_read) in
    let (low_fits, low_is) = lower_if_value b low (digit_ok b (i + 1) low (hex_digit_value b) low_read) in
    let value : high * 16 + low ≡ v = cc last in
    let high_part : high ≡ v / 16 = omega arith in
    let low_part : low ≡ v % 16 = omega arith in
    (high_is ∙ ap (slice_index lower_digits) high_part, low_is ∙ ap (slice_index lower_digits) low_part)

-- what decodes is the encoding, in lower case
pub lower_if_decoded : (i : ℕ) (text bytes : List ℕ) → decode_pairs i text ≡ Ok bytes
    → str_to_ascii_lowercase text ≡ encode_lower bytes
unfolding decode_pairs encode_with
lower_if_decoded i [] bytes e = let none : [] ≡ bytes = cc e in ap encode_lower none
lower_if_decoded i (a ∷ []) bytes e = absurd (cc e)
lower_if_decoded i (a ∷ b ∷ rest) bytes e =
    let (v, pair, more) = step_ok (pair_value a b i) _ bytes e in
    let (vs, tail, last) = step_ok (decode_pairs (i + 2) rest) _ bytes more in
    let whole : v ∷ vs ≡ bytes = cc last in
    let (high, low) = pair_lower a b i v pair in
    let later = lower_if_decoded (i + 2) rest vs tail in
    ap₂ (λ (x : ℕ) (t : List ℕ). x ∷ t) high (ap₂ (λ (x : ℕ) (t : List ℕ). x ∷ t) low later) ∙ ap encode_lower whole

-- and what is the encoding, in lower case, decodes
pub decoded_if_lower : (i : ℕ) (text bytes : List ℕ) → IsBytes bytes → str_to_ascii_lowercase text ≡ encode_lower bytes
    → decode_pairs i text ≡ Ok bytes
unfolding decode_pairs encode_with
decoded_if_lower i [] [] fits e = refl
decoded_if_lower i [] (v ∷ vs) fits e = absurd (cc e)
decoded_if_lower i (a ∷ []) [] fits e = absurd (cc e)
decoded_if_lower i (a ∷ []) (v ∷ vs) fits e = absurd (cc e)
decoded_if_lower i (a ∷ b ∷ rest) [] fits e = absurd (cc e)
decoded_if_lower i (a ∷ b ∷ rest) (v ∷ vs) fits e =
    let byte : v < 256 = fits 0 in
    let high : to_ascii_lowercase a ≡ slice_index lower_digits (v / 16) = cc e in
    let low : to_ascii_lowercase b ≡ slice_index lower_digits (v % 16) = cc e in
    let later : str_to_ascii_lowercase rest ≡ encode_lower vs = cc e in
    let high_read : value_at a i ≡ Ok (v / 16) =
    ap (digit_or_error a i) (value_if_lower a (v / 16) (omega arith) high) in
    let low_read : value_at b (i + 1) ≡ Ok (v % 16) =
    ap (digit_or_error b (i + 1)) (value_if_lower b (v % 16) (omega arith) low) in
    let whole : v / 16 * 16 + v % 16 ≡ v = omega arith in
    let pair : pair_value a b i ≡ Ok v = rw (high_read, low_read) (ap Ok whole) in
    decode_pairs-ok_pair i a b v rest pair
    ∙ ap (cons_byte v) (decoded_if_lower (i + 2) rest vs (λ k. fits (suc k)) later)
