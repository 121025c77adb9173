-- Which texts spell a number within bounds, and what `parse` makes of them.
use Rattle.std.proofs.Common.{◌≡◌, ◌≢◌, ◌∙◌, ℕ, ◌<◌, ◌≤◌, ◌^◌, ◌&&◌, Bool, true, false, List, length, nat_le, get_or}
use Rattle.std.proofs.{Common.{decimal, arith, inl, inr, refl, sym, ap, subst}, lemmas.Bool.{and_parts, cases_order}}
use Rattle.std.proofs.lemmas.{Bool.Decides.nat_tests, Fmt.{decimal-digits_value, decimal_digit, decimal_is_IsNumeral}}
use Rattle.std.proofs.lemmas.{Fmt.first_decimal, Slice.Eq.bytes_eq-Decides, Str.Parse.{digit_at, numerals_by_value}}
use Rattle.std.proofs.lemmas.Str.Parse.{tells_digits, without_leading_plus_none}
use Rattle.std.specs.Str.{bytes_eq, Parse.{IsNumeral, digits_value, without_leading_plus}}
use Rattle.plugin_registry.specs.Needs.{begins_plainly, is_number}

-- the numeral of a number spells one within the bounds just where the number is within them
decimal_within : (least most n : ℕ) → n < 2 ^ 32 → is_number least most (decimal n) ≡ (nat_le least n && nat_le n most)
unfolding is_number
decimal_within least most n small =
    let value = (decimal_is_IsNumeral n (omega arith)).1 in
    let same = (bytes_eq-Decides (decimal n) (decimal n)).1 refl in
    rw (value, same) (grind (arith, nat_tests))

-- a text that spells one is the numeral of its number
within_decimal : (least most : ℕ) (text : List ℕ) → is_number least most text ≡ true
    → (text ≡ decimal (digits_value 10 text)) × (digits_value 10 text ≤ most)
unfolding is_number
within_decimal least most text is =
    let value = digits_value 10 text in
    let (fits, spelled) = and_parts (nat_le least value && nat_le value most) (bytes_eq text (decimal value)) is in
    let below : value ≤ most = grind (arith, nat_tests, fits) in
    ((bytes_eq-Decides text (decimal value)).0 spelled, below)

-- a text that is no number's numeral spells none
none_within : (least most : ℕ) (text : List ℕ) → most < 2 ^ 32 → ((n : ℕ) → n < 2 ^ 32 → text ≡ decimal n → ⊥)
    → (b : Bool) → is_number least most text ≡ b → false ≡ is_number least most text
none_within least most text small apart false is = sym is
none_within least most text small apart true is =
    let (same, fits) = within_decimal least most text is in
    absurd (apart (digits_value 10 text) (omega arith) same)

plain_some : (n : ℕ) → 0 < n → n < 2 ^ 32 → begins_plainly (decimal n) ≡ true
plain_some n some small =
    let (numeral, value) = decimal_is_IsNumeral n (omega arith) in
    let above = first_decimal n some (omega arith) in
    let digit = digit_at (decimal n) 0 numeral.1 numeral.0 in
    grind (arith, nat_tests, above, digit.1)

plain_decimal : (n : ℕ) → n < 2 ^ 32 → begins_plainly (decimal n) ≡ true
plain_decimal n small = elim (cases_order 0 n) [
  | inl zero ↦ subst (λ m. begins_plainly (decimal m) ≡ true) zero (rw (decimal_digit 0 (omega arith)) refl)
  | inr order ↦ elim order [
    | inl some ↦ plain_some n some small
    | inr none ↦ absurd (omega (arith, none))
  ]
]

pub unspelled : (least most : ℕ) (text : List ℕ) → most < 2 ^ 32 → begins_plainly text ≡ false
    → false ≡ is_number least most text
unspelled least most text small not_plain =
    let apart = λ (n : ℕ) (fits : n < 2 ^ 32) (is : text ≡ decimal n).
    let plain : begins_plainly text ≡ true = ap begins_plainly is ∙ plain_decimal n fits in absurd cc in
    none_within least most text small apart _ refl

-- ---- what `parse` gives of a text that begins plainly

unsigned : (text : List ℕ) → begins_plainly text ≡ true → get_or text 0 0 ≢ 43
unsigned text plain = grind (arith, nat_tests, plain)

unpadded : (text : List ℕ) → begins_plainly text ≡ true → get_or text 0 0 ≡ 48 → length text ≡ 1
unpadded text plain zero = grind (arith, nat_tests, plain, zero)

-- what `parse` takes, perhaps behind a plus, and what it gives of it
abbrev IsTaken : List ℕ → Type 0
IsTaken text = IsNumeral 10 (without_leading_plus text) × (digits_value 10 (without_leading_plus text) < 2 ^ 32)

abbrev IsParsed : List ℕ → ℕ → Type 0
IsParsed text n = IsTaken text × (n ≡ digits_value 10 (without_leading_plus text))

-- the number that was read is small, and the text is its numeral
read : (text : List ℕ) (n : ℕ) → begins_plainly text ≡ true → IsParsed text n → (n < 2 ^ 32) × (decimal n ≡ text)
read text n plain h =
    let bare = without_leading_plus_none text (unsigned text plain) in
    let (number, fits) = subst (λ t. IsNumeral 10 t × (digits_value 10 t < 2 ^ 32)) bare h.0 in
    let value = subst (λ t. digits_value 10 t ≡ n) bare (sym h.1) in
    let own = numerals_by_value _ tells_digits in
    let spelled = decimal-digits_value own text number.1 number.0 (unpadded text plain) (omega arith) in
    (omega (arith, fits, value), ap decimal (sym value) ∙ spelled)

pub spelled : (least most : ℕ) (text : List ℕ) (n : ℕ) → begins_plainly text ≡ true → IsParsed text n
    → (nat_le least n && nat_le n most) ≡ is_number least most text
spelled least most text n plain h =
    let (small, same) = read text n plain h in
    sym (ap (is_number least most) (sym same) ∙ decimal_within least most n small)

-- no number's numeral is left
untaken : (text : List ℕ) → begins_plainly text ≡ true → ¬ IsTaken text → (n : ℕ) → n < 2 ^ 32 → text ≡ decimal n → ⊥
untaken text plain h n fits is =
    let (numeral, value) = decimal_is_IsNumeral n (omega arith) in
    h (rw (without_leading_plus_none text (unsigned text plain), is) (numeral, omega (arith, value)))

pub unread : (least most : ℕ) (text : List ℕ) → most < 2 ^ 32 → begins_plainly text ≡ true → ¬ IsTaken text
    → false ≡ is_number least most text
unread least most text small plain h = none_within least most text small (untaken text plain h) _ refl
