-- The number of pods that a text spells, and what `parse` makes of the text.
use Rattle.std.proofs.Common.{◌≡◌, ◌≢◌, ◌∙◌, ℕ, ◌<◌, ◌≤◌, ◌^◌, ◌&&◌, Bool, true, false, codes, if◌then◌else◌, List}
use Rattle.std.proofs.Common.{drop, length, nat_le, get_or, Option, Some, None, is_none, option_map, decimal, refl, sym}
use Rattle.std.proofs.{Common.{ap, subst, inl, inr, arith}, NetLemmas.Options.cond_some, lemmas.Bool.and_parts}
use Rattle.std.proofs.lemmas.{Bool.{cases_order, Decides.nat_tests}, Fmt.{decimal-digits_value, decimal_digit}}
use Rattle.std.proofs.lemmas.{Fmt.{decimal_is_IsNumeral, first_decimal}, Option.{none-some, same_Some}}
use Rattle.std.proofs.lemmas.{Slice.Eq.bytes_eq-Decides, Str.Parse.{digit_at, numerals_by_value, tells_digits}}
use Rattle.std.proofs.lemmas.Str.Parse.{without_leading_plus_none}
use Rattle.std.specs.Str.Parse.{IsNumeral, digits_value, without_leading_plus}
use Rattle.clap.specs.Walk.{Text}
use Rattle.cni_addr.proofs.Options.{none_of}
use Rattle.tool_words.specs.{Command.{most_lists, most_pods}, Source.{IsSourceWithin, IsStopWithin, asks_generator}}
use Rattle.tool_words.specs.Source.{asks_session, begins_plainly, count_of, files_of, generated_of, is_alone, is_count}
use Rattle.tool_words.specs.{Source.{session_of, source_of}, declared.source.{Named.Named, Source.Source}}
use Rattle.tool_words.specs.declared.source.Source.TheVariants.{Files, Generated, Session}

counts : (n : ℕ) → 1 ≤ n → n ≤ most_pods → is_count n ≡ true
counts n least most = grind (arith, nat_tests)

counted : (n : ℕ) → is_count n ≡ true → (1 ≤ n) × (n ≤ most_pods)
counted n is = grind (arith, nat_tests, is)

-- the numeral of a number that may be asked for spells it
count_decimal : (n : ℕ) → 1 ≤ n → n ≤ most_pods → count_of (decimal n) ≡ Some n
unfolding count_of
count_decimal n least most =
    let value = (decimal_is_IsNumeral n (omega arith)).1 in
    let same = (bytes_eq-Decides (decimal n) (decimal n)).1 refl in
    rw (value, counts n least most, same) refl

-- no other text spells a number
decimal_count : (text : List ℕ) (n : ℕ) → count_of text ≡ Some n → (text ≡ decimal n) × (1 ≤ n) × (n ≤ most_pods)
unfolding count_of
decimal_count text n is =
    let (test, same) = cond_some _ _ _ is in
    let (fits, spelled) = and_parts _ _ test in
    let value = digits_value 10 text in
    let (least, most) = counted value fits in (
      subst (λ m. text ≡ decimal m) same ((bytes_eq-Decides text (decimal value)).0 spelled),
      omega (arith, same, least),
      omega (arith, same, most),
    )

none_decimal : (text : List ℕ) → ((n : ℕ) → 1 ≤ n → n ≤ most_pods → text ≡ decimal n → ⊥) → None ≡ count_of text
none_decimal text apart =
    sym (none_of (count_of text) (λ n e. let (is, least, most) = decimal_count text n e in apart n least most is))

plain_decimal : (n : ℕ) → 1 ≤ n → n ≤ most_pods → begins_plainly (decimal n) ≡ true
plain_decimal n least most =
    let (numeral, value) = decimal_is_IsNumeral n (omega arith) in
    let above = first_decimal n (omega arith) (omega arith) in
    let digit = digit_at (decimal n) 0 numeral.1 numeral.0 in
    grind (arith, nat_tests, above, digit.1)

-- a text that doesn't begin plainly spells none
pub unspelled : (text : List ℕ) → begins_plainly text ≡ false → None ≡ count_of text
unspelled text not_plain =
    none_decimal text λ n least most is. cc (sym not_plain ∙ ap begins_plainly is ∙ plain_decimal n least most)

-- ---- what `parse` gives of a text that begins plainly

unsigned : (text : List ℕ) → begins_plainly text ≡ true → get_or text 0 0 ≢ 43
unsigned text plain = grind (arith, nat_tests, plain)

unpadded : (text : List ℕ) → begins_plainly text ≡ true → get_or text 0 0 ≢ 48
unpadded text plain = grind (arith, nat_tests, plain)

-- what `parse` takes, perhaps behind a plus, and what it gives of it
abbrev IsTaken : List ℕ → Type 0
IsTaken text = IsNumeral 10 (without_leading_plus text) × (digits_value 10 (without_leading_plus text) < 2 ^ 32)

abbrev IsParsed : List ℕ → ℕ → Type 0
IsParsed text n = IsTaken text × (n ≡ digits_value 10 (without_leading_plus text))

-- the number that was read, and its numeral
read : (text : List ℕ) (n : ℕ) → begins_plainly text ≡ true → IsParsed text n
    → (n < 2 ^ 32) × (digits_value 10 text ≡ n) × (decimal n ≡ text)
read text n plain h =
    let bare = without_leading_plus_none text (unsigned text plain) in
    let (number, fits) = subst (λ t. IsNumeral 10 t × (digits_value 10 t < 2 ^ 32)) bare h.0 in
    let value = subst (λ t. digits_value 10 t ≡ n) bare (sym h.1) in
    let spelled =
    decimal-digits_value (numerals_by_value _ tells_digits) text number.1 number.0
    (λ zero. absurd (unpadded text plain zero)) (omega arith) in
    (omega (arith, fits, value), value, ap decimal (sym value) ∙ spelled)

pub spelled : (text : List ℕ) (n : ℕ) → begins_plainly text ≡ true → IsParsed text n → n ≤ most_pods
    → Some n ≡ count_of text
spelled text n plain h most = elim (cases_order 0 n) [
  | inl zero ↦
      let numeral = (read text n plain h).2 in
      let first : get_or text 0 0 ≡ 48 =
      subst (λ t. get_or t 0 0 ≡ 48) (ap decimal zero ∙ numeral) (rw (decimal_digit 0 (omega arith)) refl) in
      absurd (unpadded text plain first)
  | inr order ↦ elim order [
    | inl some ↦
        (let numeral = (read text n plain h).2 in
        sym (subst (λ t. count_of t ≡ Some n) numeral (count_decimal n (omega (arith, some)) most)))
    | inr none ↦ absurd (omega (arith, none))
  ]
]

pub too_many : (text : List ℕ) (n : ℕ) → begins_plainly text ≡ true → IsParsed text n → most_pods < n
    → None ≡ count_of text
too_many text n plain h beyond = none_decimal text λ m least most is.
    let value = (read text n plain h).1 in
    let other = (decimal_is_IsNumeral m (omega arith)).1 in
    let same = ap (digits_value 10) is in
    omega (arith, value, other, same, most, beyond)

pub unread : (text : List ℕ) → begins_plainly text ≡ true → ¬ IsTaken text → None ≡ count_of text
unread text plain h = none_decimal text λ n least most is.
    let (numeral, value) = decimal_is_IsNumeral n (omega arith) in
    h (rw (without_leading_plus_none text (unsigned text plain), is) (numeral, omega (arith, value)))

-- ---- what the words name is within the limits

few : (lists : List Text) → nat_le (length lists) most_lists ≡ true → length lists ≤ most_lists
few lists is = grind (arith, nat_tests, is)

of_count : (number : Text) (stop_at : Option ℕ) (o : Option ℕ) (s : Source) → IsStopWithin stop_at → count_of number ≡ o
    → option_map (λ (count : ℕ). Generated count stop_at) o ≡ Some s → IsSourceWithin s
of_count number stop_at None s stop spelled h = absurd (none-some s h)
of_count number stop_at (Some n) s stop spelled h =
    let (is, least, most) = decimal_count number n spelled in
    subst IsSourceWithin (same_Some (Generated n stop_at) s h) (least, most, stop)

of_generated : (number : Text) (named : Named) (b : Bool) (s : Source) → IsStopWithin named.stop_at
    → (if b then option_map (λ (count : ℕ). Generated count named.stop_at) (count_of number) else None) ≡ Some s
    → IsSourceWithin s
of_generated number named true s stop h = of_count number named.stop_at (count_of number) s stop refl h
of_generated number named false s stop h = absurd (none-some s h)

of_files : (named : Named) (b : Bool) (s : Source) → IsStopWithin named.stop_at
    → nat_le (length named.lists) most_lists ≡ b
    → (if b then Some (Files named) else None) ≡ Some s → IsSourceWithin s
of_files named true s stop is h = subst IsSourceWithin (same_Some (Files named) s h) (few named.lists is, stop)
of_files named false s stop is h = absurd (none-some s h)

of_session : (file : Text) (named : Named) (b : Bool) (s : Source) → (if b then Some (Session file) else None) ≡ Some s
    → IsSourceWithin s
of_session file named true s h = subst IsSourceWithin (same_Some (Session file) s h) tt
of_session file named false s h = absurd (none-some s h)

of_others : (named : Named) (b : Bool) (s : Source) → IsStopWithin named.stop_at
    → (if b then session_of (drop (length (codes "reg:")) named.pods) named else files_of named) ≡ Some s
    → IsSourceWithin s
of_others named true s stop h =
    of_session (drop (length (codes "reg:")) named.pods) named (is_alone named && is_none named.stop_at) s h
of_others named false s stop h = of_files named (nat_le (length named.lists) most_lists) s stop refl h

of_source : (named : Named) (b : Bool) (s : Source) → IsStopWithin named.stop_at
    → (if b then generated_of (drop (length (codes "gen:")) named.pods) named
    else if asks_session named.pods then session_of (drop (length (codes "reg:")) named.pods) named
    else files_of named) ≡ Some s → IsSourceWithin s
of_source named true s stop h = of_generated (drop (length (codes "gen:")) named.pods) named (is_alone named) s stop h
of_source named false s stop h = of_others named (asks_session named.pods) s stop h

pub source-within : (named : Named) (s : Source) → IsStopWithin named.stop_at → source_of named ≡ Some s
    → IsSourceWithin s
source-within named s stop h = of_source named (asks_generator named.pods) s stop h
