-- What a numeral spells, and what `parse` reads of it.
use Rattle.std.proofs.Common.{◌≡◌, ℕ, ◌^◌, ◌-◌, ◌≤◌, true, ◌&&◌, List, nat_le, Result, Ok, decimal, sym, subst, arith}
use Rattle.std.proofs.lemmas.{Bool.{and_parts, Decides.nat_tests}, Fmt.decimal_is_IsNumeral, Slice.Eq.bytes_eq-Decides}
use Rattle.std.proofs.lemmas.Str.Parse.{IsNumeralModel, numerals_by_value, parse_gives, tells_digits}
use Rattle.std.specs.Str.{bytes_eq, Parse.{AllDigits, IsNumeral, ParsesUnsigned, digits_value}}
use Rattle.plugin_registry.specs.Needs.{is_number}

pub record IsNumeralOf (least : ℕ) (most : ℕ) (text : List ℕ) : Type 0 where
  pub above : least ≤ digits_value 10 text
  pub below : digits_value 10 text ≤ most
  pub spelled : text ≡ decimal (digits_value 10 text)

pub numeral-of : (least most : ℕ) (text : List ℕ) → is_number least most text ≡ true → IsNumeralOf least most text
unfolding is_number
numeral-of least most text h =
    let n = digits_value 10 text in
    let on_all = and_parts (nat_le least n && nat_le n most) (bytes_eq text (decimal n)) h in
    let on_bounds = and_parts (nat_le least n) (nat_le n most) on_all.0 in
    record {
      above = grind (arith, nat_tests, on_bounds.0);
      below = grind (arith, nat_tests, on_bounds.1);
      spelled = (bytes_eq-Decides text (decimal n)).0 on_all.1;
    }

-- wider bounds
pub number-wider : (least most wider : ℕ) (text : List ℕ) → most ≤ wider → is_number least most text ≡ true
    → is_number 0 wider text ≡ true
unfolding is_number
number-wider least most wider text fits h = grind (arith, nat_tests, h)

own : IsNumeralModel (AllDigits 10) (digits_value 10)
own = numerals_by_value (AllDigits 10) tells_digits

pub parse-numeral : {E : Type 0} (text : List ℕ) (r : Result ℕ E) → ParsesUnsigned 32 10 text r
    → is_number 0 (2 ^ 32 - 1) text ≡ true → r ≡ Ok (digits_value 10 text)
parse-numeral text r read h =
    let numeral = numeral-of 0 (2 ^ 32 - 1) text h in
    let below = numeral.below in
    let written = (decimal_is_IsNumeral (digits_value 10 text) (omega arith)).0 in
    let digits = subst (IsNumeral 10) (sym numeral.spelled) written in
    parse_gives own 32 text r read digits.1 digits.0 (omega arith)
