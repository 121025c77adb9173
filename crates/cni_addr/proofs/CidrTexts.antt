-- What is read of a network's text is its grammar, both ways, and what is written is read again.
use Rattle.std.proofs.Common.{◌≡◌, ◌≢◌, ℕ, ◌^◌, ◌<◌, ◌≤◌, Bool, true, false, cond, not, List, [], ◌∷◌, ◌++◌, inl, inr}
use Rattle.std.proofs.Common.{◌+◌, ◌-◌, ap₂, take, drop, length-drop, length-append, take_at, drop_at, append_assoc}
use Rattle.std.proofs.Common.{eqb-true, suc, lt-ltb, le-leb, length, get_or, Option, Some, None, Result, Ok, Err}
use Rattle.std.proofs.Common.{decimal, refl, sym, ap, ◌∙◌, subst, arith, append-nil, lit≤}
use Rattle.std.proofs.NetLemmas.{Ipv4.{read_octet_complete, read_octet_sound}, Options.cond_some}
use Rattle.std.proofs.lemmas.{Bool.{cases_lt, ltb-true, leb-true, lt-leb, Decides.nat_tests}, Fmt.decimal_is_IsNumeral}
use Rattle.std.proofs.lemmas.{Fmt.{decimal_digit, first_decimal, decimal-digits_value, IsAscii-decimal}, List.drop_all}
use Rattle.std.proofs.lemmas.List.{take_all, Elements.All-get_or, Sums.{split_at_first, passes_at_first}}
use Rattle.std.proofs.lemmas.{Option.none-some, Str.{IsUtf8-from_ascii, Parse.{numerals_by_value, tells_digits}}}
use Rattle.std.proofs.lemmas.Str.Parse.{without_leading_plus_none}
use Rattle.std.specs.{List.{position, position_or_len, before_first, after_first}, Net.Reader.{Read, read_number}}
use Rattle.std.specs.{Net.Reader.{read_octet, whole_value}, Prelude.if◌then◌else◌, Result.result_ok, Str.IsUtf8}
use Rattle.std.specs.Str.Parse.{IsNumeral, digits_value, ParsesUnsigned}
use Rattle.cni_addr.specs.{AddrText.{IsAddrText, addr_of_text, addr_text}, CidrText.{slash, is_slash, begins_plainly}}
use Rattle.cni_addr.specs.CidrText.{prefix_of_text, with_prefix, cidr_of_parts, cidr_of_text, cidr_text, IsCidrText}
use Rattle.cni_addr.specs.{Network.IsCidr, Value.{AddrValue, CidrValue, longest_prefix}}
use Rattle.cni_addr.proofs.AddrTexts.{address_plain, spelled_is_read, read_is_spelled, written_is_spelled}
use Rattle.cni_addr.proofs.{GroupTexts.{whole_some, IsPlain}, Networks.{at_prefix, longest_prefix-most}}
use Rattle.cni_addr.proofs.Options.{none_of}

-- the decimal text of a number is read
pub read_decimal : (n : ℕ) → n < 256 → prefix_of_text (decimal n) ≡ Some n
unfolding prefix_of_text
read_decimal n fits =
    let read : read_octet (decimal n) ≡ Some (n, []) =
    subst (λ t. read_octet t ≡ Some (n, [])) (append-nil (decimal n)) (read_octet_complete n [] fits (lit≤ tt)) in
    ap (λ (r : Read ℕ). whole_value r) read

-- what is read is a number, in decimal
pub decimal_read : (text : List ℕ) (n : ℕ) → prefix_of_text text ≡ Some n → (n < 256) × (text ≡ decimal n)
unfolding prefix_of_text
decimal_read text n e =
    let (fits, split, stop) = read_octet_sound text [] n (whole_some (read_octet text) n e) in
    (fits, split ∙ append-nil (decimal n))

-- nothing is read where the text is no number's
pub none_decimal : (text : List ℕ) → ((n : ℕ) → n < 256 → text ≡ decimal n → ⊥) → prefix_of_text text ≡ None
none_decimal text apart = none_of (prefix_of_text text) λ n e. let (fits, is) = decimal_read text n e in apart n fits is

-- a plain text has no sign
unsigned : (text : List ℕ) → begins_plainly text ≡ true → get_or text 0 0 ≢ 43
unsigned text plain = grind (arith, nat_tests, plain)

-- and a zero in front stands alone
unpadded : (text : List ℕ) → begins_plainly text ≡ true → get_or text 0 0 ≡ 48 → length text ≡ 1
unpadded text plain zero_first = grind (arith, nat_tests, plain, zero_first)

-- one digit is plain
begins_at_digit : (d : ℕ) → d < 10 → begins_plainly ((48 + d) ∷ []) ≡ true
begins_at_digit d fits = grind (arith, nat_tests)

-- and so is what begins above a zero
begins_above : (text : List ℕ) → 48 < get_or text 0 0 → begins_plainly text ≡ true
begins_above text above = grind (arith, nat_tests)

-- the decimal text of a number is plain
plain_decimal : (n : ℕ) → n < 256 → begins_plainly (decimal n) ≡ true
plain_decimal n fits =
    let small : n < 2 ^ 64 = omega arith in
    elim (cases_lt n 10) [
      | inl one ↦ rw (decimal_digit n one) (begins_at_digit n one)
      | inr more ↦ begins_above (decimal n) (first_decimal n (omega arith) small)
    ]

-- what `parse` gives of a plain text
pub parsed_plain : {E : Type 0} (text : List ℕ) (r : Result ℕ E) → begins_plainly text ≡ true
    → ParsesUnsigned 8 10 text r → result_ok r ≡ prefix_of_text text
parsed_plain text (Ok n) plain h =
    let bare = without_leading_plus_none text (unsigned text plain) in
    let (number, fits) = subst (λ t. IsNumeral 10 t × (digits_value 10 t < 2 ^ 8)) bare h.0 in
    let value = subst (λ t. n ≡ digits_value 10 t) bare h.1 in
    let spelled =
    decimal-digits_value (numerals_by_value _ tells_digits) text number.1 number.0 (unpadded text plain)
    (omega arith) in
    ap Some value ∙ sym (read_decimal (digits_value 10 text) (omega arith)) ∙ ap prefix_of_text spelled
parsed_plain text (Err e) plain h =
    sym (none_decimal text λ n fits is.
    let (numeral, value) = decimal_is_IsNumeral n (omega arith) in
    h (rw (without_leading_plus_none text (unsigned text plain), is) (numeral, omega (arith, value))))

-- a text that is no UTF-8 is no number's
pub none_unless_utf8 : (text : List ℕ) → ¬ (IsUtf8 text) → prefix_of_text text ≡ None
none_unless_utf8 text not_text =
    none_decimal text λ n fits is. not_text (rw is (IsUtf8-from_ascii (decimal n) (IsAscii-decimal n (omega arith))))

-- nor is one that is not plain
pub none_unless_plain : (text : List ℕ) → begins_plainly text ≡ false → prefix_of_text text ≡ None
none_unless_plain text not_plain =
    none_decimal text λ n fits is. cc (sym not_plain ∙ ap begins_plainly is ∙ plain_decimal n fits)

-- ---- the parts of a network's text

-- where a list has a first element that passes
found_at : {A : Type 0} (p : A → Bool) (xs : List A) (i : ℕ) → Some i ≡ position p xs
    → (i ≡ position_or_len p xs) × (i < length xs)
found_at p xs i e =
    let (test, same) = cond_some _ _ _ (sym e) in
    (sym same, let within = ltb-true (position_or_len p xs) (length xs) test in omega arith)

-- and where it has none
found_nowhere : {A : Type 0} (p : A → Bool) (xs : List A) → None ≡ position p xs → length xs ≤ position_or_len p xs
found_nowhere p xs e =
    elim (cases_lt (position_or_len p xs) (length xs)) [
      | inl within ↦
          let test = lt-ltb (position_or_len p xs) (length xs) within in
          absurd (none-some (position_or_len p xs) (e ∙ ap (λ b. cond b (Some (position_or_len p xs)) None) test))
      | inr beyond ↦ beyond
    ]

-- an empty text is no number's
no_digits : prefix_of_text [] ≡ None
unfolding prefix_of_text read_octet read_number
no_digits = refl

-- without a prefix there is no network
pub without_prefix : (addr : Option AddrValue) → cidr_of_parts addr None ≡ None
without_prefix None = refl
without_prefix (Some a) = refl

-- a text without a slash is no network's
pub none_without_slash : (text : List ℕ) → None ≡ position is_slash text → cidr_of_text text ≡ None
unfolding cidr_of_text
none_without_slash text e =
    let beyond = found_nowhere is_slash text e in
    let nothing : after_first is_slash text ≡ [] = drop_all (position_or_len is_slash text + 1) text (omega arith) in
    ap (λ t. cidr_of_parts (addr_of_text (before_first is_slash text)) (prefix_of_text t)) nothing
    ∙ ap (cidr_of_parts (addr_of_text (before_first is_slash text))) no_digits
    ∙ without_prefix (addr_of_text (before_first is_slash text))

-- what is read of a text with a slash
pub read_parts : (text : List ℕ) (i : ℕ) (addr : Option AddrValue) (prefix : Option ℕ) → Some i ≡ position is_slash text
    → addr ≡ addr_of_text (take i text) → prefix ≡ prefix_of_text (take (length text - (i + 1)) (drop (i + 1) text))
    → cidr_of_parts addr prefix ≡ cidr_of_text text
unfolding cidr_of_text
read_parts text i addr prefix e is_addr is_prefix =
    let (place, within) = found_at is_slash text i e in
    let rest : take (length text - (i + 1)) (drop (i + 1) text) ≡ drop (i + 1) text =
    take_all _ (drop (i + 1) text) (omega (arith, length-drop (i + 1) text)) in
    ap₂ cidr_of_parts is_addr (is_prefix ∙ ap prefix_of_text rest)
    ∙ ap₂ (λ (j k : ℕ). cidr_of_parts (addr_of_text (take j text)) (prefix_of_text (drop (k + 1) text))) place place

-- a prefix that the family has
pub fitting_prefix : (a : AddrValue) (prefix : ℕ) → prefix ≤ longest_prefix a.family
    → Some (record { addr = a; prefix = prefix }) ≡ with_prefix a prefix
fitting_prefix a prefix fits =
    sym (ap (λ b. if b then Some (at_prefix prefix a) else None) (le-leb prefix (longest_prefix a.family) fits))

-- and one that it has not
pub long_prefix : (a : AddrValue) (prefix : ℕ) → longest_prefix a.family < prefix → None ≡ with_prefix a prefix
long_prefix a prefix long =
    sym (ap (λ b. if b then Some (at_prefix prefix a) else None) (lt-leb prefix (longest_prefix a.family) long))

-- ---- what is written

-- the text of a network, whose parts are known by other names
pub written_parts : (c : CidrValue) (addr : AddrValue) (prefix : ℕ) (text : List ℕ) → at_prefix prefix addr ≡ c
    → text ≡ addr_text addr → text ++ 47 ∷ decimal prefix ≡ cidr_text c
unfolding cidr_text
written_parts c addr prefix text parts is =
    let here : text ++ 47 ∷ decimal prefix ≡ cidr_text (at_prefix prefix addr) =
    ap (λ t. t ++ 47 ∷ decimal prefix) is in
    here ∙ ap cidr_text parts

-- ---- the grammar, both ways

-- what is spelled as a network is one
pub spelled_is_cidr : (text : List ℕ) (c : CidrValue) → IsCidrText text c → IsCidr c
spelled_is_cidr text c h = record { addr = h.address_spelled.fits; prefix = h.fits }

-- the text of an address has no slash
no_slash : (text : List ℕ) (a : AddrValue) → IsAddrText text a → (k : ℕ) → k < length text
    → is_slash (get_or text k 0) ≡ false
no_slash text a h k within = All-get_or IsPlain text k 0 within (address_plain text a h)

-- the first slash, where none stands before it
slash_place : (front rest : List ℕ) → ((k : ℕ) → k < length front → is_slash (get_or front k 0) ≡ false)
    → position_or_len is_slash (front ++ slash ∷ rest) ≡ length front
slash_place [] rest clear = refl
slash_place (c ∷ front) rest clear =
    let more = slash_place front rest (λ k within. clear (suc k) (omega arith)) in
    ap (λ b. cond (not b) (1 + position_or_len is_slash (front ++ slash ∷ rest)) 0) (clear 0 (omega arith))
    ∙ omega (arith, more)

-- a prefix of a family is a small number
prefix_small : (a : AddrValue) (prefix : ℕ) → prefix ≤ longest_prefix a.family → prefix < 256
prefix_small a prefix fits = omega (arith, longest_prefix-most a.family)

-- an item moves from the back to the front
one_by_one : (front : List ℕ) (c : ℕ) (rest : List ℕ) → front ++ c ∷ rest ≡ (front ++ c ∷ []) ++ rest
one_by_one front c rest = sym (append_assoc front (c ∷ []) rest)

-- a text of which a prefix is read has a slash
slash_within : (text : List ℕ) (prefix : ℕ) → prefix_of_text (after_first is_slash text) ≡ Some prefix
    → position_or_len is_slash text < length text
slash_within text prefix e =
    elim (cases_lt (position_or_len is_slash text) (length text)) [
      | inl within ↦ within
      | inr beyond ↦
          let nothing : after_first is_slash text ≡ [] =
          drop_all (position_or_len is_slash text + 1) text (omega arith) in
          absurd (none-some prefix (sym no_digits ∙ ap prefix_of_text (sym nothing) ∙ e))
    ]

-- what is spelled is read
pub network_spelled_is_read : (text : List ℕ) (c : CidrValue) → IsCidrText text c → cidr_of_text text ≡ Some c
unfolding cidr_of_text
network_spelled_is_read text c h =
    let rest = decimal c.prefix in
    let place : position_or_len is_slash text ≡ length h.address =
    ap (λ t. position_or_len is_slash t) h.spelled
    ∙ slash_place h.address rest (no_slash h.address c.addr h.address_spelled) in
    let before : before_first is_slash text ≡ h.address =
    ap₂ (λ (i : ℕ) (t : List ℕ). take i t) place h.spelled ∙ take_at h.address (slash ∷ rest) (length h.address) refl in
    let after : after_first is_slash text ≡ rest =
    ap₂ (λ (i : ℕ) (t : List ℕ). drop (i + 1) t) place (h.spelled ∙ one_by_one h.address slash rest)
    ∙ drop_at (h.address ++ slash ∷ []) rest (length h.address + 1)
    (omega (arith, length-append h.address (slash ∷ []))) in
    let small = prefix_small c.addr c.prefix h.fits in
    ap₂ cidr_of_parts (ap addr_of_text before ∙ spelled_is_read h.address c.addr h.address_spelled)
    (ap prefix_of_text after ∙ read_decimal c.prefix small)
    ∙ sym (fitting_prefix c.addr c.prefix h.fits)

-- the parts that were read
parts_read : (addr : Option AddrValue) (prefix : Option ℕ) (c : CidrValue) → cidr_of_parts addr prefix ≡ Some c
    → (addr ≡ Some c.addr) × (prefix ≡ Some c.prefix) × (c.prefix ≤ longest_prefix c.addr.family)
parts_read None prefix c e = absurd (none-some c e)
parts_read (Some a) None c e = absurd (none-some c e)
parts_read (Some a) (Some p) c e =
    let (test, same) = cond_some _ _ _ e in
    let within : p ≤ longest_prefix a.family = leb-true p (longest_prefix a.family) test in (
      ap (λ (x : CidrValue). Some x.addr) same,
      ap (λ (x : CidrValue). Some x.prefix) same,
      subst (λ (x : CidrValue). x.prefix ≤ longest_prefix x.addr.family) same within,
    )

-- what is read is spelled
pub network_read_is_spelled : (text : List ℕ) (c : CidrValue) → cidr_of_text text ≡ Some c → IsCidrText text c
unfolding cidr_of_text
network_read_is_spelled text c e =
    let (addr_read, prefix_read, fits) =
    parts_read (addr_of_text (before_first is_slash text)) (prefix_of_text (after_first is_slash text)) c e in
    let (small, digits) = decimal_read (after_first is_slash text) c.prefix prefix_read in
    let within = slash_within text c.prefix prefix_read in
    let split = split_at_first is_slash text 0 within in
    let here =
    eqb-true (get_or text (position_or_len is_slash text) 0) slash (passes_at_first is_slash text 0 within) in
    record {
      address = before_first is_slash text;
      address_spelled = read_is_spelled (before_first is_slash text) c.addr addr_read;
      fits = fits;
      spelled = split ∙ ap₂ (λ (b : ℕ) (t : List ℕ). before_first is_slash text ++ b ∷ t) here digits;
    }

-- what is written is spelled
pub network_written_is_spelled : (c : CidrValue) → IsCidr c → IsCidrText (cidr_text c) c
unfolding cidr_text
network_written_is_spelled c kept = record {
  address = addr_text c.addr;
  address_spelled = written_is_spelled c.addr kept.addr;
  fits = kept.prefix;
  spelled = refl;
}
