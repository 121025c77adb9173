-- A line feed behind a text changes no reading. Each part of the grammar gives the same for both, or leaves the line
-- feed behind what it leaves.
use Rattle.std.proofs.Common.{◌≡◌, ℕ, suc, ◌+◌, ◌-◌, ◌≤◌, Bool, true, false, cond, ◌&&◌, ◌||◌, ◌==◌, List, [], ◌∷◌}
use Rattle.std.proofs.Common.{◌++◌, length, take, drop, Option, Some, None, option_map, option_and_then, nat_eq, nat_lt}
use Rattle.std.proofs.{Common.{IsUtf8, refl, sym, ap, ap₂, ◌∙◌, subst, arith, length-append}, Math.Bool.and-false}
use Rattle.std.proofs.{Math.Seq.take-append_seam, lemmas.{List.take-append-le, Str.IsUtf8-from_is_utf8}}
use Rattle.std.proofs.lemmas.Str.{is_utf8-from_IsUtf8, IsUtf8-append, IsUtf8-take, IsCharBoundary-at_seam}
use Rattle.std.specs.{Char.{is_ascii_digit, encode_utf8}, List.{prefix_len, starts_with}, Str.{is_utf8, chars}}
use Rattle.json.specs.Lex.{Lexeme, Class, Mode, token, string_token, operator_lexeme, quote, backslash, operator, space}
use Rattle.json.specs.Lex.{other, class, lex, lex_byte, between, in_word, in_string, in_escape, tokens, punctuate}
use Rattle.json.specs.{Lex.fresh, Text.{Within, plain, after_backslash, after_u, after_high, code_unit, short_escape}}
use Rattle.json.specs.{Text.{content, prepend, is_high_surrogate, is_low_surrogate, surrogate_pair}, Token.Token}
use Rattle.json.specs.{Token.{number, boolean, null, bad}, Word.{head, ends_word, after_digits, after_minus}}
use Rattle.json.specs.Word.{after_sign, after_whole, after_fraction, after_exponent, after_number, number_before}
use Rattle.json.specs.Word.{literal, word}
use Rattle.json.specs.Json as json
use Rattle.json.specs.Ascii as ascii
use Rattle.serde_json.specs.Read.{read, of_json, max_depth}
use Rattle.cni_json.specs.Json.{reading, whole_numbers, json_of}

-- the text, and a line feed
abbrev pub with_line_feed : List ℕ → List ℕ
with_line_feed t = t ++ 10 ∷ []

-- ---- words

abbrev fed : Option (List ℕ) → Option (List ℕ)
fed o = option_map with_line_feed o

-- a line feed and the end of the text alike are no other byte
head-line_feed : (c : ℕ) (t : List ℕ) → (10 == c) ≡ false → (32 == c) ≡ false
    → (head (with_line_feed t) == c) ≡ (head t == c)
head-line_feed c [] feed end = feed ∙ sym end
head-line_feed c (x ∷ xs) feed end = refl

-- and both end a word
ends_word-line_feed : (t : List ℕ) → ends_word (with_line_feed t) ≡ ends_word t
ends_word-line_feed [] = refl
ends_word-line_feed (x ∷ xs) = refl

either_text : (b : Bool) (t u : List ℕ) → cond b (with_line_feed t) (with_line_feed u) ≡ with_line_feed (cond b t u)
either_text true t u = refl
either_text false t u = refl

either_rest : (b : Bool) (o p q r : Option (List ℕ)) → o ≡ fed q → p ≡ fed r → cond b o p ≡ fed (cond b q r)
either_rest true o p q r first second = first
either_rest false o p q r first second = second

prefix_len-line_feed : (t : List ℕ) → prefix_len is_ascii_digit (with_line_feed t) ≡ prefix_len is_ascii_digit t
prefix_len-line_feed [] = refl
prefix_len-line_feed (x ∷ xs) = ap (λ n. cond (is_ascii_digit x) (1 + n) 0) (prefix_len-line_feed xs)

drop_digits_at : (b : Bool) (x : ℕ) (xs : List ℕ) (n : ℕ) → drop n (with_line_feed xs) ≡ with_line_feed (drop n xs)
    → drop (cond b (1 + n) 0) (with_line_feed (x ∷ xs)) ≡ with_line_feed (drop (cond b (1 + n) 0) (x ∷ xs))
drop_digits_at true x xs n same =
    let e : suc n ≡ 1 + n = omega arith in
    subst (λ (k : ℕ). drop k (with_line_feed (x ∷ xs)) ≡ with_line_feed (drop k (x ∷ xs))) e same
drop_digits_at false x xs n same = refl

drop_digits : (t : List ℕ)
    → drop (prefix_len is_ascii_digit t) (with_line_feed t) ≡ with_line_feed (drop (prefix_len is_ascii_digit t) t)
drop_digits [] = refl
drop_digits (x ∷ xs) = drop_digits_at (is_ascii_digit x) x xs (prefix_len is_ascii_digit xs) (drop_digits xs)

after_digits-line_feed : (t : List ℕ) → after_digits (with_line_feed t) ≡ fed (after_digits t)
after_digits-line_feed t =
    ap (λ n. cond (n == 0) None (Some (drop n (with_line_feed t)))) (prefix_len-line_feed t)
    ∙ either_rest (prefix_len is_ascii_digit t == 0) None _ None (Some (drop (prefix_len is_ascii_digit t) t)) refl
    (ap Some (drop_digits t))

after_minus-line_feed : (t : List ℕ) → after_minus (with_line_feed t) ≡ with_line_feed (after_minus t)
after_minus-line_feed [] = refl
after_minus-line_feed (x ∷ xs) = either_text (x == 45) xs (x ∷ xs)

after_sign-line_feed : (t : List ℕ) → after_sign (with_line_feed t) ≡ with_line_feed (after_sign t)
after_sign-line_feed [] = refl
after_sign-line_feed (x ∷ xs) = either_text ((x == 45) || (x == 43)) xs (x ∷ xs)

after_whole-line_feed : (t : List ℕ) → after_whole (with_line_feed t) ≡ fed (after_whole t)
after_whole-line_feed [] = refl
after_whole-line_feed (x ∷ xs) =
    either_rest (x == 48) _ _ (Some xs) (after_digits (x ∷ xs)) refl (after_digits-line_feed (x ∷ xs))

after_fraction-line_feed : (t : List ℕ) → after_fraction (with_line_feed t) ≡ fed (after_fraction t)
after_fraction-line_feed [] = refl
after_fraction-line_feed (x ∷ xs) =
    either_rest (x == 46) _ _ (after_digits xs) (Some (x ∷ xs)) (after_digits-line_feed xs) refl

after_exponent-line_feed : (t : List ℕ) → after_exponent (with_line_feed t) ≡ fed (after_exponent t)
after_exponent-line_feed [] = refl
after_exponent-line_feed (x ∷ xs) =
    either_rest ((x == 101) || (x == 69)) _ _ (after_digits (after_sign xs)) (Some (x ∷ xs))
    (ap after_digits (after_sign-line_feed xs) ∙ after_digits-line_feed (after_sign xs)) refl

then : (f : List ℕ → Option (List ℕ)) → ((t : List ℕ) → f (with_line_feed t) ≡ fed (f t)) → (o : Option (List ℕ))
    → option_and_then f (fed o) ≡ fed (option_and_then f o)
then f same None = refl
then f same (Some t) = same t

after_number-line_feed : (t : List ℕ) → after_number (with_line_feed t) ≡ fed (after_number t)
unfolding after_number
after_number-line_feed t =
    ap (λ o. option_and_then after_exponent (option_and_then after_fraction o))
    (ap after_whole (after_minus-line_feed t) ∙ after_whole-line_feed (after_minus t))
    ∙ ap (option_and_then after_exponent) (then after_fraction after_fraction-line_feed (after_whole (after_minus t)))
    ∙ then after_exponent after_exponent-line_feed (option_and_then after_fraction (after_whole (after_minus t)))

number_text : (t rest : List ℕ) → take (length (with_line_feed t) - length (with_line_feed rest)) (with_line_feed t)
    ≡ take (length t - length rest) t
number_text t rest =
    let n : length (with_line_feed t) - length (with_line_feed rest) ≡ length t - length rest =
    omega (arith, length-append t (10 ∷ []), length-append rest (10 ∷ [])) in
    let within : length t - length rest ≤ length t = omega arith in
    ap (λ k. take k (with_line_feed t)) n ∙ take-append-le (length t - length rest) t (10 ∷ []) within

number_before-line_feed : (t : List ℕ) (o : Option (List ℕ))
    → number_before (with_line_feed t) (fed o) ≡ number_before t o
number_before-line_feed t None = refl
number_before-line_feed t (Some rest) =
    ap₂ (λ b s. cond b (number s) bad) (ends_word-line_feed rest) (number_text t rest)

-- no byte of a name is a line feed
abbrev IsName : List ℕ → Type 0
IsName [] = Unit {0}
IsName (n ∷ ns) = (nat_eq n 10 ≡ false) × IsName ns

abbrev named : List ℕ → List ℕ → Bool
named name t = starts_with nat_eq t name && ends_word (drop (length name) t)

same_if : (b : Bool) (p q r s : Bool) → (p && q) ≡ (r && s) → ((b && p) && q) ≡ ((b && r) && s)
same_if true p q r s same = same
same_if false p q r s same = refl

refused : (b p q : Bool) → b ≡ false → ((b && p) && q) ≡ false
refused b p q differs = rw differs

named-line_feed : (name t : List ℕ) → IsName name → named name (with_line_feed t) ≡ named name t
named-line_feed [] t h = ends_word-line_feed t
named-line_feed (n ∷ ns) [] h = refused (nat_eq n 10) _ _ h.0
named-line_feed (n ∷ ns) (x ∷ xs) h = same_if (nat_eq n x) _ _ _ _ (named-line_feed ns xs h.1)

literal-line_feed : (name : List ℕ) (result : Token) (t : List ℕ) → IsName name
    → literal name result (with_line_feed t) ≡ literal name result t
literal-line_feed name result t h = ap (λ b. cond b result bad) (named-line_feed name t h)

word-line_feed : (t : List ℕ) → word (with_line_feed t) ≡ word t
unfolding word
word-line_feed t =
    let is_t = head-line_feed 116 t refl refl in
    let is_f = head-line_feed 102 t refl refl in
    let is_n = head-line_feed 110 t refl refl in
    let as_true = literal-line_feed ascii.true_text (boolean true) t (refl, (refl, (refl, (refl, tt)))) in
    let as_false = literal-line_feed ascii.false_text (boolean false) t (refl, (refl, (refl, (refl, (refl, tt))))) in
    let as_null = literal-line_feed ascii.null_text null t (refl, (refl, (refl, (refl, tt)))) in
    let as_number =
    ap (number_before (with_line_feed t)) (after_number-line_feed t) ∙ number_before-line_feed t (after_number t) in
    rw (is_t, is_f, is_n, as_true, as_false, as_null, as_number) refl

-- ---- the content of a string

none_if : {A : Type 0} (b : Bool) → cond {A = Option A} b None None ≡ None
none_if true = refl
none_if false = refl

-- a line feed is no hex digit
code_unit-line_feed : (a b c : ℕ) → code_unit a b c 10 ≡ None
unfolding code_unit
code_unit-line_feed a b c = rw and-false

each : {A B : Type 0} (f g : A → Option B) (o : Option A) → ((x : A) → f x ≡ g x)
    → option_and_then f o ≡ option_and_then g o
each f g None same = refl
each f g (Some x) same = same x

-- no string ends before the line feed, and none goes on behind it
content-line_feed : (w : Within) (t : List ℕ) → content w (with_line_feed t) ≡ content w t
unfolding content short_escape
content-line_feed plain [] = refl
content-line_feed plain (x ∷ xs) =
    ap₂ (λ escaped rest.
    cond (x == 34) (Some []) (cond (x == 92) escaped (cond (nat_lt x 32) None (prepend (x ∷ []) rest))))
    (content-line_feed after_backslash xs) (content-line_feed plain xs)
content-line_feed after_backslash [] = refl
content-line_feed after_backslash (x ∷ xs) =
    ap₂ (λ unit rest. cond (x == 117) unit (option_and_then (λ c. prepend (c ∷ []) rest) (short_escape x)))
    (content-line_feed after_u xs) (content-line_feed plain xs)
content-line_feed after_u [] = refl
content-line_feed after_u (a ∷ []) = refl
content-line_feed after_u (a ∷ b ∷ []) = refl
content-line_feed after_u (a ∷ b ∷ c ∷ []) = rw (code_unit-line_feed a b c)
content-line_feed after_u (a ∷ b ∷ c ∷ d ∷ xs) =
    each _ _ (code_unit a b c d)
    (λ u.
    ap₂ (λ low rest. cond (is_high_surrogate u) low (cond (is_low_surrogate u) None (prepend (encode_utf8 u) rest)))
    (content-line_feed (after_high u) xs) (content-line_feed plain xs))
content-line_feed (after_high h) [] = refl
content-line_feed (after_high h) (s ∷ []) = refl
content-line_feed (after_high h) (s ∷ u ∷ []) = refl
content-line_feed (after_high h) (s ∷ u ∷ a ∷ []) = refl
content-line_feed (after_high h) (s ∷ u ∷ a ∷ b ∷ []) = refl
content-line_feed (after_high h) (s ∷ u ∷ a ∷ b ∷ c ∷ []) =
    rw (code_unit-line_feed a b c) (none_if ((s == 92) && (u == 117)))
content-line_feed (after_high h) (s ∷ u ∷ a ∷ b ∷ c ∷ d ∷ xs) =
    ap (λ o. cond ((s == 92) && (u == 117)) o None)
    (each _ _ (code_unit a b c d)
    (λ l. ap (λ rest. cond (is_low_surrogate l) (prepend (encode_utf8 (surrogate_pair h l)) rest) None)
    (content-line_feed plain xs)))

-- ---- the lexer

lex_byte-line_feed : (m : Mode) (c : Class) (x : ℕ) (xs : List ℕ) (j k : Mode → List Lexeme)
    → ((next : Mode) → j next ≡ k next) → lex_byte m c x (with_line_feed xs) j ≡ lex_byte m c x xs k
lex_byte-line_feed between quote x xs j k same =
    ap₂ (λ s ls. token (string_token s) ∷ ls) (content-line_feed plain xs) (same in_string)
lex_byte-line_feed between backslash x xs j k same = ap (λ ls. token bad ∷ ls) (same in_word)
lex_byte-line_feed between operator x xs j k same = ap (λ ls. operator_lexeme x ∷ ls) (same between)
lex_byte-line_feed between space x xs j k same = same between
lex_byte-line_feed between other x xs j k same = ap₂ (λ w ls. token w ∷ ls) (word-line_feed (x ∷ xs)) (same in_word)
lex_byte-line_feed in_word quote x xs j k same = same in_word
lex_byte-line_feed in_word backslash x xs j k same = same in_word
lex_byte-line_feed in_word operator x xs j k same = ap (λ ls. operator_lexeme x ∷ ls) (same between)
lex_byte-line_feed in_word space x xs j k same = same between
lex_byte-line_feed in_word other x xs j k same = same in_word
lex_byte-line_feed in_string quote x xs j k same = same between
lex_byte-line_feed in_string backslash x xs j k same = same in_escape
lex_byte-line_feed in_string operator x xs j k same = same in_string
lex_byte-line_feed in_string space x xs j k same = same in_string
lex_byte-line_feed in_string other x xs j k same = same in_string
lex_byte-line_feed in_escape c x xs j k same = same in_string

pub lex-line_feed : (m : Mode) (t : List ℕ) → lex m (with_line_feed t) ≡ lex m t
unfolding lex
lex-line_feed between [] = refl
lex-line_feed in_word [] = refl
lex-line_feed in_string [] = refl
lex-line_feed in_escape [] = refl
lex-line_feed m (x ∷ xs) =
    lex_byte-line_feed m (class x) x xs (λ next. lex next (with_line_feed xs)) (λ next. lex next xs)
    (λ next. lex-line_feed next xs)

pub tokens-line_feed : (t : List ℕ) → tokens (with_line_feed t) ≡ tokens t
tokens-line_feed t = ap (punctuate fresh) (lex-line_feed between t)

-- ---- the reading

pub read-line_feed : (t : List ℕ) → read (with_line_feed t) ≡ read t
read-line_feed t =
    ap (λ ts. option_and_then of_json (option_and_then (λ p. json.if_last p.0 p.1) (json.value max_depth ts)))
    (tokens-line_feed t)

is_line_feed : is_utf8 (10 ∷ []) ≡ true
unfolding is_utf8 chars encode_utf8
is_line_feed = refl

pub IsUtf8-line_feed : IsUtf8 (10 ∷ [])
IsUtf8-line_feed = IsUtf8-from_is_utf8 (10 ∷ []) is_line_feed

IsUtf8-before_line_feed : (t : List ℕ) → IsUtf8 (with_line_feed t) → IsUtf8 t
IsUtf8-before_line_feed t text =
    subst IsUtf8 (take-append_seam t (10 ∷ [])) (IsUtf8-take (with_line_feed t) (length t) text
    (IsCharBoundary-at_seam (with_line_feed t) t (10 ∷ []) refl IsUtf8-line_feed))

is_utf8-line_feed : (t : List ℕ) → is_utf8 (with_line_feed t) ≡ is_utf8 t
is_utf8-line_feed t = by_tests (is_utf8 (with_line_feed t)) (is_utf8 t) refl refl
  where
    by_tests : (b c : Bool) → is_utf8 (with_line_feed t) ≡ b → is_utf8 t ≡ c → b ≡ c
    by_tests true true whole front = refl
    by_tests false false whole front = refl
    by_tests true false whole front =
        sym (is_utf8-from_IsUtf8 t (IsUtf8-before_line_feed t (IsUtf8-from_is_utf8 _ whole))) ∙ front
    by_tests false true whole front =
        sym whole ∙ is_utf8-from_IsUtf8 _ (IsUtf8-append t (10 ∷ []) (IsUtf8-from_is_utf8 t front) IsUtf8-line_feed)

-- a text reads the same with a line feed behind it
pub reading-line_feed : (t : List ℕ) → reading (with_line_feed t) ≡ reading t
unfolding reading
reading-line_feed t = ap₂ (λ b o. cond b o None) (is_utf8-line_feed t) (read-line_feed t)

pub json_of-line_feed : (t : List ℕ) → json_of (with_line_feed t) ≡ json_of t
json_of-line_feed t = ap whole_numbers (reading-line_feed t)
