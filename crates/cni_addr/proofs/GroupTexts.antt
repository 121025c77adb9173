-- Texts of addresses: which groups they spell, how they are read and written, and of which bytes they are made.
use Rattle.std.proofs.Common.{◌≡◌, ℕ, zero, suc, ◌-◌, ◌^◌, ◌<◌, ◌≤◌, Bool, true, false, List, [], ◌∷◌, ◌++◌, length}
use Rattle.std.proofs.Common.{get_or, replicate, All, Some, None, inl, inr, refl, sym, ap, ◌∙◌, subst, arith}
use Rattle.std.proofs.{Common.{append-nil, lit≤, ne_eqb, length-append}, Math.Nat.pow-le-pow_right}
use Rattle.std.proofs.NetLemmas.{Alphabet.{IsDigitOrDot, All-ipv4_text}, Ipv6.{read_ipv6_complete, read_ipv6_sound}}
use Rattle.std.proofs.NetLemmas.{Ipv6.EndsGroups-nil, Texts.{AllSegments, IsZeroRun-longest_zero_run}}
use Rattle.std.proofs.{NetLemmas.Texts.longest_zero_run_first, lemmas.Int.Digits.digits_value-lt}
use Rattle.std.proofs.lemmas.List.{length-replicate, Elements.{All-nil, All-cons, All-append, All-weaker}}
use Rattle.std.proofs.lemmas.Option.{none-some}
use Rattle.std.specs.{Char.digit_value, Net.{Addr.segments_of, Grammar.{IsDotted, IsGroup, IsGroupsAfter, IsColonHex}}}
use Rattle.std.specs.Net.{Reader.{Read, read_ipv6, whole_value}, Text.{ipv4_text, hex_groups_text, longest_zero_run}}
use Rattle.std.specs.Str.Parse.{AllDigits}
use Rattle.cni_addr.specs.{CidrText.is_slash, GroupText.IsRecommended}
use Rattle.cni_addr.proofs.Groups.{AllSegments-segments_of}

-- each of four octets fits
pub octet_fits : (a b c d i : ℕ) → (a < 256) × (b < 256) × (c < 256) × (d < 256) → get_or (a ∷ b ∷ c ∷ d ∷ []) i 0 < 256
octet_fits a b c d zero h = h.0
octet_fits a b c d (suc zero) h = h.1
octet_fits a b c d (suc (suc zero)) h = h.2
octet_fits a b c d (suc (suc (suc zero))) h = h.3
octet_fits a b c d (suc (suc (suc (suc i)))) h = omega arith

-- a reader of the first part that finds a value leaves nothing, if it found one of the whole
pub whole_some : {A : Type 0} (r : Read A) (x : A) → whole_value r ≡ Some x → r ≡ Some (x, [])
whole_some None x e = absurd (none-some x e)
whole_some (Some p) x e = whole_rest p.0 p.1 x e
  where
    whole_rest : {A : Type 0} (found : A) (rest : List ℕ) (x : A) → whole_value (Some (found, rest)) ≡ Some x
        → ◌≡◌ {A = Read A} (Some (found, rest)) (Some (x, []))
    whole_rest found [] x e = cc
    whole_rest found (c ∷ rest) x e = absurd (none-some x (rw (ne_eqb (length (c ∷ rest)) 0 (omega arith)) at e))

-- ---- groups that a text spells

AllSegments-cons : (s : ℕ) (segments : List ℕ) → s < 2 ^ 16 → AllSegments segments → AllSegments (s ∷ segments)
AllSegments-cons s segments first rest zero = first
AllSegments-cons s segments first rest (suc k) = rest k

AllSegments-append : (xs ys : List ℕ) → AllSegments xs → AllSegments ys → AllSegments (xs ++ ys)
AllSegments-append [] ys first rest = rest
AllSegments-append (x ∷ xs) ys first rest =
    AllSegments-cons x (xs ++ ys) (first zero) (AllSegments-append xs ys (λ k. first (suc k)) rest)

AllSegments-zeros : (n : ℕ) → AllSegments (replicate n 0)
AllSegments-zeros zero k = omega arith
AllSegments-zeros (suc n) k = AllSegments-cons 0 (replicate n 0) (omega arith) (AllSegments-zeros n) k

group_fits : (group : List ℕ) (s : ℕ) → IsGroup group s → s < 2 ^ 16
group_fits group s h =
    let below = digits_value-lt 16 group h.0.0.1 in
    let most : 16 ^ length group ≤ 16 ^ 4 = pow-le-pow_right (lit≤ tt) h.1 in
    omega (arith, h.0.1, below, most)

dotted_fits : (text octets : List ℕ) → IsDotted text octets → AllSegments (segments_of octets)
dotted_fits text octets h =
    subst (λ o. AllSegments (segments_of o)) (sym h.value)
    (AllSegments-segments_of (h.a ∷ h.b ∷ h.c ∷ h.d ∷ []) (λ k. octet_fits h.a h.b h.c h.d k h.fit))

groups_fit : (ipv4 : Bool) (before text segments : List ℕ) → IsGroupsAfter ipv4 before text segments
    → AllSegments segments
groups_fit ipv4 before text [] h k = omega arith
groups_fit ipv4 before text (s ∷ segments) (inl h) k =
    AllSegments-cons s segments (group_fits h.0 s h.3) (groups_fit ipv4 (58 ∷ []) h.1 segments h.4) k
groups_fit ipv4 before text (s ∷ segments) (inr h) k = subst (λ t. AllSegments t) (sym h.5) (dotted_fits h.0 h.1 h.4) k

-- groups that are spelled are eight, of 16 bits each
pub colon_hex_fits : (text segments : List ℕ) → IsColonHex text segments → (length segments ≡ 8) × AllSegments segments
colon_hex_fits text segments (inl h) = (h.1, groups_fit true [] text segments h.0)
colon_hex_fits text segments (inr h) =
    let zeros = 8 - length h.head - length h.tail in
    let room = h.room in
    let front = h.head ++ replicate zeros 0 in
    let count : length (front ++ h.tail) ≡ 8 =
    omega
    (arith, length-append front h.tail, length-append h.head (replicate zeros 0), length-replicate {A = ℕ} zeros 0) in
    let all : AllSegments (front ++ h.tail) =
    AllSegments-append front h.tail (AllSegments-append h.head (replicate zeros 0)
    (groups_fit false [] h.head_text h.head h.head_groups) (AllSegments-zeros zeros))
    (groups_fit true [] h.tail_text h.tail h.tail_groups) in
    subst (λ t. (length t ≡ 8) × AllSegments t) (sym h.value) (count, all)

-- ---- reading them

pub whole_groups : (text segments : List ℕ) → IsColonHex text segments → whole_value (read_ipv6 text) ≡ Some segments
whole_groups text segments h =
    let read : read_ipv6 text ≡ Some (segments, []) =
    subst (λ t. read_ipv6 t ≡ Some (segments, [])) (append-nil text)
    (read_ipv6_complete text segments [] h EndsGroups-nil) in
    ap (λ (r : Read (List ℕ)). whole_value r) read

pub groups_whole : (text segments : List ℕ) → whole_value (read_ipv6 text) ≡ Some segments → IsColonHex text segments
groups_whole text segments e =
    let (front, split, h) = read_ipv6_sound text segments [] (whole_some (read_ipv6 text) segments e) in
    subst (λ t. IsColonHex t segments) (sym (split ∙ append-nil front)) h

-- ---- the bytes of a text

-- the byte is no slash
abbrev pub IsPlain : ℕ → Type 0
IsPlain c = is_slash c ≡ false

-- no digit and no dot is a slash
digit_or_dot : (c : ℕ) → IsDigitOrDot c → IsPlain c
digit_or_dot c (inl digit) = ne_eqb c 47 (λ e. omega arith)
digit_or_dot c (inr dot) = ne_eqb c 47 (λ e. omega arith)

-- nor is a hex digit
hex_digit : (c : ℕ) → digit_value c < 16 → IsPlain c
hex_digit c digit =
    ne_eqb c 47 (λ e. let none : digit_value 47 < 16 = subst (λ x. digit_value x < 16) e digit in omega (arith, none))

hex_digits : (text : List ℕ) → AllDigits 16 text → All IsPlain text
hex_digits [] h = All-nil IsPlain
hex_digits (c ∷ text) h = All-cons IsPlain c text (hex_digit c h.0) (hex_digits text h.1)

colons : (n : ℕ) → All IsPlain (replicate n 58)
colons zero = All-nil IsPlain
colons (suc n) = All-cons IsPlain 58 (replicate n 58) refl (colons n)

pub dotted_plain : (text octets : List ℕ) → IsDotted text octets → All IsPlain text
dotted_plain text octets h =
    let parts = h.a ∷ h.b ∷ h.c ∷ h.d ∷ [] in
    let all = All-ipv4_text parts (λ i. octet_fits h.a h.b h.c h.d i h.fit) in
    subst (λ t. All IsPlain t) (sym h.spelled) (All-weaker IsDigitOrDot IsPlain digit_or_dot (ipv4_text parts) all)

groups_plain : (ipv4 : Bool) (before text segments : List ℕ) → All IsPlain before
    → IsGroupsAfter ipv4 before text segments → All IsPlain text
groups_plain ipv4 before text [] lead h = subst (λ t. All IsPlain t) (sym h) (All-nil IsPlain)
groups_plain ipv4 before text (s ∷ segments) lead (inl h) =
    let rest = groups_plain ipv4 (58 ∷ []) h.1 segments (colons 1) h.4 in
    subst (λ t. All IsPlain t) (sym h.2)
    (All-append IsPlain (before ++ h.0) h.1 (All-append IsPlain before h.0 lead (hex_digits h.0 h.3.0.0.1)) rest)
groups_plain ipv4 before text (s ∷ segments) lead (inr h) =
    subst (λ t. All IsPlain t) (sym h.3) (All-append IsPlain before h.0 lead (dotted_plain h.0 h.1 h.4))

-- the text of groups has no slash
pub colon_hex_plain : (text segments : List ℕ) → IsColonHex text segments → All IsPlain text
colon_hex_plain text segments (inl h) = groups_plain true [] text segments (All-nil IsPlain) h.0
colon_hex_plain text segments (inr h) =
    let head = groups_plain false [] h.head_text h.head (All-nil IsPlain) h.head_groups in
    let tail = groups_plain true [] h.tail_text h.tail (All-nil IsPlain) h.tail_groups in
    subst (λ t. All IsPlain t) (sym h.spelled) (All-append IsPlain (h.head_text ++ 58 ∷ 58 ∷ []) h.tail_text
    (All-append IsPlain h.head_text (58 ∷ 58 ∷ []) head (colons 2)) tail)

-- ---- what is written of groups

pub hex_groups_text-IsRecommended : (groups : List ℕ) → IsRecommended (hex_groups_text groups) groups
unfolding hex_groups_text
hex_groups_text-IsRecommended groups = record {
  start = (longest_zero_run groups).0;
  count = (longest_zero_run groups).1;
  zeros = IsZeroRun-longest_zero_run groups;
  longest = λ other n h. (longest_zero_run_first groups other n h).0;
  first = λ other h. (longest_zero_run_first groups other (longest_zero_run groups).1 h).1 refl;
  written = refl;
}
