-- What is read of a hardware address's text is its grammar, both ways, and what is written is read again.
use Rattle.std.proofs.Common.{◌≡◌, ℕ, ◌+◌, ◌/◌, ◌%◌, ◌<◌, slice_index, true, false, List, [], ◌∷◌, ◌++◌, length, take}
use Rattle.std.proofs.Common.{get_or, map, Option, Some, None, Result, Ok, Err, refl, sym, ap, ap₂, subst, eqb-true}
use Rattle.std.proofs.{Common.{◌==◌, Bool, ◌∙◌, arith, append_assoc, length-take-le}, Math.ListN.get_or-map}
use Rattle.std.proofs.{NetLemmas.Options.map_some, lemmas.{Bool.{and_parts, Decides.nat_tests}, List.take_more}}
use Rattle.std.proofs.lemmas.{List.{map-append, length-map}, Option.none-some, Slice.Eq.text_from_reads}
use Rattle.std.specs.{Char.to_ascii_lowercase, List.join_with_byte, Prelude.{MatchResult, if◌then◌else◌, option_map}}
use Rattle.std.specs.{Result.result_ok, Str.str_to_ascii_lowercase}
use Rattle.hex.specs.Hex.{IsBytes, decode_pairs, decode_sized, encode_lower, encode_with, lower_digits}
use Rattle.hex.specs.declared.error.FromHexError.{FromHexError}
use Rattle.cni_addr.proofs.HexDigits.{lower_of_digit, decoded_if_lower, lower_if_decoded}
use Rattle.cni_addr.specs.MacText.{colon, byte_text, mac_text, has_colons, digits_in, mac_of_bytes, mac_of_digits}
use Rattle.cni_addr.specs.{MacText.{mac_of_text, IsMac, IsMacText}, declared.mac.Mac.Mac}
use Rattle.hex.proofs.HexLemmas.{decode_pairs-ok}

-- ---- what is written

-- one more piece at the end
join_more : (c : ℕ) (xs : List (List ℕ)) (x : List ℕ) → 0 < length xs
    → join_with_byte c (xs ++ x ∷ []) ≡ join_with_byte c xs ++ (c ∷ x)
join_more c [] x some = absurd (omega arith)
join_more c (y ∷ []) x some = refl
join_more c (y ∷ z ∷ xs) x some =
    ap (λ t. y ++ (c ∷ t)) (join_more c (z ∷ xs) x (omega arith))
    ∙ sym (append_assoc y (c ∷ join_with_byte c (z ∷ xs)) (c ∷ x))

-- one byte more is written: the first alone
pub first_byte : (bytes text : List ℕ) (place : ℕ) → place ≡ 0 → 0 < length bytes
    → text ≡ join_with_byte colon (map byte_text (take place bytes))
    → text ++ byte_text (get_or bytes place 0) ≡ join_with_byte colon (map byte_text (take (place + 1) bytes))
first_byte bytes text place none some is =
    let empty : text ≡ [] = is ∙ ap (λ n. join_with_byte colon (map byte_text (take n bytes))) none in
    rw (empty, none, take_more bytes 0 0 some)

-- each other byte after a colon
pub next_byte : (bytes text : List ℕ) (place : ℕ) → 0 < place → place < length bytes
    → text ≡ join_with_byte colon (map byte_text (take place bytes))
    → (text ++ colon ∷ []) ++ byte_text (get_or bytes place 0)
    ≡ join_with_byte colon (map byte_text (take (place + 1) bytes))
next_byte bytes text place some within is =
    let b = get_or bytes place 0 in
    let pieces = map byte_text (take place bytes) in
    let many : length pieces ≡ place =
    length-map (take place bytes) byte_text ∙ length-take-le place bytes (omega arith) in
    let longer : map byte_text (take (place + 1) bytes) ≡ pieces ++ byte_text b ∷ [] =
    ap (λ bs. map byte_text bs) (take_more bytes place 0 within) ∙ map-append byte_text (take place bytes) (b ∷ []) in
    append_assoc text (colon ∷ []) (byte_text b) ∙ ap (λ t. t ++ (colon ∷ byte_text b)) is
    ∙ sym (join_more colon pieces (byte_text b) (omega arith)) ∙ ap (λ ps. join_with_byte colon ps) (sym longer)

-- ---- what is read

-- a text whose colons are missing
pub none_without_colons : (text : List ℕ) → has_colons text ≡ false → mac_of_text text ≡ None
unfolding mac_of_text
none_without_colons text missing = ap (λ b. if b then mac_of_digits (digits_in text) else None) missing

-- and one that has them
pub around_colons : (text : List ℕ) → has_colons text ≡ true → mac_of_text text ≡ mac_of_digits (digits_in text)
unfolding mac_of_text
around_colons text there = ap (λ b. if b then mac_of_digits (digits_in text) else None) there

-- what decoding into six bytes answers: that it wrote them
pub decoded : (digits out : List ℕ) (r : Result Unit FromHexError)
    → MatchResult (decode_sized digits 6) (λ bytes. (r ≡ Ok tt) × (out ≡ bytes)) (λ e. r ≡ Err e)
    → r ≡ Ok tt → Some (record { bytes = out }) ≡ mac_of_digits digits
decoded digits out r h ok = decoded_by out r (decode_sized digits 6) h ok
  where
    decoded_by : (out : List ℕ) (r : Result Unit FromHexError) (d : Result (List ℕ) FromHexError)
        → MatchResult d (λ bytes. (r ≡ Ok tt) × (out ≡ bytes)) (λ e. r ≡ Err e)
        → r ≡ Ok tt → ◌≡◌ {A = Option Mac} (Some (record { bytes = out })) (option_map mac_of_bytes (result_ok d))
    decoded_by out r (Ok bytes) h ok = ap (λ bs. Some (mac_of_bytes bs)) h.1
    decoded_by out r (Err e) h ok = cc

-- or that it is refused
pub undecoded : (digits out : List ℕ) (r : Result Unit FromHexError) (e : FromHexError)
    → MatchResult (decode_sized digits 6) (λ bytes. (r ≡ Ok tt) × (out ≡ bytes)) (λ e. r ≡ Err e)
    → r ≡ Err e → None ≡ mac_of_digits digits
undecoded digits out r e h err = undecoded_by out r e (decode_sized digits 6) h err
  where
    undecoded_by : (out : List ℕ) (r : Result Unit FromHexError) (e : FromHexError) (d : Result (List ℕ) FromHexError)
        → MatchResult d (λ bytes. (r ≡ Ok tt) × (out ≡ bytes)) (λ e. r ≡ Err e)
        → r ≡ Err e → ◌≡◌ {A = Option Mac} None (option_map mac_of_bytes (result_ok d))
    undecoded_by out r e (Ok bytes) h err = cc (h.0)
    undecoded_by out r e (Err d) h err = refl

-- ---- the grammar, both ways

-- lists with one head and one tail are one
same_head : {x y : ℕ} {xs ys : List ℕ} → x ≡ y → xs ≡ ys → x ∷ xs ≡ y ∷ ys
same_head e es = ap₂ (λ (a : ℕ) (t : List ℕ). a ∷ t) e es

-- what is a colon in lower case is a colon
colon_if_lower : (c : ℕ) → to_ascii_lowercase c ≡ colon → c ≡ colon
colon_if_lower c e = grind (arith, nat_tests)

-- six items, one by one
six_items : (xs : List ℕ) → length xs ≡ 6
    → xs ≡ get_or xs 0 0 ∷ get_or xs 1 0 ∷ get_or xs 2 0 ∷ get_or xs 3 0 ∷ get_or xs 4 0 ∷ get_or xs 5 0 ∷ []
six_items xs six = text_from_reads xs _ six (refl, (refl, (refl, (refl, (refl, (refl, tt))))))

-- an item in lower case
lower_at : (text : List ℕ) (k : ℕ) → get_or (str_to_ascii_lowercase text) k 0 ≡ to_ascii_lowercase (get_or text k 0)
lower_at text k = get_or-map to_ascii_lowercase text k 0

-- where the length and the colons are, the test is met
colons_there : (text : List ℕ) → length text ≡ 17 → get_or text 2 0 ≡ colon → get_or text 5 0 ≡ colon
    → get_or text 8 0 ≡ colon
    → get_or text 11 0 ≡ colon → get_or text 14 0 ≡ colon → has_colons text ≡ true
colons_there text len second fifth eighth eleventh fourteenth =
    rw (len, second, fifth, eighth, eleventh, fourteenth) refl

-- A text and six bytes.
module _ (text : List ℕ) (a b c d e f : ℕ) where
  read_if_lower : IsBytes (a ∷ b ∷ c ∷ d ∷ e ∷ f ∷ [])
      → str_to_ascii_lowercase text ≡ mac_text (mac_of_bytes (a ∷ b ∷ c ∷ d ∷ e ∷ f ∷ []))
      → mac_of_text text ≡ Some (mac_of_bytes (a ∷ b ∷ c ∷ d ∷ e ∷ f ∷ []))
  unfolding mac_text encode_with
  read_if_lower fits lower =
      let bytes = a ∷ b ∷ c ∷ d ∷ e ∷ f ∷ [] in
      let place : (k : ℕ) → to_ascii_lowercase (get_or text k 0) ≡ get_or (mac_text (mac_of_bytes bytes)) k 0 =
      λ k. sym (lower_at text k) ∙ ap (λ t. get_or t k 0) lower in
      let len : length text ≡ 17 = sym (length-map text to_ascii_lowercase) ∙ ap length lower in
      let there =
      colons_there text len (colon_if_lower _ (place 2)) (colon_if_lower _ (place 5)) (colon_if_lower _ (place 8))
      (colon_if_lower _ (place 11)) (colon_if_lower _ (place 14)) in
      let digits : str_to_ascii_lowercase (digits_in text) ≡ encode_lower bytes =
      (same_head (place 0) (same_head (place 1) (same_head (place 3)
      (same_head (place 4) (same_head (place 6) (same_head (place 7) (same_head (place 9) (same_head (place 10)
      (same_head (place 12) (same_head (place 13) (same_head (place 15) (same_head (place 16) refl)))))))))))) in
      let read : decode_pairs 0 (digits_in text) ≡ Ok bytes = decoded_if_lower 0 (digits_in text) bytes fits digits in
      around_colons text there ∙ ap (λ r. option_map mac_of_bytes (result_ok r)) read

  lower_if_read : (length text ≡ 17) × (get_or text 2 0 ≡ colon) × (get_or text 5 0 ≡ colon) × (get_or text 8 0 ≡ colon)
      × (get_or text 11 0 ≡ colon) × (get_or text 14 0 ≡ colon)
      → str_to_ascii_lowercase (digits_in text) ≡ encode_lower (a ∷ b ∷ c ∷ d ∷ e ∷ f ∷ [])
      → str_to_ascii_lowercase text ≡ mac_text (mac_of_bytes (a ∷ b ∷ c ∷ d ∷ e ∷ f ∷ []))
  unfolding mac_text encode_with
  lower_if_read there digits =
      text_from_reads (str_to_ascii_lowercase text) _ (length-map text to_ascii_lowercase ∙ there.0) (
        lower_at text 0 ∙ ap (λ t. get_or t 0 0) digits,
        (
          lower_at text 1 ∙ ap (λ t. get_or t 1 0) digits,
          (
            lower_at text 2 ∙ ap to_ascii_lowercase there.1,
            (
              lower_at text 3 ∙ ap (λ t. get_or t 2 0) digits,
              (
                lower_at text 4 ∙ ap (λ t. get_or t 3 0) digits,
                (
                  lower_at text 5 ∙ ap to_ascii_lowercase there.2,
                  (
                    lower_at text 6 ∙ ap (λ t. get_or t 4 0) digits,
                    (
                      lower_at text 7 ∙ ap (λ t. get_or t 5 0) digits,
                      (
                        lower_at text 8 ∙ ap to_ascii_lowercase there.3,
                        (
                          lower_at text 9 ∙ ap (λ t. get_or t 6 0) digits,
                          (
                            lower_at text 10 ∙ ap (λ t. get_or t 7 0) digits,
                            (
                              lower_at text 11 ∙ ap to_ascii_lowercase there.4,
                              (
                                lower_at text 12 ∙ ap (λ t. get_or t 8 0) digits,
                                (
                                  lower_at text 13 ∙ ap (λ t. get_or t 9 0) digits,
                                  (
                                    lower_at text 14 ∙ ap to_ascii_lowercase there.5,
                                    (
                                      lower_at text 15 ∙ ap (λ t. get_or t 10 0) digits,
                                      (lower_at text 16 ∙ ap (λ t. get_or t 11 0) digits, tt),
                                    ),
                                  ),
                                ),
                              ),
                            ),
                          ),
                        ),
                      ),
                    ),
                  ),
                ),
              ),
            ),
          ),
        ),
      )

-- and the other way round
colons_found : (text : List ℕ) → has_colons text ≡ true
    → (length text ≡ 17) × (get_or text 2 0 ≡ colon) × (get_or text 5 0 ≡ colon) × (get_or text 8 0 ≡ colon)
    × (get_or text 11 0 ≡ colon) × (get_or text 14 0 ≡ colon)
colons_found text test =
    let (len, after_len) = and_parts (length text == 17) _ test in
    let (second, after_second) = and_parts (get_or text 2 0 == colon) _ after_len in
    let (fifth, after_fifth) = and_parts (get_or text 5 0 == colon) _ after_second in
    let (eighth, after_eighth) = and_parts (get_or text 8 0 == colon) _ after_fifth in
    let (eleventh, after_eleventh) = and_parts (get_or text 11 0 == colon) _ after_eighth in
    let (fourteenth, after_fourteenth) = and_parts (get_or text 14 0 == colon) _ after_eleventh in (
      eqb-true (length text) 17 len,
      eqb-true (get_or text 2 0) colon second,
      eqb-true (get_or text 5 0) colon fifth,
      eqb-true (get_or text 8 0) colon eighth,
      eqb-true (get_or text 11 0) colon eleventh,
      eqb-true (get_or text 14 0) colon fourteenth,
    )

-- a choice with a value
then_some : {A : Type 0} (b : Bool) (o : Option A) (x : A) → (if b then o else None) ≡ Some x
    → (b ≡ true) × (o ≡ Some x)
then_some true o x e = (refl, e)
then_some false o x e = absurd (none-some x e)

-- a result with a value
ok_some : {A E : Type 0} (r : Result A E) (x : A) → result_ok r ≡ Some x → r ≡ Ok x
ok_some (Ok y) x e = cc e
ok_some (Err d) x e = absurd (none-some x e)

-- what was read decodes
read_decodes : (text : List ℕ) (m : Mac) → mac_of_text text ≡ Some m
    → (has_colons text ≡ true) × (decode_pairs 0 (digits_in text) ≡ Ok m.bytes)
unfolding mac_of_text
read_decodes text m e =
    let (there, read) = then_some (has_colons text) (mac_of_digits (digits_in text)) m e in
    map_some mac_of_bytes (result_ok (decode_sized (digits_in text) 6)) m read λ bytes ok same.
    (there, ok_some (decode_sized (digits_in text) 6) bytes ok ∙ ap (λ (x : Mac). Ok x.bytes) same)

-- what is read is spelled
pub mac_read_is_spelled : (text : List ℕ) (m : Mac) → mac_of_text text ≡ Some m → IsMacText text m
mac_read_is_spelled text m e =
    let (there, decodes) = read_decodes text m e in
    let parts = decode_pairs-ok 0 (digits_in text) m.bytes decodes in
    let six : length m.bytes ≡ 6 = omega (arith, parts.1) in
    let items = six_items m.bytes six in
    let digits = lower_if_decoded 0 (digits_in text) m.bytes decodes in
    let lower = lower_if_read text _ _ _ _ _ _ (colons_found text there) (digits ∙ ap encode_lower items) in
    record {
      fits = record { six = six; bytes = parts.2 };
      spelled = lower ∙ ap (λ bs. mac_text (mac_of_bytes bs)) (sym items);
    }

-- what is spelled is read
pub mac_spelled_is_read : (text : List ℕ) (m : Mac) → IsMacText text m → mac_of_text text ≡ Some m
mac_spelled_is_read text m h =
    let items = six_items m.bytes h.fits.six in
    let spelled = h.spelled ∙ ap (λ bs. mac_text (mac_of_bytes bs)) items in
    read_if_lower text _ _ _ _ _ _ (subst IsBytes items h.fits.bytes) spelled
    ∙ ap (λ bs. Some (mac_of_bytes bs)) (sym items)

-- the high digit of a byte is in lower case
high : (v : ℕ) → v < 256 → to_ascii_lowercase (slice_index lower_digits (v / 16)) ≡ slice_index lower_digits (v / 16)
high v fits = lower_of_digit (v / 16) (omega arith)

-- the low digit too
low : (v : ℕ) → v < 256 → to_ascii_lowercase (slice_index lower_digits (v % 16)) ≡ slice_index lower_digits (v % 16)
low v fits = lower_of_digit (v % 16) (omega arith)

-- what is written is in lower case
lower_written : (a b c d e f : ℕ) → IsBytes (a ∷ b ∷ c ∷ d ∷ e ∷ f ∷ [])
    → str_to_ascii_lowercase (mac_text (mac_of_bytes (a ∷ b ∷ c ∷ d ∷ e ∷ f ∷ [])))
    ≡ mac_text (mac_of_bytes (a ∷ b ∷ c ∷ d ∷ e ∷ f ∷ []))
unfolding mac_text encode_with
lower_written a b c d e f fits =
    (same_head (high a (fits 0)) (same_head (low a (fits 0)) (same_head refl (same_head (high b (fits 1))
    (same_head (low b (fits 1)) (same_head refl (same_head (high c (fits 2)) (same_head (low c (fits 2)) (same_head refl
    (same_head (high d (fits 3)) (same_head (low d (fits 3)) (same_head refl (same_head (high e (fits 4)) (same_head
    (low e (fits 4)) (same_head refl (same_head (high f (fits 5)) (same_head (low f (fits 5)) refl)))))))))))))))))

-- what is written is spelled
pub mac_written_is_spelled : (m : Mac) → IsMac m → IsMacText (mac_text m) m
mac_written_is_spelled m kept =
    let items = six_items m.bytes kept.six in
    let lower = lower_written _ _ _ _ _ _ (subst IsBytes items kept.bytes) in
    record {
      fits = kept;
      spelled =
          subst (λ bs. str_to_ascii_lowercase (mac_text (mac_of_bytes bs)) ≡ mac_text (mac_of_bytes bs))
          (sym items) lower;
    }
