-- How a piece of a command's arguments is cut at `=`.
use Rattle.std.proofs.Common.{◌≡◌, ℕ, ◌+◌, ◌<◌, ◌≤◌, Bool, true, false, not, cond, eqb, List, [], ◌∷◌, length, refl}
use Rattle.std.proofs.{Common.{sym, ap, ◌∙◌, arith, Option, Some, None}, lemmas.Bool.or_parts}
use Rattle.std.proofs.lemmas.List.Splits.{slice_split-cons_yes, slice_split-cons_no, slice_split_first}
use Rattle.std.proofs.lemmas.List.Splits.{length-slice_split}
use Rattle.std.specs.List.{list_any, slice_split, onto_first, position_or_len, before_first, after_first, cons_option}
use Rattle.std.specs.{Prelude.{◌||◌, ◌&&◌, ◌==◌, find, filter_map, option_map, option_to_list}, Str.bytes_eq}
use Rattle.cni_errors.specs.CommandFields.{pair_of, argument_of}

abbrev pub is_equals : ℕ → Bool
is_equals b = eqb b 61

-- ---- a list in which nothing passes is one part

place-step : (b : Bool) (m n : ℕ) → cond (not b) (1 + m) 0 ≡ 1 + n → (b ≡ false) × (m ≡ n)
place-step true m n h = absurd (omega (arith, h))
place-step false m n h = (refl, omega (arith, h))

one_part : {X : Type 0} (p : X → Bool) (xs : List X) → position_or_len p xs ≡ length xs → slice_split p xs ≡ xs ∷ []
one_part p [] h = refl
one_part p (x ∷ xs) h =
    let step = place-step (p x) (position_or_len p xs) (length xs) (omega (arith, h)) in
    slice_split-cons_no p x xs step.0 ∙ ap (onto_first x) (one_part p xs step.1)

whole_part : {X : Type 0} (p : X → Bool) (xs : List X) → list_any p xs ≡ false → slice_split p xs ≡ xs ∷ []
whole_part p [] h = refl
whole_part p (x ∷ xs) h =
    let step = or_parts (p x) (list_any p xs) h in
    slice_split-cons_no p x xs step.0 ∙ ap (onto_first x) (whole_part p xs step.1)

-- ---- one in which something passes has two at least

length-onto_first : {X : Type 0} (x : X) (parts : List (List X)) → 1 ≤ length parts
    → length (onto_first x parts) ≡ length parts
length-onto_first x [] h = absurd (omega arith)
length-onto_first x (part ∷ parts) h = refl

some_part : {X : Type 0} (p : X → Bool) (xs : List X) → 1 ≤ length (slice_split p xs)
some_part p xs = omega (arith, length-slice_split p xs)

parts-step : {X : Type 0} (p : X → Bool) (x : X) (xs : List X) (b : Bool) → p x ≡ b → (b || list_any p xs) ≡ true
    → (list_any p xs ≡ true → 2 ≤ length (slice_split p xs)) → 2 ≤ length (slice_split p (x ∷ xs))
parts-step p x xs true e h more =
    let whole = ap length (slice_split-cons_yes p x xs e) in
    let some = some_part p xs in
    omega arith
parts-step p x xs false e h more =
    let whole = ap length (slice_split-cons_no p x xs e) in
    let same = length-onto_first x (slice_split p xs) (some_part p xs) in
    let two = more h in
    omega arith

two_parts : {X : Type 0} (p : X → Bool) (xs : List X) → list_any p xs ≡ true → 2 ≤ length (slice_split p xs)
two_parts p [] h = absurd (cc)
two_parts p (x ∷ xs) h = parts-step p x xs (p x) refl h (two_parts p xs)

-- ---- pairs

long_is_none : (key : List ℕ) (parts : List (List ℕ)) → 2 ≤ length parts → pair_of (key ∷ parts) ≡ None
long_is_none key [] h = absurd (omega arith)
long_is_none key (v ∷ []) h = absurd (omega arith)
long_is_none key (v ∷ w ∷ more) h = refl

no_key_is_none : (key : List ℕ) (parts : List (List ℕ)) → (length key == 0) ≡ true → pair_of (key ∷ parts) ≡ None
no_key_is_none key [] h = refl
no_key_is_none key (v ∷ []) h = rw h refl
no_key_is_none key (v ∷ w ∷ more) h = refl

-- ---- the piece

argument_by : (piece : List ℕ) → argument_of piece ≡ pair_of (slice_split is_equals piece)
unfolding argument_of
argument_by piece = refl

cut : (piece key value : List ℕ) → position_or_len is_equals piece < length piece → key ≡ before_first is_equals piece
    → value ≡ after_first is_equals piece
    → slice_split is_equals piece ≡ key ∷ slice_split is_equals value
cut piece key value h k v = rw (k, v) (slice_split_first is_equals piece 0 h)

pub uncut_is_none : (piece : List ℕ) → position_or_len is_equals piece ≡ length piece → argument_of piece ≡ None
uncut_is_none piece h = argument_by piece ∙ ap pair_of (one_part is_equals piece h)

pub empty_key_is_none : (piece key value : List ℕ) → position_or_len is_equals piece < length piece
    → key ≡ before_first is_equals piece → value ≡ after_first is_equals piece
    → (length key == 0) ≡ true → argument_of piece ≡ None
empty_key_is_none piece key value h k v e =
    argument_by piece ∙ ap pair_of (cut piece key value h k v) ∙ no_key_is_none key (slice_split is_equals value) e

pub cut_again_is_none : (piece key value : List ℕ) → position_or_len is_equals piece < length piece
    → key ≡ before_first is_equals piece → value ≡ after_first is_equals piece
    → list_any is_equals value ≡ true → argument_of piece ≡ None
cut_again_is_none piece key value h k v e =
    argument_by piece ∙ ap pair_of (cut piece key value h k v)
    ∙ long_is_none key (slice_split is_equals value) (two_parts is_equals value e)

pub is_pair : (piece key value : List ℕ) → position_or_len is_equals piece < length piece
    → key ≡ before_first is_equals piece → value ≡ after_first is_equals piece
    → (length key == 0) ≡ false → list_any is_equals value ≡ false → argument_of piece ≡ Some (key, value)
is_pair piece key value h k v e f =
    argument_by piece
    ∙ ap pair_of (cut piece key value h k v ∙ ap (λ parts. key ∷ parts) (whole_part is_equals value f)) ∙ rw e refl

argument-step : (piece key value : List ℕ) → position_or_len is_equals piece < length piece
    → key ≡ before_first is_equals piece → value ≡ after_first is_equals piece
    → (e f : Bool) → (length key == 0) ≡ e → list_any is_equals value ≡ f
    → argument_of piece ≡ cond (not e && not f) (Some (key, value)) None
argument-step piece key value h k v true f no_key equals = empty_key_is_none piece key value h k v no_key
argument-step piece key value h k v false true some_key equals = cut_again_is_none piece key value h k v equals
argument-step piece key value h k v false false some_key equals = is_pair piece key value h k v some_key equals

pub argument_is : (piece key value : List ℕ) → position_or_len is_equals piece < length piece
    → key ≡ before_first is_equals piece → value ≡ after_first is_equals piece
    → (b c : Bool) → b ≡ (not (length key == 0) && not (list_any is_equals value)) → b ≡ c
    → argument_of piece ≡ cond c (Some (key, value)) None
argument_is piece key value h k v b c is e =
    argument-step piece key value h k v (length key == 0) (list_any is_equals value) refl refl
    ∙ ap (λ t. cond t (Some (key, value)) None) (sym is ∙ e)

-- ---- the first pair of a key

abbrev pub value_in : List ℕ → List (List ℕ) → Option (List ℕ)
value_in key parts = option_map (λ pair. pair.1) (find (λ pair. bytes_eq pair.0 key) (filter_map argument_of parts))

found-step : (b : Bool) (x : List ℕ × List ℕ) (rest : Option (List ℕ × List ℕ)) (v : List ℕ)
    → option_map (λ pair. pair.1) (cond b (Some x) None) ≡ Some v
    → option_map (λ pair. pair.1) (cond b (Some x) rest) ≡ Some v
found-step true x rest v h = h
found-step false x rest v h = absurd (cc)

missed-step : (b : Bool) (x : List ℕ × List ℕ) (rest : Option (List ℕ × List ℕ))
    → option_map (λ pair. pair.1) (cond b (Some x) None) ≡ None
    → option_map (λ pair. pair.1) (cond b (Some x) rest) ≡ option_map (λ pair. pair.1) rest
missed-step true x rest h = absurd (cc)
missed-step false x rest h = refl

abbrev pair_value : List ℕ → List (List ℕ × List ℕ) → Option (List ℕ)
pair_value key pairs = option_map (λ pair. pair.1) (find (λ pair. bytes_eq pair.0 key) pairs)

found-first : (key : List ℕ) (o : Option (List ℕ × List ℕ)) (rest : List (List ℕ × List ℕ)) (v : List ℕ)
    → pair_value key (option_to_list o) ≡ Some v → pair_value key (cons_option o rest) ≡ Some v
found-first key None rest v h = absurd (cc)
found-first key (Some pair) rest v h = found-step (bytes_eq pair.0 key) pair (find (λ p. bytes_eq p.0 key) rest) v h

missed-first : (key : List ℕ) (o : Option (List ℕ × List ℕ)) (rest : List (List ℕ × List ℕ))
    → pair_value key (option_to_list o) ≡ None → pair_value key (cons_option o rest) ≡ pair_value key rest
missed-first key None rest h = refl
missed-first key (Some pair) rest h = missed-step (bytes_eq pair.0 key) pair (find (λ p. bytes_eq p.0 key) rest) h

abbrev pub is_semicolon : ℕ → Bool
is_semicolon b = eqb b 59

parts-cut : (text piece rest : List ℕ) → position_or_len is_semicolon text < length text
    → piece ≡ before_first is_semicolon text → rest ≡ after_first is_semicolon text
    → slice_split is_semicolon text ≡ piece ∷ slice_split is_semicolon rest
parts-cut text piece rest h a b = rw (a, b) (slice_split_first is_semicolon text 0 h)

-- the value stands in the text's first piece
pub value_is_first : (key text piece rest v : List ℕ) → position_or_len is_semicolon text < length text
    → piece ≡ before_first is_semicolon text → rest ≡ after_first is_semicolon text
    → pair_value key (option_to_list (argument_of piece)) ≡ Some v
    → value_in key (slice_split is_semicolon text) ≡ Some v
value_is_first key text piece rest v h a b found =
    ap (value_in key) (parts-cut text piece rest h a b)
    ∙ found-first key (argument_of piece) (filter_map argument_of (slice_split is_semicolon rest)) v found

-- it does not, so it is that of the rest
pub value_is_later : (key text piece rest : List ℕ) → position_or_len is_semicolon text < length text
    → piece ≡ before_first is_semicolon text → rest ≡ after_first is_semicolon text
    → pair_value key (option_to_list (argument_of piece)) ≡ None
    → value_in key (slice_split is_semicolon text) ≡ value_in key (slice_split is_semicolon rest)
value_is_later key text piece rest h a b missed =
    ap (value_in key) (parts-cut text piece rest h a b)
    ∙ missed-first key (argument_of piece) (filter_map argument_of (slice_split is_semicolon rest)) missed

last-step : (key : List ℕ) (o : Option (List ℕ × List ℕ))
    → pair_value key (cons_option o []) ≡ pair_value key (option_to_list o)
last-step key None = refl
last-step key (Some pair) = refl

-- the text is one piece
pub value_is_last : (key text : List ℕ) → position_or_len is_semicolon text ≡ length text
    → value_in key (slice_split is_semicolon text) ≡ pair_value key (option_to_list (argument_of text))
value_is_last key text h = ap (value_in key) (one_part is_semicolon text h) ∙ last-step key (argument_of text)
