-- A line of well-formed data is read again as the data. The tokens of the line are those of the data's outline, and the
-- outline converts back.
use Rattle.std.proofs.Common.{◌≡◌, ℕ, suc, ◌≤◌, max, pos, negsuc, List, [], ◌∷◌, ◌++◌, Bool, true, false, Option, Some}
use Rattle.std.proofs.Common.{option_map, option_and_then, Ok, Greater, nat_cmp, IsUtf8, refl, sym, ap, ap₂, ◌∙◌, subst}
use Rattle.std.proofs.{Common.{arith, append-nil, decimal}, lemmas.{Bool.or_from, Cmp.nat_list_cmp_total}}
use Rattle.std.proofs.lemmas.{Fmt.IsAscii-decimal, Str.{IsUtf8-append, IsUtf8-from_ascii}}
use Rattle.std.specs.{Cmp.Lexicographic.slice_cmp, List.{AllByRecursion, Sorted.IsStrictlySortedBy}}
use Rattle.std.specs.Ordering.{ordering_reverse}
use Rattle.json.specs.Json as json
use Rattle.json.specs.{Lex.tokens, Print.quoted, Token.Token}
use Rattle.json.specs.Tree as tree
use Rattle.json.proofs.Printed.{Decimals.{IsNumber-decimal, IsNumber-signed_decimal}, Tokens.tokens-print}
use Rattle.json.proofs.Printed.{Trees.{ArePrintable-json_tokens, value-json_tokens}, Utf8.IsUtf8-are_ascii}
use Rattle.json.proofs.Printed.Utf8.{IsUtf8-quoted, IsUtf8-boolean}
use Rattle.serde_json.specs.Data.{Num, unsigned, negative, float, Data, null, boolean, number, string, array, object}
use Rattle.serde_json.specs.Data.{Items, no_items, item, Members, no_members, member, put, depth, items_depth}
use Rattle.serde_json.specs.{Data.members_depth, Read.{read, of_json, of_items, of_members, number_of, max_depth}}
use Rattle.serde_json.specs.Written.{number_text, outline, items_outline, members_outline, has_float, items_have_float}
use Rattle.serde_json.specs.Written.{members_have_float, comma_if, compact_text, items_text, members_text}
use Rattle.serde_json.proofs.{Numbers.{number_of-decimal, number_of-negative}, Texts.print-outline}
use Rattle.cni_json.specs.{Json.{json_of, line_of}, WellFormed.{EverywhereInItems, EverywhereInMembers, keys}}
use Rattle.cni_json.specs.WellFormed.{AreAscending, Has64Bits, IsProper, IsWellFormed}
use Rattle.cni_json.proofs.{Ascending.IsBelow, LineFeed.json_of-line_feed, ReadingLemmas.json_of-whole}

-- ---- numbers

number_of-number_text : (n : Num) → Has64Bits n → number_of (number_text n) ≡ Some n
number_of-number_text (unsigned n) h = number_of-decimal n h
number_of-number_text (negative (pos n)) h = absurd h
number_of-number_text (negative (negsuc n)) h = number_of-negative n h
number_of-number_text (float x) h = absurd h

IsNumber-number_text : (n : Num) → Has64Bits n → tree.HasNumbers (json.number (number_text n))
IsNumber-number_text (unsigned n) h = IsNumber-decimal n h
IsNumber-number_text (negative (pos n)) h = absurd h
IsNumber-number_text (negative (negsuc n)) h = IsNumber-signed_decimal (negsuc n) h
IsNumber-number_text (float x) h = absurd h

IsUtf8-number_text : (n : Num) → Has64Bits n → IsUtf8 (number_text n)
IsUtf8-number_text (unsigned n) h = IsUtf8-from_ascii _ (IsAscii-decimal n h)
IsUtf8-number_text (negative (pos n)) h = absurd h
IsUtf8-number_text (negative (negsuc n)) h =
    IsUtf8-append (45 ∷ []) (decimal (suc n)) (IsUtf8-are_ascii (45 ∷ []) refl)
    (IsUtf8-from_ascii _ (IsAscii-decimal (suc n) (omega arith)))
IsUtf8-number_text (float x) h = absurd h

no_float : (n : Num) → Has64Bits n → has_float (number n) ≡ false
no_float (unsigned n) h = refl
no_float (negative z) h = refl
no_float (float x) h = absurd h

mutual
  -- well-formed data has no number that a line can't hold
  pub has_float-well_formed : (d : Data) → IsWellFormed d → has_float d ≡ false
  has_float-well_formed null h = refl
  has_float-well_formed (boolean b) h = refl
  has_float-well_formed (number n) h = no_float n h
  has_float-well_formed (string s) h = refl
  has_float-well_formed (array ds) h = items_have_float-well_formed ds h.1
  has_float-well_formed (object ms) h = members_have_float-well_formed ms h.1

  items_have_float-well_formed : (ds : Items) → EverywhereInItems IsProper ds → items_have_float ds ≡ false
  items_have_float-well_formed no_items h = refl
  items_have_float-well_formed (item d ds) h =
      or_from _ _ (has_float-well_formed d h.0) (items_have_float-well_formed ds h.1)

  members_have_float-well_formed : (ms : Members) → EverywhereInMembers IsProper ms → members_have_float ms ≡ false
  members_have_float-well_formed no_members h = refl
  members_have_float-well_formed (member k d ms) h =
      or_from _ _ (has_float-well_formed d h.0) (members_have_float-well_formed ms h.1)

-- ---- the outline

mutual
  depth-outline : (d : Data) → tree.depth (outline d) ≡ depth d
  depth-outline null = refl
  depth-outline (boolean b) = refl
  depth-outline (number n) = refl
  depth-outline (string s) = refl
  depth-outline (array ds) = ap suc (items_depth-outline ds)
  depth-outline (object ms) = ap suc (members_depth-outline ms)

  items_depth-outline : (ds : Items) → tree.items_depth (items_outline ds) ≡ items_depth ds
  items_depth-outline no_items = refl
  items_depth-outline (item d ds) = ap₂ max (depth-outline d) (items_depth-outline ds)

  members_depth-outline : (ms : Members) → tree.members_depth (members_outline ms) ≡ members_depth ms
  members_depth-outline no_members = refl
  members_depth-outline (member k d ms) = ap₂ max (depth-outline d) (members_depth-outline ms)

mutual
  HasNumbers-outline : (d : Data) → IsWellFormed d → tree.HasNumbers (outline d)
  HasNumbers-outline null h = tt
  HasNumbers-outline (boolean b) h = tt
  HasNumbers-outline (number n) h = IsNumber-number_text n h
  HasNumbers-outline (string s) h = tt
  HasNumbers-outline (array ds) h = ItemsHaveNumbers-outline ds h.1
  HasNumbers-outline (object ms) h = MembersHaveNumbers-outline ms h.1

  ItemsHaveNumbers-outline : (ds : Items) → EverywhereInItems IsProper ds → tree.ItemsHaveNumbers (items_outline ds)
  ItemsHaveNumbers-outline no_items h = tt
  ItemsHaveNumbers-outline (item d ds) h = (HasNumbers-outline d h.0, ItemsHaveNumbers-outline ds h.1)

  MembersHaveNumbers-outline : (ms : Members) → EverywhereInMembers IsProper ms
      → tree.MembersHaveNumbers (members_outline ms)
  MembersHaveNumbers-outline no_members h = tt
  MembersHaveNumbers-outline (member k d ms) h = (HasNumbers-outline d h.0, MembersHaveNumbers-outline ms h.1)

-- ---- the outline converts back

abbrev followed_by : Members → Members → Members
followed_by no_members after = after
followed_by (member k d ms) after = member k d (followed_by ms after)

followed_by-nothing : (ms : Members) → followed_by ms no_members ≡ ms
followed_by-nothing no_members = refl
followed_by-nothing (member k d ms) = ap (member k d) (followed_by-nothing ms)

followed_by-one : (found : Members) (k : List ℕ) (d : Data) (after : Members)
    → followed_by (followed_by found (member k d no_members)) after ≡ followed_by found (member k d after)
followed_by-one no_members k d after = refl
followed_by-one (member l e ms) k d after = ap (member l e) (followed_by-one ms k d after)

above_all : (l k : List ℕ) (d : Data) (found after : Members) → IsBelow l (keys (followed_by found (member k d after)))
    → slice_cmp nat_cmp k l ≡ Greater
above_all l k d no_members after h = nat_list_cmp_total.antisymm k l ∙ ap ordering_reverse h.0
above_all l k d (member m e ms) after h = above_all l k d ms after h.1

-- a key above those before it goes last
put_last : (k : List ℕ) (d : Data) (found after : Members) → AreAscending (followed_by found (member k d after))
    → put k d found ≡ followed_by found (member k d no_members)
unfolding IsStrictlySortedBy
put_last k d no_members after h = refl
put_last k d (member l e found) after h =
    rw (above_all l k d found after h.0) (ap (member l e) (put_last k d found after h.1))

mutual
  of_json-outline : (d : Data) → IsWellFormed d → of_json (outline d) ≡ Some d
  of_json-outline null h = refl
  of_json-outline (boolean b) h = refl
  of_json-outline (number n) h = ap (option_map number) (number_of-number_text n h)
  of_json-outline (string s) h = refl
  of_json-outline (array ds) h = ap (option_map array) (of_items-outline ds h.1)
  of_json-outline (object ms) h = ap (option_map object) (of_members-outline ms no_members h.0.0 h.1)

  of_items-outline : (ds : Items) → EverywhereInItems IsProper ds → of_items (items_outline ds) ≡ Some ds
  of_items-outline no_items h = refl
  of_items-outline (item d ds) h =
      ap₂ (λ o p. option_and_then (λ e. option_map (item e) p) o) (of_json-outline d h.0) (of_items-outline ds h.1)

  of_members-outline : (ms found : Members) → AreAscending (followed_by found ms) → EverywhereInMembers IsProper ms
      → of_members (members_outline ms) found ≡ Some (followed_by found ms)
  of_members-outline no_members found ascending h = ap Some (sym (followed_by-nothing found))
  of_members-outline (member k d ms) found ascending h =
      let before = followed_by found (member k d no_members) in
      let same = followed_by-one found k d ms in
      ap (option_and_then (λ e. of_members (members_outline ms) (put k e found))) (of_json-outline d h.0)
      ∙ ap (of_members (members_outline ms)) (put_last k d found ms ascending)
      ∙ of_members-outline ms before (subst AreAscending (sym same) ascending) h.1 ∙ ap Some same

-- ---- the text

IsUtf8-comma_if : (later : Bool) → IsUtf8 (comma_if later)
IsUtf8-comma_if true = IsUtf8-are_ascii (44 ∷ []) refl
IsUtf8-comma_if false = IsUtf8-are_ascii [] refl

after_byte : (x : ℕ) (text : List ℕ) → IsUtf8 (x ∷ []) → IsUtf8 text → IsUtf8 (x ∷ text)
after_byte x text first rest = IsUtf8-append (x ∷ []) text first rest

mutual
  IsUtf8-compact_text : (d : Data) → IsWellFormed d → IsUtf8 (compact_text d)
  IsUtf8-compact_text null h = IsUtf8-are_ascii _ refl
  IsUtf8-compact_text (boolean b) h = IsUtf8-boolean b
  IsUtf8-compact_text (number n) h = IsUtf8-number_text n h
  IsUtf8-compact_text (string s) h = IsUtf8-quoted s h
  IsUtf8-compact_text (array ds) h = after_byte 91 _ (IsUtf8-are_ascii (91 ∷ []) refl) (IsUtf8-items_text false ds h.1)
  IsUtf8-compact_text (object ms) h =
      after_byte 123 _ (IsUtf8-are_ascii (123 ∷ []) refl) (IsUtf8-members_text false ms h.0.1 h.1)

  IsUtf8-items_text : (later : Bool) (ds : Items) → EverywhereInItems IsProper ds → IsUtf8 (items_text later ds)
  IsUtf8-items_text later no_items h = IsUtf8-are_ascii (93 ∷ []) refl
  IsUtf8-items_text later (item d ds) h =
      IsUtf8-append (comma_if later) _ (IsUtf8-comma_if later)
      (IsUtf8-append (compact_text d) _ (IsUtf8-compact_text d h.0) (IsUtf8-items_text true ds h.1))

  IsUtf8-members_text : (later : Bool) (ms : Members) → AllByRecursion IsUtf8 (keys ms)
      → EverywhereInMembers IsProper ms → IsUtf8 (members_text later ms)
  IsUtf8-members_text later no_members texts h = IsUtf8-are_ascii (125 ∷ []) refl
  IsUtf8-members_text later (member k d ms) texts h =
      IsUtf8-append (comma_if later) _ (IsUtf8-comma_if later)
      (IsUtf8-append (quoted k) _ (IsUtf8-quoted k texts.0) (after_byte 58 _ (IsUtf8-are_ascii (58 ∷ []) refl)
      (IsUtf8-append (compact_text d) _ (IsUtf8-compact_text d h.0) (IsUtf8-members_text true ms texts.1 h.1))))

-- ---- the line

tokens-compact_text : (d : Data) → IsWellFormed d → tokens (compact_text d) ≡ tree.json_tokens (outline d)
tokens-compact_text d h =
    ap tokens (sym (print-outline d)) ∙ tokens-print _ (ArePrintable-json_tokens (outline d) (HasNumbers-outline d h))

abbrev last_value : Option (json.Json × List Token) → Option Data
last_value o = option_and_then of_json (option_and_then (λ p. json.if_last p.0 p.1) o)

pub read-compact_text : (d : Data) → IsWellFormed d → depth d ≤ max_depth → read (compact_text d) ≡ Some d
read-compact_text d h shallow =
    ap (λ ts. last_value (json.value max_depth ts)) (tokens-compact_text d h ∙ sym (append-nil _))
    ∙ ap last_value
    (value-json_tokens (outline d) max_depth [] (subst (λ (n : ℕ). n ≤ max_depth) (sym (depth-outline d)) shallow))
    ∙ of_json-outline d h

-- what a line was written for is what it is read as
pub json_of-line_of : (d : Data) → IsWellFormed d → depth d ≤ max_depth → json_of (line_of d) ≡ Ok d
json_of-line_of d h shallow =
    json_of-line_feed (compact_text d) ∙ json_of-whole (compact_text d) d (IsUtf8-compact_text d h)
    (read-compact_text d h shallow) (has_float-well_formed d h)

-- a text that reads as d does so with a line feed behind it
pub json_of-text : (text : List ℕ) (d : Data) → IsUtf8 text → (depth d ≤ max_depth → read text ≡ Some d)
    → has_float d ≡ false → depth d ≤ max_depth → json_of (text ++ 10 ∷ []) ≡ Ok d
json_of-text text d utf8 is_read whole shallow =
    json_of-line_feed text ∙ json_of-whole text d utf8 (is_read shallow) whole
