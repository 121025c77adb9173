-- JSON data as a tree of numbers, one to one, by which a proof tells values apart that contracts see as data.
use Rattle.std.specs.{Coded.{Coded, code_by, coded⊎, coded_ℕ, coded_ℤ, coded_list, coded_bool}, Prelude.{◌≡◌, ℕ, ℤ}}
use Rattle.std.specs.Prelude.{List, Float, ◌⊎◌, refl}
use Rattle.std.proofs.Common.{inl, inr, ap, ap₂}
use Rattle.serde_json.specs.Data.{Num, unsigned, negative, float, Data, null, boolean, number, string, array, object}
use Rattle.serde_json.specs.Data.{Items, no_items, item, Members, no_members, member}
use base.Stored.{Gv, gnil, gnum, gcons, coded_float}

-- ---- parts

abbrev of_number : Num → ℕ ⊎ (ℤ ⊎ Float)
of_number (unsigned n) = inl n
of_number (negative z) = inr (inl z)
of_number (float x) = inr (inr x)

abbrev to_number : ℕ ⊎ (ℤ ⊎ Float) → Num
to_number (inl n) = unsigned n
to_number (inr (inl z)) = negative z
to_number (inr (inr x)) = float x

pub number_again : (n : Num) → to_number (of_number n) ≡ n
number_again (unsigned n) = refl
number_again (negative z) = refl
number_again (float x) = refl

abbrev number_code : Coded Num
number_code =
    code_by (ℕ ⊎ (ℤ ⊎ Float)) (coded⊎ coded_ℕ (coded⊎ coded_ℤ coded_float)) of_number to_number number_again

abbrev text_code : Coded (List ℕ)
text_code = coded_list coded_ℕ

-- ---- the whole; the head of a pair tells the kind

abbrev head : Gv → Gv
head gnil = gnil
head (gnum n) = gnil
head (gcons a b) = a

abbrev tail : Gv → Gv
tail gnil = gnil
tail (gnum n) = gnil
tail (gcons a b) = b

abbrev mutual
  of_data : Data → Gv
  of_data null = gnil
  of_data (boolean b) = coded_bool.code b
  of_data (number n) = gcons gnil (number_code.code n)
  of_data (string s) = gcons (gnum 0) (text_code.code s)
  of_data (array ds) = gcons (gcons gnil gnil) (of_items ds)
  of_data (object ms) = gcons (gcons (gnum 0) gnil) (of_members ms)

  of_items : Items → Gv
  of_items no_items = gnil
  of_items (item d ds) = gcons (of_data d) (of_items ds)

  of_members : Members → Gv
  of_members no_members = gnil
  of_members (member k d ms) = gcons (text_code.code k) (gcons (of_data d) (of_members ms))

same_member : (k l : List ℕ) (d e : Data) (ms ns : Members) → k ≡ l → d ≡ e → ms ≡ ns
    → member k d ms ≡ member l e ns
same_member k l d e ms ns p q r = λ i. member (p i) (q i) (r i)

mutual
  pub same_data : (d e : Data) → of_data d ≡ of_data e → d ≡ e
  same_data null null p = refl
  same_data (boolean b) (boolean c) p = ap boolean (coded_bool.inj b c p)
  same_data (number m) (number n) p = ap number (number_code.inj m n (ap tail p))
  same_data (string s) (string t) p = ap string (text_code.inj s t (ap tail p))
  same_data (array ds) (array es) p = ap array (same_items ds es (ap tail p))
  same_data (object ms) (object ns) p = ap object (same_members ms ns (ap tail p))
  same_data d e p = cc

  same_items : (ds es : Items) → of_items ds ≡ of_items es → ds ≡ es
  same_items no_items no_items p = refl
  same_items (item d ds) (item e es) p = ap₂ item (same_data d e (ap head p)) (same_items ds es (ap tail p))
  same_items ds es p = cc

  same_members : (ms ns : Members) → of_members ms ≡ of_members ns → ms ≡ ns
  same_members no_members no_members p = refl
  same_members (member k d ms) (member l e ns) p =
      same_member k l d e ms ns (text_code.inj k l (ap head p))
      (same_data d e (ap (λ g. head (tail g)) p)) (same_members ms ns (ap (λ g. tail (tail g)) p))
  same_members ms ns p = cc

abbrev pub data_code : Coded Data
data_code = record { code = of_data; inj = same_data }
