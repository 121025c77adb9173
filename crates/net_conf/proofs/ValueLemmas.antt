-- Lists of values and the data that they stand for.
use Rattle.std.proofs.Common.{◌≡◌, ◌≤◌, ◌&&◌, Bool, List, [], ◌∷◌, length, drop, false, nat_eq, ap, refl, arith}
use Rattle.std.proofs.lemmas.{Bool.or_parts, Grind.common_steps}
use Rattle.std.specs.List.{list_all}
use Rattle.serde_json.proofs.Views.{items_len-items_view}
use Rattle.serde_json.specs.{Data.{Data, array}, View.{view, items_view}, Written.{has_float, items_have_float}}
use Rattle.serde_json.specs.declared.value.Value.{Value}
use Rattle.cni_json.specs.Each.{each_after}
use Rattle.net_conf.specs.{Accepted.is_empty_list, Plugins.{later_plugins, later_at}, Sets.{is_set, is_object}}
use Rattle.net_conf.specs.Sets.{all_items}

pub empty_items : (xs : List Value) → is_empty_list (array (items_view xs)) ≡ nat_eq (length xs) 0
empty_items [] = refl
empty_items (x ∷ xs) = grind (arith, common_steps)

-- each item of the data passes the test where each value does
pub all_items-items_view : (test : Data → Bool) (xs : List Value)
    → all_items test (items_view xs) ≡ list_all (λ x. test (view x)) xs
all_items-items_view test [] = refl
all_items-items_view test (x ∷ xs) = ap (λ b. test (view x) && b) (all_items-items_view test xs)

-- a list of values, by its length
pub is_set-some : (xs : List Value) → 1 ≤ length xs
    → is_set (array (items_view xs)) ≡ list_all (λ x. is_object (view x)) xs
is_set-some [] some = absurd (omega arith)
is_set-some (x ∷ xs) some = all_items-items_view is_object (x ∷ xs)

pub later_plugins-some : (xs : List Value) → 1 ≤ length xs
    → later_plugins (items_view xs) ≡ each_after later_at [] (items_view (drop 1 xs))
later_plugins-some [] some = absurd (omega arith)
later_plugins-some (x ∷ xs) some = refl

-- what is left of whole numbers
pub items_have_float-rest : (xs : List Value) → items_have_float (items_view xs) ≡ false
    → items_have_float (items_view (drop 1 xs)) ≡ false
items_have_float-rest [] whole = refl
items_have_float-rest (x ∷ xs) whole = (or_parts (has_float (view x)) _ whole).1

pub ruleset counts = (items_len-items_view)

pub ruleset tests = (all_items-items_view)

pub ruleset by_length = (is_set-some, later_plugins-some, items_have_float-rest)
