-- The sets of ranges (the `host-local` plugin, `ranges`, and the older form `subnet`).
use Rattle.std.specs.{List.{list_all, flat_map}, Prelude.{◌+◌, ◌≤◌, ◌&&◌, ℕ, length, IsTrue, List, [], ◌∷◌, codes}}
use Rattle.std.specs.Prelude.{Bool, true, false, nat_le, if◌then◌else◌, Result, Ok, is_some, ⊤}
use Rattle.serde_json.specs.{Data.{Data, array, Items, no_items, item}, Events.items_len, Find.as_object}
use Rattle.cni_json.specs.{Each.{each, each_after}, Fields.{member_at, list_field}, Outcome.◌>>=◌}
use Rattle.cni_json.specs.declared.fields.Field.{Field}
use Rattle.cni_addr.specs.declared.{address.Family.Family, range.{Range.Range, RangeSet.RangeSet}}
use Rattle.ip_pool.specs.Pool.{are_apart}
use Rattle.net_conf.specs.{Members.with_default, Ranges.{is_address_of, range_at}, Refusals.invalid}
use Rattle.net_conf.specs.declared.error.ConfError.{ConfError}

abbrev pub wrong_ranges : {A : Type 0} → Result A ConfError
wrong_ranges = invalid (codes "ranges")

-- the ranges of a list of objects
abbrev pub set_of : Data → Result RangeSet ConfError
set_of (array ds) = do
  ranges ← each range_at ds
  Ok (record { ranges = ranges })
set_of d = wrong_ranges

abbrev pub is_object : Data → Bool
is_object d = is_some (as_object d)

-- each item passes the test
abbrev pub all_items : (Data → Bool) → Items → Bool
all_items test no_items = true
all_items test (item d ds) = test d && all_items test ds

-- a list of one object or more
abbrev pub is_set : Data → Bool
is_set (array (item d ds)) = all_items is_object (item d ds)
is_set d = false

abbrev pub is_range_of : Family → Range → Bool
is_range_of family r = is_address_of family r.subnet.addr

-- each range has the family of the first
abbrev pub have_one_family : List Range → Bool
have_one_family [] = true
have_one_family (r ∷ rs) = list_all (is_range_of r.subnet.addr.family) rs

abbrev pub is_of_one_family : RangeSet → Bool
is_of_one_family set = have_one_family set.ranges

-- all ranges, set by set
abbrev pub ranges_of : List RangeSet → List Range
ranges_of sets = flat_map (λ set. set.ranges) sets

-- no address is in two ranges, and no set has two families
abbrev pub are_separate : List RangeSet → Bool
are_separate sets = are_apart (ranges_of sets) && list_all is_of_one_family sets

-- the object has a `subnet` of its own
abbrev pub has_subnet : Data → Bool
has_subnet d = is_some (member_at (codes "subnet") d)

abbrev pub sets_listed : Field Items → Result Items ConfError
sets_listed f = with_default (codes "ranges") no_items Ok f

-- the listed sets, not yet read
unfoldable pub listed_at : Data → Result Items ConfError
listed_at d = sets_listed (list_field (codes "ranges") d)

-- the most sets that a configuration has
abbrev pub most_sets : ℕ
most_sets = 65536

-- neither too many, nor is an address in two of their ranges
pub record AreRangeSets (sets : List RangeSet) : Type 0 where
  pub few : length sets ≤ most_sets
  pub apart : IsTrue (are_apart (ranges_of sets))

-- one set or more, and not too many
abbrev pub is_set_count : ℕ → Bool
is_set_count n = nat_le 1 n && nat_le n most_sets

abbrev pub one_if : Bool → ℕ
one_if true = 1
one_if false = 0

-- the sets have the right number and form; their ranges are not looked into
abbrev pub well_formed : Bool → Items → Result ⊤ ConfError
well_formed own listed =
    if is_set_count (one_if own + items_len listed) && all_items is_set listed then Ok tt else wrong_ranges

-- the set of the object's own `subnet`, if it has one
abbrev pub own_sets_of : Bool → Data → Result (List RangeSet) ConfError
own_sets_of false d = Ok []
own_sets_of true d = do
  range ← range_at d
  Ok (record { ranges = range ∷ [] } ∷ [])

-- no two ranges share an address, and each set has one family
abbrev pub separate : List RangeSet → Result ⊤ ConfError
separate sets = if are_separate sets then Ok tt else wrong_ranges

-- the own set, and then the listed ones
unfoldable pub sets_at : Data → Result (List RangeSet) ConfError
sets_at d = do
  listed ← listed_at d
  _ ← well_formed (has_subnet d) listed
  own ← own_sets_of (has_subnet d) d
  sets ← each_after (λ _ member. set_of member) own listed
  _ ← separate sets
  Ok sets
