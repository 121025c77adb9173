-- What sets of ranges and routes keep that are read.
use Rattle.std.proofs.Common.{◌≡◌, ℕ, suc, ◌+◌, ◌<◌, Bool, true, false, List, [], ◌∷◌, ◌++◌, length, Option, Some, None}
use Rattle.std.proofs.{Common.{Ok, refl, sym, ap, ◌∙◌, subst, arith, length-append}, lemmas.Bool.and_parts}
use Rattle.std.proofs.lemmas.{List.Elements.{All-nil, All-cons, All-append}, Option.IfSome_then}
use Rattle.std.specs.{List.list_all, Prelude.{All, ok_or, option_map}}
use Rattle.serde_json.specs.Data.{Data, null, boolean, number, string, array, object, Items, no_items, item}
use Rattle.serde_json.specs.Events.{items_len}
use Rattle.cni_json.specs.{Each.{each, each_after, with_prefix}, declared.fields.Field.{Field, TheVariants.Absent}}
use Rattle.cni_json.specs.declared.fields.Field.TheVariants.{WrongKind, Here}
use Rattle.cni_addr.proofs.Networks.{IsCidr-network_of, network_of_network, family_eq-true}
use Rattle.cni_addr.specs.{CidrText.cidr_of_text, Network.{IsCidr, network_of}, Value.CidrValue}
use Rattle.cni_addr.specs.declared.range.RangeSet.{RangeSet}
use Rattle.cni_result.specs.declared.result.RouteEntry.{RouteEntry}
use Rattle.ip_pool.proofs.InOrder.{all_pairs-left, all_pairs-right}
use Rattle.ip_pool.specs.Pool.{is_apart, are_apart}
use Rattle.net_conf.proofs.{Endings.{each_tested, each_count}, RangeFacts.{addr_if_at-ok, range_at-ok, read_is_cidr}}
use Rattle.cni_json.proofs.{EachLemmas.each_after-prefix, Endings.{goes, ok_same, passed, each_all}}
use Rattle.net_conf.specs.{Ranges.{is_address_of, range_at}, Routes.{destination_of, destination_at, route_at}}
use Rattle.net_conf.specs.{Routes.{read_routes_of, routes_at}, Sets.{set_of, is_set, all_items, is_of_one_family}}
use Rattle.net_conf.specs.Sets.{ranges_of, has_subnet, listed_at, is_set_count, one_if, well_formed, own_sets_of}
use Rattle.net_conf.specs.{Sets.{separate, sets_at}, WellFormed.{IsWellFormedRange, IsWellFormedSet, IsWellFormedRoute}}
use Rattle.net_conf.specs.declared.error.ConfError.{ConfError}

-- ---- a set

-- what a set keeps by itself
abbrev IsFilled : RangeSet → Type 0
IsFilled set = (0 < length set.ranges) × All IsWellFormedRange set.ranges

some_items : (ds : Items) → is_set (array ds) ≡ true → 0 < items_len ds
some_items no_items is = cc
some_items (item d ds) is = omega arith

set_of-ok : (d : Data) (set : RangeSet) → is_set d ≡ true → set_of d ≡ Ok set → IsFilled set
set_of-ok null set form is = cc
set_of-ok (boolean b) set form is = cc
set_of-ok (number n) set form is = cc
set_of-ok (string s) set form is = cc
set_of-ok (object ms) set form is = cc
set_of-ok (array ds) set form is =
    let read = goes (each range_at ds) _ set is in
    let count = each_count range_at ds read.value read.first in
    let some = some_items ds form in
    let filled : 0 < length read.value = omega arith in
    subst IsFilled (ok_same read.rest)
    (filled, each_all range_at IsWellFormedRange range_at-ok ds read.value read.first)

-- ---- ranges that are apart

-- where the sets are separate and each is filled, each is well formed
all_sets : (sets : List RangeSet) → are_apart (ranges_of sets) ≡ true → list_all is_of_one_family sets ≡ true
    → All IsFilled sets → All IsWellFormedSet sets
all_sets [] apart one filled = All-nil IsWellFormedSet
all_sets (set ∷ sets) apart one filled =
    let first = all_pairs-left is_apart set.ranges (ranges_of sets) apart in
    let others = all_pairs-right is_apart set.ranges (ranges_of sets) apart in
    let families = and_parts (is_of_one_family set) (list_all is_of_one_family sets) one in
    let here = filled 0 set (omega arith) in
    let later : All IsFilled sets = λ k d h. filled (suc k) d (omega arith) in
    All-cons IsWellFormedSet set sets
    (record { some = here.0; ranges = here.1; apart = first; one_family = families.0 })
    (all_sets sets others families.1 later)

-- ---- all sets

-- what sets keep together
pub record AreWellFormedSets (sets : List RangeSet) : Type 0 where
  pub count : is_set_count (length sets) ≡ true
  pub each_set : All IsWellFormedSet sets
  pub apart : are_apart (ranges_of sets) ≡ true

own_sets_of-ok : (own : Bool) (d : Data) (sets : List RangeSet) → own_sets_of own d ≡ Ok sets
    → (length sets ≡ one_if own) × All IsFilled sets
own_sets_of-ok false d sets is =
    subst (λ (found : List RangeSet). (length found ≡ 0) × All IsFilled found) (ok_same is) (refl, All-nil IsFilled)
own_sets_of-ok true d sets is =
    let read = goes (range_at d) _ sets is in
    let r = read.value in
    let set : RangeSet = record { ranges = r ∷ [] } in
    let ranges = All-cons IsWellFormedRange r [] (range_at-ok d r read.first) (All-nil IsWellFormedRange) in
    let filled : 0 < length set.ranges = omega arith in
    subst (λ (found : List RangeSet). (length found ≡ 1) × All IsFilled found) (ok_same read.rest)
    (refl, All-cons IsFilled set [] (filled, ranges) (All-nil IsFilled))

pub sets_at-ok : (d : Data) (sets : List RangeSet) → sets_at d ≡ Ok sets → AreWellFormedSets sets
unfolding sets_at
sets_at-ok d sets is =
    let has_own = has_subnet d in
    let listed = goes (listed_at d) _ sets is in
    let form = goes (well_formed has_own listed.value) _ sets listed.rest in
    let own = goes (own_sets_of has_own d) _ sets form.rest in
    let found = goes (each_after (λ _ member. set_of member) own.value listed.value) _ sets own.rest in
    let tests = goes (separate found.value) _ sets found.rest in
    let joined : with_prefix own.value (each set_of listed.value) ≡ Ok found.value =
    sym (each_after-prefix set_of own.value listed.value) ∙ found.first in
    let others = goes (each set_of listed.value) _ found.value joined in
    let all = ok_same {x = own.value ++ others.value} {y = found.value} others.rest in
    let form_tests =
    and_parts (is_set_count (one_if has_own + items_len listed.value)) (all_items is_set listed.value)
    (passed _ tt form.value _ form.first).0 in
    let separate_tests =
    and_parts (are_apart (ranges_of found.value)) (list_all is_of_one_family found.value)
    (passed _ tt tests.value _ tests.first).0 in
    let own_filled = own_sets_of-ok has_own d own.value own.first in
    let other_count = each_count set_of listed.value others.value others.first in
    let others_filled =
    each_tested is_set set_of IsFilled set_of-ok listed.value others.value form_tests.1 others.first in
    let filled : All IsFilled found.value =
    subst (All IsFilled) all (All-append IsFilled own.value others.value own_filled.1 others_filled) in
    let size : length found.value ≡ one_if has_own + items_len listed.value =
    sym (ap length all) ∙ (length-append own.value others.value ∙ sum_same own_filled.0 other_count) in
    subst AreWellFormedSets (ok_same tests.rest)
    (record {
      count = ap is_set_count size ∙ form_tests.0;
      each_set = all_sets found.value separate_tests.0 separate_tests.1 filled;
      apart = separate_tests.0;
    })
  where
    sum_same : {a b c d : ℕ} → a ≡ c → b ≡ d → a + b ≡ c + d
    sum_same p q = cc

-- ---- routes

network_or-ok : (o : Option CidrValue) (e : ConfError) (c : CidrValue) → ((v : CidrValue) → o ≡ Some v → IsCidr v)
    → ok_or (option_map network_of o) e ≡ Ok c → IsCidr c × (network_of c ≡ c)
network_or-ok None e c kept is = cc
network_or-ok (Some v) e c kept is =
    subst (λ n. IsCidr n × (network_of n ≡ n)) (ok_same is) (IsCidr-network_of v (kept v refl), network_of_network v)

destination_of-ok : (f : Field (List ℕ)) (c : CidrValue) → destination_of f ≡ Ok c → IsCidr c × (network_of c ≡ c)
destination_of-ok Absent c is = cc
destination_of-ok WrongKind c is = cc
destination_of-ok (Here text) c is = network_or-ok (cidr_of_text text) _ c (read_is_cidr text) is

destination_at-ok : (d : Data) (c : CidrValue) → destination_at d ≡ Ok c → IsCidr c × (network_of c ≡ c)
unfolding destination_at
destination_at-ok d c is = destination_of-ok _ c is

route_at-ok : (d : Data) (route : RouteEntry) → route_at d ≡ Ok route → IsWellFormedRoute route
unfolding route_at
route_at-ok d route is =
    let dst = goes _ _ _ is in
    let gw = goes _ _ _ dst.rest in
    let kept = destination_at-ok d dst.value dst.first in
    let hop = addr_if_at-ok _ _ (is_address_of dst.value.addr.family) d gw.value gw.first in
    subst IsWellFormedRoute (ok_same gw.rest)
    (record {
      is_cidr = kept.0;
      no_host_bits = kept.1;
      hop_is_addr = IfSome_then gw.value hop (λ a kept. kept.0);
      hop_family = IfSome_then gw.value hop (λ a kept. family_eq-true a.family dst.value.addr.family kept.1);
    })

read_routes_of-ok : (f : Field Items) (routes : List RouteEntry) → read_routes_of f ≡ Ok routes
    → All IsWellFormedRoute routes
read_routes_of-ok Absent routes is = subst (All IsWellFormedRoute) (ok_same is) (All-nil IsWellFormedRoute)
read_routes_of-ok WrongKind routes is = cc
read_routes_of-ok (Here ds) routes is = each_all route_at IsWellFormedRoute route_at-ok ds routes is

pub routes_at-ok : (d : Data) (routes : List RouteEntry) → routes_at d ≡ Ok routes → All IsWellFormedRoute routes
unfolding routes_at
routes_at-ok d routes is = read_routes_of-ok _ routes is
