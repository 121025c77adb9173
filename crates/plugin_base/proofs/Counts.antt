-- How many calls there are of a kind.
use Rattle.std.proofs.Common.{ℕ, ◌*◌, ◌≤◌, Bool, true, false, List, [], ◌∷◌, map, length, arith, mul-suc}
use Rattle.std.proofs.lemmas.List.{length-append, length-map}
use Rattle.std.specs.Prelude.{flat_map, if◌then◌else◌}
use Rattle.cni_addr.specs.{Lists.each_key_once, declared.address.Family.TheVariants.{V4, V6}}
use Rattle.cni_result.specs.declared.result.RouteEntry.{RouteEntry}
use Rattle.kernel_types.specs.{Apply.Calls.{is_same_addr, is_same_route}, Equal.rule_eq}
use Rattle.kernel_types.specs.declared.call.Call.TheVariants.{AddrAdd, ForwardEnsure, RouteAdd, RuleAppend}
use Rattle.kernel_types.specs.declared.{call.Given.Given, object.Att.Att}
use Rattle.plugin_base.specs.{Families.has_family, Shapes.{address_on, addresses_on, forward_calls, forward_for}}
use Rattle.plugin_base.specs.Shapes.{masquerade_of, masquerade_rules, route_on, routes_on}
use Rattle.plugin_base.proofs.KeyLists.{length-each_key_once}

-- so many for each
pub length-each : {X Y : Type 0} (most : ℕ) (f : X → List Y) → ((x : X) → length (f x) ≤ most) → (xs : List X)
    → length (flat_map f xs) ≤ most * length xs
length-each most f few [] = omega arith
length-each most f few (x ∷ xs) =
    let rest = length-each most f few xs in
    let one = few x in
    let both = length-append (f x) (flat_map f xs) in
    let step = mul-suc most (length xs) in
    omega arith

pub length-if : {X : Type 0} (b : Bool) (xs : List X) (most : ℕ) → length xs ≤ most
    → length (if b then xs else []) ≤ most
length-if true xs most h = h
length-if false xs most h = omega arith

pub length-addresses : (att : Att) (netns : List ℕ) (gs : List Given)
    → length (map AddrAdd (addresses_on att netns gs)) ≤ length gs
length-addresses att netns gs =
    let a = length-map (addresses_on att netns gs) AddrAdd in
    let b = length-each_key_once is_same_addr (map (address_on att netns) gs) in
    let c = length-map gs (address_on att netns) in
    omega arith

pub length-routes : (att : Att) (netns : List ℕ) (gs : List Given) (entries : List RouteEntry)
    → length (map RouteAdd (routes_on att netns gs entries)) ≤ length entries
length-routes att netns gs entries =
    let a = length-map (routes_on att netns gs entries) RouteAdd in
    let b = length-each_key_once is_same_route (map (route_on att netns gs) entries) in
    let c = length-map entries (route_on att netns gs) in
    omega arith

pub length-masquerades : (ip_masq : Bool) (att : Att) (gs : List Given)
    → length (map RuleAppend (masquerade_rules ip_masq att gs)) ≤ 2 * length gs
length-masquerades ip_masq att gs =
    let a = length-map (masquerade_rules ip_masq att gs) RuleAppend in
    let b = length-each_key_once rule_eq (flat_map (masquerade_of att) gs) in
    let c = length-each 2 (masquerade_of att) (λ g. omega arith) gs in
    let d = length-if ip_masq (each_key_once rule_eq (flat_map (masquerade_of att) gs)) (2 * length gs) (omega arith) in
    omega arith

pub length-forward : (gs : List Given) → length (forward_calls gs) ≤ 2
length-forward gs =
    let a = length-if (has_family V4 gs) (ForwardEnsure V4 ∷ []) 1 (omega arith) in
    let b = length-if (has_family V6 gs) (ForwardEnsure V6 ∷ []) 1 (omega arith) in
    let c = length-append (forward_for V4 gs) (forward_for V6 gs) in
    omega arith
