-- What a plugin's call makes, lies on and stands under.
use Rattle.std.specs.{List.list_any, Prelude.{ℕ, Bool, true, false, not, ◌&&◌, ◌||◌, List, [], ◌∷◌, filter, filter_map}}
use Rattle.std.specs.{Prelude.{Option, Some, None, is_none, if◌then◌else◌}, Str.bytes_eq}
use Rattle.kernel_types.specs.{Apply.Calls.is_own_at, Terms.is_link_of, declared.call.Call.Call}
use Rattle.kernel_types.specs.declared.call.Call.TheVariants.{BridgeEnsure, GatewayEnsure, VethAdd, MacvlanAdd, LinkSet}
use Rattle.kernel_types.specs.declared.{call.Call.TheVariants.{AddrAdd, RouteAdd, SettingSet, CachePut}, object.Att.Att}
use Rattle.kernel_types.specs.declared.object.{Link.Link, LinkKind.LinkKind, Tag.TheVariants.Own}

-- ---- before the leases, and after them

-- it ensures this bridge
abbrev pub ensures_bridge : Option (List ℕ) → Call → Bool
ensures_bridge (Some bridge) (BridgeEnsure name mtu promisc) = bytes_eq name bridge
ensures_bridge _ _ = false

-- it makes links, or ensures the bridge that they are under
abbrev pub makes_interface : Option (List ℕ) → Call → Bool
makes_interface bridge (BridgeEnsure name mtu promisc) = ensures_bridge bridge (BridgeEnsure name mtu promisc)
makes_interface bridge (VethAdd host_end inner_end) = true
makes_interface bridge (MacvlanAdd link) = true
makes_interface bridge call = false

-- it makes no link and caches no result, and a setting that it makes is of this namespace
abbrev pub is_later_call : List ℕ → Call → Bool
is_later_call netns (VethAdd host_end inner_end) = false
is_later_call netns (MacvlanAdd link) = false
is_later_call netns (CachePut att cached) = false
is_later_call netns (SettingSet setting) = bytes_eq setting.ns netns
is_later_call netns call = true

-- ---- links

-- the container's end is there
abbrev pub has_inner : Att → List ℕ → List Link → Bool
has_inner att netns links = list_any (is_link_of netns att.ifname (Own att)) links

-- the masters of the links of a kind
abbrev pub masters_of : (LinkKind → Bool) → List Link → List (List ℕ)
masters_of is_kind links = filter_map (λ l. l.master) (filter (λ l. is_kind l.kind) links)

-- what the call lies on is there
abbrev pub lies_on : List Link → Call → Bool
lies_on links (AddrAdd obj) = list_any (is_link_of obj.ns obj.link obj.tag) links
lies_on links (RouteAdd obj) = list_any (is_link_of obj.ns obj.link obj.tag) links
lies_on links (LinkSet att key mac mtu tx_qlen promisc allmulti) = list_any (is_own_at att key) links
lies_on links _ = true

abbrev pub changes_links : Call → Bool
changes_links (VethAdd host_end inner_end) = true
changes_links (MacvlanAdd link) = true
changes_links (LinkSet att key mac mtu tx_qlen promisc allmulti) = true
changes_links _ = false

abbrev pub at_most_one : {X : Type 0} → (X → Bool) → List X → Bool
at_most_one test [] = true
at_most_one test (x ∷ xs) = if test x then not (list_any test xs) else at_most_one test xs

-- where the calls may set values of links they do so once at most, and else never
abbrev pub set_links_once : Bool → List Call → Bool
set_links_once sets calls = if sets then at_most_one changes_links calls else not (list_any changes_links calls)

-- ---- the bridge

-- the bridge that the call stands under
abbrev pub bridge_for : Call → Option (List ℕ)
bridge_for (VethAdd host_end inner_end) = host_end.master
bridge_for (GatewayEnsure bridge cidr) = Some bridge
bridge_for _ = None

-- the first is none, or the second
abbrev pub is_none_or : Option (List ℕ) → Option (List ℕ) → Bool
is_none_or None bridge = true
is_none_or (Some name) None = false
is_none_or (Some name) (Some bridge) = bytes_eq name bridge

-- it lies on these links, and stands under no bridge but this
abbrev pub stands_on : List Link → Option (List ℕ) → Call → Bool
stands_on links bridge call = lies_on links call && is_none_or (bridge_for call) bridge

-- some call ensures the bridge, if there is one
abbrev pub is_ensured : Option (List ℕ) → List Call → Bool
is_ensured None calls = true
is_ensured (Some bridge) calls = list_any (ensures_bridge (Some bridge)) calls

-- a call that stands under a bridge stands under this one, and comes after all calls that ensure it
abbrev pub is_ensured_first : Option (List ℕ) → List Call → Bool
is_ensured_first bridge [] = true
is_ensured_first bridge (call ∷ calls) =
    (is_none (bridge_for call)
    || (is_none_or (bridge_for call) bridge && not (list_any (ensures_bridge bridge) (call ∷ calls))))
    && is_ensured_first bridge calls
