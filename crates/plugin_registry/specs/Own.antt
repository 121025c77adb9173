-- What a plugin may do for the attachment that it is asked about.
use Rattle.std.specs.{List.list_all, Prelude.{◌≡◌, ◌&&◌, Bool, true, false, not, List, is_none}}
use Rattle.kernel_types.specs.{Terms.{fits_master, is_host_ns, is_own, is_peer_at, is_veth}, declared.call.Call.Call}
use Rattle.kernel_types.specs.declared.call.Call.TheVariants.{VethAdd, MacvlanAdd, AddrAdd, RouteAdd, RuleAppend}
use Rattle.kernel_types.specs.declared.{call.{Call.TheVariants.SettingSet, Kind.Kind}, object.{Att.Att, Link.Link}}
use Rattle.kernel_types.specs.declared.call.Kind.TheVariants as kinds
use Rattle.plugin_base.specs.Calls.{IsWellFormedCall, has_kind, is_of_kinds, is_plugin_call_of}
use Rattle.plugin_registry.specs.declared.ask.Ask.{Ask}

-- both ends of a pair are the attachment's: one in the host's own namespace and one in another, each the other's peer
abbrev pub is_own_pair : Att → Link → Link → Bool
is_own_pair att host_end inner_end =
    (is_own att host_end.tag && is_own att inner_end.tag)
    && ((is_veth host_end.kind && is_veth inner_end.kind)
    && ((is_peer_at inner_end.ns inner_end.name host_end.peer && is_peer_at host_end.ns host_end.name inner_end.peer)
    && (is_host_ns host_end.ns && not (is_host_ns inner_end.ns))))

-- a link of the attachment that is no end of a pair, in another namespace than the host's own
abbrev pub is_own_inner_link : Att → Link → Bool
is_own_inner_link att link =
    is_own att link.tag && (fits_master link.kind link.master && (is_none link.peer && not (is_host_ns link.ns)))

-- The call is well formed, each object that it would append is this attachment's, and of these kinds. Addresses and
-- routes go with links.
abbrev pub is_own_call : Att → List Kind → Call → Bool
is_own_call att ks (VethAdd host_end inner_end) = is_own_pair att host_end inner_end && has_kind kinds.Links ks
is_own_call att ks (MacvlanAdd link) = is_own_inner_link att link && has_kind kinds.Links ks
is_own_call att ks (AddrAdd obj) = is_own att obj.tag && has_kind kinds.Links ks
is_own_call att ks (RouteAdd obj) = is_own att obj.tag && has_kind kinds.Links ks
is_own_call att ks (RuleAppend rule) = is_own att rule.tag && has_kind kinds.Rules ks
is_own_call att ks (SettingSet setting) =
    (is_own att setting.tag && not (is_host_ns setting.ns)) && has_kind kinds.Settings ks
is_own_call att ks call = false

-- calls that make objects of the attachment that is asked about alone, of these kinds
abbrev pub OwnCalls : Ask → List Kind → List Call → Type 0
OwnCalls ask ks calls = list_all (is_own_call ask.att ks) calls ≡ true

-- the call is well formed, one that a plugin makes for this attachment, and what it makes is of these kinds
pub record IsPluginCall (att : Att) (ks : List Kind) (call : Call) : Type 0 where
  pub well_formed : IsWellFormedCall call
  pub for_attachment : is_plugin_call_of att call ≡ true
  pub of_kinds : is_of_kinds ks call ≡ true

-- so is each call that a plugin of a registry may give
abbrev pub OwnCallsArePluginCalls : Type 0
OwnCallsArePluginCalls = (att : Att) (ks : List Kind) (call : Call) → is_own_call att ks call ≡ true
    → IsPluginCall att ks call
