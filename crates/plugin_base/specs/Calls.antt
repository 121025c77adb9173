-- Whose a plugin's call is, whether it is well formed, and what calls append.
use Rattle.std.specs.{List.list_any, Prelude.{◌≡◌, Bool, true, false, not, ◌&&◌, ◌||◌, List, [], ◌∷◌, fold, is_some}}
use Rattle.kernel_types.specs.{Allowed.{IsVethPair, IsInnerLink, HasRangesApart, IsAllowedChange}, Apply.apply}
use Rattle.kernel_types.specs.{Codes.kind_eq, Isolation.{names_att, ensures_shared, deletes_for}, Sound.IsSound}
use Rattle.kernel_types.specs.{Terms.{is_host_ns, is_owned}, declared.call.Call.{Call, TheVariants.{Begin, VethAdd}}}
use Rattle.kernel_types.specs.declared.call.Call.TheVariants.{MacvlanAdd, AddrAdd, RouteAdd, RuleAppend, SettingSet}
use Rattle.kernel_types.specs.declared.call.Call.TheVariants.{LeaseNext, CachePut, CacheGet, PoolFree, NsChange}
use Rattle.kernel_types.specs.declared.call.{Call.TheVariants.Outside, Kind.Kind, Reply.TheVariants.Done}
use Rattle.kernel_types.specs.declared.object.{Att.Att, Host.Host}
use Rattle.kernel_types.specs.declared.call.Kind.TheVariants as kinds
use Rattle.plugin_base.specs.Share.{Share, share_of, share_plus}

-- the call is one that an ADD or a DEL of this attachment makes: it names it, or ensures what all attachments share
abbrev pub is_call_of : Att → Call → Bool
is_call_of att call = ensures_shared call || names_att att call

-- of an attachment's calls, one that no plugin makes: it begins, an address is leased, objects are deleted, or the
-- cached result is asked for
abbrev pub is_beside_plugins : Call → Bool
is_beside_plugins (Begin att netns) = true
is_beside_plugins (LeaseNext att number set) = true
is_beside_plugins (CacheGet att) = true
is_beside_plugins call = is_some (deletes_for call)

-- the call is one that a plugin makes for this attachment: it makes its objects, or what all attachments share
abbrev pub is_plugin_call_of : Att → Call → Bool
is_plugin_call_of att call = not (is_beside_plugins call) && is_call_of att call

-- The call is well formed: what `IsAllowed` asks of its fields alone. (A lease asks besides that the host's last
-- address of the pool is one of its candidates.)
abbrev pub IsWellFormedCall : Call → Type 0
IsWellFormedCall (VethAdd host_end inner_end) = IsVethPair host_end inner_end
IsWellFormedCall (MacvlanAdd link) = IsInnerLink link
IsWellFormedCall (AddrAdd obj) = is_owned obj.tag ≡ true
IsWellFormedCall (RouteAdd obj) = is_owned obj.tag ≡ true
IsWellFormedCall (RuleAppend rule) = is_owned rule.tag ≡ true
IsWellFormedCall (SettingSet setting) = (is_owned setting.tag ≡ true) × (is_host_ns setting.ns ≡ false)
IsWellFormedCall (LeaseNext att number set) = HasRangesApart set
IsWellFormedCall (PoolFree network set) = HasRangesApart set
IsWellFormedCall (NsChange name add) = is_host_ns name ≡ false
IsWellFormedCall (Outside change) = IsAllowedChange change
IsWellFormedCall call = Unit {0}

abbrev pub has_kind : Kind → List Kind → Bool
has_kind kind ks = list_any (kind_eq kind) ks

-- what the call makes is of these kinds; addresses and routes lie on links, and go with them
abbrev pub is_of_kinds : List Kind → Call → Bool
is_of_kinds ks (VethAdd host_end inner_end) = has_kind kinds.Links ks
is_of_kinds ks (MacvlanAdd link) = has_kind kinds.Links ks
is_of_kinds ks (AddrAdd obj) = has_kind kinds.Links ks
is_of_kinds ks (RouteAdd obj) = has_kind kinds.Links ks
is_of_kinds ks (RuleAppend rule) = has_kind kinds.Rules ks
is_of_kinds ks (SettingSet setting) = has_kind kinds.Settings ks
is_of_kinds ks (LeaseNext att number set) = has_kind kinds.Leases ks
is_of_kinds ks (CachePut att cached) = has_kind kinds.Cached ks
is_of_kinds ks call = true

-- each of the calls, applied in order, replies Done
abbrev pub AllDone : Host → List Call → Type 0
AllDone host [] = Unit {0}
AllDone host (call ∷ calls) = ((apply host call).1 ≡ Done) × AllDone (apply host call).0 calls

-- the host after them
abbrev pub applied : Host → List Call → Host
applied host calls = fold (λ h call. (apply h call).0) host calls

-- in every sound host in which they are all done, the calls append this share of the attachment's objects
abbrev pub AppendsShare : Att → List Call → Share → Type 0
AppendsShare att calls share = (host : Host) → IsSound host → AllDone host calls
    → share_of att (applied host calls) ≡ share_plus (share_of att host) share
