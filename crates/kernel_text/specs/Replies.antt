-- Calls and replies as texts, and an entry of the history as it is printed.
use Rattle.std.specs.Prelude.{ℕ, List, ◌++◌, length, codes, decimal, true, false, Some, None}
use Rattle.serde_json.specs.Data.{Data, object, no_members, put}
use Rattle.cni_addr.specs.AddrText.{addr_text}
use Rattle.cni_json.specs.Members.{text_data, number_data, ◌▷◌}
use Rattle.kernel_text.specs.Texts.{tag_text}
use Rattle.kernel_types.specs.declared.call.Call.{Call, TheVariants.{Begin, BridgeEnsure, GatewayEnsure, ForwardEnsure}}
use Rattle.kernel_types.specs.declared.call.Call.TheVariants.{VethAdd, MacvlanAdd, LinkSet, AddrAdd, RouteAdd}
use Rattle.kernel_types.specs.declared.call.Call.TheVariants.{RuleAppend, SettingSet, LeaseNext, CachePut, LinkDel}
use Rattle.kernel_types.specs.declared.call.Call.TheVariants.{RuleDel, SettingDel, LeaseDel, CacheDel, HasObj, CacheGet}
use Rattle.kernel_types.specs.declared.call.{Call.TheVariants.{OwnersOf, PoolFree, NsChange, Outside}, Reply.Reply}
use Rattle.kernel_types.specs.declared.call.Reply.TheVariants.{Done, NoNs, NoLink, Taken, Empty, Leased, Gone, Has}
use Rattle.kernel_types.specs.declared.call.Reply.TheVariants.{Owners, Entry, Fault}

-- the name of a call
abbrev pub call_name : Call → List ℕ
call_name (Begin att netns) = codes "Begin"
call_name (BridgeEnsure name mtu promisc) = codes "BridgeEnsure"
call_name (GatewayEnsure bridge cidr) = codes "GatewayEnsure"
call_name (ForwardEnsure family) = codes "ForwardEnsure"
call_name (VethAdd host_end inner_end) = codes "VethAdd"
call_name (MacvlanAdd link) = codes "MacvlanAdd"
call_name (LinkSet att key mac mtu tx_qlen promisc allmulti) = codes "LinkSet"
call_name (AddrAdd obj) = codes "AddrAdd"
call_name (RouteAdd obj) = codes "RouteAdd"
call_name (RuleAppend rule) = codes "RuleAppend"
call_name (SettingSet setting) = codes "SettingSet"
call_name (LeaseNext att number set) = codes "LeaseNext"
call_name (CachePut att cached) = codes "CachePut"
call_name (LinkDel att) = codes "LinkDel"
call_name (RuleDel att) = codes "RuleDel"
call_name (SettingDel att) = codes "SettingDel"
call_name (LeaseDel att) = codes "LeaseDel"
call_name (CacheDel att) = codes "CacheDel"
call_name (HasObj probe) = codes "HasObj"
call_name (CacheGet att) = codes "CacheGet"
call_name (OwnersOf network kind) = codes "OwnersOf"
call_name (PoolFree network set) = codes "PoolFree"
call_name (NsChange name add) = codes "NsChange"
call_name (Outside change) = codes "Outside"

-- a reply: of owners their number, of a cached result whether there is one
abbrev pub reply_text : Reply → List ℕ
reply_text Done = codes "Done"
reply_text NoNs = codes "NoNs"
reply_text NoLink = codes "NoLink"
reply_text (Taken tag) = codes "Taken " ++ tag_text tag
reply_text Empty = codes "Empty"
reply_text (Leased addr) = codes "Leased " ++ addr_text addr
reply_text (Gone true) = codes "Gone true"
reply_text (Gone false) = codes "Gone false"
reply_text (Has true) = codes "Has true"
reply_text (Has false) = codes "Has false"
reply_text (Owners owners) = codes "Owners " ++ decimal (length owners)
reply_text (Entry None) = codes "Entry none"
reply_text (Entry (Some cached)) = codes "Entry some"
reply_text Fault = codes "Fault"

-- an entry of the history: its number from 1, the number of its command, the name of the call, and the reply
unfoldable pub trace_data : ℕ → ℕ → Call → Reply → Data
trace_data index command call reply = object (no_members
    ▷ put (codes "call") (text_data (call_name call))
    ▷ put (codes "i") (number_data index)
    ▷ put (codes "n") (number_data command)
    ▷ put (codes "reply") (text_data (reply_text reply)))
