-- What a GC that is alone with a host has done.
use Rattle.std.specs.{List.{fold, list_any}, Prelude.{◌≡◌, ℕ, ◌+◌, Bool, false, ◌&&◌, List, [], ◌∷◌, map, Some}}
use Rattle.kernel_types.specs.{Codes.kind_eq, Replies.is_fault, Terms.is_own, declared.call.Call.Call}
use Rattle.kernel_types.specs.declared.call.Call.TheVariants.{LinkDel, RuleDel, SettingDel, LeaseDel, CacheDel}
use Rattle.kernel_types.specs.declared.call.{Call.TheVariants.OwnersOf, Kind.{Kind, TheVariants.{Links, Rules}}}
use Rattle.kernel_types.specs.declared.call.{Kind.TheVariants.{Settings, Leases, Cached}, Reply.Reply}
use Rattle.kernel_types.specs.declared.object.{Host.Host, Tag.Tag}
use Rattle.net_conf.specs.declared.list.NetList.{NetList}
use Rattle.pod_file.specs.declared.command.Command.{Command}
use Rattle.cni_verbs.specs.{Replies.{host_after, reply_to}, Script.{State, start_state, advance, next_call}}
use Rattle.cni_verbs.specs.Script.{state_after, finish_of}
use Rattle.cni_errors.specs.declared.answer.Ending.{Ending}

-- a call that the GC made, and its reply
pub record Made : Type 0 where
  pub call : Call
  pub reply : Reply

-- the host after an entry
abbrev pub host_on : Host → Made → Host
host_on host e = host_after host e.call e.reply

abbrev pub host_from : Host → List Made → Host
host_from host es = fold host_on host es

-- each entry is the script's next call, with the host's reply or a fault
abbrev pub IsRunFrom : NetList → Command → ℕ → State → Host → List Made → Type 0
IsRunFrom list c made s host [] = Unit {0}
IsRunFrom list c made s host (e ∷ es) =
    (next_call c s ≡ Some e.call) × ((faulty : Bool) × (e.reply ≡ reply_to host e.call faulty))
    × IsRunFrom list c (made + 1) (advance list c (made + 1) s e.reply) (host_on host e) es

abbrev pub IsRun : NetList → Command → Host → List Made → Type 0
IsRun list c host es = IsRunFrom list c 0 (start_state list c) host es

abbrev pub replies : List Made → List Reply
replies es = map (λ e. e.reply) es

-- the script is over after these entries, and ends so
abbrev pub Ends : NetList → Command → List Made → Ending → Type 0
Ends list c es ending = finish_of (state_after list c (replies es)) ≡ Some (record { ending = ending; given = [] })

-- the call asks for the owners of the kind, or deletes the kind for this tag's attachment
abbrev pub is_about : Kind → Tag → Call → Bool
is_about kind tag (LinkDel att) = kind_eq Links kind && is_own att tag
is_about kind tag (RuleDel att) = kind_eq Rules kind && is_own att tag
is_about kind tag (SettingDel att) = kind_eq Settings kind && is_own att tag
is_about kind tag (LeaseDel att) = kind_eq Leases kind && is_own att tag
is_about kind tag (CacheDel att) = kind_eq Cached kind && is_own att tag
is_about kind tag (OwnersOf network asked) = kind_eq asked kind
is_about kind tag call = false

abbrev pub blames : Kind → Tag → Made → Bool
blames kind tag e = is_fault e.reply && is_about kind tag e.call

-- some call about objects of this kind and tag was faulty
abbrev pub is_blamed : List Made → Kind → Tag → Bool
is_blamed es kind tag = list_any (blames kind tag) es
