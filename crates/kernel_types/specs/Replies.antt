-- What a kernel may answer.
use Rattle.std.specs.Prelude.{Bool, true, false}
use Rattle.kernel_types.specs.declared.call.Call.{Call, TheVariants.{LinkSet, LinkDel, RuleDel, SettingDel, LeaseDel}}
use Rattle.kernel_types.specs.declared.call.Call.TheVariants.{CacheDel, HasObj, PoolFree, NsChange, Outside}
use Rattle.kernel_types.specs.declared.call.Reply.{Reply, TheVariants.{Taken, Owners, Entry, Fault}}

-- a fault is named by a command, and never comes from a kernel
abbrev pub is_fault : Reply → Bool
is_fault Fault = true
is_fault reply = false

-- the calls that are never refused memory: they only remove, change numbers in place or ask for a truth value
abbrev pub needs_no_memory : Call → Bool
needs_no_memory (LinkSet att key mac mtu tx_qlen promisc allmulti) = true
needs_no_memory (LinkDel att) = true
needs_no_memory (RuleDel att) = true
needs_no_memory (SettingDel att) = true
needs_no_memory (LeaseDel att) = true
needs_no_memory (CacheDel att) = true
needs_no_memory (HasObj probe) = true
needs_no_memory (PoolFree network set) = true
needs_no_memory (NsChange name false) = true
needs_no_memory (Outside change) = true
needs_no_memory call = false

-- a reply that holds a text or a list, and so takes memory
abbrev pub holds_text_or_list : Reply → Bool
holds_text_or_list (Taken tag) = true
holds_text_or_list (Owners owners) = true
holds_text_or_list (Entry cached) = true
holds_text_or_list reply = false
