-- What a CHECK is answered (CNI specification, section 3, "Checking attachment").
use Rattle.std.specs.{List.{list_any, list_all}, Prelude.{◌≡◌, ℕ, ◌&&◌, Bool, true, false, List, [], ◌∷◌, Option, Some}}
use Rattle.std.specs.Prelude.{None}
use Rattle.cni_addr.specs.declared.mac.Mac.{Mac}
use Rattle.cni_result.specs.declared.{cached.Cached.Cached, result.Interface.Interface}
use Rattle.cni_errors.specs.{CommandFields.{att_of, del_refusal}, declared.answer.{Cause.Cause, Ending.Ending}}
use Rattle.cni_errors.specs.declared.answer.{Ending.TheVariants.{Skipped, Refused}, Missed.Missed}
use Rattle.verb_questions.specs.Questions.{cached_share, check_questions}
use Rattle.plugin_chain.specs.Wanted.{bridge_of}
use Rattle.cni_errors.specs.declared.answer.Cause.TheVariants as causes
use Rattle.cni_errors.specs.declared.answer.Skip.TheVariants as skips
use Rattle.kernel_types.specs.{Apply.Calls.has_object, Equal.{link_eq, addr_obj_eq, route_eq, rule_eq, setting_eq}}
use Rattle.kernel_types.specs.{Equal.lease_eq, Terms.cached_in, declared.call.Probe.TheVariants.BridgeAt}
use Rattle.kernel_types.specs.declared.object.Host.{Host}
use Rattle.net_conf.specs.declared.list.NetList.{NetList}
use Rattle.plugin_base.specs.Share.{Share}
use Rattle.pod_file.specs.declared.command.Command.{Command}
use Rattle.pod_file.specs.declared.command.Verb.TheVariants as verbs
use Rattle.pod_workers.specs.{Legal.Legal, Plans.Placed, World.World, declared.plan.Entry.Entry}
use Rattle.pod_laws.specs.{Answers.{EachEnding, EndsByFault, EndsByTest, HoldsOfItsList}, Granted.EndsByDenied}
use Rattle.pod_laws.specs.Moments.{EachCalling, has_fault, host_at_end, host_at_start}

-- ---- what the host holds

-- each of these objects is among all, by this equality
abbrev pub are_in : {X : Type 0} → (X → X → Bool) → List X → List X → Bool
are_in equal objects all = list_all (λ x. list_any (λ y. equal y x) all) objects

abbrev pub has_bridge_by : Host → List ℕ → Option Mac → Bool
has_bridge_by host name None = true
has_bridge_by host name (Some mac) = has_object host (BridgeAt name mac)

abbrev pub has_first_bridge : Host → List Interface → Bool
has_first_bridge host [] = true
has_first_bridge host (i ∷ is) = has_bridge_by host i.name i.mac

-- a bridge of the host has the name and the MAC address of the result's first interface, where the plugin has a bridge
abbrev pub has_bridge_for : Host → Option (List ℕ) → List Interface → Bool
has_bridge_for host None interfaces = true
has_bridge_for host (Some bridge) interfaces = has_first_bridge host interfaces

-- each object is in the host as it is here; the cached result is not asked for
abbrev pub has_objects_of : Host → Share → Bool
has_objects_of host s =
    are_in link_eq s.links host.links
    && (are_in addr_obj_eq s.addresses host.addresses &&
    (are_in route_eq s.routes host.routes &&
    (are_in rule_eq s.rules host.rules &&
    (are_in setting_eq s.settings host.settings && are_in lease_eq s.leases host.leases))))

-- the host holds all that the cached result says that there is
abbrev pub holds_cached : NetList → Command → Cached → Host → Bool
holds_cached list c cached host = has_bridge_for host (bridge_of list.first) cached.result.interfaces
    && has_objects_of host (cached_share list c cached)

-- ---- the ending

abbrev pub IsMissing : Cause → Type 0
IsMissing cause = (what : Missed) × (cause ≡ causes.Missing what)

-- an object is missing (code 110), and the first is named: of bridge, links, addresses, routes, rules, settings and
-- leases
abbrev pub LacksObject : NetList → Command → Cached → Host → Ending → Type 0
LacksObject list c cached host ending = EndsByDenied host (check_questions list c cached) IsMissing ending

-- with no cached result the attachment is unknown (code 3)
abbrev pub EndsByEntry : NetList → Command → Host → Option Cached → Ending → Type 0
EndsByEntry list c host None ending = ending ≡ Refused causes.Unknown
EndsByEntry list c host (Some cached) ending = EndsByTest (holds_cached list c cached host) ending
    (LacksObject list c cached host ending)

-- the list may disable it (`disableCheck`)
abbrev pub EndsByList : NetList → Command → List Entry → Host → Bool → Ending → Type 0
EndsByList list c entries host true ending = (entries ≡ []) × (ending ≡ Skipped skips.Check)
EndsByList list c entries host false ending = EndsByFault entries (has_fault entries) ending
    (EndsByEntry list c host (cached_in host (att_of c)) ending)

-- how a CHECK ends: by its fields, by the list, by a fault, and else by what the host holds
abbrev pub EndsCheck : NetList → Command → List Entry → Host → Option Cause → Ending → Type 0
EndsCheck list c entries host (Some cause) ending = (entries ≡ []) × (ending ≡ Refused cause)
EndsCheck list c entries host None ending = EndsByList list c entries host list.disable_check ending

-- with the host at its last entry, whatever other commands did between its entries
abbrev pub WasChecked : Type 0
WasChecked = EachEnding verbs.Check (λ list c entries host. EndsCheck list c entries host (del_refusal c))

-- ---- at its start

-- the attachment has one cached result in both hosts, and both hold all that it says, or neither does
pub record HoldAlike (list : NetList) (c : Command) (start last : Host) : Type 0 where
  pub entry : cached_in start (att_of c) ≡ cached_in last (att_of c)
  pub objects : (cached : Cached) → cached_in start (att_of c) ≡ Some cached
      → holds_cached list c cached start ≡ holds_cached list c cached last

-- the hosts right before the first entry of the command at place n and right after its last
abbrev pub HoldsFromItsStart : World → ℕ → Placed → Type 0
HoldsFromItsStart w n c = HoldsOfItsList w c.command
    (λ list. HoldAlike list c.command (host_at_start w n) (host_at_end w n))

-- so what a CHECK found at its last entry was so at its first, whatever other commands did meanwhile, and also where it
-- was stopped
abbrev pub ChecksHoldFromTheirStart : Type 0
ChecksHoldFromTheirStart = (w : World) → Legal w → EachCalling w verbs.Check (HoldsFromItsStart w)
