-- Which calls a run makes of an ADD that is granted all that it asks for (CNI specification, section 3, "Adding an
-- attachment").
use Rattle.std.specs.Prelude.{◌≡◌, ℕ, Bool, true, false, List, [], ◌∷◌, length, take, slice_get, Some, None, is_some, ⊤}
use Rattle.cni_addr.specs.declared.address.Addr.{Addr}
use Rattle.kernel_types.specs.declared.call.{Call.{Call, TheVariants.LeaseNext}, Reply.{Reply, TheVariants.Done}}
use Rattle.net_conf.specs.declared.list.NetList.{NetList}
use Rattle.pod_file.specs.declared.command.Command.{Command}
use Rattle.pod_file.specs.declared.command.Verb.TheVariants as verbs
use Rattle.cni_errors.specs.{CommandFields.{att_of, add_refusal}, declared.answer.Ending.TheVariants.Added}
use Rattle.cni_verbs.specs.{Mappings.mappings_of, Progress.turn_by, Script.{Finish, Calls, Finishes, leased_by}}
use Rattle.cni_verbs.specs.Script.{leases_in}
use Rattle.plugin_chain.specs.Wanted.{add_calls, sets_of}

-- ---- granted calls

abbrev pub is_done : Reply → Bool
is_done Done = true
is_done reply = false

-- the reply grants the call: it leases an address where the call asks for one, and is Done else
abbrev pub is_granted_by : Call → Reply → Bool
is_granted_by (LeaseNext att number set) reply = is_some (leased_by reply)
is_granted_by call reply = is_done reply

-- each call is granted, by the reply at its place
abbrev pub AreGranted : List Call → List Reply → Type 0
AreGranted [] [] = ⊤
AreGranted (call ∷ calls) (reply ∷ replies) = (is_granted_by call reply ≡ true) × AreGranted calls replies
AreGranted calls replies = ⊥

-- ---- the calls of an ADD

-- where it is leased these addresses
abbrev pub calls_of_add : NetList → Command → List Addr → List Call
calls_of_add list c given = add_calls list (att_of c) c.netns (mappings_of list c) given

-- the ADD ends with a result, and these addresses are leased
abbrev pub added : List Addr → Finish
added given = record { ending = Added; given = given }

-- the command's script makes these calls and no others, each after the replies to those before it, and is then added
pub record MakesInTurn (list : NetList) (c : Command) (calls : List Call) (replies : List Reply) : Type 0 where
  pub each : (made : ℕ) (call : Call) → slice_get calls made ≡ Some call
      → turn_by (Some list) c (take made replies) ≡ Calls call
  pub ends : turn_by (Some list) c replies ≡ Finishes (added (leases_in replies))

-- an ADD that its fields don't refuse makes just its calls, where each of them is granted
abbrev pub AddMakesItsCalls : Type 0
AddMakesItsCalls = (list : NetList) (c : Command) (replies : List Reply) → c.verb ≡ verbs.Add → add_refusal c ≡ None
    → AreGranted (calls_of_add list c (leases_in replies)) replies
    → MakesInTurn list c (calls_of_add list c (leases_in replies)) replies

-- replies that grant all calls of an ADD with these addresses
pub record Granting (list : NetList) (c : Command) (given : List Addr) : Type 0 where
  pub replies : List Reply
  pub granted : AreGranted (calls_of_add list c given) replies
  pub leased : leases_in replies ≡ given

-- there are such replies for any addresses, one a range set
abbrev pub AddMayBeGranted : Type 0
AddMayBeGranted = (list : NetList) (c : Command) (given : List Addr) → length given ≡ length (sets_of list)
    → Granting list c given
