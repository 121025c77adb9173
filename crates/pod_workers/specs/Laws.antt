-- Laws over every legal world, whatever was interleaved, stopped or refused memory.
use Rattle.std.specs.{List.All, Prelude.{◌≡◌, ℕ, true, false, List, Ok, Some, slice_get}}
use Rattle.kernel_types.specs.{Allowed.IsAllowed, Sound.{IsSound, NoAddressTwice}, declared.call.Call.Call}
use Rattle.net_conf.specs.{WellFormed.IsWellFormedList, declared.list.NetList.NetList}
use Rattle.pod_file.specs.{Commands.is_of_network, WellFormed.IsWellFormedPods}
use Rattle.pod_workers.specs.{Join.joined, Legal.Legal, Plans.{Placed, IsWellFormed, commands_of, list_for}}
use Rattle.pod_workers.specs.{World.{World, IsReady, host_of, own_replies, next_of}, declared.plan.Plan.Plan}
use Rattle.pod_workers.specs.declared.plan.Next.TheVariants as next

-- each host that a plan comes to is sound
abbrev pub EveryHostIsSound : Type 0
EveryHostIsSound = (w : World) → Legal w → IsSound (host_of w)

-- no network ever has an address leased twice
abbrev pub NoAddressIsLeasedTwice : Type 0
NoAddressIsLeasedTwice = (w : World) → Legal w → (network : List ℕ) → NoAddressTwice network (host_of w)

-- each call that a ready command makes, unless it is a fault, may be made in the host there
abbrev pub EveryCallMayBeMade : Type 0
EveryCallMayBeMade =
    (w : World) (n : ℕ) (c : Placed) (call : Call) → Legal w → IsReady w n c
    → next_of w c.command (own_replies w n) ≡ next.Call call false → IsAllowed (host_of w) call

-- the network of each command whose verb speaks of one has its list
abbrev pub EachNetworkCommandHasItsList : Type 0
EachNetworkCommandHasItsList =
    (w : World) → Legal w → (n : ℕ) (c : Placed) → slice_get (commands_of w.plan) n ≡ Some c
    → is_of_network c.command.verb ≡ true → (list : NetList) × (list_for w.plan c.command ≡ Some list)

-- a plan that was joined is well formed, where its lists and its pods are
abbrev pub JoinedPlansAreWellFormed : Type 0
JoinedPlansAreWellFormed = (p q : Plan) → joined p ≡ Ok q → All IsWellFormedList p.lists → IsWellFormedPods p.pods
    → IsWellFormed q
