-- The list of a command's network.
use Rattle.pod_workers.proofs.Names.{◌≡◌, ℕ, Bool, true, false, not, List, Option, Some, None, slice_get, refl, sym, ap}
use Rattle.pod_workers.proofs.Names.{subst, if◌then◌else◌, false≢true, ◌&&◌, is_some, RunView, Host, NetList}
use Rattle.pod_workers.proofs.Names.{is_of_network, Command, Verb}
use Rattle.cni_verbs.specs.Progress.{is_gc}
use Rattle.pod_file.specs.declared.command.Verb.TheVariants as verbs
use Rattle.pod_workers.specs.{Laws.EachNetworkCommandHasItsList, Legal.Legal, Plans.{Placed, commands_of, list_for}}
use Rattle.pod_workers.specs.{Plans.{list_named, lacks_list}, Tasks.IsListed, World.World, declared.index.Place.Place}
use Rattle.pod_workers.proofs.{Books.KeptByNumber.IsFound, Hosts.{Lasts.list_all-at, Sound.fine}}

named-list : (b : Bool) (o : Option NetList) → b ≡ true → not (b && not (is_some o)) ≡ true
    → (list : NetList) × ((if b then o else None) ≡ Some list)
named-list true (Some list) network there = (list, refl)
named-list true None network there = absurd (false≢true there)
named-list false o network there = absurd (false≢true network)

pub listed_network : EachNetworkCommandHasItsList
unfolding list_for
listed_network w legal n c at network =
    named-list (is_of_network c.command.verb) (list_named w.plan.lists c.command.network) network
    (list_all-at (λ (d : Placed). not (lacks_list w.plan.lists d.command)) (commands_of w.plan) n c
    (fine w legal).plan.networks at)

gc-of_network : (v : Verb) → is_gc v ≡ true → is_of_network v ≡ true
gc-of_network verbs.Gc gc = refl
gc-of_network _ gc = cc

command-listed : (w : World) → Legal w → (n : ℕ) (c : Placed) → slice_get (commands_of w.plan) n ≡ Some c
    → IsListed w.plan.lists c.command
unfolding list_for
command-listed w legal n c at gc = ap is_some (listed_network w legal n c at (gc-of_network c.command.verb gc)).1

pub found-listed : (host : Host) (slots : List (Option RunView)) (places : List Place) (before : ℕ) (w : World)
    (number n : ℕ) (s : Option RunView) (of : Command)
    → IsFound host slots places before w number n s of → IsListed w.plan.lists of
found-listed host slots places before w number n s of f =
    subst (IsListed w.plan.lists) (sym f.of_is) (command-listed w f.here.kept.legal n f.command f.here.ready.there)
