-- How many calls a run makes at most.
use Rattle.std.specs.Prelude.{◌≡◌, ◌≢◌, ℕ, ◌+◌, ◌*◌, ◌≤◌, false, List, [], ◌∷◌, ◌++◌, length, Some, slice_get}
use Rattle.cni_result.specs.declared.cached.Cached.{Cached}
use Rattle.cni_errors.specs.CommandFields.{att_of}
use Rattle.verb_questions.specs.Questions.{cached_share}
use Rattle.plugin_chain.specs.Wanted.{kinds_of, sets_of}
use Rattle.kernel_types.specs.declared.call.Reply.TheVariants.{Entry as Found}
use Rattle.net_conf.specs.declared.list.NetList.{NetList}
use Rattle.plugin_base.specs.Share.{Share}
use Rattle.pod_file.specs.{Commands.is_of_network, declared.command.Command.Command}
use Rattle.pod_file.specs.declared.command.Verb.TheVariants as verbs
use Rattle.gc_sweep.specs.Deletions.{deletions_of}
use Rattle.pod_workers.specs.{CallCounts.{AddsInAtMost, most_calls}, Legal.Legal, Plans.{Placed, commands_of, list_for}}
use Rattle.pod_workers.specs.{World.{World, own_replies}, declared.plan.Entry.Entry}
use Rattle.pod_laws.specs.Moments.{objects_after, own_entries}

-- this is the first entry of the command at place n, after these
pub record IsFirst (w : World) (n : ℕ) (before : List Entry) (first : Entry) : Type 0 where
  pub rest : List Entry
  pub split : w.history ≡ before ++ first ∷ rest
  pub own : first.command ≡ n + 1
  pub none_before : own_entries n before ≡ []

-- what a CHECK asks for of the objects of a share
abbrev pub asked_of : Share → ℕ
asked_of s = length s.links + length s.addresses + length s.routes + length s.rules + length s.settings
    + length s.leases

-- the calls that a command has made, by its verb
pub record IsBounded (w : World) (n : ℕ) (c : Placed) (list : NetList) : Type 0 where
  pub add : c.command.verb ≡ verbs.Add → (most : ℕ) → AddsInAtMost list c.command most
      → length (own_replies w n) ≤ 2 * most + length (kinds_of list) + 1
  pub del : c.command.verb ≡ verbs.Del → (before : List Entry) (first : Entry) → IsFirst w n before first
      → length (own_replies w n)
      ≤ length (kinds_of list) + 1 + deletions_of (objects_after w.plan (att_of c.command) before)
  pub check : c.command.verb ≡ verbs.Check → (before : List Entry) (first : Entry) (cached : Cached)
      → IsFirst w n before first → first.reply ≡ Found (Some cached)
      → length (own_replies w n) ≤ 2 + asked_of (cached_share list c.command cached)
  pub unknown : c.command.verb ≡ verbs.Check → (before : List Entry) (first : Entry) → IsFirst w n before first
      → ((cached : Cached) → first.reply ≢ Found (Some cached)) → length (own_replies w n) ≤ 1
  pub status : c.command.verb ≡ verbs.Status → length (own_replies w n) ≤ length (sets_of list) + 1
  pub version : c.command.verb ≡ verbs.Version → own_replies w n ≡ []

-- each command of a list is bounded by its verb, stopped or not, and whatever others do meanwhile
abbrev pub EachRunIsBounded : Type 0
EachRunIsBounded = (w : World) → Legal w → (n : ℕ) (c : Placed) (list : NetList)
    → slice_get (commands_of w.plan) n ≡ Some c → list_for w.plan c.command ≡ Some list → IsBounded w n c list

-- and an ADD has so many calls at most, whatever addresses it is leased
abbrev pub EachAddHasMost : Type 0
EachAddHasMost = (list : NetList) (c : Command) → AddsInAtMost list c (most_calls list c)

-- a change from outside is one call at most
abbrev pub EachChangeIsOneCall : Type 0
EachChangeIsOneCall = (w : World) → Legal w → (n : ℕ) (c : Placed) → slice_get (commands_of w.plan) n ≡ Some c
    → is_of_network c.command.verb ≡ false → length (own_replies w n) ≤ 1
