-- What an ADD that was answered with a result has made (CNI specification, section 3, "Adding an attachment").
use Rattle.std.specs.Prelude.{◌≡◌, ℕ, true, Some, slice_get}
use Rattle.cni_addr.specs.{Equal.addr_eq, Lists.distinct}
use Rattle.cni_result.specs.declared.result.AddResult.{AddResult}
use Rattle.cni_errors.specs.CommandFields.{att_of}
use Rattle.cni_verbs.specs.{Mappings.mappings_of, Script.leases_in}
use Rattle.plugin_chain.specs.Wanted.{result_of_add, sets_of, wanted}
use Rattle.cni_errors.specs.declared.answer.Answer.TheVariants as answers
use Rattle.host_local.specs.Laws.{AreCandidates}
use Rattle.net_conf.specs.declared.list.NetList.{NetList}
use Rattle.pod_file.specs.declared.command.Command.{Command}
use Rattle.pod_file.specs.declared.command.Verb.TheVariants as verbs
use Rattle.pod_workers.specs.{Legal.Legal, Plans.{Placed, commands_of, list_for}, World.{World, own_replies}}
use Rattle.pod_laws.specs.{Moments.{objects_at_end, own_entries}, Refused.NothingRefuses}

-- It was leased one address a range set, no two the same, and these decide its result. At its last entry its attachment
-- has exactly the objects that they ask for, list by list, in order. Neither its fields nor an entry refused it.
pub record HasMade (w : World) (n : ℕ) (c : Command) (list : NetList) (r : AddResult) : Type 0 where
  pub verb : c.verb ≡ verbs.Add
  pub unrefused : NothingRefuses c (own_entries n w.history)
  pub leased : AreCandidates (sets_of list) (leases_in (own_replies w n))
  pub apart : distinct addr_eq (leases_in (own_replies w n)) ≡ true
  pub result : r ≡ result_of_add list (att_of c) c.netns (leases_in (own_replies w n))
  pub objects : objects_at_end w n c
      ≡ wanted list (att_of c) c.netns (mappings_of list c) (leases_in (own_replies w n))

-- whatever was interleaved, stopped, faulted or refused memory
abbrev pub WasAdded : Type 0
WasAdded = (w : World) → Legal w → (n : ℕ) (c : Placed) (list : NetList) (r : AddResult)
    → slice_get (commands_of w.plan) n ≡ Some c → list_for w.plan c.command ≡ Some list
    → slice_get w.answers n ≡ Some (Some (answers.Added r)) → HasMade w n c.command list r
