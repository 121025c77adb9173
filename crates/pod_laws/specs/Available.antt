-- What a STATUS is answered (CNI specification, section 3, "Status").
use Rattle.std.specs.{List.list_all, Prelude.{◌≡◌, ◌&&◌, Bool, MatchBool, List, []}}
use Rattle.cni_result.specs.Versions.{is_before_1_1}
use Rattle.cni_errors.specs.{Answers.code_of, declared.answer.{Cause.Cause, Ending.{Ending, TheVariants.Refused}}}
use Rattle.verb_questions.specs.Questions.{status_questions}
use Rattle.plugin_chain.specs.Wanted.{master_of, sets_of}
use Rattle.cni_errors.specs.declared.answer.Cause.TheVariants as causes
use Rattle.ip_pool.specs.Pool.{has_free_of}
use Rattle.kernel_types.specs.{Apply.Calls.{has_master, leased_addresses}, declared.object.Host.Host}
use Rattle.net_conf.specs.declared.list.NetList.{NetList}
use Rattle.pod_file.specs.declared.command.Command.{Command}
use Rattle.pod_file.specs.declared.command.Verb.TheVariants as verbs
use Rattle.pod_workers.specs.declared.plan.Entry.{Entry}
use Rattle.pod_laws.specs.{Answers.{EachEnding, EndsByFault, EndsByTest}, Granted.EndsByDenied, Moments.has_fault}

-- the network can serve an ADD: each range set has a free address, and the master, if the plugin has one, is there
abbrev pub is_available : NetList → Command → Host → Bool
is_available list c host = list_all (λ set. has_free_of set (leased_addresses host c.network))
    (sets_of list) && has_master host (master_of list.first)

abbrev pub IsUnavailable : Cause → Type 0
IsUnavailable cause = code_of cause ≡ 50

-- something is not available (code 50), and the first is named: the range sets in order, and then the master
abbrev pub LacksService : NetList → Command → Host → Ending → Type 0
LacksService list c host ending = EndsByDenied host (status_questions list c) IsUnavailable ending

-- how a STATUS ends: a list of an older version has no such verb (code 1), and else by a fault, or by what the host has
-- to give
abbrev pub EndsStatus : NetList → Command → List Entry → Host → Ending → Type 0
EndsStatus list c entries host ending = MatchBool (is_before_1_1 list.version)
    ((entries ≡ []) × (ending ≡ Refused (causes.TooOld list.version)))
    (EndsByFault entries (has_fault entries) ending
    (EndsByTest (is_available list c host) ending (LacksService list c host ending)))

-- with the host at its last entry
abbrev pub WasAvailable : Type 0
WasAvailable = EachEnding verbs.Status EndsStatus
