-- What the answers of tasks say, by any course: what a check finds, what a collection leaves, and why a task fails.
use Rattle.std.specs.{List.{list_all, list_any}, Prelude.{◌≡◌, ℕ, ◌&&◌, Bool, true, false, not, List, [], is_some}}
use Rattle.std.specs.Prelude.{MatchBool, MatchOption, Option}
use Rattle.cni_addr.specs.declared.address.Addr.{Addr}
use Rattle.kernel_types.specs.{Replies.is_fault, Sound.IsSound, Terms.cached_in, declared.call.Call.Call}
use Rattle.kernel_types.specs.declared.{call.Call.TheVariants.{LeaseNext, HasObj}, object.{Att.Att, Host.Host}}
use Rattle.pod_file.specs.declared.command.{Command.Command, Verb.Verb}
use Rattle.cni_errors.specs.{CommandFields.att_of, declared.answer.Ending.{Ending, TheVariants.{Added, Yes, Refused}}}
use Rattle.cni_errors.specs.declared.answer.Question.{Question}
use Rattle.cni_verbs.specs.Script.{State, FindingEntry, Collecting}
use Rattle.gc_sweep.specs.{Keep.{keep, IsWithin}, Trace.{Made, host_from, replies}}
use Rattle.session_laws.specs.{Course.{Course, IsRunFrom, state_from, begins, start_work, IsOver}, Holds.holds_by}
use Rattle.session_laws.specs.{Holds.late_by, Tasks.row_questions, declared.row.Row.Row}
use Rattle.pod_file.specs.declared.command.Verb.TheVariants as verbs

-- from this state these entries were made, and the course came to this end
pub record Ran (co : Course) (c : Command) (faulty : ℕ → Bool) (s : State) (host : Host) (es : List Made)
    (ending : Ending) : Type 0 where
  pub run : IsRunFrom co c faulty 0 s host es
  pub over : IsOver (state_from co 0 s (replies es)) ending

-- ---- CHECK

-- the call asks whether the host has an object
abbrev pub is_question : Call → Bool
is_question (HasObj probe) = true
is_question call = false

abbrev pub are_questions : List Question → Bool
are_questions questions = list_all (λ q. is_question q.call) questions

abbrev pub RowsAskForObjects : Type 0
RowsAskForObjects = (row : Option Row) (leased : List Addr) → are_questions (row_questions row leased) ≡ true

-- a check leaves the host, also one that was stopped anywhere
abbrev pub ChecksLeaveTheHost : Type 0
ChecksLeaveTheHost = (co : Course) (c : Command) (faulty : ℕ → Bool) (host : Host) (es : List Made)
    → are_questions co.questions ≡ true → IsRunFrom co c faulty 0 FindingEntry host es → host_from host es ≡ host

-- the attachment has its cached result, and the host each object that is asked for
abbrev pub has_all_of : Course → Att → Host → Bool
has_all_of co att host = is_some (cached_in host att) && list_all (λ (q : Question). holds_by host q.call) co.questions

-- without a fault a check succeeds exactly where all is there
abbrev pub ChecksAreExact : Type 0
ChecksAreExact = (co : Course) (c : Command) (faulty : ℕ → Bool) (host : Host) (es : List Made) (ending : Ending)
    → are_questions co.questions ≡ true → Ran co c faulty FindingEntry host es ending
    → list_any (λ (e : Made). is_fault e.reply) es ≡ false
    → MatchBool (has_all_of co (att_of c) host) (ending ≡ Yes) (ending ≡ Yes → ⊥)

-- ---- GC

-- a collection that succeeds leaves exactly what is kept
abbrev pub CollectionsKeep : Type 0
CollectionsKeep = (co : Course) (c : Command) (faulty : ℕ → Bool) (host : Host) (es : List Made)
    → co.gc.network ≡ c.network → IsSound host → Ran co c faulty (Collecting start_work []) host es Yes
    → host_from host es ≡ keep c.network co.gc.valid host

-- the second host is sound, and the first without some of its objects, but none of what is kept
pub record IsCollectedFrom (old new kept : Host) : Type 0 where
  pub within : IsWithin new old
  pub keeps : IsWithin kept new
  pub sound : IsSound new

-- a collection only removes, also one that was stopped anywhere
abbrev pub CollectionsOnlyRemove : Type 0
CollectionsOnlyRemove = (co : Course) (c : Command) (faulty : ℕ → Bool) (host : Host) (es : List Made)
    → co.gc.network ≡ c.network → IsSound host → IsRunFrom co c faulty 0 (Collecting start_work []) host es
    → IsCollectedFrom host (host_from host es) (keep c.network co.gc.valid host)

-- ---- the cause of each answer

abbrev pub asks_for_lease : Call → Bool
asks_for_lease (LeaseNext att number set) = true
asks_for_lease call = false

-- an ADD leases by its sets, and by no call after them
abbrev pub LeasesBySetsAlone : Course → Type 0
LeasesBySetsAlone co = list_all (λ call. not (asks_for_lease call)) co.forward ≡ true

abbrev pub success_of : Verb → Ending
success_of verbs.Add = Added
success_of verb = Yes

-- a task that came to its end is refused for the first cause among its entries, and succeeds without one
abbrev pub EachAnswerHasItsCause : Type 0
EachAnswerHasItsCause = (verb : Verb) (co : Course) (c : Command) (faulty : ℕ → Bool) (host : Host)
    → (es : List Made) (ending : Ending) → (verb ≡ verbs.Add → LeasesBySetsAlone co)
    → Ran co c faulty (begins verb) host es ending
    → MatchOption (late_by verb co.questions es) (ending ≡ success_of verb) (λ cause. ending ≡ Refused cause)
