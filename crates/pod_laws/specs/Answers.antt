-- Which answers there are, what is said of each answer of a verb, the first that fails a test, and how a run that asks
-- ends.
use Rattle.std.specs.{List.list_all, Prelude.{◌≡◌, ℕ, ◌⊎◌, Bool, true, false, List, [], ◌∷◌, ◌++◌, length, Option}}
use Rattle.std.specs.Prelude.{Some, slice_get}
use Rattle.cni_result.specs.declared.error.CniError.{CniError}
use Rattle.cni_verbs.specs.Endings.{answer_of_ending}
use Rattle.cni_errors.specs.{Answers.error_of, declared.answer.{Answer.Answer, Cause.Cause, Ending.Ending}}
use Rattle.cni_errors.specs.declared.answer.Ending.TheVariants.{Yes, Refused}
use Rattle.cni_errors.specs.declared.answer.Answer.TheVariants as answers
use Rattle.cni_errors.specs.declared.answer.Cause.TheVariants as causes
use Rattle.kernel_types.specs.declared.object.Host.{Host}
use Rattle.net_conf.specs.declared.list.NetList.{NetList}
use Rattle.plugin_base.specs.Share.{Share}
use Rattle.pod_file.specs.declared.command.{Command.Command, Verb.Verb}
use Rattle.pod_workers.specs.{Legal.Legal, Plans.{Placed, commands_of, list_for}, World.World}
use Rattle.pod_workers.specs.declared.plan.Entry.{Entry}
use Rattle.pod_laws.specs.Moments.{host_at_end, objects_at_end, own_entries}

-- the book gave the answer without the script: memory was refused, or the command was stopped
abbrev pub is_cut_off : Answer → Bool
is_cut_off answers.OutOfMemory = true
is_cut_off (answers.Stopped calls) = true
is_cut_off answer = false

abbrev pub IsRefusedAnswer : Answer → Type 0
IsRefusedAnswer a = (error : CniError) × (a ≡ answers.Refused error)

-- by its fields, before any call
pub record IsRefusedByFields (refusal : Option Cause) (entries : List Entry) (cause : Cause) : Type 0 where
  pub fields : refusal ≡ Some cause
  pub no_entry : entries ≡ []

-- it is so, unless memory was refused or the command was stopped
abbrev pub OrCutOff : (Answer → Type 0) → Answer → Type 0
OrCutOff Is a = Is a ⊎ (is_cut_off a ≡ true)

-- ---- each answer of a verb, in every legal history, whatever was interleaved, stopped, faulted or refused memory

-- in this world this holds of it and of its command, at place n
abbrev pub EachAnswerIn : World → Verb → (ℕ → Command → Answer → Type 0) → Type 0
EachAnswerIn w verb Holds = (n : ℕ) (c : Placed) (a : Answer)
    → slice_get (commands_of w.plan) n ≡ Some c → c.command.verb ≡ verb → slice_get w.answers n ≡ Some (Some a)
    → Holds n c.command a

-- in every legal world
abbrev pub EachAnswer : Verb → (World → ℕ → Command → Answer → Type 0) → Type 0
EachAnswer verb Holds = (w : World) → Legal w → EachAnswerIn w verb (Holds w)

-- and of the list of its network
abbrev pub EachListAnswer : Verb → (World → ℕ → Command → NetList → Answer → Type 0) → Type 0
EachListAnswer verb Holds = EachAnswer verb
    (λ w n c a. (list : NetList) → list_for w.plan c ≡ Some list → Holds w n c list a)

-- it is so or a refusal, unless it was cut off
abbrev pub EachIsOrRefused : Verb → (Answer → Type 0) → Type 0
EachIsOrRefused verb Is = EachAnswer verb (λ w n c a. OrCutOff Is a ⊎ IsRefusedAnswer a)

-- it is so, unless it was cut off, where its command and the entries are good
abbrev pub EachIsWhere : Verb → (Command → List Entry → Type 0) → (Answer → Type 0) → Type 0
EachIsWhere verb AreGood Is = EachAnswer verb (λ w n c a. AreGood c (own_entries n w.history) → OrCutOff Is a)

-- the error tells a cause, of which this holds
abbrev pub TellsCause : NetList → Command → CniError → (Cause → Type 0) → Type 0
TellsCause list c error IsFor = (cause : Cause) × (error ≡ error_of list.version c cause) × IsFor cause

-- a refusal names a cause, which is so of its command, its entries and what its attachment has at the last of them
abbrev pub EachRefusal : Verb → (Command → List Entry → Share → Cause → Type 0) → Type 0
EachRefusal verb IsFor = EachListAnswer verb (λ w n c list a. (error : CniError) → a ≡ answers.Refused error
    → TellsCause list c error (IsFor c (own_entries n w.history) (objects_at_end w n c)))

-- it is by an ending, unless it was cut off, which is so of its command's entries and of the host at the last of them
abbrev pub EachEnding : Verb → (NetList → Command → List Entry → Host → Ending → Type 0) → Type 0
EachEnding verb EndsSo = EachListAnswer verb (λ w n c list a. is_cut_off a ≡ false
    → (ending : Ending) × (a ≡ answer_of_ending list c ending [])
    × EndsSo list c (own_entries n w.history) (host_at_end w n) ending)

-- ---- with its list

-- the network of the command has a list, of which this holds
abbrev pub HoldsOfItsList : World → Command → (NetList → Type 0) → Type 0
HoldsOfItsList w c Holds = (list : NetList) × (list_for w.plan c ≡ Some list) × Holds list

-- ---- the first that fails

-- all before it pass the test
pub record IsFirstToFail {X : Type 0} (test : X → Bool) (xs : List X) (x : X) : Type 0 where
  pub past : List X
  pub later : List X
  pub are : xs ≡ past ++ x ∷ later
  pub pass : list_all test past ≡ true
  pub fails : test x ≡ false

-- ---- a run that asks

-- a fault is its last entry, which it tells (code 103); without one it ends otherwise
abbrev pub EndsByFault : List Entry → Bool → Ending → Type 0 → Type 0
EndsByFault entries true ending Otherwise = ending ≡ Refused (causes.Fault (length entries))
EndsByFault entries false ending Otherwise = Otherwise

-- it ends with Yes where all is there, and else by what is lacking
abbrev pub EndsByTest : Bool → Ending → Type 0 → Type 0
EndsByTest true ending Lacks = ending ≡ Yes
EndsByTest false ending Lacks = Lacks
