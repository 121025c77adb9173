-- What a GC leaves and answers, wherever it stands in a history (CNI specification, section 3,
-- "Garbage-collecting unused resources").
use Rattle.std.specs.Prelude.{◌≡◌, ◌≢◌, ℕ, ◌+◌, ◌≤◌, ◌⊎◌, true, false, List, [], length, Some, slice_get}
use Rattle.cni_result.specs.Versions.{is_before_1_1}
use Rattle.cni_errors.specs.{Answers.error_of, declared.answer.Answer.Answer}
use Rattle.cni_errors.specs.declared.answer.Answer.TheVariants as answers
use Rattle.cni_errors.specs.declared.answer.Cause.TheVariants as causes
use Rattle.cni_errors.specs.declared.answer.Skip.TheVariants as skips
use Rattle.gc_sweep.specs.{Bound.most_of_collection, Keep.keep, Sweep.{AreExcused, Bounds, IsCollected, fault_numbers}}
use Rattle.kernel_types.specs.declared.object.Host.{Host}
use Rattle.net_conf.specs.declared.list.NetList.{NetList}
use Rattle.pod_file.specs.declared.command.Command.{Command}
use Rattle.pod_file.specs.declared.command.Verb.TheVariants as verbs
use Rattle.pod_workers.specs.{Legal.Legal, Plans.{Placed, commands_of, list_for}, World.{World, made_in}}
use Rattle.pod_workers.specs.declared.plan.Entry.{Entry}
use Rattle.pod_laws.specs.{Answers.{EachListAnswer, OrCutOff}, Moments.{EachCalling, has_fault, host_at_end}}
use Rattle.pod_laws.specs.Moments.{host_at_round, host_at_start, own_entries}

-- ---- answers

-- its list is older than the verb
pub record IsTooOld (list : NetList) (c : Command) (entries : List Entry) (a : Answer) : Type 0 where
  pub old : is_before_1_1 list.version ≡ true
  pub no_entry : entries ≡ []
  pub answer : a ≡ answers.Refused (error_of list.version c (causes.TooOld list.version))

-- its list disables it
pub record IsDisabled (list : NetList) (entries : List Entry) (a : Answer) : Type 0 where
  pub new_enough : is_before_1_1 list.version ≡ false
  pub disabled : list.disable_gc ≡ true
  pub no_entry : entries ≡ []
  pub answer : a ≡ answers.Skipped skips.Gc

-- it met no fault, and what it leaves is what is to be kept
pub record IsCleanCollection (list : NetList) (c : Command) (entries : List Entry) (old new : Host)
    (a : Answer) : Type 0 where
  pub collected : IsCollected list
  pub called : entries ≢ []
  pub no_fault : has_fault entries ≡ false
  pub leaves : new ≡ keep c.network c.valid old
  pub answer : a ≡ answers.Yes

-- it met faults, which its error names, and a call about what it leaves over was faulty
pub record IsFaultyCollection (list : NetList) (c : Command) (entries : List Entry) (new : Host)
    (a : Answer) : Type 0 where
  pub collected : IsCollected list
  pub faulty : has_fault entries ≡ true
  pub excused : AreExcused c.network c.valid (made_in entries) new
  pub answer : a ≡ answers.Refused (error_of list.version c (causes.Faults (fault_numbers 0 (made_in entries))))

abbrev pub IsCollectionAnswer : NetList → Command → List Entry → Host → Host → Answer → Type 0
IsCollectionAnswer list c entries old new a = IsTooOld list c entries a ⊎
    (IsDisabled list entries a ⊎ (IsCleanCollection list c entries old new a ⊎ IsFaultyCollection list c entries new a))

-- it is one of these answers, from the host right before its first entry to the one right after its last, unless it
-- was cut off
abbrev pub IsAnswerOfGc : World → ℕ → Command → NetList → Answer → Type 0
IsAnswerOfGc w n c list =
    OrCutOff (IsCollectionAnswer list c (own_entries n w.history) (host_at_start w n) (host_at_end w n))

abbrev pub CollectionsAreAnswered : Type 0
CollectionsAreAnswered = EachListAnswer verbs.Gc IsAnswerOfGc

-- ---- whatever it is answered

-- this holds of each GC that made a call, wherever it was stopped, at place n
abbrev pub EachCallingCollection : (World → ℕ → Placed → Type 0) → Type 0
EachCallingCollection Holds = (w : World) → Legal w → EachCalling w verbs.Gc (Holds w)

-- it lost nothing that is to be kept, and added nothing
abbrev pub IsBoundedCollection : World → ℕ → Placed → Type 0
IsBoundedCollection w n c = Bounds c.command (host_at_start w n) (host_at_end w n)

abbrev pub CollectionsAreBounded : Type 0
CollectionsAreBounded = EachCallingCollection IsBoundedCollection

-- and it made at most six calls; for each stale attachment that owned an object at its start six more than the kinds of
-- a DEL; and one for each object that is not kept
abbrev pub CollectionsAreShort : Type 0
CollectionsAreShort = EachCallingCollection
    (λ w n c. (list : NetList) → list_for w.plan c.command ≡ Some list
    → length (own_entries n w.history) ≤ most_of_collection list c.command (host_at_start w n))

-- it starts from the host at the start of its round, and ends in the one at the start of the next round
abbrev pub CollectionsFillTheirRounds : Type 0
CollectionsFillTheirRounds = EachCallingCollection
    (λ w n c. (host_at_start w n ≡ host_at_round w c.round) × (host_at_end w n ≡ host_at_round w (c.round + 1)))

-- ---- one after another

-- the second is of the round after the first one's, with the same network and the same valid list
pub record AreInARow (d c : Placed) : Type 0 where
  pub first : d.command.verb ≡ verbs.Gc
  pub second : c.command.verb ≡ verbs.Gc
  pub round : c.round ≡ d.round + 1
  pub network : d.command.network ≡ c.command.network
  pub valid : d.command.valid ≡ c.command.valid

-- where the second is answered Yes, it leaves what is to be kept of the host at the start of the first one's round,
-- whatever the first came to, also where it made no call
abbrev pub CollectionsInARowKeep : Type 0
CollectionsInARowKeep = (w : World) → Legal w → (m n : ℕ) (d c : Placed)
    → slice_get (commands_of w.plan) m ≡ Some d → slice_get (commands_of w.plan) n ≡ Some c → AreInARow d c
    → slice_get w.answers n ≡ Some (Some answers.Yes)
    → host_at_end w n ≡ keep d.command.network d.command.valid (host_at_round w d.round)
