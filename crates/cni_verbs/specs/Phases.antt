-- What a run keeps in place of its script's state: how many of each list that is made ahead are behind it.
use Rattle.std.specs.Prelude.{◌≡◌, ℕ, ◌<◌, ◌≤◌, Bool, true, false, List, [], length, drop, map, Option, Some, None, ⊤}
use Rattle.cni_addr.specs.declared.address.Addr.{Addr}
use Rattle.net_conf.specs.declared.list.NetList.{NetList}
use Rattle.pod_file.specs.declared.command.Command.{Command}
use Rattle.kernel_types.specs.declared.call.Call.{Call}
use Rattle.cni_errors.specs.{CommandFields.att_of, declared.answer.Ending.TheVariants.Yes}
use Rattle.plugin_chain.specs.Wanted.{deletion, sets_of, kinds_of, result_of_add}
use Rattle.verb_questions.specs.Questions.{check_questions}
use Rattle.cni_verbs.specs.Script.{State, Over, before_of, back_of, after_leases, leasing, before_leases, deleting}
use Rattle.cni_verbs.specs.{Script.asking, declared.phase.Phase.Phase}
use Rattle.cni_verbs.specs.Script as states
use Rattle.cni_verbs.specs.declared.phase.Phase.TheVariants as phases

-- ---- the state of a phase

-- the state of a run in this phase that was given these addresses
abbrev pub state_in : NetList → Command → List Addr → Phase → State
state_in list c given phases.AtBegin = states.AtBegin
state_in list c given phases.Begun = before_leases list c (before_of list c)
state_in list c given (phases.BeforeLeases calls passed) = before_leases list c (drop passed calls)
state_in list c given phases.Leasing = leasing list c (drop (length given) (sets_of list)) given
state_in list c given phases.Leased = after_leases (back_of list c given) given
state_in list c given (phases.AfterLeases calls passed cached) = after_leases (drop passed calls) given
state_in list c given (phases.ReadingCache ending) = states.ReadingCache ending
state_in list c given (phases.CacheRead ending) = deleting (kinds_of list) ending
state_in list c given (phases.Deleting deletions passed ending) = deleting (drop passed (kinds_of list)) ending
state_in list c given phases.FindingEntry = states.FindingEntry
state_in list c given (phases.Found cached) = asking (check_questions list c cached)
state_in list c given (phases.Asking questions passed) = asking (drop passed questions)
state_in list c given (phases.Changing change) = states.Changing change
state_in list c given (phases.Over ending) = Over ending []

-- the state of a run of no network: one change is left, or none
abbrev pub state_outside : Phase → State
state_outside (phases.Changing change) = states.Changing change
state_outside (phases.Over ending) = Over ending []
state_outside phase = Over Yes []

abbrev pub state_by_phase : Option NetList → Command → List Addr → Phase → State
state_by_phase None c given phase = state_outside phase
state_by_phase (Some list) c given phase = state_in list c given phase

-- ---- what is kept

-- a phase has work left in its own list, of so many sets, and has passed no more than the calls that were made
abbrev pub Stands : (sets made : ℕ) → List Addr → Phase → Type 0
Stands sets made given phases.AtBegin = given ≡ []
Stands sets made given phases.Begun = given ≡ []
Stands sets made given (phases.BeforeLeases calls passed) = (passed < length calls) × (given ≡ [])
Stands sets made given phases.Leasing = length given < sets
Stands sets made given (phases.AfterLeases calls passed cached) = passed ≤ made
Stands sets made given (phases.Deleting deletions passed ending) = passed ≤ made
Stands sets made given (phases.Asking questions passed) = passed ≤ made
Stands sets made given phase = ⊤

-- the deletion of each kind of the list
abbrev pub deletions_of : NetList → Command → List Call
deletions_of list c = map (deletion (att_of c)) (kinds_of list)

-- of what was made ahead, the cached result is that of the ADD, and there is a deletion of each kind
abbrev pub KeepsAhead : NetList → Command → List Addr → Phase → Type 0
KeepsAhead list c given (phases.AfterLeases calls passed cached) =
    cached.result ≡ result_of_add list (att_of c) c.netns given
KeepsAhead list c given (phases.Deleting deletions passed ending) = deletions ≡ deletions_of list c
KeepsAhead list c given phase = ⊤

-- what the next call is looked up in is made ahead: the calls before the leases and after them, the deletions, the
-- questions of a CHECK
abbrev pub is_prepared : Phase → Bool
is_prepared phases.Begun = false
is_prepared phases.Leased = false
is_prepared (phases.CacheRead ending) = false
is_prepared (phases.Found cached) = false
is_prepared phase = true

abbrev pub is_prepared_by : Option NetList → Phase → Bool
is_prepared_by None phase = true
is_prepared_by (Some list) phase = is_prepared phase

-- a reply may come: one of the calls or questions that are made ahead is left
abbrev pub Awaits : Phase → Type 0
Awaits phases.Begun = ⊥
Awaits phases.Leased = ⊥
Awaits (phases.AfterLeases calls passed cached) = passed < length calls
Awaits (phases.CacheRead ending) = ⊥
Awaits (phases.Found cached) = ⊥
Awaits (phases.Asking questions passed) = passed < length questions
Awaits (phases.Over ending) = ⊥
Awaits phase = ⊤

-- a run of this list keeps what it made ahead, and has room for an address of each set
pub record KeepsOfList (list : NetList) (c : Command) (room made : ℕ) (given : List Addr) (phase : Phase) : Type 0 where
  pub room_is : length (sets_of list) ≤ room
  pub stands : Stands (length (sets_of list)) made given phase
  pub keeps : KeepsAhead list c given phase

abbrev pub KeepsOfListBy : Option NetList → Command → ℕ → ℕ → List Addr → Phase → Type 0
KeepsOfListBy None c room made given phase = ⊤
KeepsOfListBy (Some list) c room made given phase = KeepsOfList list c room made given phase

-- the phase stands for this state
pub record IsPhaseOf
    (list : NetList) (c : Command) (made : ℕ) (given : List Addr) (phase : Phase) (state : State) : Type 0 where
  pub is : state_in list c given phase ≡ state
  pub stands : Stands (length (sets_of list)) made given phase
  pub keeps : KeepsAhead list c given phase

-- the phase means the same, and its list may be made ahead
pub record IsSameButPrepared (list : NetList) (c : Command) (given : List Addr) (old new : Phase) : Type 0 where
  pub state : state_in list c given new ≡ state_in list c given old
  pub stands : (sets made : ℕ) → Stands sets made given old → Stands sets made given new
  pub keeps : KeepsAhead list c given old → KeepsAhead list c given new

-- it means the same, and its list is made ahead
abbrev pub IsMadeAhead : NetList → Command → List Addr → Phase → Phase → Type 0
IsMadeAhead list c given old new = IsSameButPrepared list c given old new × (is_prepared new ≡ true)
