-- What a verb calls and what it answers, as a function of the list, the command and all replies so far.
use Rattle.std.specs.{Bool.then_some, Option.{option_map_or, option_or}, Prelude.{ℕ, ◌+◌, Bool, true, false, List, []}}
use Rattle.std.specs.Prelude.{◌∷◌, ◌++◌, length, filter_map, Option, Some, None, option_map, is_none, MatchBool, ⊤}
use Rattle.std.specs.Prelude.{if◌then◌else◌}
use Rattle.cni_addr.specs.declared.{address.Addr.Addr, range.RangeSet.RangeSet}
use Rattle.cni_result.specs.{Versions.is_before_1_1, declared.{cached.Cached.Cached, version.Version.Version}}
use Rattle.net_conf.specs.declared.list.NetList.{NetList}
use Rattle.pod_file.specs.declared.command.{Command.Command, Verb.Verb}
use Rattle.pod_file.specs.declared.command.Verb.TheVariants as verbs
use Rattle.kernel_types.specs.{Replies.is_fault, declared.call.Call.{Call, TheVariants.{Begin, LeaseNext, CacheGet}}}
use Rattle.kernel_types.specs.declared.call.Call.TheVariants.{OwnersOf, NsChange, Outside}
use Rattle.kernel_types.specs.declared.call.{Change.TheVariants.{DropLink, Flush}, Kind.Kind, Reply.Reply}
use Rattle.kernel_types.specs.declared.call.Reply.TheVariants.{Done, NoNs, NoLink, Taken, Empty, Leased, Gone, Has}
use Rattle.kernel_types.specs.declared.{call.Reply.TheVariants.{Entry, Fault}, rule.Table.Table}
use Rattle.cni_errors.specs.CommandFields.{att_of, add_refusal, del_refusal, netns_refusal, drop_refusal}
use Rattle.cni_errors.specs.declared.answer.{Cause.Cause, Ending.{Ending, TheVariants.{Added, Yes, Skipped, Versions}}}
use Rattle.cni_errors.specs.declared.answer.{Ending.TheVariants.Refused, Question.Question}
use Rattle.cni_verbs.specs.{Mappings.mappings_of, Sweep.{Gc, Job, Sweep, Work, start_work, step_call, work_after}}
use Rattle.verb_questions.specs.Questions.{check_questions, status_questions}
use Rattle.plugin_chain.specs.Wanted.{sets_of, calls_before, back_calls, kinds_of, deletion}
use Rattle.cni_errors.specs.declared.answer.Cause.TheVariants as causes
use Rattle.cni_errors.specs.declared.answer.Skip.TheVariants as skips

-- What is left to do: Begin and all after it; the calls before the leases; sets to lease from; the calls after the
-- leases; the cached result to read, ahead of the deletions; kinds to delete; the cached result to read, ahead of the
-- questions of a check; questions; one change from outside; the work of a GC, with its faults so far; nothing.
pub data State : Type 0 where
  AtBegin : State
  BeforeLeases : (next : Call) (left : List Call) → State
  Leasing : (next : RangeSet) (left : List RangeSet) (given : List Addr) → State
  AfterLeases : (next : Call) (left : List Call) (given : List Addr) → State
  ReadingCache : (ending : Ending) → State
  Deleting : (next : Kind) (left : List Kind) (ending : Ending) → State
  FindingEntry : State
  Asking : (next : Question) (left : List Question) → State
  Changing : (change : Call) → State
  Collecting : (work : Work) (faults : List ℕ) → State
  Over : (ending : Ending) (given : List Addr) → State

-- ---- the calls of an ADD before its first lease and after its last

abbrev pub before_of : NetList → Command → List Call
before_of list c = calls_before list.first (att_of c) c.netns

abbrev pub back_of : NetList → Command → List Addr → List Call
back_of list c given = back_calls list (att_of c) c.netns (mappings_of list c) given

-- ---- where work is left, the next of it

abbrev pub after_leases : List Call → List Addr → State
after_leases [] given = Over Added given
after_leases (call ∷ calls) given = AfterLeases call calls given

abbrev pub leasing : NetList → Command → List RangeSet → List Addr → State
leasing list c [] given = after_leases (back_of list c given) given
leasing list c (set ∷ sets) given = Leasing set sets given

abbrev pub before_leases : NetList → Command → List Call → State
before_leases list c [] = leasing list c (sets_of list) []
before_leases list c (call ∷ calls) = BeforeLeases call calls

abbrev pub deleting : List Kind → Ending → State
deleting [] ending = Over ending []
deleting (kind ∷ kinds) ending = Deleting kind kinds ending

abbrev pub asking : List Question → State
asking [] = Over Yes []
asking (question ∷ questions) = Asking question questions

-- what a GC is asked for
abbrev pub gc_of : NetList → Command → Gc
gc_of list c = record { network = c.network; valid = c.valid; kinds = kinds_of list }

-- ---- a refusal

-- why a reply refuses an ADD, whichever call it answers; what says none of four causes counts as a fault
abbrev pub cause_of : ℕ → ℕ → Reply → Cause
cause_of set number NoNs = causes.NoNamespace
cause_of set number NoLink = causes.NoMaster
cause_of set number (Taken tag) = causes.NameTaken tag
cause_of set number Empty = causes.PoolEmpty set
cause_of set number r = causes.Fault number

-- a fault among the deletions is answered where nothing was refused before it
abbrev pub faulted : ℕ → Ending → Ending
faulted number (Refused cause) = Refused cause
faulted number ending = Refused (causes.Fault number)

abbrev pub refused : Cause → State
refused cause = Over (Refused cause) []

-- what was made is taken back, beginning with the cached result
abbrev pub undoing : ℕ → ℕ → Reply → State
undoing set number r = ReadingCache (Refused (cause_of set number r))

-- ---- one reply, the one of this number

abbrev pub at_begin : NetList → Command → ℕ → Reply → State
at_begin list c number Done = before_leases list c (before_of list c)
at_begin list c number r = refused (cause_of 0 number r)

abbrev pub at_call_before : NetList → Command → ℕ → List Call → Reply → State
at_call_before list c number left Done = before_leases list c left
at_call_before list c number left r = undoing 0 number r

abbrev pub at_lease : NetList → Command → ℕ → List RangeSet → List Addr → Reply → State
at_lease list c number left given (Leased addr) = leasing list c left (given ++ addr ∷ [])
at_lease list c number left given r = undoing (length given) number r

abbrev pub at_call_after : ℕ → List Call → List Addr → Reply → State
at_call_after number left given Done = after_leases left given
at_call_after number left given r = undoing 0 number r

abbrev pub at_cache : NetList → ℕ → Ending → Reply → State
at_cache list number ending Fault = Over (faulted number ending) []
at_cache list number ending r = deleting (kinds_of list) ending

-- the same kind again until nothing of it is left
abbrev pub at_deletion : ℕ → Kind → List Kind → Ending → Reply → State
at_deletion number kind left ending (Gone false) = deleting left ending
at_deletion number kind left ending Fault = Over (faulted number ending) []
at_deletion number kind left ending r = Deleting kind left ending

-- the questions of a check, where the attachment has a cached result
abbrev pub checking : NetList → Command → Option Cached → State
checking list c None = refused causes.Unknown
checking list c (Some cached) = asking (check_questions list c cached)

abbrev pub at_entry : NetList → Command → ℕ → Reply → State
at_entry list c number (Entry cached) = checking list c cached
at_entry list c number r = refused (causes.Fault number)

abbrev pub at_question : ℕ → Question → List Question → Reply → State
at_question number question left (Has true) = asking left
at_question number question left (Has false) = refused question.lack
at_question number question left r = refused (causes.Fault number)

-- how a change from outside ends
abbrev pub changed : ℕ → Reply → Ending
changed number NoNs = Refused causes.NoNamespace
changed number (Taken tag) = Refused (causes.NameTaken tag)
changed number (Gone false) = Refused causes.NothingThere
changed number Fault = Refused (causes.Fault number)
changed number r = Yes

abbrev pub faults_after : ℕ → List ℕ → Bool → List ℕ
faults_after number faults true = faults ++ number ∷ []
faults_after number faults false = faults

unfoldable pub advance : NetList → Command → ℕ → State → Reply → State
advance list c number AtBegin r = at_begin list c number r
advance list c number (BeforeLeases next left) r = at_call_before list c number left r
advance list c number (Leasing next left given) r = at_lease list c number left given r
advance list c number (AfterLeases next left given) r = at_call_after number left given r
advance list c number (ReadingCache ending) r = at_cache list number ending r
advance list c number (Deleting next left ending) r = at_deletion number next left ending r
advance list c number FindingEntry r = at_entry list c number r
advance list c number (Asking next left) r = at_question number next left r
advance list c number (Changing change) r = Over (changed number r) []
advance list c number (Collecting work faults) r =
    Collecting (work_after (gc_of list c) work.jobs work.sweeps r) (faults_after number faults (is_fault r))
advance list c number (Over ending given) r = Over ending given

-- ---- the start

abbrev pub unless_ended : Option Ending → State → State
unless_ended None state = state
unless_ended (Some ending) state = Over ending []

abbrev pub unless_refused : Option Cause → State → State
unless_refused cause state = unless_ended (option_map Refused cause) state

-- how a list ends a verb that came with version 1.1.0, where it is older
abbrev pub old_ending : Version → Option Ending
old_ending version = then_some (is_before_1_1 version) (Refused (causes.TooOld version))

-- how a list ends a GC before its first call, where it is older than the verb or disables it
abbrev pub early_ending : Version → Bool → Option Ending
early_ending version disabled = option_or (old_ending version) (then_some disabled (Skipped skips.Gc))

-- a GC with this work and these faults, where its list doesn't end it before
abbrev pub collecting : Version → Bool → Work → List ℕ → State
collecting version disabled work faults = unless_ended (early_ending version disabled) (Collecting work faults)

-- the verbs that speak of no network have no list, and are begun by `outside_start`
abbrev pub start_of : NetList → Verb → Command → State
start_of list verbs.Add c = unless_refused (add_refusal c) AtBegin
start_of list verbs.Del c = unless_refused (del_refusal c) (ReadingCache Yes)
start_of list verbs.Check c =
    unless_refused (del_refusal c) (if list.disable_check then Over (Skipped skips.Check) [] else FindingEntry)
start_of list verbs.Gc c = collecting list.version list.disable_gc (start_work (gc_of list c)) []
start_of list verbs.Status c = unless_ended (old_ending list.version) (asking (status_questions list c))
start_of list verbs.Version c = Over Versions []
start_of list verb c = Over Yes []

abbrev pub start_state : NetList → Command → State
start_state list c = start_of list c.verb c

-- ---- all replies

-- the state after these replies, by what each makes of it; the first of them has the number after `made`
abbrev pub after_replies : (ℕ → State → Reply → State) → ℕ → State → List Reply → State
after_replies step made s [] = s
after_replies step made s (r ∷ rs) = after_replies step (made + 1) (step (made + 1) s r) rs

abbrev pub state_from : NetList → Command → ℕ → State → List Reply → State
state_from list c made s rs = after_replies (advance list c) made s rs

abbrev pub state_after : NetList → Command → List Reply → State
state_after list c rs = state_from list c 0 (start_state list c) rs

-- ---- a change from outside, which has no list

abbrev pub flush_by : Option Table → State
flush_by None = Over Yes []
flush_by (Some table) = Changing (Outside (Flush table))

abbrev pub outside_of : Verb → Command → State
outside_of verbs.NsAdd c = unless_refused (netns_refusal c) (Changing (NsChange c.netns true))
outside_of verbs.NsDel c = unless_refused (netns_refusal c) (Changing (NsChange c.netns false))
outside_of verbs.Drop c =
    unless_refused (drop_refusal c) (Changing (Outside (DropLink (record { ns = c.netns; name = c.ifname }))))
outside_of verbs.Flush c = flush_by c.table
outside_of verb c = Over Yes []

abbrev pub outside_start : Command → State
outside_start c = outside_of c.verb c

-- its one reply ends it
abbrev pub outside_advance : ℕ → State → Reply → State
outside_advance number (Changing change) r = Over (changed number r) []
outside_advance number s r = s

abbrev pub outside_from : ℕ → State → List Reply → State
outside_from made s rs = after_replies outside_advance made s rs

abbrev pub outside_after : Command → List Reply → State
outside_after c rs = outside_from 0 (outside_start c) rs

-- ---- the next call, or the answer

-- how the script ends, and with which addresses
pub record Finish : Type 0 where
  pub ending : Ending
  pub given : List Addr

-- what a run does in a state: it makes a call of its command, goes on with its GC, or ends
pub data Act : Type 0 where
  Makes : (call_of : Command → Call) → Act
  Collects : (work : Work) (faults : List ℕ) → Act
  Ends : (finish : Finish) → Act

abbrev pub act_of : State → Act
act_of AtBegin = Makes (λ c. Begin (att_of c) c.netns)
act_of (BeforeLeases next left) = Makes (λ c. next)
act_of (Leasing next left given) = Makes (λ c. LeaseNext (att_of c) (length given) next)
act_of (AfterLeases next left given) = Makes (λ c. next)
act_of (ReadingCache ending) = Makes (λ c. CacheGet (att_of c))
act_of (Deleting next left ending) = Makes (λ c. deletion (att_of c) next)
act_of FindingEntry = Makes (λ c. CacheGet (att_of c))
act_of (Asking next left) = Makes (λ c. next.call)
act_of (Changing change) = Makes (λ c. change)
act_of (Collecting work faults) = Collects work faults
act_of (Over ending given) = Ends (record { ending = ending; given = given })

-- what a GC calls next, by the name of its network, where work is left
abbrev pub collected_by : List Job → List Sweep → Option (List ℕ → Call)
collected_by [] [] = None
collected_by [] (s ∷ sweeps) = Some (λ network. OwnersOf network s.kind)
collected_by (j ∷ jobs) sweeps = Some (λ network. step_call j.att j.step)

-- a GC that met no fault succeeds
abbrev pub swept : List ℕ → Ending
swept [] = Yes
swept (number ∷ numbers) = Refused (causes.Faults (number ∷ numbers))

abbrev pub swept_finish : List ℕ → Finish
swept_finish faults = record { ending = swept faults; given = [] }

abbrev pub call_of_work : List ℕ → List Job → List Sweep → Option Call
call_of_work network jobs sweeps = option_map (λ call_of. call_of network) (collected_by jobs sweeps)

abbrev pub call_by : Command → Act → Option Call
call_by c (Makes call_of) = Some (call_of c)
call_by c (Collects work faults) = call_of_work c.network work.jobs work.sweeps
call_by c (Ends finish) = None

unfoldable pub next_call : Command → State → Option Call
next_call c s = call_by c (act_of s)

-- a GC has no call to make
abbrev pub has_no_work : List Job → List Sweep → Bool
has_no_work jobs sweeps = is_none (collected_by jobs sweeps)

abbrev pub finish_of_work : List Job → List Sweep → List ℕ → Option Finish
finish_of_work jobs sweeps faults = then_some (has_no_work jobs sweeps) (swept_finish faults)

abbrev pub finish_by : Act → Option Finish
finish_by (Makes call_of) = None
finish_by (Collects work faults) = finish_of_work work.jobs work.sweeps faults
finish_by (Ends finish) = Some finish

unfoldable pub finish_of : State → Option Finish
finish_of s = finish_by (act_of s)

-- the next call, or the end
pub data Turn : Type 0 where
  Calls : (call : Call) → Turn
  Finishes : (finish : Finish) → Turn

abbrev pub turn_of_work : List ℕ → List Job → List Sweep → List ℕ → Turn
turn_of_work network jobs sweeps faults =
    option_map_or Calls (call_of_work network jobs sweeps) (Finishes (swept_finish faults))

abbrev pub turn_by_act : Command → Act → Turn
turn_by_act c (Makes call_of) = Calls (call_of c)
turn_by_act c (Collects work faults) = turn_of_work c.network work.jobs work.sweeps faults
turn_by_act c (Ends finish) = Finishes finish

unfoldable pub turn : Command → State → Turn
turn c s = turn_by_act c (act_of s)

abbrev pub IsWork : List Job → List Sweep → Type 0
IsWork jobs sweeps = MatchBool (has_no_work jobs sweeps) ⊥ ⊤

abbrev pub IsUnended : Act → Type 0
IsUnended (Makes call_of) = ⊤
IsUnended (Collects work faults) = IsWork work.jobs work.sweeps
IsUnended (Ends finish) = ⊥

-- a run in this state has a call to make
abbrev pub IsOpen : State → Type 0
IsOpen s = IsUnended (act_of s)

-- ---- the leases of a run

abbrev pub leased_by : Reply → Option Addr
leased_by (Leased addr) = Some addr
leased_by r = None

-- the addresses that a run was leased, in order
abbrev pub leases_in : List Reply → List Addr
leases_in rs = filter_map leased_by rs
