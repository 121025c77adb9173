-- The journal: the kernel, the history, and the task at hand.
use Rattle.std.specs.{Option.option_map_or, Prelude.{◌≡◌, ℕ, ◌+◌, Bool, true, false, List, ◌++◌, length, map, nat_lt}}
use Rattle.std.specs.Prelude.{◌≤◌, [], ◌∷◌, IfSome, Option, Some, None, Result, Ok, Err}
use Rattle.kernel_types.specs.declared.call.{Call.Call, Kind.Kind, Reply.{Reply, TheVariants.{Fault, Gone}}}
use Rattle.kernel_types.specs.declared.object.Host.{Host}
use Rattle.pod_file.specs.{Faults.are_after, declared.command.Command.Command}
use Rattle.cni_errors.specs.declared.answer.Ending.{Ending}
use Rattle.cni_verbs.specs.{Replies.reply_to, Script.{State, Deleting, Over, IsOpen, deleting, faulted}}
use Rattle.gc_sweep.specs.Trace.{Made, host_from, replies}
use Rattle.cni_addr.specs.declared.memory.NoMemory.{NoMemory}
use Rattle.session_laws.specs.{Course.{Course, IsOver, IsRunFrom, state_from}, Views.entry_of}
use Rattle.session_laws.specs.declared.entry.Entry.{Entry}
use Rattle.session_verbs.specs.declared.{delete.KindEnd.KindEnd, part.PartEnd.PartEnd}
use Rattle.session_verbs.specs.declared.delete.KindEnd.TheVariants as kind_ends
use Rattle.session_verbs.specs.declared.part.PartEnd.TheVariants as parts

pub record JournalView : Type 0 where
  pub host : Host
  pub history : List Entry
  -- the number of the task at hand, from 1, and of its calls so far
  pub task : ℕ
  pub made : ℕ
  -- the number of calls after which it is stopped
  pub stop : Option ℕ
  -- how many calls stand before each of those that are to fail
  pub faults : List ℕ

-- the task's stop isn't reached
abbrev pub may_go : JournalView → Bool
may_go j = option_map_or (nat_lt j.made) j.stop true

-- no task is at hand
pub record IsIdle (j : JournalView) : Type 0 where
  pub task : j.task ≡ 0
  pub made : j.made ≡ 0
  pub stop : j.stop ≡ None
  pub faults : (made : ℕ) → are_after made j.faults ≡ false

-- no more calls were made than entered, and none behind the stop
pub record IsKeptBy (history : List Entry) (made : ℕ) (stop : Option ℕ) : Type 0 where
  pub entered : made ≤ length history
  pub stopped : IfSome stop (λ most. made ≤ most)

-- the history ends with this reply
pub record IsLastReply (j : JournalView) (reply : Reply) : Type 0 where
  pub before : List Entry
  pub entry : Entry
  pub ends : j.history ≡ before ++ entry ∷ []
  pub is : entry.reply ≡ reply

-- the call that is made next, with its reply
abbrev pub made_next : JournalView → Call → Made
made_next j call = record { call = call; reply = reply_to j.host call (are_after j.made j.faults) }

-- after these entries of the task at hand
abbrev pub after_entries : JournalView → List Made → JournalView
after_entries j es = record j {
  host = host_from j.host es;
  history = j.history ++ map (entry_of j.task) es;
  made = j.made + length es;
}

-- From a state of the course these entries were made, and left the journal and the state so.
pub record Went (co : Course) (c : Command) (es : List Made) (old new : JournalView) (s t : State) : Type 0 where
  pub journal : new ≡ after_entries old es
  pub run : IsRunFrom co c (λ made. are_after made old.faults) old.made s old.host es
  pub state : state_from co old.made s (replies es) ≡ t

-- ---- how a part of a task ends

-- a call is left, and the task's stop is reached
abbrev pub IsStopped : JournalView → State → Type 0
IsStopped j t = IsOpen t × (may_go j ≡ false)

-- how a part of a task goes on from a state: to its end, to its stop, or until memory is refused
abbrev pub EndsAs : Course → Command → JournalView → JournalView → State → Result PartEnd NoMemory → Type 0
EndsAs co c old new s (Ok (parts.Over ending)) =
    (es : List Made) × (t : State) × Went co c es old new s t × IsOver t ending
EndsAs co c old new s (Ok parts.Stopped) = (es : List Made) × (t : State) × Went co c es old new s t × IsStopped new t
EndsAs co c old new s (Err e) = (es : List Made) × (t : State) × Went co c es old new s t

-- how the reply to a deletion ends the deletions of its kind, if it does
abbrev pub kind_end_by : Reply → Option KindEnd
kind_end_by (Gone false) = Some kind_ends.Gone
kind_end_by Fault = Some kind_ends.Fault
kind_end_by r = None

-- how the deletions of one kind go on, with these kinds left after it
abbrev pub KindEndsAs : Course → Command → JournalView → JournalView → Kind → List Kind → Ending
    → Result KindEnd NoMemory → Type 0
KindEndsAs co c old new kind left ending (Ok kind_ends.Gone) =
    (es : List Made) × Went co c es old new (Deleting kind left ending) (deleting left ending)
KindEndsAs co c old new kind left ending (Ok kind_ends.Fault) =
    (es : List Made) × Went co c es old new (Deleting kind left ending) (Over (faulted new.made ending) [])
KindEndsAs co c old new kind left ending (Ok kind_ends.Stopped) =
    (es : List Made) × Went co c es old new (Deleting kind left ending) (Deleting kind left ending)
    × (may_go new ≡ false)
KindEndsAs co c old new kind left ending (Err e) =
    (es : List Made) × Went co c es old new (Deleting kind left ending) (Deleting kind left ending)

-- how the deletions of these kinds go on, up to the first fault
abbrev pub KindsEndAs : Course → Command → JournalView → JournalView → List Kind → Ending → Result KindEnd NoMemory
    → Type 0
KindsEndAs co c old new kinds ending (Ok kind_ends.Gone) =
    (es : List Made) × Went co c es old new (deleting kinds ending) (Over ending [])
KindsEndAs co c old new kinds ending (Ok kind_ends.Fault) =
    (es : List Made) × Went co c es old new (deleting kinds ending) (Over (faulted new.made ending) [])
KindsEndAs co c old new kinds ending (Ok kind_ends.Stopped) =
    (es : List Made) × (t : State) × Went co c es old new (deleting kinds ending) t × IsStopped new t
KindsEndAs co c old new kinds ending (Err e) =
    (es : List Made) × (t : State) × Went co c es old new (deleting kinds ending) t
