-- What an ADD of a registered plugin does, step by step, and what it leaves.
use Rattle.std.specs.Prelude.{◌≡◌, ℕ, ◌≤◌, ◌⊎◌, Bool, true, false, List, [], ◌∷◌, ◌++◌, Option, length, Some, None}
use Rattle.std.specs.Prelude.{Result, Ok, Err, MatchOption, vec_capacity}
use Rattle.cni_addr.specs.declared.{address.Addr.Addr, memory.NoMemory.NoMemory, range.RangeSet.RangeSet}
use Rattle.cni_result.specs.declared.{cached.Cached.Cached, result.AddResult.AddResult}
use Rattle.host_local.specs.Leases.{given_of}
use Rattle.kernel_types.specs.declared.call.{Call.{Call, TheVariants.LeaseNext}, Kind.Kind, Reply.Reply}
use Rattle.kernel_types.specs.declared.{call.Reply.TheVariants.{Done, Leased}, object.Att.Att}
use Rattle.net_conf.specs.declared.first.HostLocalConf.{HostLocalConf}
use Rattle.pod_file.specs.declared.command.Command.{Command}
use Rattle.plugin_registry.specs.{Own.OwnCalls, declared.ask.Ask.Ask}
use Rattle.cni_errors.specs.{CommandFields.att_of, declared.answer.Ending.TheVariants.Refused}
use Rattle.cni_verbs.specs.Script.{State, AtBegin, ReadingCache, cause_of, leases_in}
use Rattle.gc_sweep.specs.Trace.{Made, replies}
use Rattle.session_laws.specs.{Course.{Course, IsOver}, Holds.has_begun, Pools.sets_by, Tasks.{forward_of, kinds_back}}
use Rattle.session_laws.specs.declared.row.Row.{Row}
use Rattle.session_verbs.specs.Journal.{JournalView, Went, IsStopped, may_go, after_entries, made_next}
use Rattle.session_verbs.specs.declared.{begun.Begun.Begun, part.PartEnd.PartEnd, step.StepEnd.StepEnd}
use Rattle.session_file.specs.declared.session.{SessionConf.SessionConf, Task.Task}
use Rattle.session_verbs.specs.declared.part.PartEnd.TheVariants as parts
use Rattle.session_verbs.specs.declared.step.StepEnd.TheVariants as steps

-- ---- before an ADD

-- nothing is made yet by the ADD of this number, and there is room for an address of each set
pub record IsUnbegun (number : ℕ) (of : Att) (ks : List Kind) (sets : ℕ) (b : Begun) : Type 0 where
  pub task : b.row.task ≡ number
  pub att : b.row.att ≡ of
  pub kinds : b.row.kinds ≡ ks
  pub calls : b.row.calls ≡ []
  pub cached : b.row.cached ≡ None
  pub given : b.given.items ≡ []
  pub room : sets ≤ vec_capacity b.given
  pub begun : b.begun ≡ false

-- ---- one call

abbrev pub is_done : Reply → Bool
is_done Done = true
is_done reply = false

-- how a call ends that is to be done, by its number and its reply
abbrev pub end_by : ℕ → Reply → StepEnd
end_by number Done = steps.Granted
end_by number r = steps.Refused (cause_of 0 number r)

-- how a lease ends from the set of this number
abbrev pub lease_end_by : ℕ → ℕ → Reply → StepEnd
lease_end_by set number (Leased addr) = steps.Granted
lease_end_by set number r = steps.Refused (cause_of set number r)

-- the call was made
abbrev pub IsMade : Call → JournalView → JournalView → Type 0
IsMade call old new = new ≡ after_entries old (made_next old call ∷ [])

-- a call that is to be done was made, and ends so, or the task was stopped before it
abbrev pub CallEndsAs : Call → JournalView → JournalView → Result StepEnd NoMemory → Type 0
CallEndsAs call old new (Ok steps.Stopped) = (new ≡ old) × (may_go old ≡ false)
CallEndsAs call old new (Ok end) = IsMade call old new × (end ≡ end_by new.made (made_next old call).reply)
CallEndsAs call old new (Err e) = (new ≡ old) ⊎ (IsMade call old new × (is_done (made_next old call).reply ≡ false))

-- the same of a lease, from the set whose number is that of the addresses before
abbrev pub LeaseEndsAs : Att → RangeSet → JournalView → JournalView → List Addr → List Addr → Result StepEnd NoMemory
    → Type 0
LeaseEndsAs att set old new before after (Ok steps.Stopped) = (new ≡ old) × (may_go old ≡ false) × (after ≡ before)
LeaseEndsAs att set old new before after (Ok end) =
    let call = LeaseNext att (length before) set in IsMade call old new
    × (end ≡ lease_end_by (length before) new.made (made_next old call).reply)
    × (after ≡ before ++ leases_in ((made_next old call).reply ∷ []))
LeaseEndsAs att set old new before after (Err e) =
    let call = LeaseNext att (length before) set in ((new ≡ old) × (after ≡ before))
    ⊎ (IsMade call old new × (after ≡ before ++ leases_in ((made_next old call).reply ∷ [])))

-- ---- a step after Begin

-- how a step goes on from a state: to the next one, where each of its calls is granted
abbrev pub StepEndsAs : Course → Command → List Made → JournalView → JournalView → State → State
    → Result StepEnd NoMemory → Type 0
StepEndsAs co c es old new s next (Ok steps.Granted) = Went co c es old new s next
StepEndsAs co c es old new s next (Ok (steps.Refused cause)) = Went co c es old new s (ReadingCache (Refused cause))
StepEndsAs co c es old new s next (Ok steps.Stopped) = (t : State) × Went co c es old new s t × IsStopped new t
StepEndsAs co c es old new s next (Err e) = (t : State) × Went co c es old new s t

-- the same, with some entries
abbrev pub GoesStep : Course → Command → JournalView → JournalView → State → State → Result StepEnd NoMemory → Type 0
GoesStep co c old new s next result = (es : List Made) × StepEndsAs co c es old new s next result

-- a step went on so, and was leased what comes behind these addresses
pub record Steps (co : Course) (c : Command) (old new : JournalView) (s next : State) (before after : List Addr)
    (result : Result StepEnd NoMemory) : Type 0 where
  pub entries : List Made
  pub ends : StepEndsAs co c entries old new s next result
  pub leased : after ≡ before ++ leases_in (replies entries)

-- ---- the row

-- what the plugin is asked, of an attachment that was leased these addresses
abbrev pub ask_for : SessionConf → Task → Att → List Addr → Ask
ask_for conf t att given =
    record { att = att; netns = t.netns; options = t.options; given = given_of (sets_by conf.ipam) given }

-- the row has what the plugin answered to the ask
pub record IsAnswer (may_call : Ask → List Call → Type 0) (may_result : Ask → AddResult → Type 0) (ask : Ask)
    (row : Row) (cached : Cached) : Type 0 where
  pub calls : may_call ask row.calls
  pub own : OwnCalls ask row.kinds row.calls
  pub netns : cached.netns ≡ ask.netns
  pub mappings : cached.mappings ≡ []
  pub result : may_result ask cached.result

-- the row stays as it was, or is filled with what the plugin answered
pub record Fills (may_call : Ask → List Call → Type 0) (may_result : Ask → AddResult → Type 0) (ask : Ask)
    (old new : Row) : Type 0 where
  pub task : new.task ≡ old.task
  pub att : new.att ≡ old.att
  pub kinds : new.kinds ≡ old.kinds
  pub filled : MatchOption new.cached (new.calls ≡ []) (IsAnswer may_call may_result ask new)

-- ---- the whole

-- the course of an ADD that left this; nothing but the sets matters where Begin was not granted
pub record IsCourseOf (ipam : Option HostLocalConf) (b : Begun) (co : Course) : Type 0 where
  pub sets : co.sets ≡ sets_by ipam
  pub forward : b.begun ≡ true → co.forward ≡ forward_of (Some b.row)
  pub kinds : b.begun ≡ true → co.kinds ≡ kinds_back ipam (Some b.row)

-- the command is about this attachment of the container
pub record IsFor (of : Att) (ns : List ℕ) (c : Command) : Type 0 where
  pub att : att_of c ≡ of
  pub netns : c.netns ≡ ns

-- as `EndsAs` says, with these entries
abbrev pub EndsWith : Course → Command → List Made → JournalView → JournalView → State → Result PartEnd NoMemory
    → Type 0
EndsWith co c es old new s (Ok (parts.Over ending)) = (t : State) × Went co c es old new s t × IsOver t ending
EndsWith co c es old new s (Ok parts.Stopped) = (t : State) × Went co c es old new s t × IsStopped new t
EndsWith co c es old new s (Err e) = (t : State) × Went co c es old new s t

-- the part of an ADD behind Begin ended so, and was leased these addresses
pub record GoesOn (co : Course) (c : Command) (old new : JournalView) (s : State) (given : List Addr)
    (result : Result PartEnd NoMemory) : Type 0 where
  pub entries : List Made
  pub ends : EndsWith co c entries old new s result
  pub leased : given ≡ leases_in (replies entries)

-- the part made these entries and ended so, and it is told whether Begin was granted, and what was leased
pub record Adds (co : Course) (c : Command) (old new : JournalView) (b : Begun) (result : Result PartEnd NoMemory)
    : Type 0 where
  pub entries : List Made
  pub ends : EndsWith co c entries old new AtBegin result
  pub begun : b.begun ≡ has_begun entries
  pub given : b.begun ≡ true → b.given.items ≡ leases_in (replies entries)
