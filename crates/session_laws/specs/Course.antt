-- The course of a task: the states of the verbs (`Script.antt` of the crate `cni_verbs`), with what a plugin and a row
-- give in place of a network list.
use Rattle.std.specs.Prelude.{◌≡◌, ℕ, ◌+◌, Bool, List, [], ◌∷◌, ◌++◌, length, map, option_map, Option, Some, None}
use Rattle.cni_addr.specs.declared.{address.Addr.Addr, range.RangeSet.RangeSet}
use Rattle.cni_result.specs.declared.cached.Cached.{Cached}
use Rattle.kernel_types.specs.{Replies.is_fault, declared.call.{Call.Call, Kind.Kind, Reply.{Reply, TheVariants.Done}}}
use Rattle.kernel_types.specs.declared.{call.Reply.TheVariants.{Leased, Entry, Fault}, object.Host.Host}
use Rattle.pod_file.specs.declared.command.{Command.Command, Verb.Verb}
use Rattle.cni_errors.specs.declared.answer.{Ending.{Ending, TheVariants.Yes}, Question.Question}
use Rattle.cni_verbs.specs.{Replies.reply_to, Script.{State, AtBegin, Leasing, AfterLeases, ReadingCache, Deleting}}
use Rattle.cni_verbs.specs.Script.{FindingEntry, Asking, Collecting, Over, after_leases, deleting, asking, refused}
use Rattle.cni_verbs.specs.Script.{undoing, cause_of, faulted, at_call_after, at_deletion, at_question, faults_after}
use Rattle.cni_verbs.specs.{Script.{after_replies, next_call, finish_of, Finish}, Sweep.{Gc, Work, kind_sweep}}
use Rattle.cni_verbs.specs.Sweep.{work_after}
use Rattle.gc_sweep.specs.Trace.{Made, host_on}
use Rattle.pod_file.specs.declared.command.Verb.TheVariants as verbs
use Rattle.cni_errors.specs.declared.answer.Cause.TheVariants as causes
use Rattle.kernel_types.specs.declared.call.Kind.TheVariants as kinds

-- what a task goes by besides its words
pub record Course : Type 0 where
  -- the range sets that an ADD leases from, in order
  pub sets : List RangeSet
  -- the calls of an ADD after its leases
  pub forward : List Call
  -- the kinds that a deletion deletes, in order
  pub kinds : List Kind
  -- what a CHECK asks, in order
  pub questions : List Question
  -- what a GC keeps
  pub gc : Gc

-- ---- one reply

abbrev pub leasing : Course → List RangeSet → List Addr → State
leasing co [] given = after_leases co.forward given
leasing co (set ∷ sets) given = Leasing set sets given

abbrev pub at_begin : Course → ℕ → Reply → State
at_begin co number Done = leasing co co.sets []
at_begin co number r = refused (cause_of 0 number r)

abbrev pub at_lease : Course → ℕ → List RangeSet → List Addr → Reply → State
at_lease co number left given (Leased addr) = leasing co left (given ++ addr ∷ [])
at_lease co number left given r = undoing (length given) number r

abbrev pub at_cache : Course → ℕ → Ending → Reply → State
at_cache co number ending Fault = Over (faulted number ending) []
at_cache co number ending r = deleting co.kinds ending

-- the questions of a check, where the attachment has a cached result
abbrev pub checking : Course → Option Cached → State
checking co None = refused causes.Unknown
checking co (Some cached) = asking co.questions

abbrev pub at_entry : Course → ℕ → Reply → State
at_entry co number (Entry cached) = checking co cached
at_entry co number r = refused (causes.Fault number)

unfoldable pub advance : Course → ℕ → State → Reply → State
advance co number AtBegin r = at_begin co number r
advance co number (Leasing next left given) r = at_lease co number left given r
advance co number (AfterLeases next left given) r = at_call_after number left given r
advance co number (ReadingCache ending) r = at_cache co number ending r
advance co number (Deleting next left ending) r = at_deletion number next left ending r
advance co number FindingEntry r = at_entry co number r
advance co number (Asking next left) r = at_question number next left r
advance co number (Collecting work faults) r =
    Collecting (work_after co.gc work.jobs work.sweeps r) (faults_after number faults (is_fault r))
advance co number s r = s

-- ---- the start

-- a GC of a session asks for the owners of each kind; no list has a DEL to make first
abbrev pub start_work : Work
start_work = record {
  jobs = [];
  sweeps = map kind_sweep (kinds.Links ∷ kinds.Rules ∷ kinds.Settings ∷ kinds.Leases ∷ kinds.Cached ∷ []);
}

-- where a task begins, if its words let it
abbrev pub begins : Verb → State
begins verbs.Add = AtBegin
begins verbs.Del = ReadingCache Yes
begins verbs.Check = FindingEntry
begins verb = Collecting start_work []

-- ---- all entries

-- Each entry is the next call. Its reply is a fault where the number of calls before it passes the test, and the
-- kernel's elsewhere.
abbrev pub IsRunFrom : Course → Command → (ℕ → Bool) → ℕ → State → Host → List Made → Type 0
IsRunFrom co c faulty made s host [] = Unit {0}
IsRunFrom co c faulty made s host (e ∷ es) =
    (next_call c s ≡ Some e.call) × (e.reply ≡ reply_to host e.call (faulty made))
    × IsRunFrom co c faulty (made + 1) (advance co (made + 1) s e.reply) (host_on host e) es

abbrev pub state_from : Course → ℕ → State → List Reply → State
state_from co made s rs = after_replies (advance co) made s rs

-- the course is over, and ends so
abbrev pub IsOver : State → Ending → Type 0
IsOver t ending = option_map (λ (f : Finish). f.ending) (finish_of t) ≡ Some ending
