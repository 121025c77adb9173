-- The law of a session: what holds after each task, whatever plugins are registered and wherever tasks are stopped.
use Rattle.std.specs.{List.{list_all, list_any}, Option.{option_map_or, option_or}, Prelude.{◌≡◌, ◌≤◌, ℕ, ◌+◌, ◌==◌}}
use Rattle.std.specs.Prelude.{Bool, true, false, ◌&&◌, List, [], ◌∷◌, ◌++◌, length, filter, Option, Some, None, is_some}
use Rattle.std.specs.Prelude.{slice_get, codes, MatchBool, MatchOption, IfSome, ◌⊎◌, ◌-◌, option_map, if◌then◌else◌}
use Rattle.cni_result.specs.declared.{cached.Cached.Cached, error.CniError.CniError, result.AddResult.AddResult}
use Rattle.cni_result.specs.declared.version.Version.TheVariants.{V1_1}
use Rattle.kernel_types.specs.{Apply.Calls.has_object, Replies.is_fault, Sound.IsSound, Terms.cached_in}
use Rattle.kernel_types.specs.{Touch.DropsOnly, declared.call.Call.{Call, TheVariants.{Begin, LeaseNext, HasObj}}}
use Rattle.kernel_types.specs.declared.{call.Reply.{Reply, TheVariants.{Done, Leased, Has}}, object.Att.Att}
use Rattle.kernel_types.specs.declared.object.Host.{Host}
use Rattle.pod_file.specs.declared.command.{Command.Command, Verb.Verb}
use Rattle.plugin_base.specs.Share.{Share, no_objects, share_of}
use Rattle.plugin_registry.specs.{Needs.first_unmet, Own.OwnCalls, declared.ask.{Ask.Ask, Opt.Opt}}
use Rattle.cni_errors.specs.{Answers.error_of, CommandFields.{add_refusal, del_refusal}, ErrorKinds.message_about}
use Rattle.cni_errors.specs.{ErrorKinds.plain_error, declared.answer.{Cause.Cause, Question.Question}}
use Rattle.cni_errors.specs.declared.error_kind.ErrorKind.TheVariants.{InvalidList}
use Rattle.cni_verbs.specs.{Replies.is_granted, Script.{IsOpen, cause_of}}
use Rattle.gc_sweep.specs.{Keep.keep, Sweep.fault_numbers, Trace.Made}
use Rattle.session_laws.specs.{Course.{IsRunFrom, begins}, Views.{PluginView, SessionView, number, own, start, finish}}
use Rattle.session_laws.specs.Views.{row_of, part_by, att_by, command_by, ask_by, course, HasLeaseOfEachSet, state}
use Rattle.session_laws.specs.{Views.plugin_named, declared.answer.TaskAnswer.{TaskAnswer, TheVariants.{Added, Yes}}}
use Rattle.session_laws.specs.declared.answer.TaskAnswer.TheVariants.{Refused, OutOfMemory, Stopped}
use Rattle.session_laws.specs.declared.{entry.Entry.Entry, row.Row.Row}
use Rattle.session_file.specs.declared.session.Task.{Task}
use Rattle.pod_file.specs.declared.command.Verb.TheVariants as verbs
use Rattle.cni_errors.specs.declared.answer.Cause.TheVariants as causes
use Rattle.kernel_types.specs.declared.call.Reply.TheVariants as replies

-- the plugins that are registered, in order, and what is known of their answers
pub record Suite : Type 1 where
  pub plugins : List PluginView
  pub may_call : List ℕ → Ask → List Call → Type 0
  pub may_result : List ℕ → Ask → AddResult → Type 0

-- ---- what was there stays

-- a task appends entries of its own, at most one row of its own, and one answer
pub record Grows (old new : SessionView) : Type 0 where
  pub conf : new.conf ≡ old.conf
  pub answer : TaskAnswer
  pub answers : new.answers ≡ old.answers ++ answer ∷ []
  pub entries : List Entry
  pub history : new.history ≡ old.history ++ entries
  pub numbered : list_all (λ (e : Entry). e.task == number old + 1) entries ≡ true
  pub more : Option Row
  pub rows : new.rows ≡ old.rows ++ option_map_or (λ row. row ∷ []) more []
  pub of_task : IfSome more (λ row. row.task ≡ number old + 1)

-- ---- why a task is refused

-- as a verb is, or for what is wrong of its configuration, by the key
pub data TaskCause : Type 0 where
  Known : (cause : Cause) → TaskCause
  Wrong : (key : List ℕ) → TaskCause

abbrev pub wrong_error : List ℕ → CniError
wrong_error key = plain_error InvalidList (message_about InvalidList key)

-- A missing link is told as `link`, where a verb of a network list would name `master`.
abbrev pub error_by : Command → TaskCause → CniError
error_by c (Wrong key) = wrong_error key
error_by c (Known causes.NoMaster) = wrong_error (codes "link")
error_by c (Known cause) = error_of V1_1 c cause

-- what is wrong of the `type`, or of the options, by the key
abbrev pub wrong_option : Option PluginView → List Opt → Option (List ℕ)
wrong_option None options = Some (codes "type")
wrong_option (Some p) options = option_map (λ need. need.key) (first_unmet p.needs options)

-- what is wrong of a task before its first call
abbrev pub early_by : List PluginView → Verb → Command → Task → Option TaskCause
early_by plugins verbs.Add c t = option_or (option_map Known (add_refusal c))
    (option_map Wrong (wrong_option (plugin_named plugins t.kind_name) t.options))
early_by plugins verbs.Del c t = option_map Known (del_refusal c)
early_by plugins verbs.Check c t = option_map Known (del_refusal c)
early_by plugins verb c t = None

abbrev pub early : List PluginView → SessionView → Task → Option TaskCause
early plugins s t = early_by plugins t.verb (command_by s t) t

-- ---- entries and rows

-- the k-th call is a fault exactly where k is among the numbers
abbrev pub is_faulty : List ℕ → ℕ → Bool
is_faulty faults made = list_any (λ k. k == made + 1) faults

-- no entry where words, type or options are wrong; else the first calls of its course, which `ended` says are all
abbrev pub RunsByCourse : List PluginView → SessionView → Task → Type 0
RunsByCourse plugins s t = MatchOption (early plugins s t)
    (IsRunFrom (course s t) (command_by s t) (is_faulty t.faults) 0 (begins t.verb) (start s) (own s))
    (λ cause. own s ≡ [])

abbrev pub is_begun : Call → Reply → Bool
is_begun (Begin att netns) Done = true
is_begun call reply = false

-- the first entry is a Begin that was granted
abbrev pub has_begun : List Made → Bool
has_begun [] = false
has_begun (e ∷ es) = is_begun e.call e.reply

-- what the plugin answered, after an address of each set was leased
pub record IsFilled (suite : Suite) (s : SessionView) (t : Task) (row : Row) (cached : Cached) : Type 0 where
  pub leased : HasLeaseOfEachSet s row
  pub calls : suite.may_call t.kind_name (ask_by s t) row.calls
  pub own : OwnCalls (ask_by s t) row.kinds row.calls
  pub netns : cached.netns ≡ t.netns
  pub mappings : cached.mappings ≡ []
  pub result : suite.may_result t.kind_name (ask_by s t) cached.result

-- the row is the task's, of its plugin, and has what the plugin answered, or nothing
pub record IsRowBy (suite : Suite) (s : SessionView) (t : Task) (row : Row) : Type 0 where
  pub task : row.task ≡ number s
  pub att : row.att ≡ att_by s t
  pub plugin : PluginView
  pub named : plugin_named suite.plugins t.kind_name ≡ Some plugin
  pub kinds : row.kinds ≡ plugin.kinds
  pub filled : MatchOption row.cached (row.calls ≡ []) (IsFilled suite s t row)

abbrev pub rows_of_task : SessionView → List Row
rows_of_task s = filter (λ r. r.task == number s) s.rows

-- the task made a row exactly where its Begin was granted
abbrev pub HasRow : Suite → SessionView → Task → Type 0
HasRow suite s t = MatchBool (has_begun (own s))
    ((row : Row) × (rows_of_task s ≡ row ∷ []) × IsRowBy suite s t row)
    (rows_of_task s ≡ [])

-- ---- objects

-- list by list, in order, nothing but what the other has
pub record IsPartOf (small big : Share) : Type 0 where
  pub links : DropsOnly (λ l. true) big.links small.links
  pub addresses : DropsOnly (λ a. true) big.addresses small.addresses
  pub routes : DropsOnly (λ r. true) big.routes small.routes
  pub rules : DropsOnly (λ r. true) big.rules small.rules
  pub settings : DropsOnly (λ s. true) big.settings small.settings
  pub leases : DropsOnly (λ l. true) big.leases small.leases
  pub cached : DropsOnly (λ c. true) big.cached small.cached

-- an attachment has nothing but what its row says
abbrev pub HasByRow : SessionView → Att → Type 0
HasByRow s att = MatchOption (row_of s att)
    (share_of att (finish s) ≡ no_objects)
    (λ row. IsPartOf (share_of att (finish s)) (part_by s row))

-- ---- ADD

-- it has all that its row says, and the result is what the plugin may give
pub record HasAdded (suite : Suite) (s : SessionView) (t : Task) (r : AddResult) : Type 0 where
  pub row : Row
  pub is : row_of s (att_by s t) ≡ Some row
  pub of_task : row.task ≡ number s
  pub whole : share_of row.att (finish s) ≡ part_by s row
  pub calls : suite.may_call t.kind_name (ask_by s t) row.calls
  pub result : suite.may_result t.kind_name (ask_by s t) r
  pub cached : row.cached ≡ Some (record { netns = t.netns; mappings = []; result = r })

-- one entry refused it. Nothing is left then, but where Begin was refused, or a call of the undoing was a fault.
pub record RefusedAt (s : SessionView) (t : Task) : Type 0 where
  pub past : List Made
  pub by : Made
  pub later : List Made
  pub are : own s ≡ past ++ by ∷ later
  pub granted : list_all (λ (e : Made). is_granted e.reply) past ≡ true
  pub refuses : is_granted by.reply ≡ false
  pub undone : (past ≡ []) ⊎ ((share_of (att_by s t) (finish s) ≡ no_objects)
      ⊎ (list_any (λ (e : Made). is_fault e.reply) later ≡ true))

abbrev pub WasRefused : List PluginView → SessionView → Task → Type 0
WasRefused plugins s t = MatchOption (early plugins s t) (RefusedAt s t) (λ cause. own s ≡ [])

-- ---- DEL, CHECK, GC

-- A DEL that succeeds leaves nothing of its attachment, and one whose attachment had nothing changes nothing.
pub record Deletes (s : SessionView) (t : Task) (a : TaskAnswer) : Type 0 where
  pub gone : a ≡ Yes → share_of (att_by s t) (finish s) ≡ no_objects
  pub idle : share_of (att_by s t) (start s) ≡ no_objects → finish s ≡ start s

abbrev pub holds_by : Host → Call → Bool
holds_by host (HasObj probe) = has_object host probe
holds_by host call = false

-- the cached result is there, each object that the row's calls append, and each lease
abbrev pub has_all : SessionView → Task → Bool
has_all s t = is_some (cached_in (finish s) (att_by s t))
    && list_all (λ (q : Question). holds_by (finish s) q.call) (course s t).questions

-- memory was refused, or it was stopped
abbrev pub is_cut_off : TaskAnswer → Bool
is_cut_off OutOfMemory = true
is_cut_off (Stopped calls) = true
is_cut_off a = false

-- a CHECK whose words are right, that met no fault and wasn't cut off, succeeds exactly where all is there
abbrev pub Checks : SessionView → Task → TaskAnswer → Type 0
Checks s t a = del_refusal (command_by s t) ≡ None → list_any (λ (e : Made). is_fault e.reply) (own s) ≡ false
    → is_cut_off a ≡ false → MatchBool (has_all s t) (a ≡ Yes) (a ≡ Yes → ⊥)

-- a GC that succeeds leaves what `keep` says: of the network's attachments what those have that the task names
abbrev pub Collects : SessionView → Task → TaskAnswer → Type 0
Collects s t a = a ≡ Yes → finish s ≡ keep s.conf.network t.valid (start s)

-- ---- the cause of each answer

-- why the entry refuses an ADD; a pool is told by its number
abbrev pub add_cause : ℕ → Call → Reply → Option Cause
add_cause number call Done = None
add_cause number call (Leased addr) = None
add_cause number (LeaseNext att set ranges) r = Some (cause_of set number r)
add_cause number call r = Some (cause_of 0 number r)

abbrev pub first_of_add : ℕ → List Made → Option Cause
first_of_add made [] = None
first_of_add made (e ∷ es) = option_or (add_cause (made + 1) e.call e.reply) (first_of_add (made + 1) es)

abbrev pub first_fault : ℕ → List Made → Option Cause
first_fault made [] = None
first_fault made (e ∷ es) = if is_fault e.reply then Some (causes.Fault (made + 1)) else first_fault (made + 1) es

abbrev pub lack_by : ℕ → Question → Reply → Option Cause
lack_by number q (Has true) = None
lack_by number q (Has false) = Some q.lack
lack_by number q r = Some (causes.Fault number)

abbrev pub first_lack : ℕ → List Question → List Made → Option Cause
first_lack made (q ∷ qs) (e ∷ es) = option_or (lack_by (made + 1) q e.reply) (first_lack (made + 1) qs es)
first_lack made qs es = None

abbrev pub entry_cause : Reply → Option Cause
entry_cause (replies.Entry (Some cached)) = None
entry_cause (replies.Entry None) = Some causes.Unknown
entry_cause r = Some (causes.Fault 1)

abbrev pub first_of_check : List Question → List Made → Option Cause
first_of_check qs [] = None
first_of_check qs (e ∷ es) = option_or (entry_cause e.reply) (first_lack 1 qs es)

abbrev pub of_faults : List ℕ → Option Cause
of_faults [] = None
of_faults (k ∷ ks) = Some (causes.Faults (k ∷ ks))

-- the cause that its entries give: of a GC all its faults, of the others the first
abbrev pub late_by : Verb → List Question → List Made → Option Cause
late_by verbs.Add qs es = first_of_add 0 es
late_by verbs.Del qs es = first_fault 0 es
late_by verbs.Check qs es = first_of_check qs es
late_by verb qs es = of_faults (fault_numbers 0 es)

-- what is wrong before the first call, or else the cause that the entries give
abbrev pub cause_for : List PluginView → SessionView → Task → Option TaskCause
cause_for plugins s t =
    option_or (early plugins s t) (option_map Known (late_by t.verb (course s t).questions (own s)))

abbrev pub IsSuccess : Verb → TaskAnswer → Type 0
IsSuccess verbs.Add a = (r : AddResult) × (a ≡ Added r)
IsSuccess verb a = a ≡ Yes

-- unless memory was refused or the task was stopped, it is refused for the first cause, and succeeds without one
abbrev pub AnswersByCause : List PluginView → SessionView → Task → TaskAnswer → Type 0
AnswersByCause plugins s t a = is_cut_off a ≡ false → MatchOption (cause_for plugins s t)
    (IsSuccess t.verb a) (λ cause. a ≡ Refused (error_by (command_by s t) cause))

-- ---- ends and stops

-- unless memory was refused or the task was stopped, no call of its course is left
abbrev pub EndsByCourse : List PluginView → SessionView → Task → TaskAnswer → Type 0
EndsByCourse plugins s t a = is_cut_off a ≡ false → early plugins s t ≡ None → IsOpen (state s t) → ⊥

-- so many calls were made, one more was to come, and the task is to be stopped there
pub record IsStoppedAt (plugins : List PluginView) (s : SessionView) (t : Task) (calls : ℕ) : Type 0 where
  pub stop : t.stop ≡ Some calls
  pub made : length (own s) ≡ calls
  pub begun : early plugins s t ≡ None
  pub goes_on : IsOpen (state s t)

-- A task makes no more calls than its stop says. It is answered that it was stopped only where that kept it from a
-- call, and always there, unless memory was refused.
pub record StopsRight (plugins : List PluginView) (s : SessionView) (t : Task) (a : TaskAnswer) : Type 0 where
  pub only : (calls : ℕ) → a ≡ Stopped calls → IsStoppedAt plugins s t calls
  pub where_due : (calls : ℕ) → IsStoppedAt plugins s t calls → (a ≡ Stopped calls) ⊎ (a ≡ OutOfMemory)
  pub within : IfSome t.stop (λ most. length (own s) ≤ most)

-- ---- all of it

-- of the task that was answered last
pub record HoldsOf (suite : Suite) (s : SessionView) (t : Task) (a : TaskAnswer) : Type 0 where
  pub runs : RunsByCourse suite.plugins s t
  pub ended : EndsByCourse suite.plugins s t a
  pub sound : IsSound (finish s)
  pub row : HasRow suite s t
  pub objects : (att : Att) → HasByRow s att
  pub added : (r : AddResult) → a ≡ Added r → HasAdded suite s t r
  pub refused : (e : CniError) → t.verb ≡ verbs.Add → a ≡ Refused e → WasRefused suite.plugins s t
  pub deleted : t.verb ≡ verbs.Del → Deletes s t a
  pub checked : t.verb ≡ verbs.Check → Checks s t a
  pub collected : t.verb ≡ verbs.Gc → Collects s t a
  pub caused : AnswersByCause suite.plugins s t a
  pub stopped : StopsRight suite.plugins s t a

abbrev pub TaskHolds : Suite → SessionView → Type 0
TaskHolds suite s = (t : Task) (a : TaskAnswer) → slice_get s.conf.tasks (number s - 1) ≡ Some t
    → slice_get s.answers (number s - 1) ≡ Some a → HoldsOf suite s t a
