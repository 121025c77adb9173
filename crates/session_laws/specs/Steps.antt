-- One task of a session: the view before it, what it did, and the view after it.
use Rattle.std.specs.{List.list_all, Option.option_map_or, Prelude.{◌≡◌, ◌≤◌, ℕ, ◌+◌, true, List, [], ◌∷◌, ◌++◌, All}}
use Rattle.std.specs.Prelude.{Option, Some, None, find, length, map, option_and_then, reverse, slice_get, slice_set}
use Rattle.cni_addr.specs.declared.address.Addr.{Addr}
use Rattle.kernel_types.specs.{Equal.att_eq, declared.object.{Att.Att, Host.Host}}
use Rattle.pod_file.specs.declared.command.Command.{Command}
use Rattle.plugin_registry.specs.declared.ask.Ask.{Ask}
use Rattle.cni_verbs.specs.Script.{leases_in}
use Rattle.gc_sweep.specs.Trace.{Made, host_from, replies}
use Rattle.session_laws.specs.{Course.Course, Holds.{Grows, HasByRow, HoldsOf, Suite, TaskHolds, rows_of_task}}
use Rattle.session_laws.specs.Kept.{AreLastRows, AreNumbered, IsLastRow, IsRowKept, is_numbered, pools_of}
use Rattle.session_laws.specs.{Pools.IsReady, Ran.{Handed, Ran, ask_for, command_for, course_for, leased_after}}
use Rattle.session_laws.specs.{Ran.row_after, Views.{entry_of, SessionView, ask_by, att_by, begun, command_by, course}}
use Rattle.session_laws.specs.Views.{finish, leased_by, leased_to, number, own, row_of, start}
use Rattle.session_laws.specs.declared.{answer.TaskAnswer.TaskAnswer, entry.Entry.Entry, row.Row.Row}
use Rattle.session_file.specs.{WellFormed.IsSessionConf, declared.session.{SessionConf.SessionConf, Task.Task}}

-- of what is kept from task to task (`IsKept`), what the view tells
pub record IsViewKept (s : SessionView) : Type 0 where
  pub conf : IsSessionConf s.conf
  pub count : number s ≤ length s.conf.tasks
  pub ready : IsReady (pools_of s.conf) (finish s)
  pub entries : list_all (λ (e : Entry). is_numbered (number s) e.task) s.history ≡ true
  pub rows : All (IsRowKept (number s)) s.rows
  pub few : length s.rows ≤ number s
  pub objects : (att : Att) → HasByRow s att
  -- without pools no row's task was leased anything
  pub unleased : s.conf.ipam ≡ None → All (λ row. leased_to s row ≡ []) s.rows

-- what the next task is handed
abbrev pub handed : SessionView → Task → Handed
handed s t = record {
  conf = s.conf;
  number = number s + 1;
  task = t;
  row = row_of s (att_by s t);
  leased = leased_by s (row_of s (att_by s t));
}

abbrev pub if_any : {X : Type 0} → Option X → List X
if_any o = option_map_or (λ x. x ∷ []) o []

-- the session after its next task
abbrev pub after_task : SessionView → List Made → Option Row → TaskAnswer → SessionView
after_task s es more a = record {
  conf = s.conf;
  history = s.history ++ map (entry_of (number s + 1)) es;
  rows = s.rows ++ if_any more;
  answers = s.answers ++ a ∷ [];
}

-- the next task is this one, and did this
pub record Step (suite : Suite) (old new : SessionView) (t : Task) (es : List Made) (more : Option Row) (a : TaskAnswer)
    : Type 0 where
  pub there : slice_get old.conf.tasks (number old) ≡ Some t
  pub is : new ≡ after_task old es more a
  pub ran : Ran suite (handed old t) (finish old) es more a

-- ---- all that is said of a session's last task, as one value

pub record Seen : Type 0 where
  pub number : ℕ
  pub command : Command
  pub ask : Ask
  pub course : Course
  pub start : Host
  pub own : List Made
  pub finish : Host
  pub row : Option Row
  pub leased : List Addr
  pub rows : List Row

abbrev pub seen : SessionView → Task → Seen
seen s t = record {
  number = number s;
  command = command_by s t;
  ask = ask_by s t;
  course = course s t;
  start = start s;
  own = own s;
  finish = finish s;
  row = row_of s (att_by s t);
  leased = leased_by s (row_of s (att_by s t));
  rows = rows_of_task s;
}

abbrev pub seen_for : Handed → Host → List Made → Option Row → Seen
seen_for h host es more = record {
  number = h.number;
  command = command_for h;
  ask = ask_for h es;
  course = course_for h es more;
  start = host;
  own = es;
  finish = host_from host es;
  row = row_after h more;
  leased = leased_after h es more;
  rows = if_any more;
}

-- ---- the statements

abbrev pub StepsAreSeen : Suite → Type 0
StepsAreSeen suite = (old : SessionView) (t : Task) (es : List Made) (more : Option Row) (a : TaskAnswer)
    → IsViewKept old → Ran suite (handed old t) (finish old) es more a
    → seen (after_task old es more a) t ≡ seen_for (handed old t) (finish old) es more

abbrev pub StepsGrow : Suite → Type 0
StepsGrow suite = (old new : SessionView) (t : Task) (es : List Made) (more : Option Row) (a : TaskAnswer)
    → Step suite old new t es more a → Grows old new

abbrev pub StepsHold : Suite → Type 0
StepsHold suite = (old new : SessionView) (t : Task) (es : List Made) (more : Option Row) (a : TaskAnswer)
    → IsViewKept old → Step suite old new t es more a → HoldsOf suite new t a

-- so the session's law holds after it
abbrev pub StepsHoldOfTheLast : Suite → Type 0
StepsHoldOfTheLast suite = (old new : SessionView) (t : Task) (es : List Made) (more : Option Row) (a : TaskAnswer)
    → IsViewKept old → Step suite old new t es more a → TaskHolds suite new

abbrev pub StepsKeep : Suite → Type 0
StepsKeep suite = (old new : SessionView) (t : Task) (es : List Made) (more : Option Row) (a : TaskAnswer)
    → IsViewKept old → Step suite old new t es more a → IsViewKept new

-- what the task of each row was leased, row by row
abbrev pub StepsKeepLeases : Suite → Type 0
StepsKeepLeases suite = (old new : SessionView) (t : Task) (es : List Made) (more : Option Row) (a : TaskAnswer)
    → IsViewKept old → Step suite old new t es more a
    → map (leased_to new) new.rows ≡ map (leased_to old) old.rows ++ map (λ row. leases_in (replies es)) (if_any more)

-- the places of the attachments' last rows, where the task's attachment has this number
abbrev pub places_after : List Row → ℕ → Option Row → List (Option ℕ) → List (Option ℕ)
places_after rows attachment more places =
    option_map_or (λ row. slice_set places attachment (Some (length rows))) more places

abbrev pub StepsKeepPlaces : Suite → Type 0
StepsKeepPlaces suite = (old new : SessionView) (t : Task) (es : List Made) (more : Option Row) (a : TaskAnswer)
    (numbers : List ℕ) (places : List (Option ℕ)) (attachment : ℕ) → Step suite old new t es more a
    → AreNumbered old.conf.network old.conf.tasks numbers (length places) → AreLastRows old numbers places
    → slice_get numbers (number old) ≡ Some attachment
    → AreLastRows new numbers (places_after old.rows attachment more places)

-- at the place that is kept stands the row of the attachment
abbrev pub LastRowsAreRead : Type 0
LastRowsAreRead = (rows : List Row) (att : Att) (place : Option ℕ) → IsLastRow rows att place
    → option_and_then (slice_get rows) place ≡ find (λ r. att_eq r.att att) (reverse rows)

-- before the first task
abbrev pub TheFirstViewIsKept : Type 0
TheFirstViewIsKept = (conf : SessionConf) → IsSessionConf conf → IsViewKept (begun conf)
