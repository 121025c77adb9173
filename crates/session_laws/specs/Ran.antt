-- One task, by what it is handed: what it enters, the row that it makes, and its answer.
use Rattle.std.specs.{Option.option_or, Prelude.{◌≡◌, ◌≤◌, ℕ, List, [], length, Option, Some, None, is_some}}
use Rattle.std.specs.Prelude.{MatchOption, IfSome, ◌⊎◌}
use Rattle.cni_addr.specs.declared.address.Addr.{Addr}
use Rattle.cni_result.specs.declared.cached.Cached.{Cached}
use Rattle.host_local.specs.Leases.{given_of}
use Rattle.kernel_types.specs.declared.object.Host.{Host}
use Rattle.pod_file.specs.declared.command.Command.{Command}
use Rattle.plugin_registry.specs.{Own.OwnCalls, declared.ask.Ask.Ask}
use Rattle.cni_errors.specs.{CommandFields.att_of, declared.answer.Cause.Cause}
use Rattle.cni_verbs.specs.Script.{State, IsOpen, leases_in}
use Rattle.gc_sweep.specs.Trace.{Made, replies}
use Rattle.session_laws.specs.{Course.{Course, IsRunFrom, begins, state_from, IsOver}, Holds.{Suite, TaskCause, Known}}
use Rattle.session_laws.specs.{Holds.{early_by, error_by, has_begun, is_faulty}, Pools.sets_by, Tasks.command_of}
use Rattle.session_laws.specs.{Tasks.course_by, Views.{PluginView, plugin_named}, declared.answer.TaskAnswer.TaskAnswer}
use Rattle.session_laws.specs.declared.row.Row.{Row}
use Rattle.session_file.specs.declared.session.{SessionConf.SessionConf, Task.Task}
use Rattle.session_laws.specs.declared.answer.TaskAnswer.TheVariants as answers
use Rattle.cni_errors.specs.declared.answer.Ending.TheVariants as endings

-- what a task is handed: the session's network and pools, and the row of its attachment with what that row was leased
pub record Handed : Type 0 where
  pub conf : SessionConf
  pub number : ℕ
  pub task : Task
  pub row : Option Row
  pub leased : List Addr

abbrev pub command_for : Handed → Command
command_for h = command_of h.conf.network h.number h.task

abbrev pub early_for : Suite → Handed → Option TaskCause
early_for suite h = early_by suite.plugins h.task.verb (command_for h) h.task

abbrev pub ask_for : Handed → List Made → Ask
ask_for h es = record {
  att = att_of (command_for h);
  netns = h.task.netns;
  options = h.task.options;
  given = given_of (sets_by h.conf.ipam) (leases_in (replies es));
}

-- the row of the attachment after the task, and what it was leased
abbrev pub row_after : Handed → Option Row → Option Row
row_after h more = option_or more h.row

abbrev pub leased_after : Handed → List Made → Option Row → List Addr
leased_after h es None = h.leased
leased_after h es (Some row) = leases_in (replies es)

abbrev pub course_for : Handed → List Made → Option Row → Course
course_for h es more =
    course_by h.conf.network h.conf.ipam h.task (row_after h more) (leased_after h es more)

-- what the plugin answered, after an address of each set was leased
pub record IsAnswered (suite : Suite) (h : Handed) (es : List Made) (row : Row) (cached : Cached) : Type 0 where
  pub leased : length (leases_in (replies es)) ≡ length (sets_by h.conf.ipam)
  pub calls : suite.may_call h.task.kind_name (ask_for h es) row.calls
  pub own : OwnCalls (ask_for h es) row.kinds row.calls
  pub netns : cached.netns ≡ h.task.netns
  pub mappings : cached.mappings ≡ []
  pub result : suite.may_result h.task.kind_name (ask_for h es) cached.result

-- the row that an ADD makes
pub record IsNewRow (suite : Suite) (h : Handed) (es : List Made) (row : Row) : Type 0 where
  pub task : row.task ≡ h.number
  pub att : row.att ≡ att_of (command_for h)
  pub plugin : PluginView
  pub named : plugin_named suite.plugins h.task.kind_name ≡ Some plugin
  pub kinds : row.kinds ≡ plugin.kinds
  pub filled : MatchOption row.cached (row.calls ≡ []) (IsAnswered suite h es row)

-- the answer of a task whose entries came to this state
abbrev pub IsAnswerAt : Handed → List Made → Option Row → State → TaskAnswer → Type 0
IsAnswerAt h es more t (answers.Added r) = IsOver t endings.Added
    × ((row : Row) × (more ≡ Some row) × ((cached : Cached) × (row.cached ≡ Some cached) × (cached.result ≡ r)))
IsAnswerAt h es more t answers.Yes = IsOver t endings.Yes
IsAnswerAt h es more t (answers.Refused e) =
    (cause : Cause) × IsOver t (endings.Refused cause) × (e ≡ error_by (command_for h) (Known cause))
IsAnswerAt h es more t (answers.Stopped calls) = IsOpen t × (h.task.stop ≡ Some calls) × (length es ≡ calls)
IsAnswerAt h es more t answers.OutOfMemory = Unit {0}

-- its entries are those of its course
pub record RanByCourse (h : Handed) (host : Host) (es : List Made) (more : Option Row) (a : TaskAnswer) : Type 0 where
  pub state : State
  pub run : IsRunFrom (course_for h es more) (command_for h) (is_faulty h.task.faults) 0 (begins h.task.verb) host es
  pub is : state_from (course_for h es more) 0 (begins h.task.verb) (replies es) ≡ state
  pub answer : IsAnswerAt h es more state a

-- it is refused before its first call, unless memory is
pub record WasEarly (h : Handed) (es : List Made) (a : TaskAnswer) (cause : TaskCause) : Type 0 where
  pub none : es ≡ []
  pub answer : (a ≡ answers.Refused (error_by (command_for h) cause)) ⊎ (a ≡ answers.OutOfMemory)

-- what is known of a task that was run on this host
pub record Ran (suite : Suite) (h : Handed) (host : Host) (es : List Made) (more : Option Row) (a : TaskAnswer)
    : Type 0 where
  pub begun : is_some more ≡ has_begun es
  pub row : IfSome more (IsNewRow suite h es)
  -- it made no more calls than its stop says
  pub within : IfSome h.task.stop (λ most. length es ≤ most)
  pub ran : MatchOption (early_for suite h) (RanByCourse h host es more a) (WasEarly h es a)
