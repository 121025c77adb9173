-- What contracts see of a session, and what is said of its last task.
use Rattle.std.specs.{Option.option_map_or, Prelude.{◌≡◌, ℕ, ◌+◌, ◌==◌, nat_le, nat_lt, List, [], ◌∷◌, zero, suc}}
use Rattle.std.specs.{Prelude.{slice_get, length, map, filter, find, reverse, take, Option, Some, None}, Str.bytes_eq}
use Rattle.cni_addr.specs.declared.address.Addr.{Addr}
use Rattle.cni_result.specs.declared.cached.Cached.{Cached}
use Rattle.host_local.specs.Leases.{given_of}
use Rattle.kernel_types.specs.{Equal.att_eq, Terms.lease_of, declared.{call.Kind.Kind, object.Att.Att}}
use Rattle.kernel_types.specs.declared.object.{CachedObj.CachedObj, Host.Host, Tag.TheVariants.Own}
use Rattle.pod_file.specs.declared.command.Command.{Command}
use Rattle.plugin_base.specs.Share.{Share, no_objects, share_after_calls}
use Rattle.plugin_registry.specs.declared.ask.{Ask.Ask, Need.Need}
use Rattle.cni_verbs.specs.Script.{State, leases_in}
use Rattle.gc_sweep.specs.Trace.{Made, host_from, replies}
use Rattle.session_laws.specs.{Course.{Course, begins, state_from}, Pools.sets_by, Tasks.{command_of, course_by}}
use Rattle.session_laws.specs.declared.{answer.TaskAnswer.TaskAnswer, entry.Entry.Entry, row.Row.Row}
use Rattle.session_file.specs.declared.session.{SessionConf.SessionConf, Task.Task}

pub record PluginView : Type 0 where
  pub name : List ℕ
  pub needs : List Need
  pub kinds : List Kind

pub record SessionView : Type 0 where
  pub conf : SessionConf
  pub history : List Entry
  pub rows : List Row
  -- of the first tasks, in order
  pub answers : List TaskAnswer

-- a session before its first task
abbrev pub begun : SessionConf → SessionView
begun conf = record { conf = conf; history = []; rows = []; answers = [] }

-- after the task at this place: what later tasks made is left out
abbrev pub upto : ℕ → SessionView → SessionView
upto n s = record {
  conf = s.conf;
  history = filter (λ e. nat_le e.task (n + 1)) s.history;
  rows = filter (λ r. nat_le r.task (n + 1)) s.rows;
  answers = take (n + 1) s.answers;
}

-- ---- the task that was answered last

-- its number, from 1
abbrev pub number : SessionView → ℕ
number s = length s.answers

abbrev pub made_of : Entry → Made
made_of e = record { call = e.call; reply = e.reply }

abbrev pub entry_of : ℕ → Made → Entry
entry_of task e = record { task = task; call = e.call; reply = e.reply }

abbrev pub entries_of : ℕ → List Entry → List Made
entries_of number history = map made_of (filter (λ e. e.task == number) history)

-- its entries
abbrev pub own : SessionView → List Made
own s = entries_of (number s) s.history

-- the host when it began, and after it
abbrev pub start : SessionView → Host
start s = host_from s.conf.opening (map made_of (filter (λ e. nat_lt e.task (number s)) s.history))

abbrev pub finish : SessionView → Host
finish s = host_from s.conf.opening (map made_of s.history)

-- ---- rows

-- the last row of the attachment
abbrev pub row_of : SessionView → Att → Option Row
row_of s att = find (λ r. att_eq r.att att) (reverse s.rows)

-- what the row's task was leased
abbrev pub leased_to : SessionView → Row → List Addr
leased_to s row = leases_in (replies (entries_of row.task s.history))

-- an address of each set was leased to the row's task
abbrev pub HasLeaseOfEachSet : SessionView → Row → Type 0
HasLeaseOfEachSet s row = length (leased_to s row) ≡ length (sets_by s.conf.ipam)

abbrev pub leased_by : SessionView → Option Row → List Addr
leased_by s row = option_map_or (leased_to s) row []

abbrev pub cached_by : Att → Option Cached → List CachedObj
cached_by att None = []
cached_by att (Some cached) = record { cached = cached; tag = Own att } ∷ []

-- all that the row's attachment may have
abbrev pub part_by : SessionView → Row → Share
part_by s row = record (share_after_calls no_objects row.calls) {
  leases = map (lease_of row.att) (leased_to s row);
  cached = cached_by row.att row.cached;
}

-- ---- a task's words

abbrev pub att_by : SessionView → Task → Att
att_by s t = record { network = s.conf.network; container = t.container; ifname = t.ifname }

abbrev pub command_by : SessionView → Task → Command
command_by s t = command_of s.conf.network (number s) t

-- what its plugin is asked
abbrev pub ask_by : SessionView → Task → Ask
ask_by s t = record {
  att = att_by s t;
  netns = t.netns;
  options = t.options;
  given = given_of (sets_by s.conf.ipam) (leases_in (replies (own s)));
}

-- its course, by the row that its attachment has now
abbrev pub course : SessionView → Task → Course
course s t =
    let row = row_of s (att_by s t) in course_by s.conf.network s.conf.ipam t row (leased_by s row)

-- the state that its entries came to
abbrev pub state : SessionView → Task → State
state s t = state_from (course s t) 0 (begins t.verb) (replies (own s))

abbrev pub plugin_named : List PluginView → List ℕ → Option PluginView
plugin_named plugins name = find (λ p. bytes_eq p.name name) plugins

-- the answer of the task of this number, from 1
abbrev pub answer_of : SessionView → ℕ → Option TaskAnswer
answer_of s zero = None
answer_of s (suc n) = slice_get s.answers n
