-- The tasks of a session file, each key by key in the order of its refusals.
use Rattle.std.specs.Prelude.{ℕ, List, [], ◌∷◌, codes, nat_le, if◌then◌else◌, Result, Ok, Option, Some, None}
use Rattle.serde_json.specs.{Data.{Data, string, object, Items, Members, no_members, member}, Events.items_len}
use Rattle.cni_json.specs.{Each.each_from, Fields.{list_field, member_at, needed, object_or, tested}, Outcome.◌>>=◌}
use Rattle.net_conf.specs.Members.{is_null}
use Rattle.plugin_registry.specs.declared.ask.Opt.{Opt}
use Rattle.pod_file.specs.{Commands.{faults_at, stop_at, verb_at, wrong_verb}, Members.{text_at, valid_at}}
use Rattle.pod_file.specs.{Refusals.{command_path, wrong, wrong_key}, declared.command.Verb.Verb}
use Rattle.pod_file.specs.declared.{error.PodError.PodError, place.Place.{Place, TheVariants.InTasks}}
use Rattle.session_file.specs.{WellFormed.{is_of_session, most_tasks}, declared.session.Task.Task}

-- ---- options

-- an option's value is a text
abbrev pub option_of : Place → List ℕ → Data → Result Opt PodError
option_of place key (string value) = Ok (record { key = key; value = value })
option_of place key d = wrong_key place (codes "options")

-- the options in byte order of their keys; a member that is null is as an absent one
abbrev pub options_of : Place → Members → Result (List Opt) PodError
options_of place no_members = Ok []
options_of place (member key d ms) = if is_null d then options_of place ms else (do
  first ← option_of place key d
  rest ← options_of place ms
  Ok (first ∷ rest))

abbrev pub options_in : Place → Option Data → Result (List Opt) PodError
options_in place None = Ok []
options_in place (Some (object ms)) = options_of place ms
options_in place (Some d) = wrong_key place (codes "options")

-- the options of a task, none where there is no object of them
unfoldable pub options_at : Place → Data → Result (List Opt) PodError
options_at place d = options_in place (member_at (codes "options") d)

-- ---- one task

-- the verb, which is one of a session's; it must be there
unfoldable pub task_verb_at : Place → Data → Result Verb PodError
task_verb_at place d = do
  verb ← verb_at place d
  tested (wrong_verb place) is_of_session verb

unfoldable pub task_at : Place → Data → Result Task PodError
task_at place d = do
  _ ← object_or (wrong (command_path place)) d
  verb ← task_verb_at place d
  kind_name ← text_at place (codes "type") [] d
  container ← text_at place (codes "container") [] d
  netns ← text_at place (codes "netns") [] d
  ifname ← text_at place (codes "ifname") (codes "eth0") d
  options ← options_at place d
  valid ← valid_at place d
  stop ← stop_at place d
  faults ← faults_at place d
  Ok (record {
    verb = verb;
    kind_name = kind_name;
    container = container;
    netns = netns;
    ifname = ifname;
    options = options;
    valid = valid;
    stop = stop;
    faults = faults;
  })

-- ---- the list

abbrev pub task_in : ℕ → Data → Result Task PodError
task_in index d = task_at (InTasks index) d

-- a list that is too long is refused before any of its tasks
abbrev pub few_tasks : Items → Result (List Task) PodError
few_tasks ds = if nat_le (items_len ds) most_tasks then each_from task_in 0 ds else wrong (codes "tasks")

-- the tasks, a list that must be there
unfoldable pub tasks_at : Data → Result (List Task) PodError
tasks_at d = needed (wrong (codes "tasks")) few_tasks (list_field (codes "tasks") d)
