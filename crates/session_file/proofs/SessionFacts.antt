-- What a session file keeps that is read.
use Rattle.std.proofs.Common.{◌≡◌, ℕ, suc, ◌+◌, ◌≤◌, Bool, true, List, [], length, codes, Option, Result, Ok, Err, refl}
use Rattle.std.proofs.{Common.{ap, subst, arith}, lemmas.Bool.Decides.nat_tests}
use Rattle.std.specs.{List.list_all, Prelude.{IfOk, nat_le, unwrap_or}, Result.result_map_both}
use Rattle.serde_json.specs.{Data.{Data, null, Items, no_items, item}, Events.items_len}
use Rattle.cni_json.proofs.Endings.{goes, ok_same, passed, went_on}
use Rattle.cni_json.specs.{Each.each_from, Fields.{list_field, member_at, needed, object_or}, Json.json_of}
use Rattle.cni_json.specs.{Outcome.Gives, declared.fields.Field.{Field, TheVariants.{Absent, Here, WrongKind}}}
use Rattle.kernel_types.specs.declared.object.Host.{Host}
use Rattle.net_conf.specs.{Ipam.read_ipam_at, WellFormed.IsWellFormedIpam, declared.error.ConfError.ConfError}
use Rattle.net_conf.specs.declared.first.HostLocalConf.{HostLocalConf}
use Rattle.pod_file.specs.{Commands.{faults_at, stop_at, verb_at}, Members.{text_at, valid_at}, Opening.opening_at}
use Rattle.pod_file.specs.{Opening.opening_of, PodFile.read_or_refused, Refusals.{command_path, is_out_of_memory}}
use Rattle.pod_file.specs.{Refusals.wrong, WellFormed.IsOpening, declared.{command.Verb.Verb, error.PodError.PodError}}
use Rattle.pod_file.specs.declared.place.Place.{Place}
use Rattle.session_file.specs.{SessionFile.{network_at, pools_at, pools_of, session_at, session_of}, Tasks.few_tasks}
use Rattle.session_file.specs.{Tasks.{options_at, task_at, task_in, task_verb_at, tasks_at}, WellFormed.IsSessionConf}
use Rattle.session_file.specs.{WellFormed.{is_of_session, most_tasks}, declared.session.SessionConf.SessionConf}
use Rattle.session_file.specs.declared.session.Task.{Task}

-- ---- tasks

abbrev has_its_verb : Task → Bool
has_its_verb task = is_of_session task.verb

task_verb_at-ok : (place : Place) (d : Data) (verb : Verb) → task_verb_at place d ≡ Ok verb → is_of_session verb ≡ true
unfolding task_verb_at
task_verb_at-ok place d verb is =
    let found = goes (verb_at place d) _ verb is in
    let test = passed (is_of_session found.value) found.value verb _ found.rest in
    subst (λ v. is_of_session v ≡ true) test.1 test.0

task_at-ok : (place : Place) (d : Data) (task : Task) → task_at place d ≡ Ok task → has_its_verb task ≡ true
unfolding task_at
task_at-ok place d task is =
    let form = goes (object_or (wrong (command_path place)) d) _ task is in
    let verb = goes (task_verb_at place d) _ task form.rest in
    let kind = goes (text_at place (codes "type") [] d) _ task verb.rest in
    let container = goes (text_at place (codes "container") [] d) _ task kind.rest in
    let netns = goes (text_at place (codes "netns") [] d) _ task container.rest in
    let ifname = goes (text_at place (codes "ifname") (codes "eth0") d) _ task netns.rest in
    let options = goes (options_at place d) _ task ifname.rest in
    let valid = goes (valid_at place d) _ task options.rest in
    let stop = goes (stop_at place d) _ task valid.rest in
    let faults = goes (faults_at place d) _ task stop.rest in
    subst (λ t. has_its_verb t ≡ true) (ok_same faults.rest) (task_verb_at-ok place d verb.value verb.first)

-- so many tasks, each with its verb
record AreTasks (n : ℕ) (tasks : List Task) : Type 0 where
  count : length tasks ≡ n
  verbs : list_all has_its_verb tasks ≡ true

each_task : (place : ℕ) (ds : Items) (tasks : List Task) → each_from task_in place ds ≡ Ok tasks
    → AreTasks (items_len ds) tasks
each_task place no_items tasks is = subst (AreTasks 0) (ok_same is) (record { count = refl; verbs = refl })
each_task place (item d ds) tasks is =
    let one = goes (task_in place d) _ tasks is in
    let more = goes (each_from task_in (place + 1) ds) _ tasks one.rest in
    let others = each_task (place + 1) ds more.value more.first in
    subst (AreTasks (suc (items_len ds))) (ok_same more.rest) (record {
      count = ap suc others.count;
      verbs = rw (task_at-ok _ d one.value one.first, others.verbs) refl;
    })

-- what a session's tasks keep
record AreFewTasks (tasks : List Task) : Type 0 where
  count : length tasks ≤ most_tasks
  verbs : list_all has_its_verb tasks ≡ true

few_tasks-ok : (ds : Items) (tasks : List Task) → few_tasks ds ≡ Ok tasks → AreFewTasks tasks
few_tasks-ok ds tasks is =
    let read = went_on (nat_le (items_len ds) most_tasks) (each_from task_in 0 ds) tasks _ is in
    let each = each_task 0 ds tasks read.1 in
    record { count = grind (arith, nat_tests, read.0, each.count); verbs = each.verbs }

tasks_of-ok : (f : Field Items) (tasks : List Task)
    → needed (wrong (codes "tasks")) few_tasks f ≡ Ok tasks → AreFewTasks tasks
tasks_of-ok Absent tasks is = cc
tasks_of-ok WrongKind tasks is = cc
tasks_of-ok (Here ds) tasks is = few_tasks-ok ds tasks is

tasks_at-ok : (d : Data) (tasks : List Task) → tasks_at d ≡ Ok tasks → AreFewTasks tasks
unfolding tasks_at
tasks_at-ok d tasks is = tasks_of-ok (list_field (codes "tasks") d) tasks is

-- ---- the file, by what is known of pools and openings that are read

abbrev pub PoolsAreWellFormed : Type 0
PoolsAreWellFormed = (d : Data) (ipam : Option HostLocalConf) → read_ipam_at d ≡ Ok ipam → IsWellFormedIpam ipam

abbrev pub OpeningsAreWellFormed : Type 0
OpeningsAreWellFormed = (d : Data) (host : Host) → opening_of d ≡ Ok host → IsOpening host

read_pools : (r : Result (Option HostLocalConf) ConfError) (e : PodError) (pools : Option HostLocalConf)
    → result_map_both (λ p. p) (λ _. e) r ≡ Ok pools → r ≡ Ok pools
read_pools (Ok found) e pools is = ap Ok (ok_same is)
read_pools (Err refused) e pools is = cc

pools_at-ok : PoolsAreWellFormed → (d : Data) (pools : Option HostLocalConf) → pools_at d ≡ Ok pools
    → IsWellFormedIpam pools
unfolding pools_at pools_of
pools_at-ok formed d pools is =
    let value = unwrap_or (member_at (codes "ipam") d) null in
    formed value pools (read_pools (read_ipam_at value) _ pools is)

opening_at-ok : OpeningsAreWellFormed → (d : Data) (host : Host) → opening_at d ≡ Ok host → IsOpening host
unfolding opening_at
opening_at-ok formed d host is = formed (unwrap_or (member_at (codes "opening") d) null) host is

session_at-ok : PoolsAreWellFormed → OpeningsAreWellFormed → (d : Data) (conf : SessionConf) → session_at d ≡ Ok conf
    → IsSessionConf conf
unfolding session_at
session_at-ok pools_formed openings_formed d conf is =
    let form = goes (object_or (wrong []) d) _ conf is in
    let network = goes (network_at d) _ conf form.rest in
    let pools = goes (pools_at d) _ conf network.rest in
    let opening = goes (opening_at d) _ conf pools.rest in
    let tasks = goes (tasks_at d) _ conf opening.rest in
    let kept = tasks_at-ok d tasks.value tasks.first in
    subst IsSessionConf (ok_same tasks.rest) (record {
      opening = opening_at-ok openings_formed d opening.value opening.first;
      ipam = pools_at-ok pools_formed d pools.value pools.first;
      count = kept.count;
      verbs = kept.verbs;
    })

-- every session file that is read is well formed
pub session_of-ok : PoolsAreWellFormed → OpeningsAreWellFormed → (bytes : List ℕ) (conf : SessionConf)
    → session_of bytes ≡ Ok conf → IsSessionConf conf
unfolding session_of
session_of-ok pools_formed openings_formed bytes conf is =
    let json = goes (read_or_refused (json_of bytes)) _ conf is in
    session_at-ok pools_formed openings_formed json.value conf json.rest

-- an outcome keeps what the defined one does
pub kept_by : (r wanted : Result SessionConf PodError) → Gives is_out_of_memory r wanted
    → ((conf : SessionConf) → wanted ≡ Ok conf → IsSessionConf conf) → IfOk r IsSessionConf
kept_by (Ok conf) wanted gives law = law conf gives
kept_by (Err e) wanted gives law = tt
