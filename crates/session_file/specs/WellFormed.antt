-- What every session file that is read keeps.
use Rattle.std.specs.{List.list_all, Prelude.{◌≡◌, ◌≤◌, ℕ, Bool, true, false, length}}
use Rattle.net_conf.specs.WellFormed.{IsWellFormedIpam}
use Rattle.pod_file.specs.{WellFormed.IsOpening, declared.command.Verb.Verb}
use Rattle.pod_file.specs.declared.command.Verb.TheVariants as verbs
use Rattle.session_file.specs.declared.session.{SessionConf.SessionConf, Task.Task}

-- a session has four of the verbs
abbrev pub is_of_session : Verb → Bool
is_of_session verbs.Add = true
is_of_session verbs.Check = true
is_of_session verbs.Del = true
is_of_session verbs.Gc = true
is_of_session verb = false

-- the most tasks that a session may have
abbrev pub most_tasks : ℕ
most_tasks = 65536

-- its opening and its pools are as they are read, and its tasks are few and of these verbs
pub record IsSessionConf (conf : SessionConf) : Type 0 where
  pub opening : IsOpening conf.opening
  pub ipam : IsWellFormedIpam conf.ipam
  pub count : length conf.tasks ≤ most_tasks
  pub verbs : list_all (λ (t : Task). is_of_session t.verb) conf.tasks ≡ true
