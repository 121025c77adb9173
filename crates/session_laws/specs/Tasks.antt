-- What a task's words, and the row of its attachment, give.
use Rattle.std.specs.Prelude.{ℕ, ◌+◌, List, [], ◌∷◌, ◌++◌, map, Option, Some, None}
use Rattle.cni_addr.specs.declared.address.Addr.{Addr}
use Rattle.cni_result.specs.declared.cached.Cached.{Cached}
use Rattle.kernel_types.specs.{Terms.lease_of, declared.call.Call.{Call, TheVariants.{VethAdd, MacvlanAdd, AddrAdd}}}
use Rattle.kernel_types.specs.declared.call.{Call.TheVariants.{RouteAdd, RuleAppend, SettingSet, CachePut}, Kind.Kind}
use Rattle.kernel_types.specs.declared.object.Att.{Att}
use Rattle.net_conf.specs.declared.first.HostLocalConf.{HostLocalConf}
use Rattle.pod_file.specs.declared.command.Command.{Command}
use Rattle.cni_errors.specs.ObjectQuestions.{link_question, address_question, route_question, rule_question}
use Rattle.cni_errors.specs.{ObjectQuestions.{setting_question, lease_question}, declared.answer.Question.Question}
use Rattle.kernel_types.specs.declared.call.Kind.TheVariants as kinds
use Rattle.session_file.specs.declared.session.Task.{Task}
use Rattle.session_laws.specs.{Course.Course, Pools.sets_by, declared.row.Row.Row}

-- a task as a command of the network, whose words are tested as a pod file's are
abbrev pub command_of : List ℕ → ℕ → Task → Command
command_of network number t = record {
  number = number;
  verb = t.verb;
  network = network;
  container = t.container;
  netns = t.netns;
  ifname = t.ifname;
  args = [];
  mappings = [];
  valid = [];
  table = None;
  stop = None;
  faults = [];
}

-- the kinds that a deletion deletes: those of the row's plugin, then what was leased, then the cached result
abbrev pub kinds_back : Option HostLocalConf → Option Row → List Kind
kinds_back ipam None = kinds.Cached ∷ []
kinds_back None (Some row) = row.kinds ++ kinds.Cached ∷ []
kinds_back (Some conf) (Some row) = row.kinds ++ kinds.Leases ∷ kinds.Cached ∷ []

-- the calls of an ADD after its leases: those that the plugin gave, and that of its result
abbrev pub forward_by : Att → List Call → Option Cached → List Call
forward_by att calls None = []
forward_by att calls (Some cached) = calls ++ CachePut att cached ∷ []

abbrev pub forward_of : Option Row → List Call
forward_of None = []
forward_of (Some row) = forward_by row.att row.calls row.cached

-- ---- the questions of a check

-- one for each object that the call appends; a rule is named by its place among the row's rules
abbrev pub questions_by : ℕ → Call → List Question
questions_by rule (VethAdd host_end inner_end) = link_question host_end ∷ link_question inner_end ∷ []
questions_by rule (MacvlanAdd link) = link_question link ∷ []
questions_by rule (AddrAdd obj) = address_question obj ∷ []
questions_by rule (RouteAdd obj) = route_question obj ∷ []
questions_by rule (RuleAppend r) = rule_question rule r ∷ []
questions_by rule (SettingSet setting) = setting_question setting ∷ []
questions_by rule call = []

abbrev pub next_rule : ℕ → Call → ℕ
next_rule rule (RuleAppend r) = rule + 1
next_rule rule call = rule

abbrev pub call_questions : ℕ → List Call → List Question
call_questions rule [] = []
call_questions rule (call ∷ calls) = questions_by rule call ++ call_questions (next_rule rule call) calls

abbrev pub row_questions : Option Row → List Addr → List Question
row_questions None leased = []
row_questions (Some row) leased =
    call_questions 1 row.calls ++ map (λ addr. lease_question (lease_of row.att addr)) leased

-- ---- the course

-- by the row of the task's attachment, and what that row's task was leased
abbrev pub course_by : List ℕ → Option HostLocalConf → Task → Option Row → List Addr → Course
course_by network ipam t row leased = record {
  sets = sets_by ipam;
  forward = forward_of row;
  kinds = kinds_back ipam row;
  questions = row_questions row leased;
  gc = record { network = network; valid = t.valid; kinds = [] };
}
