-- The verbs of the interface: what is asked, and what is answered.
pub use Rattle.cni_errors.specs.{CommandFields.att_of, declared.answer.{Cause.Cause, Ending.Ending}}
pub use Rattle.cni_errors.specs.declared.answer.{Ending.TheVariants.{Added, Refused, Yes}, Question.Question}
pub use Rattle.net_conf.specs.declared.first.HostLocalConf.{HostLocalConf}
pub use Rattle.cni_verbs.specs.{AddCalls.is_done, Replies.{is_granted, reply_to, host_after}, Script.{Over, State}}
pub use Rattle.cni_verbs.specs.Script.{after_leases, leases_in, AtBegin, ReadingCache, AfterLeases, Leasing}
pub use Rattle.cni_verbs.specs.Script.{at_call_after, leased_by, Asking, asking, at_question, Deleting, FindingEntry}
pub use Rattle.cni_verbs.specs.Script.{Collecting, at_deletion, deleting, faulted, swept, Finish, finish_of_work}
pub use Rattle.cni_verbs.specs.{Script.{BeforeLeases, Changing, IsOpen}, Sweep.{Job, Sweep}}
pub use Rattle.pod_file.specs.declared.command.{Command.Command, Verb.Verb}
pub use Rattle.session_file.specs.declared.session.Task.{Task}
unfoldable pub use Rattle.cni_verbs.specs.Script.{finish_of, next_call}
