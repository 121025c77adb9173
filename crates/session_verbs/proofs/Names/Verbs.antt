-- The verbs of the interface: what is asked, and what is answered.
pub use Rattle.cni_errors.specs.{CommandFields.att_of, ObjectQuestions.lease_question, declared.answer.Cause.Cause}
pub use Rattle.cni_errors.specs.declared.answer.{Ending.{Ending, TheVariants.{Added, Refused, Yes}}, Question.Question}
pub use Rattle.net_conf.specs.{Sets.ranges_of, declared.first.HostLocalConf.HostLocalConf}
pub use Rattle.cni_verbs.specs.{Replies.reply_to, Script.{Over, State, after_leases, leases_in, AtBegin, ReadingCache}}
pub use Rattle.cni_verbs.specs.Script.{refused, AfterLeases, Leasing, at_call_after, Asking, asking, at_question}
pub use Rattle.cni_verbs.specs.Script.{Deleting, FindingEntry, Collecting, at_deletion, deleting, faulted, swept}
pub use Rattle.cni_verbs.specs.Sweep.{Gc}
pub use Rattle.pod_file.specs.{Faults.are_after, declared.command.{Command.Command, ValidAtt.ValidAtt}}
unfoldable pub use Rattle.cni_verbs.specs.Script.{finish_of, next_call}
