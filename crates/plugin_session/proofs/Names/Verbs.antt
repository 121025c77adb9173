-- The verbs of the interface: what is asked, and what is answered.
pub use Rattle.cni_errors.specs.{CommandFields.{att_of, del_refusal}, declared.answer.{Cause.Cause, Ending.Ending}}
pub use Rattle.cni_errors.specs.declared.answer.{Ending.TheVariants.{Added, Refused, Yes}, Question.Question}
pub use Rattle.cni_verbs.specs.{Replies.reply_to, Script.{Over, State, after_leases, leases_in, AtBegin, ReadingCache}}
pub use Rattle.cni_verbs.specs.Script.{AfterLeases, Leasing, at_call_after, Asking, asking, at_question, Deleting}
pub use Rattle.cni_verbs.specs.{Script.{FindingEntry, Collecting, at_deletion, deleting, faulted, swept}, Sweep.Gc}
pub use Rattle.pod_file.specs.{Faults.are_after, declared.command.{Command.Command, ValidAtt.ValidAtt}}
pub use Rattle.session_file.specs.declared.session.Task.{Task}
unfoldable pub use Rattle.cni_errors.specs.CommandFields.{add_refusal}
unfoldable pub use Rattle.cni_verbs.specs.Script.{finish_of, next_call}
