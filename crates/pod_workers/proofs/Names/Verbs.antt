-- The verbs of the interface: what is asked, and what is answered.
pub use Rattle.cni_errors.specs.{CommandFields.att_of, declared.answer.Answer.{Answer, TheVariants.OutOfMemory}}
pub use Rattle.cni_errors.specs.declared.answer.{Answer.TheVariants.Stopped, Ending.{Ending, TheVariants.Yes}}
pub use Rattle.cni_errors.specs.declared.answer.{Ending.TheVariants.{Skipped, Versions, Refused}, Question.Question}
pub use Rattle.net_conf.specs.declared.{chained.Chained.Chained, first.{First.First, HostLocalConf.HostLocalConf}}
pub use Rattle.net_conf.specs.declared.list.NetList.{NetList}
pub use Rattle.cni_verbs.proofs.AfterReplies.{after_replies-keeps}
pub use Rattle.cni_verbs.specs.{Progress.{turn_by, answer_by, Progress, RunView, advanced}, Script.{Turn, Calls}}
pub use Rattle.cni_verbs.specs.Script.{Finishes, Finish, State, AtBegin, BeforeLeases, Leasing, AfterLeases}
pub use Rattle.cni_verbs.specs.Script.{ReadingCache, Deleting, FindingEntry, Asking, Changing, Collecting, Over}
pub use Rattle.cni_verbs.specs.Script.{before_of, at_begin, at_cache, at_call_after, at_call_before, at_deletion}
pub use Rattle.cni_verbs.specs.Script.{at_entry, at_lease, at_question, after_leases, leasing, before_leases, deleting}
pub use Rattle.cni_verbs.specs.Script.{asking, checking, back_of, state_from, start_state, outside_advance}
pub use Rattle.cni_verbs.specs.Script.{outside_start, state_after, outside_after, gc_of, turn_of_work, IsOpen}
pub use Rattle.cni_verbs.specs.{Script.{next_call, finish_of}, Sweep.{Work, Job, Sweep}}
pub use Rattle.pod_file.specs.{Commands.is_of_network, Rounds.{is_exclusive, file_limit}, WellFormed.IsWellFormedPods}
pub use Rattle.pod_file.specs.declared.command.{Command.Command, Verb.Verb}
unfoldable pub use Rattle.cni_errors.specs.CommandFields.{add_refusal}
unfoldable pub use Rattle.verb_questions.specs.Questions.{check_questions, status_questions}
unfoldable pub use Rattle.cni_verbs.specs.Script.{turn, advance}
