-- The verbs of the interface: what is asked, and what is answered.
pub use Rattle.cni_errors.specs.{CommandFields.{att_of, add_refusal, del_refusal}, declared.answer.Answer.Answer}
pub use Rattle.cni_errors.specs.declared.answer.{Cause.Cause, Ending.{Ending, TheVariants.{Added, Yes, Skipped}}}
pub use Rattle.cni_errors.specs.declared.answer.{Ending.TheVariants.{Versions, Refused}, Question.Question}
pub use Rattle.net_conf.specs.declared.{chained.Chained.Chained, first.First.First, list.NetList.NetList}
pub use Rattle.cni_verbs.proofs.{EarlyEndings.too_old, Openings.opening-share}
pub use Rattle.cni_verbs.specs.{AddCalls.is_done, Mappings.mappings_of, Progress.{is_gc, turn_by, answer_by}}
pub use Rattle.cni_verbs.specs.{Replies.is_granted, Script.{State, AtBegin, BeforeLeases, Leasing, AfterLeases}}
pub use Rattle.cni_verbs.specs.Script.{ReadingCache, Deleting, FindingEntry, Asking, Changing, Collecting, Over, Calls}
pub use Rattle.cni_verbs.specs.Script.{before_of, back_of, after_leases, leasing, before_leases, deleting, faulted}
pub use Rattle.cni_verbs.specs.Script.{at_begin, at_call_before, at_lease, at_call_after, at_cache, at_deletion}
pub use Rattle.cni_verbs.specs.Script.{leases_in, gc_of, start_of, turn_of_work, start_state, asking, at_entry}
pub use Rattle.cni_verbs.specs.Script.{checking, at_question, unless_refused, state_after, state_from, swept}
pub use Rattle.cni_verbs.specs.{Script.{unless_ended, Finishes, Finish, changed, outside_after, cause_of}, Sweep.Job}
pub use Rattle.cni_verbs.specs.Sweep.{Step, AskCached, Delete, Sweep, start_work, step_call, work_after, Work}
pub use Rattle.verb_questions.specs.Questions.{addresses_of_result, bridge_by_mac, bridge_questions, cached_share}
pub use Rattle.verb_questions.specs.Questions.{first_interface, master_questions, pool_questions, share_questions}
pub use Rattle.pod_file.specs.{Commands.{is_of_network, is_exclusive_verb}, declared.command.Command.Command}
pub use Rattle.pod_file.specs.declared.command.Verb.{Verb}
unfoldable pub use Rattle.cni_verbs.specs.{Endings.answer_of, Script.{advance, turn, next_call}}
unfoldable pub use Rattle.verb_questions.specs.Questions.{check_questions, status_questions}
