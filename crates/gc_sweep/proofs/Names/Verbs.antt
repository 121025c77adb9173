-- The verbs, and what the plugins call for them.
pub use Rattle.cni_errors.specs.{Answers.plain_answer, declared.answer.Ending.{Ending, TheVariants.Yes}}
pub use Rattle.net_conf.specs.{Sets.one_if, declared.list.NetList.NetList}
pub use Rattle.cni_verbs.proofs.EarlyEndings.{early_ending-cases}
pub use Rattle.cni_verbs.specs.{Progress.{is_gc, Progress}, Replies.{host_after, reply_to}, Script.call_of_work}
pub use Rattle.cni_verbs.specs.Script.{gc_of, faults_after, swept, State, Collecting, Over, IsOpen, early_ending}
pub use Rattle.cni_verbs.specs.{Script.{start_state, finish_of_work, has_no_work, unless_ended}, Sweep.{Gc, Step}}
pub use Rattle.cni_verbs.specs.Sweep.{AskCached, Delete, Sweep, Job, is_valid, step_call, job_of, after_step}
pub use Rattle.cni_verbs.specs.Sweep.{work_after, is_named, Work, start_work}
pub use Rattle.pod_file.specs.declared.command.{Command.Command, ValidAtt.ValidAtt}
pub use Rattle.plugin_base.proofs.{Deletions.empty_none, KeyLists.list_all-each_key_once}
pub use Rattle.plugin_base.specs.Share.{Share, share_of, share_after_call, no_objects}
pub use Rattle.plugin_chain.specs.Wanted.{deletion, kinds_of}
unfoldable pub use Rattle.cni_verbs.specs.Script.{advance, next_call, finish_of}
