-- What a run that has come to its end answers.
use Rattle.std.specs.Prelude.{List}
use Rattle.cni_addr.specs.declared.address.Addr.{Addr}
use Rattle.cni_result.specs.declared.version.Version.TheVariants.{V1_1}
use Rattle.net_conf.specs.declared.list.NetList.{NetList}
use Rattle.pod_file.specs.declared.command.Command.{Command}
use Rattle.cni_errors.specs.{Answers.plain_answer, CommandFields.att_of, declared.answer.{Answer.Answer, Ending.Ending}}
use Rattle.cni_errors.specs.declared.answer.Ending.TheVariants.{Added}
use Rattle.cni_errors.specs.declared.answer.Answer.TheVariants as answers
use Rattle.cni_verbs.specs.Script.{Finish}
use Rattle.plugin_chain.specs.Wanted.{result_of_add}

-- an ADD has the result that its last plugin made
abbrev pub answer_of_ending : NetList → Command → Ending → List Addr → Answer
answer_of_ending list c Added given = answers.Added (result_of_add list (att_of c) c.netns given)
answer_of_ending list c ending given = plain_answer list.version c ending

unfoldable pub answer_of : NetList → Command → Finish → Answer
answer_of list c finish = answer_of_ending list c finish.ending finish.given

-- a change from outside has no list, and its errors are of the newest version
abbrev pub outside_by : Command → Ending → Answer
outside_by c ending = plain_answer V1_1 c ending

unfoldable pub answer_outside : Command → Finish → Answer
answer_outside c finish = outside_by c finish.ending
