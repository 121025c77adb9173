use Rattle.kernel_types.proofs.Replies.{IsReplyOf-apply}
use Rattle.kernel_types.proofs.laws.no_call_replies_fault.Goals as goal

pub returns-clause-no_fault : goal.returns-clause-no_fault
returns-clause-no_fault c = (IsReplyOf-apply c.args.host.now c.args.call.now).no_fault

pub returns-clause-leaves : goal.returns-clause-leaves
returns-clause-leaves c = (IsReplyOf-apply c.args.host.now c.args.call.now).leaves
