use Rattle.std.proofs.{Common.{◌∙◌, ap}, lemmas.Result.IfOk-weaker}
use Rattle.kernel_types.specs.{Replies.is_fault, declared.{call.Reply.Reply, object.Host.Host}}
use Rattle.kernel_types.proofs.Replies.{IsReplyOf-apply}
use Rattle.kernel_model.proofs.SoundCalls.{stays_sound}
use Rattle.kernel_model.proofs.list_kernel.ListKernelKernel.call.Goals as goal

-- the lists before the call are what `self` means: they are sound, and the call may be made in it
pub invariant_of-self : goal.invariant_of-self
invariant_of-self c =
    stays_sound _ _ _ c.args.call.now _ c.self.view_is c.self.invariant c.requires c.carry_out.ensures.ok
    c.carry_out.ensures.err

pub returns-clause-sound : goal.returns-clause-sound
returns-clause-sound c =
    stays_sound _ _ _ c.args.call.now _ c.self.view_is c.self.invariant c.requires c.carry_out.ensures.ok
    c.carry_out.ensures.err

pub returns-clause-never : goal.returns-clause-never
returns-clause-never c =
    IfOk-weaker c.carry_out.result _ _
    (λ reply step.
    ap (λ (s : Host × Reply). is_fault s.1) step ∙ (IsReplyOf-apply c.self.inside.lists c.args.call.now).no_fault)
    c.carry_out.ensures.ok
