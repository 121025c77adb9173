use Rattle.std.proofs.{Common.{◌∙◌, ap, sym, subst}, lemmas.Result.IfOk-weaker}
use Rattle.kernel_types.specs.{Replies.is_fault, Sound.IsSound, declared.{call.Reply.Reply, object.Host.Host}}
use Rattle.kernel_types.proofs.Replies.{IsReplyOf-apply}
use Rattle.kernel_model.proofs.SoundCalls.{stays_sound}
use Rattle.kernel_tables.proofs.table_kernel.TableKernelKernel.call.Goals as goal

-- the tables before the call are what `self` means: it is sound, and the call may be made in it
pub invariant_of-self : goal.invariant_of-self
invariant_of-self c =
    let is = c.deref_mut.ensures.value in
    stays_sound _ c.deref_mut.result.now _ c.args.call.now _ (is ∙ c.self.view_is)
    (subst IsSound (sym is) c.self.invariant) c.requires
    c.carry_out.ensures.ok c.carry_out.ensures.err

pub returns-clause-sound : goal.returns-clause-sound
returns-clause-sound c =
    let is = c.deref_mut.ensures.value in
    stays_sound _ c.deref_mut.result.now _ c.args.call.now _ (is ∙ c.self.view_is)
    (subst IsSound (sym is) c.self.invariant) c.requires
    c.carry_out.ensures.ok c.carry_out.ensures.err

pub returns-clause-never : goal.returns-clause-never
returns-clause-never c =
    IfOk-weaker c.carry_out.result _ _
    (λ reply step.
    ap (λ (s : Host × Reply). is_fault s.1) step
    ∙ (IsReplyOf-apply c.deref_mut.result.now c.args.call.now).no_fault)
    c.carry_out.ensures.ok
