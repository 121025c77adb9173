-- A host stays sound through a call that gives what `apply` gives, or fails and changes nothing.
use Rattle.std.proofs.Common.{◌≡◌, ap, sym, subst}
use Rattle.std.specs.Prelude.{Result, Ok, Err, IfOk, OnErr}
use Rattle.cni_addr.specs.declared.memory.NoMemory.{NoMemory}
use Rattle.kernel_types.specs.{Allowed.IsAllowed, Apply.apply, Sound.IsSound, declared.call.{Call.Call, Reply.Reply}}
use Rattle.kernel_types.specs.declared.object.Host.{Host}
use Rattle.kernel_types.proofs.EveryCall.{IsSound-apply}

pub stays_sound : (host old new : Host) (call : Call) (result : Result Reply NoMemory) → old ≡ host → IsSound old
    → IsAllowed host call → IfOk result (λ reply. (new, reply) ≡ apply old call) → OnErr result (new ≡ old)
    → IsSound new
stays_sound host old new call (Ok reply) is sound allowed ok err =
    subst IsSound (ap (λ (s : Host × Reply). s.0) (sym ok))
    (IsSound-apply old call sound (subst (λ (h : Host). IsAllowed h call) (sym is) allowed))
stays_sound host old new call (Err e) is sound allowed ok err = subst IsSound (sym err) sound
