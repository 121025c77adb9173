-- Why a plugin refuses what it is asked.
use Rattle.std.specs.{Prelude.{◌≡◌, Bool, true, false, Result, ⊤}, Result.result_map_both}
use Rattle.cni_result.specs.Refusals as results
use Rattle.cni_result.specs.declared.refusal.ResultError.{ResultError}
use Rattle.cni_result.specs.declared.refusal.ResultError.TheVariants as prev
use Rattle.net_conf.specs.Refusals as confs
use Rattle.net_conf.specs.declared.error.ConfError.{ConfError}
use Rattle.net_conf.specs.declared.error.ConfError.TheVariants as conf
use Rattle.exec_protocol.specs.declared.error.RequestError.{RequestError}
use Rattle.exec_protocol.specs.declared.error.RequestError.TheVariants as refusal

-- the refusal says that memory ran out
abbrev pub is_out_of_memory : RequestError → Bool
is_out_of_memory refusal.NoMemory = true
is_out_of_memory refused = false

-- out of memory is told in one way: no other refusal holds it
abbrev pub TellsNoMemoryOnce : RequestError → Type 0
TellsNoMemoryOnce (refusal.Conf e) = confs.is_out_of_memory e ≡ false
TellsNoMemoryOnce (refusal.Prev e) = results.is_out_of_memory e ≡ false
TellsNoMemoryOnce refused = ⊤

-- ---- the refusals of what it is made of

abbrev pub conf_refusal : ConfError → RequestError
conf_refusal conf.NoMemory = refusal.NoMemory
conf_refusal e = refusal.Conf e

abbrev pub prev_refusal : ResultError → RequestError
prev_refusal prev.NoMemory = refusal.NoMemory
prev_refusal e = refusal.Prev e

-- a part that is read as in a network list
abbrev pub of_conf : {A : Type 0} → Result A ConfError → Result A RequestError
of_conf r = result_map_both (λ x. x) conf_refusal r

-- the result before
abbrev pub of_prev : {A : Type 0} → Result A ResultError → Result A RequestError
of_prev r = result_map_both (λ x. x) prev_refusal r
