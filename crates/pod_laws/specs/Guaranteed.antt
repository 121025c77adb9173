-- What is guaranteed of a plan that is carried out, however its commands are interleaved, stopped, meet faults or are
-- refused memory: at every moment, and of every answer of an ADD, a DEL, a CHECK and a GC.
use Rattle.std.specs.Prelude.{◌≡◌, ℕ, true, List, [], ◌++◌}
use Rattle.cni_verbs.specs.Endings.{answer_of_ending}
use Rattle.cni_errors.specs.{CommandFields.del_refusal, declared.answer.{Answer.Answer, Ending.Ending}}
use Rattle.cni_errors.specs.declared.answer.Answer.TheVariants as answers
use Rattle.kernel_types.specs.{Sound.{IsSound, NoAddressTwice}, declared.object.Att.Att}
use Rattle.net_conf.specs.declared.list.NetList.{NetList}
use Rattle.pod_file.specs.declared.command.{Command.Command, Verb.Verb}
use Rattle.pod_file.specs.declared.command.Verb.TheVariants as verbs
use Rattle.pod_workers.specs.{Lasts.AreLastsOfSets, Legal.Legal, World.{World, after}, declared.plan.Entry.Entry}
use Rattle.pod_workers.specs.declared.plan.Plan.{Plan}
use Rattle.pod_laws.specs.{Added.HasMade, Answers.{EachAnswerIn, HoldsOfItsList, OrCutOff, TellsCause, is_cut_off}}
use Rattle.pod_laws.specs.{AskedFor.{EachHasLinksMadeOrWanted, HasNothingUnasked}, CachedResults.EachHasResultOfItsAdd}
use Rattle.pod_laws.specs.{Checked.{EndsCheck, HoldsFromItsStart}, Collected.{IsAnswerOfGc, IsBoundedCollection}}
use Rattle.pod_laws.specs.{Deleted.{HasDeleted, IsUndeletedFor}, Moments.{EachCalling, host_at_end, objects_at_end}}
use Rattle.pod_laws.specs.{Moments.own_entries, Refused.IsRefusedFor, Repeated.RepeatsLeave}

-- ---- one moment

-- After these entries the host is sound, and no network has an address leased twice. Each attachment has nothing, or
-- only what its last ADD that began asks for, its links all as they were made or all as they are wanted; and what is
-- cached of it is the result of that ADD. Each address that a pool leased last is a candidate of its set.
pub record IsWellKept (p : Plan) (h : List Entry) : Type 0 where
  pub sound : IsSound (after p.pods.opening h)
  pub leased_once : (network : List ℕ) → NoAddressTwice network (after p.pods.opening h)
  pub asked_for : (att : Att) → HasNothingUnasked p h att
  pub links : EachHasLinksMadeOrWanted p h
  pub results : EachHasResultOfItsAdd p h
  pub lasts : AreLastsOfSets p (after p.pods.opening h).lasts

-- ---- one answer, of the command c at place n, with the list of its network

-- an ADD has made what its list asks for; or it is refused for a named cause, and has taken back what it made unless a
-- later entry is a fault; or it was cut off
abbrev pub IsAnswerOfAdd : World → ℕ → Command → NetList → Answer → Type 0
IsAnswerOfAdd w n c list (answers.Added result) = HasMade w n c list result
IsAnswerOfAdd w n c list (answers.Refused error) =
    TellsCause list c error (IsRefusedFor c (own_entries n w.history) (objects_at_end w n c))
IsAnswerOfAdd w n c list a = is_cut_off a ≡ true

-- a DEL has left nothing of its attachment, or is refused for a named cause; or it was cut off
abbrev pub IsAnswerOfDel : World → ℕ → Command → NetList → Answer → Type 0
IsAnswerOfDel w n c list answers.Yes = HasDeleted c (own_entries n w.history) (objects_at_end w n c)
IsAnswerOfDel w n c list (answers.Refused error) = TellsCause list c error (IsUndeletedFor c (own_entries n w.history))
IsAnswerOfDel w n c list a = is_cut_off a ≡ true

-- a CHECK tells what the host holds at its last entry, unless it was cut off
abbrev pub IsAnswerOfCheck : World → ℕ → Command → NetList → Answer → Type 0
IsAnswerOfCheck w n c list =
    OrCutOff (λ a. (ending : Ending) × (a ≡ answer_of_ending list c ending [])
    × EndsCheck list c (own_entries n w.history) (host_at_end w n) (del_refusal c) ending)

-- each answer of the verb is so, with the list of its network
abbrev pub AreAnswers : World → Verb → (ℕ → Command → NetList → Answer → Type 0) → Type 0
AreAnswers w verb IsAnswer = EachAnswerIn w verb (λ n c a. HoldsOfItsList w c (λ list. IsAnswer n c list a))

-- ---- the guarantee

pub record IsGuaranteed (w : World) : Type 0 where
  -- at every moment the host is well kept
  pub moments : (before rest : List Entry) → w.history ≡ before ++ rest → IsWellKept w.plan before
  pub adds : AreAnswers w verbs.Add (IsAnswerOfAdd w)
  pub dels : AreAnswers w verbs.Del (IsAnswerOfDel w)
  -- a DEL that was answered `ok`, repeated before another ADD begins, changes nothing
  pub repeats : RepeatsLeave w
  pub checks : AreAnswers w verbs.Check (IsAnswerOfCheck w)
  -- what a CHECK found at its end was so at its start
  pub check_starts : EachCalling w verbs.Check (HoldsFromItsStart w)
  pub collections : AreAnswers w verbs.Gc (IsAnswerOfGc w)
  -- a GC lost nothing that is to be kept and added nothing, also where it was stopped
  pub bounds : EachCalling w verbs.Gc (IsBoundedCollection w)

-- so it is, whatever the plan
abbrev pub EveryLegalHistoryIsGuaranteed : Type 0
EveryLegalHistoryIsGuaranteed = (w : World) → Legal w → IsGuaranteed w
