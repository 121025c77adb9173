-- What a DEL leaves (CNI specification, section 3, "Deleting an attachment").
use Rattle.std.specs.Prelude.{◌≡◌, ◌+◌, ◌⊎◌, false, List, [], ◌∷◌, ◌++◌, length, None}
use Rattle.cni_errors.specs.{CommandFields.{att_of, del_refusal}, declared.answer.{Answer.Answer, Cause.Cause}}
use Rattle.cni_errors.specs.declared.answer.Answer.TheVariants as answers
use Rattle.cni_errors.specs.declared.answer.Cause.TheVariants as causes
use Rattle.kernel_types.specs.{Isolation.RemovesOwn, declared.{call.Reply.TheVariants.Fault, object.Att.Att}}
use Rattle.kernel_types.specs.declared.object.Host.{Host}
use Rattle.plugin_base.specs.Share.{Share, share_of, no_objects}
use Rattle.pod_file.specs.declared.command.Command.{Command}
use Rattle.pod_file.specs.declared.command.Verb.TheVariants as verbs
use Rattle.pod_workers.specs.declared.plan.Entry.{Entry}
use Rattle.pod_laws.specs.Answers.{EachAnswer, EachIsOrRefused, EachIsWhere, EachRefusal, IsRefusedByFields}
use Rattle.pod_laws.specs.{Moments.{has_fault, objects_at_end, own_entries}, Single.{EachEntry, ByVerb}}

-- its fields are good, and no entry is a fault
abbrev pub NothingFails : Command → List Entry → Type 0
NothingFails c entries = (del_refusal c ≡ None) × (has_fault entries ≡ false)

-- and nothing of the attachment is left at its last entry
pub record HasDeleted (c : Command) (entries : List Entry) (objects : Share) : Type 0 where
  pub unfailed : NothingFails c entries
  pub gone : objects ≡ no_objects

abbrev pub IsYes : Answer → Type 0
IsYes a = a ≡ answers.Yes

abbrev pub WasDeleted : Type 0
WasDeleted = EachAnswer verbs.Del
    (λ w n c a. IsYes a → HasDeleted c (own_entries n w.history) (objects_at_end w n c))

-- ---- refusals

-- by a fault, which is the first one and its last entry
pub record IsUndeletedByFault (c : Command) (entries : List Entry) (cause : Cause) : Type 0 where
  pub fields : del_refusal c ≡ None
  pub past : List Entry
  pub by : Entry
  pub are : entries ≡ past ++ by ∷ []
  pub no_fault : has_fault past ≡ false
  pub fault : by.reply ≡ Fault
  pub number : cause ≡ causes.Fault (length past + 1)

-- or by its fields
abbrev pub IsUndeletedFor : Command → List Entry → Cause → Type 0
IsUndeletedFor c entries cause = IsRefusedByFields (del_refusal c) entries cause ⊎ IsUndeletedByFault c entries cause

abbrev pub WasNotDeleted : Type 0
WasNotDeleted = EachRefusal verbs.Del (λ c entries objects. IsUndeletedFor c entries)

-- ---- all answers

abbrev pub AnswersOfDel : Type 0
AnswersOfDel = EachIsOrRefused verbs.Del IsYes

abbrev pub UnfailedIsDeleted : Type 0
UnfailedIsDeleted = EachIsWhere verbs.Del NothingFails IsYes

-- ---- single entries

-- own objects alone are removed, and nothing is changed where there are none
pub record DeletesOwnAlone (att : Att) (old new : Host) : Type 0 where
  pub removes : RemovesOwn att old new
  pub repeated : share_of att old ≡ no_objects → new ≡ old

-- each entry of a DEL deletes of its own alone
abbrev pub EachDeletionIsOwn : Type 0
EachDeletionIsOwn = EachEntry (ByVerb (λ v. v ≡ verbs.Del) (λ c. DeletesOwnAlone (att_of c)))
