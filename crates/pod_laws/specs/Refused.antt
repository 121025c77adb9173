-- Why an ADD was refused, and what it left (CNI specification, section 5, "Error"; the codes from 100 on are this
-- project's own).
use Rattle.std.specs.{List.list_all, Prelude.{◌≡◌, ◌≢◌, ℕ, ◌+◌, ◌⊎◌, Bool, true, List, [], ◌∷◌, length, None}}
use Rattle.cni_addr.specs.declared.range.RangeSet.{RangeSet}
use Rattle.cni_result.specs.declared.result.AddResult.{AddResult}
use Rattle.cni_errors.specs.{CommandFields.{add_refusal, att_of}, declared.answer.{Answer.Answer, Cause.Cause}}
use Rattle.cni_errors.specs.declared.answer.Answer.TheVariants as answers
use Rattle.cni_errors.specs.declared.answer.Cause.TheVariants as causes
use Rattle.cni_verbs.specs.Replies.{is_granted}
use Rattle.kernel_types.specs.declared.call.{Call.{Call, TheVariants.{Begin, LeaseNext, MacvlanAdd}}, Reply.Reply}
use Rattle.kernel_types.specs.declared.{call.Reply.TheVariants.{NoNs, NoLink, Taken, Empty, Fault}, object.Att.Att}
use Rattle.kernel_types.specs.declared.object.{Host.Host, Link.Link, Tag.Tag}
use Rattle.plugin_base.specs.Share.{Share, no_objects}
use Rattle.pod_file.specs.declared.command.Command.{Command}
use Rattle.pod_file.specs.declared.command.Verb.TheVariants as verbs
use Rattle.pod_workers.specs.{World.after_entry, declared.plan.Entry.Entry}
use Rattle.pod_laws.specs.Answers.{EachIsOrRefused, EachIsWhere, EachRefusal, IsFirstToFail, IsRefusedByFields}
use Rattle.pod_laws.specs.Moments.{has_fault}

-- ---- the first refusal

abbrev pub lets_go_on : Entry → Bool
lets_go_on e = is_granted e.reply

-- what a refusing reply to the call of this number, from 1, means
pub data IsCause : ℕ → Call → Reply → Cause → Type 0 where
  no_namespace : (number : ℕ) (call : Call) → IsCause number call NoNs causes.NoNamespace
  name_taken : (number : ℕ) (call : Call) (tag : Tag) → IsCause number call (Taken tag) (causes.NameTaken tag)
  pool_empty : (number : ℕ) (att : Att) (set : ℕ) (ranges : RangeSet)
      → IsCause number (LeaseNext att set ranges) Empty (causes.PoolEmpty set)
  no_master : (number : ℕ) (link : Link) → IsCause number (MacvlanAdd link) NoLink causes.NoMaster
  fault : (number : ℕ) (call : Call) → IsCause number call Fault (causes.Fault number)

-- the first of the entries that refuses: it decides the cause
pub record FirstRefusal (entries : List Entry) (cause : Cause) : Type 0 where
  pub by : Entry
  pub refuses : IsFirstToFail lets_go_on entries by
  pub decides : IsCause (length refuses.past + 1) by.call by.reply cause

-- ---- by its fields, or in one of two ways by its entries and what its attachment has at the last of them

-- at Begin, which is its only entry
pub record IsRefusedAtBegin (c : Command) (entries : List Entry) (cause : Cause) : Type 0 where
  pub fields : add_refusal c ≡ None
  pub by : Entry
  pub alone : entries ≡ by ∷ []
  pub begin_call : by.call ≡ Begin (att_of c) c.netns
  pub decides : IsCause 1 by.call by.reply cause

-- at a later call: nothing of the attachment is left, or a later entry is a fault
pub record IsRefusedLater (c : Command) (entries : List Entry) (objects : Share) (cause : Cause) : Type 0 where
  pub fields : add_refusal c ≡ None
  pub first : FirstRefusal entries cause
  pub begun : first.refuses.past ≢ []
  pub undone : (objects ≡ no_objects) ⊎ (has_fault first.refuses.later ≡ true)

abbrev pub IsRefusedFor : Command → List Entry → Share → Cause → Type 0
IsRefusedFor c entries objects cause = IsRefusedByFields (add_refusal c) entries cause ⊎
    (IsRefusedAtBegin c entries cause ⊎ IsRefusedLater c entries objects cause)

-- an ADD is refused in no other way
abbrev pub WasRefused : Type 0
WasRefused = EachRefusal verbs.Add IsRefusedFor

-- Begin leaves the host as it was before it
abbrev pub BeginLeavesTheHost : Type 0
BeginLeavesTheHost = (host : Host) (att : Att) (netns : List ℕ) (n : ℕ) (reply : Reply)
    → after_entry host (record { command = n; call = Begin att netns; reply = reply }) ≡ host

-- ---- all answers

abbrev pub IsResult : Answer → Type 0
IsResult a = (result : AddResult) × (a ≡ answers.Added result)

abbrev pub AnswersOfAdd : Type 0
AnswersOfAdd = EachIsOrRefused verbs.Add IsResult

-- neither its fields nor an entry
abbrev pub NothingRefuses : Command → List Entry → Type 0
NothingRefuses c entries = (add_refusal c ≡ None) × (list_all lets_go_on entries ≡ true)

-- so one that was neither refused memory nor stopped is refused exactly where its fields or an entry refuse it
abbrev pub UnrefusedIsAdded : Type 0
UnrefusedIsAdded = EachIsWhere verbs.Add NothingRefuses IsResult
