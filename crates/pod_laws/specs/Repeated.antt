-- What is gone stays gone, and a DEL that is repeated changes nothing (CNI specification, section 2, "DEL").
use Rattle.std.specs.{List.{list_all, list_any}, Prelude.{◌≡◌, ℕ, ◌+◌, Bool, true, false, ◌||◌, not, List, [], ◌∷◌}}
use Rattle.std.specs.Prelude.{◌++◌, Some, slice_get}
use Rattle.cni_errors.specs.CommandFields.{att_of}
use Rattle.cni_errors.specs.declared.answer.Answer.TheVariants as answers
use Rattle.kernel_types.specs.declared.object.Att.{Att}
use Rattle.pod_file.specs.declared.command.Verb.TheVariants as verbs
use Rattle.pod_workers.specs.{Legal.Legal, Plans.{Placed, commands_of}, World.{World, after}, declared.plan.Entry.Entry}
use Rattle.pod_workers.specs.declared.plan.Plan.{Plan}
use Rattle.pod_laws.specs.{AskedFor.{begins, is_begin_of}, Moments.{IsGone, own_entries, until_last}}
use Rattle.pod_laws.specs.Refused.{lets_go_on}

-- an entry of an ADD of the attachment that makes none of its objects: a Begin, or one that is not granted
abbrev pub makes_nothing : Att → Entry → Bool
makes_nothing att e = is_begin_of att e.call || not (lets_go_on e)

-- each of these entries that is of an ADD of the attachment makes nothing
abbrev pub IsWithoutMaking : Plan → Att → List Entry → Type 0
IsWithoutMaking p att h = (n : ℕ) (c : Placed) → slice_get (commands_of p) n ≡ Some c → c.command.verb ≡ verbs.Add
    → att_of c.command ≡ att → list_all (makes_nothing att) (own_entries n h) ≡ true

-- an attachment that has nothing at some moment has nothing until a call of an ADD of it is granted after its Begin
abbrev pub GoneStaysGone : Type 0
GoneStaysGone = (w : World) → Legal w → (att : Att) (before between later : List Entry)
    → w.history ≡ before ++ between ++ later → IsWithoutMaking w.plan att between → IsGone w.plan att before
    → IsGone w.plan att (before ++ between)

-- after the last entry of a DEL that was answered Yes, each entry of a DEL of its attachment leaves the whole host,
-- until an ADD of it has begun
abbrev pub RepeatsLeave : World → Type 0
RepeatsLeave w = (n m : ℕ) (c d : Placed) (between later : List Entry) (e : Entry)
    → slice_get (commands_of w.plan) n ≡ Some c → c.command.verb ≡ verbs.Del
    → slice_get w.answers n ≡ Some (Some answers.Yes)
    → slice_get (commands_of w.plan) m ≡ Some d → d.command.verb ≡ verbs.Del → att_of d.command ≡ att_of c.command
    → e.command ≡ m + 1
    → w.history ≡ until_last n w.history ++ between ++ e ∷ later → list_any (begins (att_of c.command)) between ≡ false
    → after w.plan.pods.opening (until_last n w.history ++ between ++ e ∷ [])
    ≡ after w.plan.pods.opening (until_last n w.history ++ between)

abbrev pub RepeatedDeletionsLeave : Type 0
RepeatedDeletionsLeave = (w : World) → Legal w → RepeatsLeave w
