-- What a kernel grants of questions, and that asking changes nothing (CNI specification, section 3, "Checking
-- attachment" and "Status").
use Rattle.std.specs.Prelude.{◌≡◌, Bool, true, false, List}
use Rattle.cni_errors.specs.declared.answer.{Cause.Cause, Ending.{Ending, TheVariants.Refused}, Question.Question}
use Rattle.kernel_types.specs.{Apply.apply, declared.{call.Reply.{Reply, TheVariants.Has}, object.Host.Host}}
use Rattle.pod_file.specs.declared.command.Verb.{Verb}
use Rattle.pod_file.specs.declared.command.Verb.TheVariants as verbs
use Rattle.pod_laws.specs.{Answers.IsFirstToFail, Single.{EachEntry, ByVerb}}

abbrev pub is_yes : Reply → Bool
is_yes (Has has) = has
is_yes reply = false

-- the kernel with this host says yes to the question
abbrev pub grants : Host → Question → Bool
grants host question = is_yes (apply host question.call).1

-- the first that it doesn't grant
abbrev pub IsFirstDenied : Host → List Question → Question → Type 0
IsFirstDenied host questions question = IsFirstToFail (grants host) questions question

-- it is refused for the first that is denied, which lacks something of this kind
pub record EndsByDenied (host : Host) (questions : List Question) (IsLack : Cause → Type 0)
    (ending : Ending) : Type 0 where
  pub question : Question
  pub first : IsFirstDenied host questions question
  pub lack : IsLack question.lack
  pub ending_is : ending ≡ Refused question.lack

-- ---- single entries

-- the verbs that ask, and make and take nothing
abbrev pub only_asks : Verb → Bool
only_asks verbs.Check = true
only_asks verbs.Status = true
only_asks verbs.Version = true
only_asks verb = false

-- each entry of a CHECK, a STATUS or a VERSION leaves the whole host
abbrev pub EachQuestionLeavesTheHost : Type 0
EachQuestionLeavesTheHost = EachEntry (ByVerb (λ v. only_asks v ≡ true) (λ c old new. new ≡ old))
