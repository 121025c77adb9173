-- What a task is answered, by how its entries ended.
use Rattle.session_laws.proofs.Names.{◌≡◌, ℕ, Bool, true, false, List, Option, Some, None, refl, sym, ap, subst, ◌∙◌}
use Rattle.session_laws.proofs.Names.{inl, inr, ◌⊎◌, MatchOption, option_map, MatchBool, AddResult, Command, Verb}
use Rattle.session_laws.proofs.Names.{Cause, Ending, State, IsOpen, Made}
use Rattle.pod_file.specs.declared.command.Verb.TheVariants as verbs
use Rattle.cni_errors.specs.declared.answer.Ending.TheVariants as endings
use Rattle.session_laws.specs.{Course.IsOver, Holds.{IsSuccess, Known, TaskCause, error_by, is_cut_off}}
use Rattle.session_laws.specs.{LawsOfAnswers.success_of, Ran.{Handed, IsAnswerAt, WasEarly, command_for}}
use Rattle.session_laws.specs.declared.{answer.TaskAnswer.TaskAnswer, row.Row.Row}
use Rattle.session_laws.specs.declared.answer.TaskAnswer.TheVariants as answers
use Rattle.session_laws.proofs.Steps.StepEnds.{open-over}

-- ---- the ending that an answer tells

abbrev pub Tells : Command → TaskAnswer → Ending → Type 0
Tells c (answers.Added r) ending = ending ≡ endings.Added
Tells c answers.Yes ending = ending ≡ endings.Yes
Tells c (answers.Refused e) ending = (cause : Cause) × (ending ≡ endings.Refused cause) × (e ≡ error_by c (Known cause))
Tells c a ending = ⊥

-- an answer that isn't cut off tells how the task ended
pub told : (h : Handed) (es : List Made) (more : Option Row) (s : State) (a : TaskAnswer) → is_cut_off a ≡ false
    → IsAnswerAt h es more s a → (ending : Ending) × IsOver s ending × Tells (command_for h) a ending
told h es more s (answers.Added r) whole is = (endings.Added, is.0, refl)
told h es more s answers.Yes whole is = (endings.Yes, is, refl)
told h es more s (answers.Refused e) whole is = (endings.Refused is.0, is.1, (is.0, refl, is.2))
told h es more s answers.OutOfMemory whole is = absurd cc
told h es more s (answers.Stopped calls) whole is = absurd cc

-- ---- a success, or a refusal for the cause

abbrev AnswersBy : Command → Verb → TaskAnswer → Option TaskCause → Type 0
AnswersBy c verb a cause = MatchOption cause (IsSuccess verb a) (λ known. a ≡ answers.Refused (error_by c known))

success-add : (verb : Verb) (r : AddResult) → endings.Added ≡ success_of verb → IsSuccess verb (answers.Added r)
success-add verbs.Add r is = (r, refl)
success-add _ r is = absurd cc

success-yes : (verb : Verb) → endings.Yes ≡ success_of verb → IsSuccess verb answers.Yes
success-yes verbs.Add is = absurd cc
success-yes _ is = refl

refused-success : (verb : Verb) (cause : Cause) → endings.Refused cause ≡ success_of verb → ⊥
refused-success verbs.Add cause is = cc
refused-success _ cause is = cc

pub answers-cause : (c : Command) (verb : Verb) (a : TaskAnswer) (ending : Ending) (late : Option Cause)
    → Tells c a ending
    → MatchOption late (ending ≡ success_of verb) (λ cause. ending ≡ endings.Refused cause)
    → AnswersBy c verb a (option_map Known late)
answers-cause c verb (answers.Added r) ending None tells is = success-add verb r (sym tells ∙ is)
answers-cause c verb answers.Yes ending None tells is = success-yes verb (sym tells ∙ is)
answers-cause c verb (answers.Refused e) ending None tells is = absurd (refused-success verb tells.0 (sym tells.1 ∙ is))
answers-cause c verb (answers.Added r) ending (Some cause) tells is = absurd (cc (tells, is))
answers-cause c verb answers.Yes ending (Some cause) tells is = absurd (cc (tells, is))
answers-cause c verb (answers.Refused e) ending (Some cause) tells is =
    let same : tells.0 ≡ cause = cc in
    ap answers.Refused (tells.2 ∙ ap (λ x. error_by c (Known x)) same)
answers-cause c verb answers.OutOfMemory ending late tells is = absurd tells
answers-cause c verb (answers.Stopped calls) ending late tells is = absurd tells

-- ---- yes, or not

yes-told : (c : Command) (a : TaskAnswer) (ending : Ending) → Tells c a ending → ending ≡ endings.Yes → a ≡ answers.Yes
yes-told c (answers.Added r) ending tells is = absurd (cc (tells, is))
yes-told c answers.Yes ending tells is = refl
yes-told c (answers.Refused e) ending tells is = let was = tells.1 in absurd (cc (was, is))
yes-told c answers.OutOfMemory ending tells is = absurd tells
yes-told c (answers.Stopped calls) ending tells is = absurd tells

pub yes-exact : (c : Command) (a : TaskAnswer) (ending : Ending) (there : Bool) → Tells c a ending
    → MatchBool there (ending ≡ endings.Yes) (ending ≡ endings.Yes → ⊥)
    → MatchBool there (a ≡ answers.Yes) (a ≡ answers.Yes → ⊥)
yes-exact c a ending true tells is = yes-told c a ending tells is
yes-exact c a ending false tells not = λ yes. not (subst (λ x. Tells c x ending) yes tells)

-- ---- before the first call

pub early-yes : (h : Handed) (es : List Made) (a : TaskAnswer) (cause : TaskCause) → WasEarly h es a cause
    → a ≡ answers.Yes → ⊥
early-yes h es a cause was is = elim was.answer [
  | inl refused ↦ cc (refused, is)
  | inr memory ↦ cc (memory, is)
]

pub early-added : (h : Handed) (es : List Made) (a : TaskAnswer) (cause : TaskCause) (r : AddResult)
    → WasEarly h es a cause
    → a ≡ answers.Added r → ⊥
early-added h es a cause r was is = elim was.answer [
  | inl refused ↦ cc (refused, is)
  | inr memory ↦ cc (memory, is)
]

pub early-stopped : (h : Handed) (es : List Made) (a : TaskAnswer) (cause : TaskCause) (calls : ℕ)
    → WasEarly h es a cause
    → a ≡ answers.Stopped calls → ⊥
early-stopped h es a cause calls was is = elim was.answer [
  | inl refused ↦ cc (refused, is)
  | inr memory ↦ cc (memory, is)
]

pub early-refused : (h : Handed) (es : List Made) (a : TaskAnswer) (cause : TaskCause) → WasEarly h es a cause
    → is_cut_off a ≡ false → a ≡ answers.Refused (error_by (command_for h) cause)
early-refused h es a cause was whole = elim was.answer [
  | inl refused ↦ refused
  | inr memory ↦ let off : is_cut_off a ≡ true = ap is_cut_off memory in absurd (cc (off, whole))
]

-- ---- a stop

-- where a call is left and the stop is reached, the task was stopped there, unless memory was refused
pub stopped-due : (h : Handed) (es : List Made) (more : Option Row) (s : State) (calls : ℕ) (a : TaskAnswer)
    → IsAnswerAt h es more s a → h.task.stop ≡ Some calls → IsOpen s
    → (a ≡ answers.Stopped calls) ⊎ (a ≡ answers.OutOfMemory)
stopped-due h es more s calls (answers.Added r) is stop goes_on = absurd (open-over s endings.Added is.0 goes_on)
stopped-due h es more s calls answers.Yes is stop goes_on = absurd (open-over s endings.Yes is goes_on)
stopped-due h es more s calls (answers.Refused e) is stop goes_on =
    absurd (open-over s (endings.Refused is.0) is.1 goes_on)
stopped-due h es more s calls (answers.Stopped n) is stop goes_on =
    let was = is.1 in let same : n ≡ calls = cc in inl (ap (λ k. answers.Stopped k) same)
stopped-due h es more s calls answers.OutOfMemory is stop goes_on = inr refl
