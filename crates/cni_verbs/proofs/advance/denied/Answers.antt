use Rattle.std.proofs.{Common.{◌≡◌, ◌∙◌, List, Some, get_or, sym, ap}, lemmas.Option.slice_get-get_or}
use Rattle.std.specs.Prelude.{slice_get}
use Rattle.cni_errors.specs.declared.answer.Question.{Question}
use Rattle.cni_verbs.proofs.PhaseSteps.{taken-at}
use Rattle.cni_verbs.proofs.advance.denied.Goals as goal

pub returns : goal.returns
returns c = λ question there.
    let place = c.args.place in
    let taken = c.swap_remove-call.result in
    let here : slice_get c.args.questions.now place ≡ Some taken =
    slice_get-get_or c.args.questions.now place taken c.requires
    ∙ ap (λ (questions : List Question). Some (get_or questions place taken))
    (sym (c.into_vec-questions.ensures ∙ c.replace-taken.ensures.value))
    ∙ ap Some (sym c.swap_remove-call.ensures.value) in
    c.refused.ensures ∙ taken-at c.args.questions.now place taken question here there
