-- What holds of a state after all replies of a run.
use Rattle.std.proofs.Common.{◌≡◌, ℕ, ◌+◌, List, [], ◌∷◌, ◌++◌, length, ap, ◌∙◌, arith}
use Rattle.kernel_types.specs.declared.call.Reply.{Reply}
use Rattle.cni_verbs.specs.Script.{State, after_replies}

-- one more reply makes one more step
pub after_replies-append : (step : ℕ → State → Reply → State) (made : ℕ) (s : State) (rs : List Reply) (r : Reply)
    → after_replies step made s (rs ++ r ∷ []) ≡ step (made + length rs + 1) (after_replies step made s rs) r
after_replies-append step made s [] r = ap (λ k. step k s r) (omega arith)
after_replies-append step made s (x ∷ xs) r =
    after_replies-append step (made + 1) (step (made + 1) s x) xs r
    ∙ ap (λ k. step k (after_replies step (made + 1) (step (made + 1) s x) xs) r) (omega arith)

-- what each step keeps is kept
pub after_replies-keeps : (P : State → Type 0) (step : ℕ → State → Reply → State) (made : ℕ) (s : State)
    (rs : List Reply)
    → ((number : ℕ) (s : State) (r : Reply) → P s → P (step number s r)) → P s → P (after_replies step made s rs)
after_replies-keeps P step made s [] keeps h = h
after_replies-keeps P step made s (r ∷ rs) keeps h =
    after_replies-keeps P step (made + 1) (step (made + 1) s r) rs keeps (keeps (made + 1) s r h)
