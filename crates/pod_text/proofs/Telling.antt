-- What a history of one more entry tells.
use Rattle.std.proofs.Common.{◌≡◌, ◌∙◌, ℕ, List, [], ◌∷◌, ◌++◌, ap, refl}
use Rattle.std.specs.{Option.option_or, Prelude.{Option, Some, None}}
use Rattle.cni_result.specs.declared.cached.Cached.{Cached}
use Rattle.pod_text.specs.Requests.{told_by, told_in}
use Rattle.pod_workers.specs.declared.plan.Entry.{Entry}

or-none : (o : Option Cached) → o ≡ option_or o None
or-none None = refl
or-none (Some x) = refl

or-or : (a b c : Option Cached) → option_or (option_or a b) c ≡ option_or a (option_or b c)
or-or None b c = refl
or-or (Some x) b c = refl

-- what the last entry tells, or else what the others do
pub told_in-push : (number : ℕ) (h : List Entry) (e : Entry)
    → told_in number (h ++ e ∷ []) ≡ option_or (told_by number e) (told_in number h)
told_in-push number [] e = or-none (told_by number e)
told_in-push number (x ∷ h) e =
    ap (λ (o : Option Cached). option_or o (told_by number x)) (told_in-push number h e)
    ∙ or-or (told_by number e) (told_in number h) (told_by number x)
