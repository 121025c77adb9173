use Rattle.gc_sweep.proofs.Names.{◌∙◌, ap, sym, List, length, ℕ, ◌==◌}
use Rattle.cni_errors.specs.declared.answer.Cause.TheVariants as causes
use Rattle.cni_errors.specs.declared.answer.Ending.TheVariants as endings
use Rattle.gc_sweep.proofs.Phases.{swept_clean, swept_faulty}
use Rattle.gc_sweep.proofs.run.swept.Goals as goal

pub returns-then-is_empty : goal.returns-then-is_empty
returns-then-is_empty c =
    let clean =
    ap (λ (l : List ℕ). length l == 0) (sym c.as_slice.ensures) ∙ sym c.is_empty.ensures ∙ c.if-is_empty.true in
    swept_clean c.args.faults.now clean

pub returns-in_ok-copy : goal.returns-in_ok-copy
returns-in_ok-copy c =
    let some =
    ap (λ (l : List ℕ). length l == 0) (sym c.as_slice.ensures) ∙ sym c.is_empty.ensures ∙ c.if-is_empty.false in
    ap (λ (l : List ℕ). endings.Refused (causes.Faults l)) c.in_ok-copy.ensures ∙ swept_faulty c.args.faults.now some
