use Rattle.gc_sweep.proofs.Names.{rules, ◌∙◌, ap, sym, is_named, is_valid}
use Rattle.std.proofs.lemmas.List.Sorted.{answers_always, list_any-IsPermutation, ranks_by}
use Rattle.std.specs.Ordering.{is_lt}
use Rattle.gc_sweep.specs.Valid.{names_cmp, names_of}
use Rattle.gc_sweep.proofs.Indexed.{names_total}
use Rattle.gc_sweep.proofs.valid.ValidIndex.of.Goals as goal

pub invariant_of-result : goal.invariant_of-result
invariant_of-result c =
    c.in_ok-sort_by.ensures.sorted (λ v w. is_lt (names_cmp (names_of v) (names_of w))) (ranks_by names_total names_of)
    (answers_always _ _ _ (λ f a r g h. search rules))

pub returns : goal.returns
returns c = λ att.
    sym (list_any-IsPermutation (is_named att) _ _ c.sort_by.ensures.permutation)
    ∙ ap (λ vs. is_valid vs att) (c.into_vec-in_order.ensures ∙ c.in_ok-copies.ensures)
