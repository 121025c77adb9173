use Rattle.std.proofs.Common.{◌+◌, length, sum, sym, ◌∙◌, ap, subst}
use Rattle.pod_workers.specs.{Extends.{Extends, Rounds}, World.World}
use Rattle.pod_threads.proofs.Counting.{first-count, rounds-after, whole-count}
use Rattle.pod_threads.proofs.round.round_as.Goals as goal

pub returns-clause-rounds : goal.returns-clause-rounds
returns-clause-rounds g c =
    subst (λ (u : World). Rounds u c.end_round-rest.new.book) (sym c.requires.from)
    (rounds-after _ _ _ c.into_book-book.ensures.extends c.end_round-rest.ensures.rounds)

pub returns-clause-counts : goal.returns-clause-counts
returns-clause-counts g c =
    let went =
    subst (λ (u : World). Extends u c.into_book-book.result) (sym c.requires.from)
    c.into_book-book.ensures.extends in
    let long =
    c.into_book-book.ensures.entries
    ∙ ap (λ (w : World). length w.history + c.work-all.result.0.amount) (sym c.requires.from) in
    let made = c.work-all.ensures.amount in
    whole-count c.args.book c.into_book-book.result c.end_round-rest.new.book (sum c.work-all.result.1.items)
    c.entries_of_current-before.result _ _ went c.end_round-rest.ensures.rounds
    (long ∙ ap (λ k. length c.args.book.history + k) made) c.entries_of_current-before.ensures
    c.end_round-rest.ensures.entries (ap sum c.of_vec-counts.ensures ∙ c.add_first.ensures.sum)

pub returns-clause-first : goal.returns-clause-first
returns-clause-first g c =
    first-count c.work-all.result.1.items c.of_vec-counts.result _ c.entries_of_current-before.result
    c.end_round-rest.result c.entries_of_current-before.ensures
    (ap sum c.of_vec-counts.ensures ∙ c.add_first.ensures.sum) (c.of_vec-counts.ensures ∙ c.add_first.ensures.first)
