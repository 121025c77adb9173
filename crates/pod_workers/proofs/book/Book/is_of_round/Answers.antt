use Rattle.pod_workers.proofs.Names.{◌∙◌, ap}
use Rattle.pod_workers.specs.Index.{is_entry_in}
use Rattle.pod_workers.proofs.Books.ReadyByIndex.{round-tells}
use Rattle.pod_workers.proofs.book.Book.is_of_round.Goals as goal

pub returns : goal.returns
returns g c =
    round-tells c.is_entry_in.result _ _ _ _ _ c.args.self.now c.args.entry.now c.self.invariant c.self.view_is
    (c.is_entry_in.ensures ∙ ap (λ ps. is_entry_in ps c.self.inside.round c.args.entry.now) c.as_slice.ensures.value)
