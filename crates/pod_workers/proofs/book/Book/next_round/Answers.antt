use Rattle.pod_workers.proofs.Names.{sym, subst, arith}
use Rattle.pod_workers.specs.World.{IsRoundOver}
use Rattle.pod_workers.proofs.Books.RoundDone.{round-fits, round-there, turned-keeps}
use Rattle.pod_workers.proofs.book.Book.next_round.Goals as goal

pub overflow_add-self : goal.overflow_add-self
overflow_add-self g c =
    let low = (round-fits _ _ _ _ _ _ c.self.invariant (round-there c.self.view_is c.current_round.ensures)).0 in
    record { fits = omega arith }

pub overflow_add-self-2 : goal.overflow_add-self-2
overflow_add-self-2 g c =
    let low = (round-fits _ _ _ _ _ _ c.self.invariant (round-there c.self.view_is c.current_round.ensures)).1 in
    record { fits = omega arith }

pub invariant_of-self : goal.invariant_of-self
invariant_of-self g c =
    turned-keeps _ _ _ _ _ _ c.self.invariant (round-there c.self.view_is c.current_round.ensures)
    (subst IsRoundOver (sym c.self.view_is) c.requires.over)
