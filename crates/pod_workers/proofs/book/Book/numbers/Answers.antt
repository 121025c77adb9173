use Rattle.pod_workers.proofs.Names.{◌≡◌, ◌+◌, ◌≤◌, length, subst, arith, file_limit}
use Rattle.pod_workers.specs.Slots.{AreNumbersOf}
use Rattle.pod_workers.proofs.{Books.RoundDone.{numbers-of, round-fits, round-there}, book.Book.numbers.Given.Over}
use Rattle.pod_workers.proofs.book.Book.numbers.Goals.{After-self}
use Rattle.pod_workers.proofs.book.Book.numbers.Goals as goal

-- the numbers of the round are within the limit of a file
within : (g : Over) (c : After-self g) → c.self.inside.before + length c.current_round-commands.result.now ≤ file_limit
within g c = (round-fits _ _ _ _ _ _ c.self.invariant (round-there c.self.view_is c.current_round-commands.ensures)).0

pub overflow_cast-first : goal.overflow_cast-first
overflow_cast-first g c =
    let few = within g (goal.at.overflow_cast-first g c).After-self in record { fits = omega arith }

pub overflow_add-first : goal.overflow_add-first
overflow_add-first g c = let few = within g (goal.at.overflow_add-first g c).After-self in record { fits = omega arith }

pub overflow_cast-result : goal.overflow_cast-result
overflow_cast-result g c =
    let few = within g (goal.at.overflow_cast-result g c).After-self in record { fits = omega arith }

pub overflow_add-result : goal.overflow_add-result
overflow_add-result g c =
    let few = within g (goal.at.overflow_add-result g c).After-self in record { fits = omega arith }

pub returns : goal.returns
returns g c =
    let same : c.self.inside.before + length c.current_round-commands.result.now + 1
    ≡ c.self.inside.before + 1 + length c.current_round-commands.result.now =
    omega arith in
    subst (AreNumbersOf c.args.self.now (c.self.inside.before + 1)) same
    (numbers-of _ _ _ _ _ _ _ c.self.invariant c.self.view_is
    (round-there c.self.view_is c.current_round-commands.ensures))
