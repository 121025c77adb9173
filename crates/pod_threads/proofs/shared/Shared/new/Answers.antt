use Rattle.std.proofs.Common.{length, subst, ap, arith}
use Rattle.pod_workers.proofs.Books.RoundDone.{extends_refl}
use Rattle.pod_workers.specs.{Extends.Extends, World.World}
use Rattle.pod_threads.proofs.shared.Shared.new.Goals as goal

pub invariant_of-result : goal.invariant_of-result
invariant_of-result g c = (
  subst (λ u. Extends u c.args.book) c.requires.from (extends_refl c.args.book),
  (let same = ap (λ (w : World). length w.history) c.requires.from in
      let none = c.requires.none in omega (arith, same, none)),
)
