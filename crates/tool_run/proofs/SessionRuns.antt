-- What stays of a session while its tasks are run.
use Rattle.std.proofs.Common.{◌≡◌, ◌∙◌, ◌≤◌, ◌<◌, ◌-◌, Bool, false, length, sym, ap, arith}
use Rattle.std.proofs.lemmas.Bool.Decides.{nat_tests}
use Rattle.std.specs.Prelude.{nat_le}
use Rattle.session_laws.specs.{EachTask.{EachTaskHolds, EachTaskHoldsWithOneMore, GrownViewsGrow, IsGrown}, Holds.Grows}
use Rattle.session_laws.specs.{Holds.{Suite, TaskHolds}, Views.{SessionView, number}}
use Rattle.session_laws.proofs.Steps.EachTask.{number-more}

-- the session is the one that was begun, so far, and of each task that was run holds what the law says
pub record IsRunning (suite : Suite) (begun now : SessionView) : Type 0 where
  pub conf : now.conf ≡ begun.conf
  pub grown : IsGrown now
  pub left : number now ≤ length now.conf.tasks
  pub held : EachTaskHolds suite now

-- a task is left where the session hasn't ended
pub is_left : (s : SessionView) (ended : Bool) → ended ≡ nat_le (length s.conf.tasks) (number s) → ended ≡ false
    → number s < length s.conf.tasks
is_left s ended is not =
    let no : nat_le (length s.conf.tasks) (number s) ≡ false = sym is ∙ not in grind (arith, nat_tests, no)

pub comes_nearer : (old new : SessionView) → Grows old new → number old < length old.conf.tasks
    → length new.conf.tasks - number new < length old.conf.tasks - number old
comes_nearer old new grows unended =
    let count = number-more old new grows in
    let tasks : length new.conf.tasks ≡ length old.conf.tasks = ap (λ conf. length conf.tasks) grows.conf in
    omega (arith, count, tasks, unended)

pub goes_on : (suite : Suite) (begun old new : SessionView) → GrownViewsGrow → EachTaskHoldsWithOneMore suite
    → IsRunning suite begun old → number old < length old.conf.tasks → Grows old new → TaskHolds suite new
    → IsRunning suite begun new
goes_on suite begun old new grow more is unended grows holds =
    let count = number-more old new grows in
    let tasks : length new.conf.tasks ≡ length old.conf.tasks = ap (λ conf. length conf.tasks) grows.conf in
    record {
      conf = grows.conf ∙ is.conf;
      grown = grow old new is.grown grows;
      left = omega (arith, count, tasks, unended);
      held = more old new is.grown is.held grows holds;
    }
