-- A step under the lock goes on from the book that went in, and is counted.
use Rattle.std.proofs.{Common.{◌≡◌, ℕ, ◌+◌, Result, Ok, Err, length, sym, ◌∙◌, ap, arith}, lemmas.List.length_push}
use Rattle.cni_addr.specs.declared.memory.NoMemory.{NoMemory}
use Rattle.pod_workers.proofs.Books.RoundDone.{IsStepped, extends_trans, step_extends}
use Rattle.pod_workers.specs.{Extends.Extends, World.{World, IsReadyNumber, done, end_of, entry_of, host_of, next_of}}
use Rattle.pod_workers.specs.{World.own_replies, declared.plan.{Next.Next, StepEnd.StepEnd}}
use Rattle.pod_workers.specs.declared.plan.Next.TheVariants as next
use Rattle.pod_threads.specs.Guarded.{entries_by}

-- how many entries a step makes
abbrev pub made_by : Result StepEnd NoMemory → ℕ
made_by (Ok end) = entries_by end
made_by (Err e) = 0

done_entries : (v : World) (n : ℕ) (x : Next) → length (done v n x).history ≡ length v.history + entries_by (end_of x)
done_entries v n (next.Answer a) = omega arith
done_entries v n (next.Call call faulty) = length_push v.history (entry_of (host_of v) n call faulty)

step_entries : (r : Result StepEnd NoMemory) (v w : World) (number : ℕ) → IsReadyNumber v number
    → IsStepped r v w number → length w.history ≡ length v.history + made_by r
step_entries (Ok end) v w number ready is =
    let n = ready.0 in
    let c = ready.1 in
    let made = is.0 n c ready.2 ready.3.there in
    ap (λ (u : World). length u.history) made.0
    ∙ done_entries v n (next_of v c.command (own_replies v n))
    ∙ ap (λ x. length v.history + entries_by x) (sym made.1)
step_entries (Err e) v w number ready is =
    ap (λ (u : World). length u.history) (is.1 ready.0 ready.1 ready.2 ready.3.there) ∙ (omega arith)

-- what lies under the lock is as the lock keeps it
abbrev pub IsGuarded : World → World → ℕ → Type 0
IsGuarded from w total = Extends from w × (length w.history ≡ length from.history + total)

pub entered : (from v w : World) (total more : ℕ) (r : Result StepEnd NoMemory) (number : ℕ) → IsGuarded from v total
    → IsReadyNumber v number → IsStepped r v w number → more ≡ total + made_by r
    → IsGuarded from w more
entered from v w total more r number kept ready is more_is = (
  extends_trans from v w kept.0 (step_extends r v w number ready is),
  (let before = kept.1 in let now = step_entries r v w number ready is in omega (arith, before, now, more_is)),
)
