-- What a round by one thread appends is in file order.
use Rattle.pod_workers.proofs.Names.{◌≡◌, ℕ, ◌+◌, ◌<◌, ◌≤◌, List, [], ◌∷◌, ◌++◌, Result, Ok, Err, refl, sym, ◌∙◌, ap}
use Rattle.pod_workers.proofs.Names.{subst, inl, inr, arith, append_assoc, append-nil, All-append, All-cons, All-nil}
use Rattle.pod_workers.proofs.Names.{All, NoMemory}
use Rattle.std.proofs.lemmas.List.Elements.{All-head, All-push, All-tail, All-weaker}
use Rattle.pod_workers.specs.{Extends.Appends, Order.{AppendsInFileOrder, IsEntryBy, StandInFileOrder}, World.World}
use Rattle.pod_workers.specs.World.{IsReadyNumber, done, entry_of, host_of, next_of, next_round, own_replies}
use Rattle.pod_workers.specs.declared.plan.{Entry.Entry, Next.Next, Plan.Plan, StepEnd.StepEnd}
use Rattle.pod_workers.specs.declared.plan.Next.TheVariants as next
use Rattle.pod_workers.proofs.{Books.RoundDone.{IsStepped, appends-more, appends-none}, Lists.Splits.split_nil}
use Rattle.pod_workers.proofs.Lists.Splits.{two_snoc}

-- ---- a step

-- the entries that are new are of the command of this number alone
abbrev pub AppendsOwn : World → World → ℕ → Type 0
AppendsOwn old new number = Appends old.history new.history (All (IsEntryBy number))

done-own : (w : World) (n : ℕ) (x : Next) → AppendsOwn w (done w n x) (n + 1)
done-own w n (next.Answer a) = appends-none (IsEntryBy (n + 1)) w.history
done-own w n (next.Call call faulty) =
    let e = entry_of (host_of w) n call faulty in
    (e ∷ [], refl, All-cons (IsEntryBy (n + 1)) e [] refl (All-nil (IsEntryBy (n + 1))))

step-own : (r : Result StepEnd NoMemory) (v w : World) (number : ℕ) → IsReadyNumber v number → IsStepped r v w number
    → AppendsOwn v w number
step-own (Ok x) v w number ready is =
    subst (AppendsOwn v w) (sym ready.2)
    (subst (λ (u : World). AppendsOwn v u (ready.0 + 1)) (sym (is.0 ready.0 ready.1 ready.2 ready.3.there).0)
    (done-own v ready.0 (next_of v ready.1.command (own_replies v ready.0))))
step-own (Err x) v w number ready is =
    subst (λ (u : World). AppendsOwn v u number) (sym (is.1 ready.0 ready.1 ready.2 ready.3.there))
    (appends-none (IsEntryBy number) v.history)

pub own-more : (r : Result StepEnd NoMemory) (u v w : World) (number : ℕ) → AppendsOwn u v number
    → IsReadyNumber v number → IsStepped r v w number → AppendsOwn u w number
own-more r u v w number own ready is =
    appends-more (All (IsEntryBy number)) (All (IsEntryBy number)) (All (IsEntryBy number)) u.history v.history
    w.history (All-append (IsEntryBy number)) own (step-own r v w number ready is)

-- ---- command after command

abbrev IsUpTo : ℕ → Entry → Type 0
IsUpTo number e = e.command ≤ number

abbrev IsBelow : ℕ → Entry → Type 0
IsBelow number e = e.command < number

-- the entries that are new are in file order, and of commands with numbers below this one
abbrev pub AppendsBelow : World → World → ℕ → Type 0
AppendsBelow old new number =
    Appends old.history new.history (λ es. StandInFileOrder old.plan es × All (IsBelow number) es)

pub below-none : (w : World) (number : ℕ) → AppendsBelow w w number
below-none w number = (
  [],
  sym (append-nil w.history),
  (
    (λ before between rest e f m n d c at of_e of_f. absurd (split_nil before (between ++ f ∷ rest) e at)),
    All-nil (IsBelow number),
  ),
)

middle : (P : Entry → Type 0) (before rest : List Entry) (e : Entry) → All P (before ++ e ∷ rest) → P e
middle P [] rest e all = All-head P e rest all
middle P (b ∷ before) rest e all = middle P before rest e (All-tail P b (before ++ e ∷ rest) all)

in_order-push : (p : Plan) (number : ℕ) (es : List Entry) (x : Entry) → StandInFileOrder p es → All (IsUpTo number) es
    → x.command ≡ number → StandInFileOrder p (es ++ x ∷ [])
in_order-push p number es x order most own = λ before between rest e f m n d c at of_e of_f.
    elim (two_snoc es before between rest x e f at) [
      | inl t ↦
          let low : e.command ≤ number =
          middle (IsUpTo number) before between e (subst (All (IsUpTo number)) t.0 most) in
          let last : x.command ≡ f.command = ap (λ (g : Entry). g.command) t.1 in
          let first_is = of_e.number in
          let second_is = of_f.number in
          omega (arith, low, last, own, first_is, second_is)
      | inr t ↦ order before between t.0 e f m n d c t.1 of_e of_f
    ]

-- entries of a command stand in order behind those of commands that are no later
in_order-own : (p : Plan) (number : ℕ) (es own : List Entry) → StandInFileOrder p es → All (IsUpTo number) es
    → All (IsEntryBy number) own → StandInFileOrder p (es ++ own)
in_order-own p number es [] order most all = subst (StandInFileOrder p) (sym (append-nil es)) order
in_order-own p number es (x ∷ own) order most all =
    let is : x.command ≡ number = All-head (IsEntryBy number) x own all in
    let up_to : x.command ≤ number = omega arith in
    subst (StandInFileOrder p) (append_assoc es (x ∷ []) own)
    (in_order-own p number (es ++ x ∷ []) own (in_order-push p number es x order most is)
    (All-push (IsUpTo number) es x most up_to) (All-tail (IsEntryBy number) x own all))

pub below-own : (u v w : World) (number : ℕ) → AppendsBelow u v number → AppendsOwn v w number
    → AppendsBelow u w (number + 1)
below-own u v w number below own =
    appends-more (λ es. StandInFileOrder u.plan es × All (IsBelow number) es) (All (IsEntryBy number))
    (λ es. StandInFileOrder u.plan es × All (IsBelow (number + 1)) es) u.history v.history w.history
    (λ xs ys first all. (
      in_order-own u.plan number xs ys first.0
          (All-weaker (IsBelow number) (IsUpTo number) (λ e less. omega arith) xs first.1) all,
      All-append (IsBelow (number + 1)) xs ys
          (All-weaker (IsBelow number) (IsBelow (number + 1)) (λ e less. omega arith) xs first.1)
          (All-weaker (IsEntryBy number) (IsBelow (number + 1)) (λ e is. omega arith) ys all),
    ))
    below own

pub turned-appends : (u w v : World) (number : ℕ) → AppendsBelow u w number → v ≡ next_round w → AppendsInFileOrder u v
turned-appends u w v number below is = (below.0, ap (λ (x : World). x.history) is ∙ below.1, below.2.0)
