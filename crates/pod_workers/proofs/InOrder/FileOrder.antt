-- A step of the first open command in file order keeps the file's order.
use Rattle.pod_workers.proofs.Names.{◌≡◌, ℕ, ◌+◌, ◌≤◌, false, List, [], ◌∷◌, ◌++◌, refl, ◌∙◌, ap, inl, inr, arith}
use Rattle.pod_workers.proofs.Names.{cases_lt, Answer}
use Rattle.pod_workers.specs.{Facts.IsEntryOf, Legal.Legal, Order.{AreInFileOrder, IsInFileOrder, EarlierAreAnswered}}
use Rattle.pod_workers.specs.{Plans.Placed, World.{World, IsReady, own_replies, replies_of, host_of, is_cut, done}}
use Rattle.pod_workers.specs.World.{answered, with_entry, entry_of, next_of, next_round, stepped}
use Rattle.pod_workers.specs.declared.plan.{Entry.Entry, Next.Next}
use Rattle.pod_workers.specs.declared.plan.Next.TheVariants as next
use Rattle.pod_workers.proofs.{Books.RoundsAscend.rounds_ascend, Hosts.Sound.goes_in, InOrder.DoneBefore.done-not_ready}
use Rattle.pod_workers.proofs.InOrder.{DoneBefore.{done_before_answered, done_before_entered}, Order.in_order}
use Rattle.pod_workers.proofs.Worlds.{Facts.{each_two-grows, none_two, is_reached}, Histories.has_reply}

-- ---- the first open command

-- ---- an answer

pub file_order_answered : (w : World) (n : ℕ) (c : Placed) (b : Answer) → IsInFileOrder w → IsReady w n c
    → IsInFileOrder (answered w n b)
file_order_answered w n c b order ready = record {
  entries = order.entries;
  before = done_before_answered w n c b (λ d x. d.round ≡ x.round) order.before ready;
}

-- ---- an entry

-- no entry is of a later command
none_later : (w : World) (before between : List Entry) (f : Entry) (m n : ℕ) (d c : Placed) → Legal w → IsInFileOrder w
    → IsReady w n c → w.history ≡ before ++ f ∷ between → IsEntryOf w.plan f m d → m ≤ n
none_later w before between f m n d c legal order ready at of_f = elim (cases_lt n m) [
  | inr most ↦ most
  | inl less ↦ absurd (
      let reached = is_reached w before between f m d (in_order w legal) at of_f in
      let up = rounds_ascend w.plan n m c d less ready.there of_f.there in
      let here = ready.current in
      let same : c.round ≡ d.round = omega arith in
      elim (order.before n m c d less ready.there of_f.there same) [
        | inl none ↦ has_reply m w.history before between f at of_f.number none
        | inr is ↦ done-not_ready w n n c c ready is refl
      ])
]

file_order_entered : (w : World) (n : ℕ) (c : Placed) (e : Entry) → Legal w → IsInFileOrder w → IsReady w n c
    → EarlierAreAnswered w n → is_cut w ≡ false → e.command ≡ n + 1 → IsInFileOrder (with_entry w e)
file_order_entered w n c e legal order ready earlier no_cut own = record {
  entries =
      each_two-grows w.plan w.history e n c AreInFileOrder (record { number = own; there = ready.there }) order.entries
      (λ before between f m d at of_f. none_later w before between f m n d c legal order ready at of_f);
  before = done_before_entered w n c e (λ d x. d.round ≡ x.round) legal order.before ready
      (λ m d less at round. let here : d.round ≡ w.round = round ∙ ready.current in (here, earlier m d at less here))
      no_cut own;
}

-- ---- a step

file_order_done : (w : World) (n : ℕ) (c : Placed) (x : Next) → Legal w → IsInFileOrder w → IsReady w n c
    → EarlierAreAnswered w n → next_of w c.command (own_replies w n) ≡ x → IsInFileOrder (done w n x)
file_order_done w n c (next.Answer a) legal order ready earlier is = file_order_answered w n c a order ready
file_order_done w n c (next.Call call faulty) legal order ready earlier is =
    file_order_entered w n c (entry_of (host_of w) n call faulty) legal order ready earlier
    (goes_in w n c.command call faulty is).no_cut refl

pub file_order_stepped : (w : World) (n : ℕ) (c : Placed) → Legal w → IsInFileOrder w → IsReady w n c
    → EarlierAreAnswered w n → IsInFileOrder (stepped w n c.command)
file_order_stepped w n c legal order ready earlier =
    file_order_done w n c (next_of w c.command (own_replies w n)) legal order ready earlier refl

pub file_order_next_round : (w : World) → IsInFileOrder w → IsInFileOrder (next_round w)
file_order_next_round w order = record { entries = order.entries; before = order.before }

pub file_order_begun : (w : World) → w.history ≡ [] → IsInFileOrder w
file_order_begun w none = record {
  entries = none_two w AreInFileOrder none;
  before = λ m n d c less at_m at_n round. inl (ap (replies_of n) none);
}
