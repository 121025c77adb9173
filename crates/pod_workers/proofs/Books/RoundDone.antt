-- A round's commands are stepped to their answers one after another, and the next round is current.
use Rattle.pod_workers.proofs.Names.{◌≡◌, ℕ, zero, suc, ◌+◌, ◌-◌, ◌<◌, ◌≤◌, true, List, [], ◌∷◌, ◌++◌, length, map}
use Rattle.pod_workers.proofs.Names.{take, Option, Some, None, Result, Ok, Err, slice_get, refl, sym, ◌∙◌, ap, subst}
use Rattle.pod_workers.proofs.Names.{arith, inl, inr, append_assoc, cases_lt, eqb_tells, append-nil, length-append}
use Rattle.pod_workers.proofs.Names.{length-map, All-append, All-cons, All-nil, same_Some, none-some, slice_get_within}
use Rattle.pod_workers.proofs.Names.{All, NoMemory, RunView, Answer, OutOfMemory, Host, file_limit, Command}
use Rattle.std.proofs.Common.{IfOk, OnErr}
use Rattle.pod_workers.specs.{Extends.{Appends, Extends, IsOfRound, Rounds}, Legal.{Legal, turns}}
use Rattle.pod_workers.specs.{Order.{EarlierAreAnswered, IsInFileOrder}, Plans.{Placed, commands_of, in_round}}
use Rattle.pod_workers.specs.{Plans.placed_from, Slots.{AreNumbersOf, IsKept}, World.{World, IsAnswered, IsReady}}
use Rattle.pod_workers.specs.World.{IsReadyNumber, IsRoundOver, RunsOut, StepsTo, answered, done, entry_of, host_of}
use Rattle.pod_workers.specs.{World.{next_of, next_round, own_replies}, declared.{index.Place.Place, plan.Entry.Entry}}
use Rattle.pod_workers.specs.declared.plan.{Next.Next, Plan.Plan, StepEnd.StepEnd}
use Rattle.pod_workers.specs.declared.plan.Next.TheVariants as next
use Rattle.pod_workers.proofs.Books.Rounds.{is_in_round, placed-fits, placed_from-more, placed_from-prefix, round-of}
use Rattle.pod_workers.proofs.{Books.Rounds.rounds-before, Hosts.Sound.fine, InOrder.FileOrder.file_order_answered}
use Rattle.pod_workers.proofs.InOrder.{FileOrder.{file_order_next_round, file_order_stepped}, Order.in_order}
use Rattle.pod_workers.proofs.{InOrder.Order.{not_both, open_or_answered, other_round}, Lists.Elements.at_number-is}
use Rattle.pod_workers.proofs.{Lists.Elements.{slice_get-right, slice_get-before}, Plans.WellFormedPlans.few_commands}
use Rattle.pod_workers.proofs.Worlds.Histories.{slice_get-set_other}

-- ---- entries behind entries

pub appends-none : (P : Entry → Type 0) (h : List Entry) → Appends h h (All P)
appends-none P h = ([], sym (append-nil h), All-nil P)

pub appends-more : (F G H : List Entry → Type 0) (g h k : List Entry)
    → ((xs ys : List Entry) → F xs → G ys → H (xs ++ ys)) → Appends g h F → Appends h k G → Appends g k H
appends-more F G H g h k both first more = (
  first.0 ++ more.0,
  more.1 ∙ ap (λ es. es ++ more.0) first.1 ∙ append_assoc g first.0 more.0,
  both first.0 more.0 first.2 more.2,
)

-- ---- one world goes on from another

pub extends_refl : (w : World) → Extends w w
extends_refl w = record {
  plan_is = refl;
  round_is = refl;
  entries = appends-none (IsOfRound w.plan w.round) w.history;
  answers_stand = λ n a is. is;
  others = λ n c at far. refl;
}

same-round : (u v : World) (es : List Entry) → v.plan ≡ u.plan → v.round ≡ u.round → All (IsOfRound v.plan v.round) es
    → All (IsOfRound u.plan u.round) es
same-round u v es plan_is round_is all =
    subst (λ p. All (IsOfRound p u.round) es) plan_is (subst (λ r. All (IsOfRound v.plan r) es) round_is all)

pub extends_trans : (u v w : World) → Extends u v → Extends v w → Extends u w
extends_trans u v w e f = record {
  plan_is = f.plan_is ∙ e.plan_is;
  round_is = f.round_is ∙ e.round_is;
  entries =
      appends-more (All (IsOfRound u.plan u.round)) (All (IsOfRound v.plan v.round)) (All (IsOfRound u.plan u.round))
      u.history v.history w.history
      (λ xs ys first more.
      All-append (IsOfRound u.plan u.round) xs ys first (same-round u v ys e.plan_is e.round_is more))
      e.entries f.entries;
  answers_stand = λ n a is. f.answers_stand n a (e.answers_stand n a is);
  others = λ n c at far.
      f.others n c (ap (λ p. slice_get (commands_of p) n) e.plan_is ∙ at) (λ same. far (same ∙ e.round_is))
      ∙ e.others n c at far;
}

answered_extends : (w : World) (n : ℕ) (c : Placed) (a : Answer) → IsReady w n c → Extends w (answered w n a)
answered_extends w n c a ready = record {
  plan_is = refl;
  round_is = refl;
  entries = appends-none (IsOfRound w.plan w.round) w.history;
  answers_stand = λ m b is. elim (eqb_tells m n) [
    | inl t ↦
        absurd (none-some b (same_Some None (Some b) (sym ready.unanswered ∙ ap (slice_get w.answers) (sym t.1) ∙ is)))
    | inr f ↦ slice_get-set_other w.answers n m (Some a) f.1 ∙ is
  ];
  others = λ m d at_m far.
      slice_get-set_other w.answers n m (Some a)
      (other_round w n m c d ready.there at_m (λ e. far (e ∙ ready.current)));
}

pub same-is-in : (round : ℕ) (c : Placed) → c.round ≡ round → is_in_round round (Some c) ≡ true
same-is-in round c is = elim (eqb_tells c.round round) [ inl t ↦ t.0 | inr f ↦ absurd (f.1 is) ]

of-round : (p : Plan) (round n : ℕ) (c : Placed) (e : Entry) → e.command ≡ n + 1 → slice_get (commands_of p) n ≡ Some c
    → c.round ≡ round → IsOfRound p round e
of-round p round n c e number_is there round_is =
    ap (is_in_round round) (at_number-is (commands_of p) e.command n number_is ∙ there) ∙ same-is-in round c round_is

done_extends : (w : World) (n : ℕ) (c : Placed) (x : Next) → IsReady w n c → Extends w (done w n x)
done_extends w n c (next.Answer a) ready = answered_extends w n c a ready
done_extends w n c (next.Call call faulty) ready =
    let e = entry_of (host_of w) n call faulty in
    let mine : IsOfRound w.plan w.round e = of-round w.plan w.round n c e refl ready.there ready.current in
    record {
      plan_is = refl;
      round_is = refl;
      entries = (e ∷ [], refl, All-cons (IsOfRound w.plan w.round) e [] mine (All-nil (IsOfRound w.plan w.round)));
      answers_stand = λ m a is. is;
      others = λ m d at_m far. refl;
    }

-- whatever a step of a ready command gives
abbrev pub IsStepped : Result StepEnd NoMemory → World → World → ℕ → Type 0
IsStepped r v w number = IfOk r (StepsTo v w number) × OnErr r (RunsOut v w number)

pub step_extends : (r : Result StepEnd NoMemory) (v w : World) (number : ℕ) → IsReadyNumber v number
    → IsStepped r v w number → Extends v w
step_extends (Ok x) v w number ready is =
    subst (Extends v) (sym (is.0 ready.0 ready.1 ready.2 ready.3.there).0)
    (done_extends v ready.0 ready.1 (next_of v ready.1.command (own_replies v ready.0)) ready.3)
step_extends (Err x) v w number ready is =
    subst (Extends v) (sym (is.1 ready.0 ready.1 ready.2 ready.3.there))
    (answered_extends v ready.0 ready.1 OutOfMemory ready.3)

-- ---- the numbers of a round

placed-all : (w : World) → commands_of w.plan ≡ placed_from 0 w.plan.pods.rounds
unfolding commands_of
placed-all w = refl

not-before : (rounds : List (List Command)) (round n : ℕ) (c : Placed) → slice_get (placed_from 0 rounds) n ≡ Some c
    → c.round ≡ round → length (placed_from 0 (take round rounds)) ≤ n
not-before rounds round n c at_n is = elim (cases_lt n (length (placed_from 0 (take round rounds)))) [
  | inl less ↦
      let f = placed_from-prefix 0 round rounds in
      let there : slice_get (placed_from 0 (take round rounds)) n ≡ Some c =
      sym (slice_get-before (placed_from 0 (take round rounds)) f.0 n less)
      ∙ ap (λ xs. slice_get xs n) (sym f.1)
      ∙ at_n in
      absurd (let low = rounds-before round rounds n c there in omega arith)
  | inr more ↦ more
]

-- after the round's own commands come those of later rounds
later-round : (r i : ℕ) (rounds : List (List Command)) (cs : List Command) → slice_get rounds i ≡ Some cs
    → (n : ℕ) (c : Placed) → slice_get (placed_from r rounds) n ≡ Some c
    → length (placed_from r (take i rounds)) + length cs ≤ n → r + i < c.round
later-round r i [] cs is n c at_n past = absurd (none-some cs is)
later-round r zero (x ∷ xs) cs is n c at_n past =
    let same : x ≡ cs = same_Some x cs is in
    let long : length (map (in_round r) x) ≡ length cs = length-map x (in_round r) ∙ ap length same in
    let k = n - length (map (in_round r) x) in
    let place : length (map (in_round r) x) + k ≡ n = omega arith in
    let there : slice_get (placed_from (r + 1) xs) k ≡ Some c =
    sym (slice_get-right (map (in_round r) x) (placed_from (r + 1) xs) k)
    ∙ ap (slice_get (map (in_round r) x ++ placed_from (r + 1) xs)) place
    ∙ at_n in
    let low = (round-of (r + 1) xs k c there).0 in
    omega arith
later-round r (suc i) (x ∷ xs) cs is n c at_n past =
    let long = length-append (map (in_round r) x) (placed_from (r + 1) (take i xs)) in
    let k = n - length (map (in_round r) x) in
    let place : length (map (in_round r) x) + k ≡ n = omega (arith, long) in
    let there : slice_get (placed_from (r + 1) xs) k ≡ Some c =
    sym (slice_get-right (map (in_round r) x) (placed_from (r + 1) xs) k)
    ∙ ap (slice_get (map (in_round r) x ++ placed_from (r + 1) xs)) place
    ∙ at_n in
    let rest = later-round (r + 1) i xs cs is k c there (omega (arith, long)) in
    omega arith

pub numbers-of : (host : Host) (slots : List (Option RunView)) (places : List Place) (before : ℕ) (w v : World)
    (cs : List Command)
    → IsKept host slots places before w → w ≡ v
    → slice_get w.plan.pods.rounds w.round ≡ Some cs → AreNumbersOf v (before + 1) (before + length cs + 1)
numbers-of host slots places before w v cs kept same is =
    subst (λ u. AreNumbersOf u (before + 1) (before + length cs + 1)) same (record {
      ordered = omega arith;
      all = λ n c at_n current.
          let there : slice_get (placed_from 0 w.plan.pods.rounds) n ≡ Some c =
          ap (λ xs. slice_get xs n) (sym (placed-all w)) ∙ at_n in
          let low = not-before w.plan.pods.rounds w.round n c there current in
          let before_is = kept.before_is in (
            omega arith,
            elim (cases_lt n (before + length cs)) [
              | inl less ↦ omega arith
              | inr past ↦
                  absurd (let later = later-round 0 w.round w.plan.pods.rounds cs is n c there (omega arith) in
                  omega arith)
            ],
          );
    })

-- ---- command after command

-- each command of the round with a number below this one is answered
abbrev pub AllBelow : World → ℕ → Type 0
AllBelow w number = EarlierAreAnswered w (number - 1)

earlier-stays : (v w : World) (n : ℕ) → Extends v w → EarlierAreAnswered v n → EarlierAreAnswered w n
earlier-stays v w n e earlier m d at_m less current =
    let a = earlier m d (ap (λ p. slice_get (commands_of p) m) (sym e.plan_is) ∙ at_m) less (current ∙ e.round_is) in
    (a.0, e.answers_stand m a.0 a.1)

-- a command of the round that may not step, though all before it are answered, has its answer
answered-then : (w : World) (number n : ℕ) (c : Placed) → Legal w → AllBelow w number → (IsReadyNumber w number → ⊥)
    → number ≡ n + 1 → slice_get (commands_of w.plan) n ≡ Some c → c.round ≡ w.round → IsAnswered w n
answered-then w number n c legal below not is at_n current = elim (open_or_answered w n c (in_order w legal) at_n) [
  | inl unanswered ↦
      absurd (not (
        n,
        c,
        is,
        record {
          there = at_n;
          current = current;
          unanswered = unanswered;
          first = λ m d o less at_m answer blocks.
              not_both w m (below m d at_m (omega arith) blocks.0.0) (answer ∙ ap Some blocks.1);
        },
      ))
  | inr a ↦ a
]

pub below-more : (v w : World) (number : ℕ) → Extends v w → Legal w → AllBelow v number → (IsReadyNumber w number → ⊥)
    → AllBelow w (number + 1)
below-more v w number e legal below not n c at_n less current =
    let stays = earlier-stays v w (number - 1) e below in
    elim (eqb_tells (n + 1) number) [
      | inl t ↦ answered-then w number n c legal stays not (sym t.1) at_n current
      | inr f ↦ (let other = f.1 in stays n c at_n (omega arith) current)
    ]

pub none-below : (w : World) (first end : ℕ) → AreNumbersOf w first end → AllBelow w first
none-below w first end numbers n c at_n less current =
    absurd (let low = (numbers.all n c at_n current).0 in omega arith)

pub round-is-over : (v w : World) (first end number : ℕ) → AreNumbersOf v first end → Extends v w → end ≤ number
    → AllBelow w number → IsRoundOver w
round-is-over v w first end number numbers e past below n c at_n current =
    let high =
    (numbers.all n c (ap (λ p. slice_get (commands_of p) n) (sym e.plan_is) ∙ at_n) (current ∙ e.round_is)).1 in
    below n c at_n (omega arith) current

pub rounds-from : (v w u : World) → Legal w → Extends v w → IsRoundOver w → u ≡ next_round w → Rounds v u
rounds-from v w u legal e over is = record { last = w; legal = legal; extends = e; over = over; next_is = is }

-- ---- the next round

pub turned-keeps : (host : Host) (slots : List (Option RunView)) (places : List Place) (before : ℕ) (w : World)
    (cs : List Command)
    → IsKept host slots places before w → slice_get w.plan.pods.rounds w.round ≡ Some cs
    → IsRoundOver w → IsKept host slots places (before + length cs) (next_round w)
turned-keeps host slots places before w cs kept is over =
    let within : w.round < length w.plan.pods.rounds = slice_get_within w.plan.pods.rounds w.round cs is in
    let more : length (placed_from 0 (take (suc w.round) w.plan.pods.rounds))
    ≡ length (placed_from 0 (take w.round w.plan.pods.rounds)) + length cs =
    ap length (placed_from-more 0 w.round w.plan.pods.rounds cs is)
    ∙ length-append (placed_from 0 (take w.round w.plan.pods.rounds)) (map (in_round (0 + w.round)) cs)
    ∙ ap (λ k. length (placed_from 0 (take w.round w.plan.pods.rounds)) + k) (length-map cs (in_round (0 + w.round))) in
    let next_is : suc w.round ≡ w.round + 1 = omega arith in
    record {
      legal = turns w (next_round w) kept.legal within over refl;
      host_is = kept.host_is;
      slots_long = kept.slots_long;
      answers_long = kept.answers_long;
      index = kept.index;
      tasks = kept.tasks;
      before_is =
          ap (λ k. k + length cs) kept.before_is
          ∙ sym more
          ∙ ap (λ k. length (placed_from 0 (take k w.plan.pods.rounds))) next_is;
      round_within = omega arith;
    }

-- ---- where the code reads a round

pub round-there : {w v : World} {cs : List Command} → w ≡ v → slice_get v.plan.pods.rounds v.round ≡ Some cs
    → slice_get w.plan.pods.rounds w.round ≡ Some cs
round-there {w} {v} {cs} same is = subst (λ u. slice_get u.plan.pods.rounds u.round ≡ Some cs) (sym same) is

pub round-fits : (host : Host) (slots : List (Option RunView)) (places : List Place) (before : ℕ) (w : World)
    (cs : List Command)
    → IsKept host slots places before w → slice_get w.plan.pods.rounds w.round ≡ Some cs
    → (before + length cs ≤ file_limit) × (w.round < file_limit)
round-fits host slots places before w cs kept is =
    let fits = placed-fits w.plan.pods.rounds w.round cs is in
    let all = ap length (placed-all w) in
    let bounds = few_commands w.plan (fine w kept.legal).plan.pods in
    let rounds = (fine w kept.legal).plan.pods.rounds.few_rounds in
    let before_is = kept.before_is in
    let within = slice_get_within w.plan.pods.rounds w.round cs is in
    (omega (arith, fits, all, bounds, before_is), omega (arith, within, rounds))

pub still-left : (v w : World) → Extends v w → v.round < length v.plan.pods.rounds → w.round < length w.plan.pods.rounds
still-left v w e less =
    let plan = ap (λ (p : Plan). length p.pods.rounds) e.plan_is in
    let round = e.round_is in
    omega (arith, plan, round, less)

-- ---- the order of the file

step-in-order : (r : Result StepEnd NoMemory) (v w : World) (number : ℕ) → IsReadyNumber v number
    → IsStepped r v w number → Legal v → IsInFileOrder v
    → ((n : ℕ) → number ≡ n + 1 → EarlierAreAnswered v n) → IsInFileOrder w
step-in-order (Ok x) v w number ready is legal order earlier =
    subst IsInFileOrder (sym (is.0 ready.0 ready.1 ready.2 ready.3.there).0)
    (file_order_stepped v ready.0 ready.1 legal order ready.3 (earlier ready.0 ready.2))
step-in-order (Err x) v w number ready is legal order earlier =
    subst IsInFileOrder (sym (is.1 ready.0 ready.1 ready.2 ready.3.there))
    (file_order_answered v ready.0 ready.1 OutOfMemory order ready.3)

-- one step more of the first open command keeps the file's order
pub order-more : (r : Result StepEnd NoMemory) (u v w : World) (number : ℕ) → IsReadyNumber v number
    → IsStepped r v w number → Legal v → Extends u v → IsInFileOrder v
    → ((n : ℕ) → number ≡ n + 1 → EarlierAreAnswered u n) → IsInFileOrder w
order-more r u v w number ready is legal e order earlier =
    step-in-order r v w number ready is legal order (λ n n_is. earlier-stays u v n e (earlier n n_is))

pub below-earlier : (w : World) (number n : ℕ) → AllBelow w number → number ≡ n + 1 → EarlierAreAnswered w n
below-earlier w number n below is m d at_m less current = below m d at_m (omega arith) current

pub turned-in-order : (w u : World) → IsInFileOrder w → u ≡ next_round w → IsInFileOrder u
turned-in-order w u order is = subst IsInFileOrder (sym is) (file_order_next_round w order)
