-- The entries of the current round stand last in a legal history.
use Rattle.std.proofs.Common.{◌≡◌, ℕ, zero, suc, ◌+◌, ◌-◌, ◌<◌, ◌≤◌, true, false, cond, List, [], ◌∷◌, ◌++◌, length}
use Rattle.std.proofs.Common.{Option, Some, slice_get, refl, sym, ◌∙◌, ap, subst, inl, inr, arith}
use Rattle.std.proofs.lemmas.{Bool.Decides.eqb_tells, List.{append-nil, append_assoc, length-append}}
use Rattle.std.proofs.lemmas.List.Elements.{All-append, All-cons, All-head, All-nil, All-tail, All-weaker}
use Rattle.std.proofs.lemmas.{List.Sums.sum_by-cons, Option.{same_Some, none-some, slice_get_cases}}
use Rattle.std.specs.{List.{All, count_by}, Option.option_map_or}
use Rattle.pod_workers.specs.{Extends.IsOfRound, Legal.{Legal, starts, steps, refused_memory, turns}, Plans.Placed}
use Rattle.pod_workers.specs.{Plans.commands_of, World.{World, IsReady, answered, done, entry_of, host_of, next_of}}
use Rattle.pod_workers.specs.{World.{next_round, own_replies, is_of_round}, declared.plan.{Entry.Entry, Next.Next}}
use Rattle.pod_workers.specs.declared.plan.Plan.{Plan}
use Rattle.pod_workers.specs.declared.plan.Next.TheVariants as next
use Rattle.pod_workers.proofs.{Books.{RoundDone.same-is-in, Rounds.is_in_round}, Lists.Elements.at_number-is}
use Rattle.cni_errors.specs.declared.answer.Answer.{Answer, TheVariants.OutOfMemory}
use Rattle.pod_threads.specs.Counted.{entries_of_round, is_current}
use Rattle.pod_threads.proofs.Counting.{count-all, count-append}

-- the entry is of no round from this one on
abbrev NoneFrom : Plan → ℕ → Entry → Type 0
NoneFrom p round e = (r : ℕ) → round ≤ r → is_of_round p r e ≡ false

-- the entries of the rounds before, and behind them those of the current one
record Recent (w : World) : Type 0 where
  older : List Entry
  own : List Entry
  is : w.history ≡ older ++ own
  none : All (NoneFrom w.plan w.round) older
  all : All (IsOfRound w.plan w.round) own
  none_later : All (NoneFrom w.plan (w.round + 1)) own

-- ---- every legal world

entry-round : (p : Plan) (n : ℕ) (c : Placed) (e : Entry) (r : ℕ) → e.command ≡ n + 1
    → slice_get (commands_of p) n ≡ Some c → is_of_round p r e ≡ is_in_round r (Some c)
entry-round p n c e r number there = ap (is_in_round r) (at_number-is (commands_of p) e.command n number ∙ there)

in-no-later : (round : ℕ) (c : Placed) → c.round < round → is_in_round round (Some c) ≡ false
in-no-later round c less =
    elim (eqb_tells c.round round) [ inl t ↦ absurd (let same = t.1 in omega arith) | inr f ↦ f.0 ]

recent-answered : (w : World) (n : ℕ) (a : Answer) → Recent w → Recent (answered w n a)
recent-answered w n a r =
    record { older = r.older; own = r.own; is = r.is; none = r.none; all = r.all; none_later = r.none_later }

recent-done : (w : World) (n : ℕ) (c : Placed) (x : Next) → Recent w → IsReady w n c → Recent (done w n x)
recent-done w n c (next.Answer a) r ready = recent-answered w n a r
recent-done w n c (next.Call call faulty) r ready =
    let e = entry_of (host_of w) n call faulty in
    let mine : IsOfRound w.plan w.round e =
    entry-round w.plan n c e w.round refl ready.there ∙ same-is-in w.round c ready.current in
    let later : NoneFrom w.plan (w.round + 1) e = λ k less.
    entry-round w.plan n c e k refl ready.there ∙ in-no-later k c (let current = ready.current in omega arith) in
    record {
      older = r.older;
      own = r.own ++ e ∷ [];
      is = ap (λ h. h ++ e ∷ []) r.is ∙ append_assoc r.older r.own (e ∷ []);
      none = r.none;
      all =
          All-append (IsOfRound w.plan w.round) r.own (e ∷ []) r.all
          (All-cons (IsOfRound w.plan w.round) e [] mine (All-nil (IsOfRound w.plan w.round)));
      none_later =
          All-append (NoneFrom w.plan (w.round + 1)) r.own (e ∷ []) r.none_later
          (All-cons (NoneFrom w.plan (w.round + 1)) e [] later (All-nil (NoneFrom w.plan (w.round + 1))));
    }

sooner : (p : Plan) (round : ℕ) (e : Entry) → NoneFrom p round e → NoneFrom p (round + 1) e
sooner p round e none = λ r more. none r (omega arith)

recent-next_round : (w : World) → Recent w → Recent (next_round w)
recent-next_round w r = record {
  older = r.older ++ r.own;
  own = [];
  is = r.is ∙ sym (append-nil (r.older ++ r.own));
  none =
      All-append (NoneFrom w.plan (w.round + 1)) r.older r.own
      (All-weaker (NoneFrom w.plan w.round) (NoneFrom w.plan (w.round + 1)) (sooner w.plan w.round) r.older r.none)
      r.none_later;
  all = All-nil (IsOfRound w.plan (w.round + 1));
  none_later = All-nil (NoneFrom w.plan (w.round + 1 + 1));
}

recent : (w : World) → Legal w → Recent w
recent _ (starts w begun) = record {
  older = [];
  own = [];
  is = ap (λ (v : World). v.history) begun.is;
  none = All-nil (NoneFrom w.plan w.round);
  all = All-nil (IsOfRound w.plan w.round);
  none_later = All-nil (NoneFrom w.plan (w.round + 1));
}
recent _ (steps v w n c legal ready is) =
    subst Recent (sym is) (recent-done v n c (next_of v c.command (own_replies v n)) (recent v legal) ready)
recent _ (refused_memory v w n c legal ready is) =
    subst Recent (sym is) (recent-answered v n OutOfMemory (recent v legal))
recent _ (turns v w legal less over is) = subst Recent (sym is) (recent-next_round v (recent v legal))

-- ---- where they begin

count-none : (p : Plan) (round : ℕ) (es : List Entry) → All (NoneFrom p round) es → entries_of_round p round es ≡ 0
count-none p round [] none = refl
count-none p round (e ∷ es) none =
    sum_by-cons (λ x. cond (is_of_round p round x) 1 0) e es
    ∙ ap (λ b. cond b 1 0 + count_by (is_of_round p round) es)
    (All-head (NoneFrom p round) e es none round (omega arith))
    ∙ ap (λ k. 0 + k) (count-none p round es (All-tail (NoneFrom p round) e es none)) ∙ (omega arith)

count-recent : (w : World) (r : Recent w) → entries_of_round w.plan w.round w.history ≡ length r.own
count-recent w r =
    ap (entries_of_round w.plan w.round) r.is
    ∙ count-append w.plan w.round r.older r.own
    ∙ ap (λ k. k + entries_of_round w.plan w.round r.own) (count-none w.plan w.round r.older r.none)
    ∙ ap (λ k. 0 + k) (count-all w.plan w.round r.own r.all) ∙ (omega arith)

place-own : (p : Plan) (round : ℕ) (older own : List Entry) (k : ℕ) (e : Entry) → All (NoneFrom p round) older
    → slice_get (older ++ own) k ≡ Some e → is_of_round p round e ≡ true → length older ≤ k
place-own p round [] own k e none at is = omega arith
place-own p round (x ∷ xs) own zero e none at is =
    absurd (let no = All-head (NoneFrom p round) x xs none round (omega arith) in let same = same_Some x e at in cc)
place-own p round (x ∷ xs) own (suc k) e none at is =
    let far = place-own p round xs own k e (All-tail (NoneFrom p round) x xs none) at is in omega arith

each-own : (p : Plan) (round : ℕ) (own : List Entry) (k : ℕ) (e : Entry) → All (IsOfRound p round) own
    → slice_get own k ≡ Some e → is_of_round p round e ≡ true
each-own p round [] k e all at = absurd (none-some e at)
each-own p round (x ∷ xs) zero e all at =
    ap (is_of_round p round) (sym (same_Some x e at)) ∙ All-head (IsOfRound p round) x xs all
each-own p round (x ∷ xs) (suc k) e all at = each-own p round xs k e (All-tail (IsOfRound p round) x xs all) at

place-older : (p : Plan) (round : ℕ) (older own : List Entry) (k : ℕ) (e : Entry) → All (IsOfRound p round) own
    → slice_get (older ++ own) k ≡ Some e → is_of_round p round e ≡ false → k < length older
place-older p round [] own k e all at is = absurd (let yes = each-own p round own k e all at in cc)
place-older p round (x ∷ xs) own zero e all at is = omega arith
place-older p round (x ∷ xs) own (suc k) e all at is =
    let near = place-older p round xs own k e all at is in omega arith

-- ---- read from the end

-- how many entries stand before those of the current round
abbrev pub older_entries : World → ℕ
older_entries w = length w.history - entries_of_round w.plan w.round w.history

long : (w : World) (r : Recent w) → length w.history ≡ length r.older + length r.own
long w r = ap length r.is ∙ length-append r.older r.own

current-at : (w : World) (number k : ℕ) (o : Option Entry) → number ≡ k + 1 → slice_get w.history k ≡ o
    → is_current w number ≡ option_map_or (is_of_round w.plan w.round) o false
current-at w number k o number_is at =
    ap (λ o. option_map_or (is_of_round w.plan w.round) o false) (at_number-is w.history number k number_is ∙ at)

current-place : (w : World) (r : Recent w) (number k : ℕ) → number ≡ k + 1 → number ≤ length w.history
    → is_current w number ≡ true → length r.older ≤ k
current-place w r number k number_is within is = elim (slice_get_cases w.history k).1 [
  | inl t ↦
      place-own w.plan w.round r.older r.own k t.0 r.none (ap (λ h. slice_get h k) (sym r.is) ∙ t.2)
      (sym (current-at w number k (Some t.0) number_is t.2) ∙ is)
  | inr t ↦ absurd (let past = t.0 in omega arith)
]

other-place : (w : World) (r : Recent w) (number k : ℕ) → number ≡ k + 1 → number ≤ length w.history
    → is_current w number ≡ false → k < length r.older
other-place w r number k number_is within is = elim (slice_get_cases w.history k).1 [
  | inl t ↦
      place-older w.plan w.round r.older r.own k t.0 r.all (ap (λ h. slice_get h k) (sym r.is) ∙ t.2)
      (sym (current-at w number k (Some t.0) number_is t.2) ∙ is)
  | inr t ↦ absurd (let past = t.0 in omega arith)
]

-- one that is of the current round stands behind the older ones
pub goes-on : (w : World) → Legal w → (number : ℕ) → number ≤ length w.history → is_current w number ≡ true
    → (1 ≤ number) × (older_entries w ≤ number - 1)
goes-on w legal zero within is = absurd (let t = is in cc)
goes-on w legal (suc k) within is =
    let r = recent w legal in
    let place = current-place w r (suc k) k (omega arith) within is in
    (omega arith, omega (arith, place, long w r, count-recent w r))

-- where the next one isn't, those behind it are all
pub stops : (w : World) → Legal w → (number : ℕ) → number ≤ length w.history → older_entries w ≤ number
    → is_current w number ≡ false → length w.history - number ≡ entries_of_round w.plan w.round w.history
stops w legal zero within low is = let r = recent w legal in omega (arith, long w r, count-recent w r)
stops w legal (suc k) within low is =
    let r = recent w legal in
    let place = other-place w r (suc k) k (omega arith) within is in
    omega (arith, place, long w r, count-recent w r)
