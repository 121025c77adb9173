-- Entries of a round are counted.
use Rattle.std.proofs.Common.{◌≡◌, ℕ, ◌+◌, ◌≤◌, cond, List, [], ◌∷◌, ◌++◌, length, sum, refl, sym, ◌∙◌, ap, subst}
use Rattle.std.proofs.{Common.arith, lemmas.List.{length-append, Elements.{All-head, All-tail}, Sums.sum_by-append}}
use Rattle.std.proofs.lemmas.List.Sums.{sum_by-cons}
use Rattle.std.specs.{List.{All, count_by}, Prelude.{slice_index, slice_set}}
use Rattle.pod_workers.proofs.Books.RoundDone.{extends_trans}
use Rattle.pod_workers.specs.{Extends.{Extends, IsOfRound, Rounds}, World.{World, is_of_round}}
use Rattle.pod_workers.specs.declared.plan.{Entry.Entry, Plan.Plan}
use Rattle.pod_threads.specs.Counted.{entries_of_round}

-- ---- entries of a round

pub count-all : (p : Plan) (round : ℕ) (es : List Entry) → All (IsOfRound p round) es
    → entries_of_round p round es ≡ length es
count-all p round [] all = refl
count-all p round (e ∷ es) all =
    sum_by-cons (λ x. cond (is_of_round p round x) 1 0) e es
    ∙ ap (λ b. cond b 1 0 + count_by (is_of_round p round) es) (All-head (IsOfRound p round) e es all)
    ∙ ap (λ k. 1 + k) (count-all p round es (All-tail (IsOfRound p round) e es all)) ∙ (omega arith)

pub count-append : (p : Plan) (round : ℕ) (g h : List Entry)
    → entries_of_round p round (g ++ h) ≡ entries_of_round p round g + entries_of_round p round h
count-append p round g h = sum_by-append (λ e. cond (is_of_round p round e) 1 0) g h

-- what a round adds to its entries is what it adds to the history
pub entries-more : (u w : World) → Extends u w
    → entries_of_round u.plan u.round w.history + length u.history
    ≡ entries_of_round u.plan u.round u.history + length w.history
entries-more u w e =
    let more = ap (entries_of_round u.plan u.round) e.entries.1 ∙ count-append u.plan u.round u.history e.entries.0 in
    let all = count-all u.plan u.round e.entries.0 e.entries.2 in
    let long = ap length e.entries.1 ∙ length-append u.history e.entries.0 in
    omega (arith, more, all, long)

-- ---- a round that is done by the workers and then to its end

pub rounds-after : (u v w : World) → Extends u v → Rounds v w → Rounds u w
rounds-after u v w e r = record {
  last = r.last;
  legal = r.legal;
  extends = extends_trans u v r.last e r.extends;
  over = r.over;
  next_is = r.next_is;
}

pub rounds-more : (u w : World) → Rounds u w
    → entries_of_round u.plan u.round w.history + length u.history
    ≡ entries_of_round u.plan u.round u.history + length w.history
rounds-more u w r =
    subst (λ (v : World).
    entries_of_round u.plan u.round v.history + length u.history
    ≡ entries_of_round u.plan u.round u.history + length v.history)
    (sym r.next_is) (entries-more u r.last r.extends)

-- where the first count alone grows, by those that stood before and the rest, it has those that stood before
pub first-count : (xs ys : List ℕ) (stood before rest : ℕ) → before ≡ stood → sum ys ≡ sum xs + (before + rest)
    → ys ≡ slice_set xs 0 (slice_index xs 0 + (before + rest)) → stood ≤ slice_index ys 0
first-count [] ys stood before rest before_is sum_is is = let none : sum ys ≡ 0 = ap sum is in omega arith
first-count (x ∷ xs) ys stood before rest before_is sum_is is = rw is (omega arith)

-- the workers made so many entries, so many stood before, and the rest was made at the end
pub whole-count : (u v w : World) (made before rest total : ℕ) → Extends u v → Rounds v w
    → length v.history ≡ length u.history + made → before ≡ entries_of_round u.plan u.round u.history
    → length w.history ≡ length v.history + rest → total ≡ made + (before + rest)
    → total ≡ entries_of_round u.plan u.round w.history
whole-count u v w made before rest total e r made_is before_is rest_is total_is =
    let more = rounds-more u w (rounds-after u v w e r) in
    omega (arith, more, made_is, before_is, rest_is, total_is)
