-- Lists in which each key stands once, where keys are sought by their order.
use Rattle.std.proofs.Common.{◌≡◌, ℕ, ◌+◌, ◌<◌, Bool, true, false, cond, List, [], ◌∷◌, ◌++◌, length, take, get_or, ap}
use Rattle.std.proofs.{Common.{ap₂, refl, subst, sym, ◌∙◌}, lemmas.List.{take_more, Folds.list_any-append}}
use Rattle.std.proofs.lemmas.List.Sums.{fold_push}
use Rattle.std.specs.{BTreeSet.{BTreeSet, contains}, Cmp.{IsPartialEquivalence, IsTotalOrder, both_tied}}
use Rattle.std.specs.Cmp.{eq_by_cmp_equiv, nat_eq_equiv, on_per, partial_equiv_from_equiv, unsigned_ties}
use Rattle.std.specs.{List.list_any, Ordering.{eq_by_cmp, is_eq, nat_cmp}, Prelude.{◌==◌, if◌then◌else◌, not}}
use Rattle.std.specs.declared.cmp.Ordering.{Ordering}
use Rattle.cni_addr.specs.Lists.{push_unless_there, each_key_once}
use Rattle.cni_addr.proofs.{KeyLists.list_any-each_key_once, Tests.{and_implied, one_more}}
use Rattle.plugin_base.specs.EachKey.{AreKeysOf, Marked, marked_cmp}

eqb-itself : (m n : ℕ) → m ≡ n → (m == n) ≡ true
eqb-itself m n same = subst (λ k. (m == k) ≡ true) same (nat_eq_equiv.refl m)

pub once_pushed : {X : Type 0} (same : X → X → Bool) (xs : List X) (x : X)
    → each_key_once same (xs ++ x ∷ []) ≡ push_unless_there same (each_key_once same xs) x
once_pushed same xs x = fold_push (push_unless_there same) [] xs x

few_by : {X : Type 0} (same : X → X → Bool) (xs : List X) (x : X) (there : Bool) → list_any (same x) xs ≡ there
    → each_key_once same xs ≡ xs
    → each_key_once same (if there then xs else xs ++ x ∷ []) ≡ (if there then xs else xs ++ x ∷ [])
few_by same xs x true is once = once
few_by same xs x false is once =
    once_pushed same xs x ∙ ap (λ ys. push_unless_there same ys x) once
    ∙ ap (λ (b : Bool). if b then xs else xs ++ x ∷ []) is

-- a list in which each key stands once still is one
pub once_few : {X : Type 0} (same : X → X → Bool) (xs : List X) (x : X) → each_key_once same xs ≡ xs
    → each_key_once same (push_unless_there same xs x) ≡ push_unless_there same xs x
once_few same xs x once = few_by same xs x (list_any (same x) xs) refl once

module _ {X K : Type 0} (cmp : K → K → Ordering) (total : IsTotalOrder cmp) (key_of : X → K) (mark_of : X → ℕ)
    (same : X → X → Bool) (by_key : (new x : X) → same new x ≡ eq_by_cmp cmp (key_of x) (key_of new))
    (by_mark : (new x : X) → same new x ≡ true → mark_of x ≡ mark_of new) where
  abbrev marked : X → Marked K
  marked x = (mark_of x, key_of x)

  alike : IsPartialEquivalence same
  alike =
      subst IsPartialEquivalence
      (λ i new x. sym (by_key new x ∙ (eq_by_cmp_equiv total).symm (key_of x) (key_of new)) i)
      (on_per key_of (partial_equiv_from_equiv (eq_by_cmp_equiv total)))

  -- what stands for two objects compares as equal just where they have one key
  same_marked : (new x : X) → same new x ≡ is_eq (marked_cmp cmp (marked x) (marked new))
  same_marked new x =
      and_implied (mark_of x == mark_of new) (same new x) (λ h. eqb-itself (mark_of x) (mark_of new) (by_mark new x h))
      ∙ both_tied (mark_of x == mark_of new) (same new x) (nat_cmp (mark_of x) (mark_of new))
      (cmp (key_of x) (key_of new)) (unsigned_ties (mark_of x) (mark_of new)) (by_key new x)

  turned_over : (c : Bool) (xs ys : List X) → (if c then xs else ys) ≡ (if not c then ys else xs)
  turned_over true xs ys = refl
  turned_over false xs ys = refl

  -- what is new by its key stands behind the others, and what isn't is there already
  pub once_next : (keys : BTreeSet (Marked K)) (x : X) (is_new : Bool)
      → is_new ≡ not (contains (marked_cmp cmp) keys (marked x)) → (xs : List X)
      → AreKeysOf cmp marked same keys xs
      → each_key_once same (xs ++ x ∷ []) ≡ (if is_new then each_key_once same xs ++ x ∷ [] else each_key_once same xs)
  once_next keys x is_new is xs are =
      let once = each_key_once same xs in
      let there = are x ∙ sym (list_any-each_key_once same alike x xs) in
      once_pushed same xs x ∙ turned_over (list_any (same x) once) once (once ++ x ∷ [])
      ∙ ap (λ (b : Bool). if b then once ++ x ∷ [] else once) (sym (is ∙ ap not there))

  pub keys_next : (old new : BTreeSet (Marked K)) (x : X)
      → ((q : Marked K)
      → contains (marked_cmp cmp) new q
      ≡ cond (is_eq (marked_cmp cmp (marked x) q)) true (contains (marked_cmp cmp) old q))
      → (xs : List X) → AreKeysOf cmp marked same old xs → AreKeysOf cmp marked same new (xs ++ x ∷ [])
  keys_next old new x updated xs are y =
      updated (marked y)
      ∙ ap₂ (λ here before. cond here true before) (sym (same_marked y x)) (are y)
      ∙ one_more (same y x) (list_any (same y) xs) ∙ sym (list_any-append (same y) xs (x ∷ []))

-- ---- the next of a list

pub next-is : {X : Type 0} (xs : List X) (i : ℕ) (x : X) → i < length xs → x ≡ get_or xs i x
    → take (i + 1) xs ≡ take i xs ++ x ∷ []
next-is xs i x within at = take_more xs i x within ∙ ap (λ y. take i xs ++ y ∷ []) (sym at)
