-- Laws of two tests.
use Rattle.std.proofs.Common.{◌≡◌, Bool, true, false, ◌&&◌, ◌||◌, cond, refl, sym}

-- a test that another stands before says no more with it
pub and_implied : (p q : Bool) → (q ≡ true → p ≡ true) → q ≡ (p && q)
and_implied true q h = refl
and_implied false true h = sym (h refl)
and_implied false false h = refl

-- one more test in front of others, or behind them
pub one_more : (here before : Bool) → cond here true before ≡ (before || (here || false))
one_more true true = refl
one_more true false = refl
one_more false true = refl
one_more false false = refl
