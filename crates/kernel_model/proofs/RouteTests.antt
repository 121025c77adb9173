-- The five tests that make two routes equal, from the right and from the left.
use Rattle.std.proofs.Common.{◌≡◌, ◌&&◌, Bool, arith}

pub five_tests : (a b c d e : Bool) → (a && (b && (c && (d && e)))) ≡ (a && b && c && d && e)
five_tests a b c d e = grind arith
