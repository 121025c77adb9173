-- Known bytes that grow twice.
use Rattle.std.proofs.Common.{◌≡◌, ℕ, ◌+◌, ◌-◌, List, ◌++◌, length, take, drop, Option, Some, None, refl, sym, ap, ◌∙◌}
use Rattle.std.proofs.{Common.{append_assoc, arith, length-drop}, Math.Seq.take-add, lemmas.List.take_all}
use Rattle.std.specs.Io.KnownBytes.{append_known}

pub append_known-twice : (known : Option (List ℕ)) (xs ys : List ℕ)
    → append_known (append_known known xs) ys ≡ append_known known (xs ++ ys)
append_known-twice None xs ys = refl
append_known-twice (Some bs) xs ys = ap Some (append_assoc bs xs ys)

-- the first n bytes, and then m more of those that are left
pub append_known-more : (old mid new : Option (List ℕ)) (bytes : List ℕ) (n m : ℕ)
    → mid ≡ append_known old (take n bytes)
    → new ≡ append_known mid (take m (drop n bytes)) → new ≡ append_known old (take (n + m) bytes)
append_known-more old mid new bytes n m first then =
    then ∙ ap (λ known. append_known known (take m (drop n bytes))) first
    ∙ append_known-twice old (take n bytes) (take m (drop n bytes)) ∙ ap (append_known old) (sym (take-add n m bytes))

-- what is left after n bytes, as a slice gives it
pub left_is_drop : (bytes : List ℕ) (n : ℕ) → take (length bytes - n) (drop n bytes) ≡ drop n bytes
left_is_drop bytes n = take_all _ _ (omega (arith, length-drop n bytes))
