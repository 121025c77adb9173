-- Texts that go on.
use Rattle.std.proofs.Common.{◌≡◌, ℕ, ◌≤◌, List, ◌∷◌, ◌++◌, codes, take, length, ap, sym, ◌∙◌, append_assoc, arith}
use Rattle.std.proofs.{Math.Seq.take-append_seam, lemmas.List.{length-take, take-take}}

-- the prefix of a prefix is a prefix
pub prefix_of_prefix : (a b c : List ℕ) → take (length a) b ≡ a → take (length b) c ≡ b → take (length a) c ≡ a
prefix_of_prefix a b c first second =
    let shorter : length a ≤ length b = omega (arith, length-take (length a) b, ap length first) in
    sym (take-take (length a) (length b) c shorter) ∙ ap (take (length a)) second ∙ first

-- what is appended leaves the prefix
pub prefix_of_append : (a b more : List ℕ) → b ≡ a ++ more → take (length a) b ≡ a
prefix_of_append a b more is = rw is (take-append_seam a more)

-- a text that was put together of three texts with slashes between them
pub with_slashes : (text bytes a b c x y z : List ℕ) → text ≡ bytes → bytes ≡ a ++ 47 ∷ (b ++ 47 ∷ c) → a ≡ x → b ≡ y
    → c ≡ z → text ≡ x ++ codes "/" ++ y ++ codes "/" ++ z
with_slashes text bytes a b c x y z is made first second third = rw (is, made, first, second, third) (simp append_assoc)
