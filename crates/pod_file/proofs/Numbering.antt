-- One more step of numbering.
use Rattle.std.proofs.Common.{◌≡◌, ℕ, zero, suc, ◌+◌, ◌<◌, List, [], ◌∷◌, ◌++◌, length, take, drop, slice_set}
use Rattle.std.proofs.{Common.{slice_index_or, refl, sym, ap, arith, add-one}, lemmas.List.length-append}
use Rattle.std.specs.Prelude.{scan}
use Rattle.pod_file.specs.Rounds.{in_file_order, numbered, round_numbered, all_numbered}
use Rattle.pod_file.specs.declared.command.Command.{Command}

-- an element is replaced, and those after it are to follow
scan_next : {S X : Type 0} (next : S → X → S) (out : S → X → X) (xs : List X) (d : X) (s : S) (i : ℕ) → i < length xs
    → take (suc i) (slice_set xs i (out s (slice_index_or xs i d)))
    ++ scan next out (next s (slice_index_or xs i d)) (drop (suc i) (slice_set xs i (out s (slice_index_or xs i d))))
    ≡ take i xs ++ scan next out s (drop i xs)
scan_next next out [] d s i within = absurd (omega arith)
scan_next next out (x ∷ xs) d s zero within = refl
scan_next next out (x ∷ xs) d s (suc i) within = ap (λ more. x ∷ more) (scan_next next out xs d s i (omega arith))

pub scan-next : {S X : Type 0} (next : S → X → S) (out : S → X → X) (xs : List X) (d : X) (s : S) (i : ℕ)
    → i < length xs
    → take (i + 1) (slice_set xs i (out s (slice_index_or xs i d)))
    ++ scan next out (next s (slice_index_or xs i d)) (drop (i + 1) (slice_set xs i (out s (slice_index_or xs i d))))
    ≡ take i xs ++ scan next out s (drop i xs)
scan-next next out xs d s i within = rw add-one (scan_next next out xs d s i within)

-- a command gets its number
pub command_numbered : (cs : List Command) (d : Command) (n i : ℕ) → i < length cs
    → take (i + 1) (slice_set cs i (numbered n (slice_index_or cs i d)))
    ++ round_numbered (n + 1) (drop (i + 1) (slice_set cs i (numbered n (slice_index_or cs i d))))
    ≡ take i cs ++ round_numbered n (drop i cs)
command_numbered cs d n i within = scan-next (λ (m : ℕ) (c : Command). m + 1) numbered cs d n i within

-- a round gets its numbers
pub round_numbered-next : (rs : List (List Command)) (d : List Command) (n i : ℕ) → i < length rs
    → take (i + 1) (slice_set rs i (round_numbered n (slice_index_or rs i d)))
    ++ all_numbered (n + length (slice_index_or rs i d))
    (drop (i + 1) (slice_set rs i (round_numbered n (slice_index_or rs i d))))
    ≡ take i rs ++ all_numbered n (drop i rs)
round_numbered-next rs d n i within =
    scan-next (λ (m : ℕ) (cs : List Command). m + length cs) round_numbered rs d n i within

count_round : (rs : List (List Command)) (d r : List Command) (i : ℕ) → i < length rs
    → length (slice_index_or rs i d) + length (in_file_order (drop (suc i) (slice_set rs i r)))
    ≡ length (in_file_order (drop i rs))
count_round [] d r i within = absurd (omega arith)
count_round (s ∷ rs) d r zero within = sym (length-append s (in_file_order rs))
count_round (s ∷ rs) d r (suc i) within = count_round rs d r i (omega arith)

-- the commands of a round, and those after it
pub count-next : (rs : List (List Command)) (d r : List Command) (i : ℕ) → i < length rs
    → length (slice_index_or rs i d) + length (in_file_order (drop (i + 1) (slice_set rs i r)))
    ≡ length (in_file_order (drop i rs))
count-next rs d r i within = rw add-one (count_round rs d r i within)

pub ruleset counts = (length-append)

pub ruleset numbers = (command_numbered, round_numbered-next, count-next, length-append)
