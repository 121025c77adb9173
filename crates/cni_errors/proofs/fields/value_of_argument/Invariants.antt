use Rattle.std.proofs.Common.{◌≡◌, length}
use Rattle.std.specs.List.{slice_split}
use denote.Shadow.{shadow}
use denote.Text.{Utf8}
use Rattle.cni_errors.proofs.Arguments.{value_in, is_semicolon}
use Rattle.cni_errors.proofs.fields.value_of_argument.Given as goal

-- the rest has the value that the whole has
abbrev pub invariant-pieces : goal.invariant-pieces
invariant-pieces l =
    (value_in l.key (slice_split is_semicolon l.rest) ≡ value_in l.key (slice_split is_semicolon l.text))
    × shadow (Utf8 l.rest)

abbrev pub decreases-pieces : goal.decreases-pieces
decreases-pieces l = length l.rest
