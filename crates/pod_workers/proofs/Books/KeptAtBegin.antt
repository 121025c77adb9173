-- A book as it is begun keeps what a book keeps.
use Rattle.pod_workers.proofs.Names.{◌≡◌, ℕ, zero, suc, List, [], ◌∷◌, length, map, Option, Some, None, slice_get, refl}
use Rattle.pod_workers.proofs.Names.{sym, ◌∙◌, ap, subst, arith, length-map, same_Some, none-some, replicate, RunView}
use Rattle.pod_workers.proofs.Names.{Answer, Host, NetList, Command}
use Rattle.std.proofs.lemmas.List.{length-replicate}
use Rattle.pod_workers.specs.{Index.IsIndex, Legal.{IsBegun, starts}, Plans.{IsWellFormed, Placed, commands_of}}
use Rattle.pod_workers.specs.{Plans.placed_from, Slots.{Fits, IsKept}, World.begun, declared.index.Place.Place}
use Rattle.pod_workers.specs.declared.plan.{Entry.Entry, Plan.Plan}

replicate-none : {X : Type 0} (n : ℕ) (i : ℕ) (o : Option X) → slice_get (replicate n None) i ≡ Some o → o ≡ None
replicate-none zero i o is = absurd (none-some o is)
replicate-none (suc n) zero o is = sym (same_Some None o is)
replicate-none (suc n) (suc i) o is = replicate-none n i o is

blanks-of : (xs : List Placed) → replicate {A = Option Answer} (length xs) None ≡ map (λ (c : Placed). None) xs
blanks-of [] = refl
blanks-of (x ∷ xs) = ap (λ (os : List (Option Answer)). None ∷ os) (blanks-of xs)

is-begun : (p : Plan) → IsWellFormed p → IsBegun (begun p)
is-begun p well = record { plan = well; is = refl }

blank-answers : (xs : List Placed) (n : ℕ) → n ≡ length xs
    → replicate {A = Option Answer} n None ≡ map (λ (c : Placed). None) xs
blank-answers xs n is = ap (λ k. replicate k None) is ∙ blanks-of xs

fits-blank : (list : Option NetList) (c : Command) (s : Option RunView) → s ≡ None → Fits list c [] s
fits-blank list c s is = rw is refl

begun-kept : (p : Plan) (host : Host) (places : List Place) (count : ℕ) → IsWellFormed p → host ≡ p.pods.opening
    → IsIndex p.pods.rounds (commands_of p) places → count ≡ length places
    → IsKept host (replicate count None) places 0 (begun p)
begun-kept p host places count well host_is index count_is = record {
  legal = starts (begun p) (is-begun p well);
  host_is = host_is;
  slots_long = length-replicate count None ∙ count_is ∙ index.long;
  answers_long = length-map (commands_of p) _;
  index = index;
  tasks = λ n c at_n s slot_n open_n. fits-blank _ c.command s (replicate-none count n s slot_n);
  before_is = refl;
  round_within = omega arith;
}

pub begun-is : (p : Plan) (count : ℕ) (places : List Place) (history : List Entry) (answers : List (Option Answer))
    → IsIndex p.pods.rounds (placed_from 0 p.pods.rounds) places → count ≡ length places → history ≡ []
    → answers ≡ replicate count None → record { plan = p; history = history; answers = answers; round = 0 } ≡ begun p
unfolding commands_of
begun-is p count places history answers index count_is none blank =
    ap (λ h. record { plan = p; history = h; answers = answers; round = 0 }) none
    ∙ ap (λ a. record { plan = p; history = []; answers = a; round = 0 })
    (blank ∙ blank-answers (placed_from 0 p.pods.rounds) count (count_is ∙ index.long))

pub begun-here : (p : Plan) (host : Host) (count more : ℕ) (places : List Place) (history : List Entry)
    (answers : List (Option Answer)) (slots : List (Option RunView))
    → IsWellFormed p → host ≡ p.pods.opening
    → IsIndex p.pods.rounds (placed_from 0 p.pods.rounds) places → count ≡ length places → more ≡ length places
    → history ≡ [] → answers ≡ replicate count None → slots ≡ replicate more None
    → IsKept host slots places 0 (record { plan = p; history = history; answers = answers; round = 0 })
unfolding commands_of
begun-here p host count more places history answers slots well host_is index count_is more_is none blank empty =
    subst (IsKept host slots places 0) (sym (begun-is p count places history answers index count_is none blank))
    (subst (λ ss. IsKept host ss places 0 (begun p)) (sym empty)
    (begun-kept p host places more well host_is index more_is))
