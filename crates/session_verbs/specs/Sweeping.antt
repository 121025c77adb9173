-- How a collection goes on, a call at a time.
use Rattle.std.specs.Prelude.{◌≡◌, ℕ, List, [], ◌∷◌, Some, ◌⊎◌}
use Rattle.kernel_types.specs.declared.call.Call.{Call}
use Rattle.cni_verbs.specs.Script.{call_of_work}
use Rattle.gc_sweep.specs.{View.{jobs_left, sweeps_after}, declared.place.SweepPlace.SweepPlace}
use Rattle.session_verbs.specs.Journal.{JournalView, after_entries, made_next}

-- the call is the next of a sweep that is at this place
abbrev pub IsNextOf : SweepPlace → Call → Type 0
IsNextOf place call =
    (network : List ℕ) × (call_of_work network (jobs_left [] place) (sweeps_after [] place.stage) ≡ Some call)

-- nothing was done, or this call was made
abbrev pub MayHaveMade : Call → JournalView → JournalView → Type 0
MayHaveMade call old new = (new ≡ old) ⊎ (new ≡ after_entries old (made_next old call ∷ []))
