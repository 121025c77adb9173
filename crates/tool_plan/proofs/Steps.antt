-- Steps of reading that go on from one another.
use Rattle.std.proofs.Common.{◌≡◌, ◌∙◌, ◌≤◌, ℕ, List, Option, Err}
use Rattle.cni_io.specs.Files.{StoredFiles}
use Rattle.tool_plan.specs.{Causes.{GivesStored, WhereTold}, Verdict.Judged, declared.plan.NoPlan.NoPlan}
use Rattle.tool_plan.specs.declared.plan.NoPlan.TheVariants.{Usage, Line, Unread, NoMemory}
use Rattle.cni_io.proofs.Counts.{Rose-from_start}

-- a step that stops stops the whole
pub stops : {X A Y B : Type 0} (view : X → A) (seen : Y → B) (files later : Option StoredFiles) (start before now : ℕ)
    (Reached Reaches : List ℕ → Type 0) (step : StoredFiles → Judged A)
    (whole : StoredFiles → Judged B) (none : NoPlan) → later ≡ files → start ≤ before
    → ((file : List ℕ) → Reached file → Reaches file)
    → WhereTold files (λ stored. (line : List ℕ) → step stored ≡ Err line → whole stored ≡ Err line)
    → GivesStored view later before now Reached step (Err none)
    → GivesStored seen files start now Reaches whole (Err none)
stops view seen files later start before now Reached Reaches step whole Usage same up reaches stop gives = gives
stops view seen files later start before now Reached Reaches step whole (Line line) same up reaches stop gives =
    λ stored told.
    stop stored told line.items (gives stored (same ∙ told))
stops view seen files later start before now Reached Reaches step whole (Unread line) same up reaches stop gives =
    record {
      file = gives.file;
      reached = reaches gives.file gives.reached;
      rose = Rose-from_start start before now up gives.rose;
      says = gives.says;
    }
stops view seen files later start before now Reached Reaches step whole NoMemory same up reaches stop gives = tt
