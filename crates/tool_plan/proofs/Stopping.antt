-- How a step of reading ends with a line.
use Rattle.std.proofs.Common.{◌≡◌, ℕ, List, Option, Some, Err, refl, sym, ap, ◌∙◌}
use Rattle.std.specs.{Prelude.Vec, declared.alloc.Global.Global}
use Rattle.cni_io.specs.{Failures.Rose, Files.StoredFiles}
use Rattle.tool_plan.specs.{Causes.{GivesJudged, GivesStored}, Lines.unread_line, Verdict.Judged}
use Rattle.tool_plan.specs.declared.plan.NoPlan.TheVariants.{Line, Unread}

-- the line that is defined
pub stored_line : {X Y : Type 0} (view : X → Y) (files : Option StoredFiles) (before now : ℕ)
    (Reached : List ℕ → Type 0) (line : Vec ℕ Global) (text : List ℕ) (wanted : StoredFiles → Judged Y)
    → line.items ≡ text → ((stored : StoredFiles) → files ≡ Some stored → wanted stored ≡ Err text)
    → GivesStored view files before now Reached wanted (Err (Line line))
stored_line view files before now Reached line text wanted has is = λ stored told.
    is stored told ∙ ap (λ t. Err t) (sym has)

-- a read that failed
pub stored_unread : {X Y : Type 0} (view : X → Y) (files : Option StoredFiles) (before now : ℕ) (file : List ℕ)
    (wanted : StoredFiles → Judged Y) (line : Vec ℕ Global)
    → line.items ≡ unread_line file → Rose before now
    → GivesStored view files before now (λ name. name ≡ file) wanted (Err (Unread line))
stored_unread view files before now file wanted line has rose =
    record { file = file; reached = refl; rose = rose; says = has }

pub judged_line : {X : Type 0} (line : Vec ℕ Global) (text : List ℕ) (wanted : Judged X) → line.items ≡ text
    → wanted ≡ Err text → GivesJudged {X = X} (Err (Line line)) wanted
judged_line line text wanted has is = is ∙ ap (λ t. Err t) (sym has)

pub ruleset stopping = (stored_line, stored_unread, judged_line)
