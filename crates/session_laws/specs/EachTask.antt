-- The law of a whole session: what holds of its last task holds of each task, of what was there when it was answered.
use Rattle.std.specs.{List.list_all, Prelude.{◌≡◌, ◌<◌, ◌-◌, ℕ, true}}
use Rattle.session_laws.specs.{Holds.{Grows, Suite, TaskHolds}, Kept.is_numbered, Steps.IsViewKept, Views.SessionView}
use Rattle.session_laws.specs.{Views.{begun, number, upto}, declared.{entry.Entry.Entry, row.Row.Row}}
use Rattle.session_file.specs.declared.session.SessionConf.{SessionConf}

-- the session's law of each task, by its place: it is the last of those up to it
abbrev pub EachTaskHolds : Suite → SessionView → Type 0
EachTaskHolds suite s = (n : ℕ) → n < number s → TaskHolds suite (upto n s)

-- each entry and each row is of a task that was answered, as where the session grew from its beginning
pub record IsGrown (s : SessionView) : Type 0 where
  pub entries : list_all (λ (e : Entry). is_numbered (number s) e.task) s.history ≡ true
  pub rows : list_all (λ (r : Row). is_numbered (number s) r.task) s.rows ≡ true

-- ---- the statements

abbrev pub TheFirstViewIsGrown : Type 0
TheFirstViewIsGrown = (conf : SessionConf) → IsGrown (begun conf)

abbrev pub GrownViewsGrow : Type 0
GrownViewsGrow = (old new : SessionView) → IsGrown old → Grows old new → IsGrown new

abbrev pub KeptViewsAreGrown : Type 0
KeptViewsAreGrown = (s : SessionView) → IsViewKept s → IsGrown s

-- what there was up to a task stays so
abbrev pub EarlierTasksStay : Type 0
EarlierTasksStay = (old new : SessionView) (n : ℕ) → Grows old new → n < number old → upto n new ≡ upto n old

-- up to the last task there is all of the session
abbrev pub TheLastTaskIsAll : Type 0
TheLastTaskIsAll = (s : SessionView) → IsGrown s → 0 < number s → upto (number s - 1) s ≡ s

abbrev pub EachTaskHoldsAtFirst : Suite → Type 0
EachTaskHoldsAtFirst suite = (conf : SessionConf) → EachTaskHolds suite (begun conf)

-- with one more task that holds, each task holds
abbrev pub EachTaskHoldsWithOneMore : Suite → Type 0
EachTaskHoldsWithOneMore suite = (old new : SessionView) → IsGrown old → EachTaskHolds suite old → Grows old new
    → TaskHolds suite new → EachTaskHolds suite new
