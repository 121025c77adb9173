-- What there was up to each task of a session, over the next task.
use Rattle.session_laws.proofs.Names.{◌≡◌, ◌<◌, ℕ, ◌+◌, ◌==◌, true, List, [], ◌∷◌, ◌++◌, length, filter, Option, Some}
use Rattle.session_laws.proofs.Names.{None, refl, sym, ap, subst, ◌∙◌, ◌&&◌, inl, inr, arith, IfSome, cases_Bool}
use Rattle.session_laws.proofs.Names.{eq-eqb, nat_tests, append-nil, length_push, All-head, All-tail, filter-append}
use Rattle.session_laws.proofs.Names.{list_all-append, All, list_all, nat_lt, list_all-weaker}
use Rattle.std.proofs.{Common.take, lemmas.List.{take_all, take-append-le}}
use Rattle.std.specs.Prelude.{nat_le}
use Rattle.session_laws.specs.EachTask.{EachTaskHoldsAtFirst, EachTaskHoldsWithOneMore, EarlierTasksStay}
use Rattle.session_laws.specs.EachTask.{GrownViewsGrow, IsGrown, KeptViewsAreGrown, TheFirstViewIsGrown}
use Rattle.session_laws.specs.{EachTask.TheLastTaskIsAll, Holds.{Grows, Suite, TaskHolds}, Kept.IsRowKept}
use Rattle.session_laws.specs.{Kept.is_numbered, Steps.if_any, Views.{SessionView, number, upto}}
use Rattle.session_laws.specs.declared.{entry.Entry.Entry, row.Row.Row}
use Rattle.session_laws.proofs.Steps.Numbered.{filter-all_of}
use Rattle.kernel_types.proofs.ListLemmas.{filter_never}

-- ---- what is numbered

-- a row of the next task
next-row : (n : ℕ) (more : Option Row) → IfSome more (λ row. row.task ≡ n)
    → list_all (λ (r : Row). r.task == n) (if_any more) ≡ true
next-row n None is = refl
next-row n (Some row) is = ap (λ b. b && true) (eq-eqb row.task n is)

module _ {X : Type 0} (task : X → ℕ) where
  -- with what the next task appends
  numbered-more : (n : ℕ) (before more : List X) → list_all (λ x. is_numbered n (task x)) before ≡ true
      → list_all (λ x. task x == n + 1) more ≡ true
      → list_all (λ x. is_numbered (n + 1) (task x)) (before ++ more) ≡ true
  numbered-more n before more old own =
      let kept =
      list_all-weaker (λ x. is_numbered n (task x)) (λ x. is_numbered (n + 1) (task x))
      (λ x is. grind (arith, nat_tests)) before old in
      let appended =
      list_all-weaker (λ x. task x == n + 1) (λ x. is_numbered (n + 1) (task x))
      (λ x is. grind (arith, nat_tests)) more own in
      list_all-append (λ x. is_numbered (n + 1) (task x)) before more
      ∙ ap (λ b. b && list_all (λ x. is_numbered (n + 1) (task x)) more) kept ∙ appended

  -- up to an earlier task nothing of it is there
  upto-before : (n m : ℕ) (before more : List X) → n < m → list_all (λ x. task x == m + 1) more ≡ true
      → filter (λ x. nat_le (task x) (n + 1)) (before ++ more) ≡ filter (λ x. nat_le (task x) (n + 1)) before
  upto-before n m before more less own =
      filter-append (λ x. nat_le (task x) (n + 1)) before more
      ∙ ap (λ l. filter (λ x. nat_le (task x) (n + 1)) before ++ l)
      (filter_never (λ x. nat_le (task x) (n + 1)) (λ x. task x == m + 1) (λ x is. grind (arith, nat_tests))
      more own)
      ∙ append-nil (filter (λ x. nat_le (task x) (n + 1)) before)

  -- up to the last task all is there
  upto-all : (n m : ℕ) (xs : List X) → m ≡ n + 1 → list_all (λ x. is_numbered m (task x)) xs ≡ true
      → filter (λ x. nat_le (task x) (n + 1)) xs ≡ xs
  upto-all n m xs is all =
      filter-all_of (λ x. nat_le (task x) (n + 1)) (λ x. is_numbered m (task x))
      (λ x in_range. grind (arith, nat_tests)) xs all

pub number-more : (old new : SessionView) → Grows old new → number new ≡ number old + 1
number-more old new grows = ap length grows.answers ∙ length_push old.answers grows.answer

-- ---- growing

pub first-grown : TheFirstViewIsGrown
first-grown conf = record { entries = refl; rows = refl }

pub grown-more : GrownViewsGrow
grown-more old new grown grows =
    let numbers = number-more old new grows in
    record {
      entries = ap (λ n. list_all (λ (e : Entry). is_numbered n e.task) new.history) numbers
          ∙ ap (list_all (λ (e : Entry). is_numbered (number old + 1) e.task)) grows.history
          ∙ numbered-more (λ (e : Entry). e.task) (number old) old.history grows.entries grown.entries grows.numbered;
      rows = ap (λ n. list_all (λ (r : Row). is_numbered n r.task) new.rows) numbers
          ∙ ap (list_all (λ (r : Row). is_numbered (number old + 1) r.task)) grows.rows
          ∙ numbered-more (λ (r : Row). r.task) (number old) old.rows (if_any grows.more) grown.rows
          (next-row (number old + 1) grows.more grows.of_task);
    }

rows-numbered : (n : ℕ) (rows : List Row) → All (IsRowKept n) rows
    → list_all (λ (r : Row). is_numbered n r.task) rows ≡ true
rows-numbered n [] all = refl
rows-numbered n (row ∷ rows) all =
    ap (λ b. b && list_all (λ (r : Row). is_numbered n r.task) rows) (All-head (IsRowKept n) row rows all).numbered
    ∙ rows-numbered n rows (All-tail (IsRowKept n) row rows all)

pub kept-grown : KeptViewsAreGrown
kept-grown s kept = record { entries = kept.entries; rows = rows-numbered (number s) s.rows kept.rows }

-- ---- up to a task

pub earlier-stays : EarlierTasksStay
earlier-stays old new n grows less =
    let history : filter (λ (e : Entry). nat_le e.task (n + 1)) new.history
    ≡ filter (λ (e : Entry). nat_le e.task (n + 1)) old.history =
    ap (filter (λ (e : Entry). nat_le e.task (n + 1))) grows.history
    ∙ upto-before (λ (e : Entry). e.task) n (number old) old.history grows.entries less grows.numbered in
    let rows : filter (λ (r : Row). nat_le r.task (n + 1)) new.rows
    ≡ filter (λ (r : Row). nat_le r.task (n + 1)) old.rows =
    ap (filter (λ (r : Row). nat_le r.task (n + 1))) grows.rows
    ∙ upto-before (λ (r : Row). r.task) n (number old) old.rows (if_any grows.more) less
    (next-row (number old + 1) grows.more grows.of_task) in
    let answers : take (n + 1) new.answers ≡ take (n + 1) old.answers =
    ap (take (n + 1)) grows.answers ∙ take-append-le (n + 1) old.answers (grows.answer ∷ []) (omega arith) in
    λ i. record { conf = grows.conf i; history = history i; rows = rows i; answers = answers i }

last-all : (s : SessionView) (n : ℕ) → IsGrown s → number s ≡ n + 1 → upto n s ≡ s
last-all s n grown is =
    let history = upto-all (λ (e : Entry). e.task) n (number s) s.history is grown.entries in
    let rows = upto-all (λ (r : Row). r.task) n (number s) s.rows is grown.rows in
    let answers = take_all (n + 1) s.answers (omega arith) in
    λ i. record { conf = s.conf; history = history i; rows = rows i; answers = answers i }

pub last_task-all : TheLastTaskIsAll
last_task-all s grown some = last-all s _ grown (omega arith)

-- ---- each task

pub each-first : (suite : Suite) → EachTaskHoldsAtFirst suite
each-first suite conf = λ n less. absurd (omega arith)

pub each-more : (suite : Suite) → EachTaskHoldsWithOneMore suite
each-more suite old new grown each grows holds = λ n less.
    let numbers = number-more old new grows in
    elim (cases_Bool (nat_lt n (number old))) [
      | inl before ↦
          let earlier : n < number old = grind (arith, nat_tests) in
          subst (TaskHolds suite) (sym (earlier-stays old new n grows earlier)) (each n earlier)
      | inr last ↦
          let is : number new ≡ n + 1 = grind (arith, nat_tests) in
          subst (TaskHolds suite) (sym (last-all new n (grown-more old new grown grows) is)) holds
    ]
