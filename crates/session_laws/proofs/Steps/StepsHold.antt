-- The session's law holds after each task: its row, what a success made, and all other fields.
use Rattle.session_laws.proofs.Names.{◌≡◌, ℕ, Bool, List, [], ◌∷◌, ◌++◌, Option, Some, None, refl, sym, ap, subst, ◌∙◌}
use Rattle.session_laws.proofs.Names.{arith, slice_get, length_push, same_Some, MatchOption, MatchBool, Cached}
use Rattle.session_laws.proofs.Names.{AddResult, Att, share_of, AtBegin, Made, replies, Task, leases_in}
use Rattle.plugin_registry.specs.Own.{OwnCalls}
use Rattle.std.proofs.{Common.◌-◌, lemmas.Option.MatchOption-at_some}
use Rattle.cni_errors.specs.declared.answer.Ending.TheVariants as endings
use Rattle.session_laws.specs.{Course.{begins, state_from, IsOver}, Holds.{HasAdded, HasRow, HoldsOf, IsFilled}}
use Rattle.session_laws.specs.{Holds.{IsRowBy, RefusedAt, Suite, TaskCause, early, has_begun}, Laws.IsUndone}
use Rattle.session_laws.specs.{Pools.sets_by, Ran.{Handed, IsAnswerAt, IsAnswered, IsNewRow, Ran, ask_for, course_for}}
use Rattle.session_laws.specs.{Ran.early_for, Steps.{IsViewKept, StepsHold, StepsHoldOfTheLast, after_task, handed}}
use Rattle.session_laws.specs.{Steps.{if_any, seen, seen_for}, Views.{SessionView, ask_by, att_by, entries_of, finish}}
use Rattle.session_laws.specs.{Views.{leased_to, number, own}, declared.{answer.TaskAnswer.TaskAnswer, row.Row.Row}}
use Rattle.session_file.specs.declared.session.SessionConf.{SessionConf}
use Rattle.std.specs.Prelude.{length}
use Rattle.session_laws.specs.declared.answer.TaskAnswer.TheVariants as answers
use Rattle.session_laws.proofs.{Courses.Added.added_is_whole, Steps.{StepAnswers.early-added, StepEnds.ended-found}}
use Rattle.session_laws.proofs.Steps.StepFields.{match-map, IsRun, SeenRuns, SeenCauses, SeenRefused, SeenDeletes}
use Rattle.session_laws.proofs.Steps.StepFields.{SeenChecks, SeenCollects, SeenEnded, SeenWithin, SeenStopped}
use Rattle.session_laws.proofs.Steps.StepFields.{runs-seen, causes-seen, refused-seen, deletes-seen, checks-seen}
use Rattle.session_laws.proofs.Steps.StepFields.{collects-seen, ended-seen, only-seen, due-seen}
use Rattle.session_laws.proofs.Steps.StepShapes.{begun-found, is-add, objects-after, part-own, row-own, ready-after}
use Rattle.session_laws.proofs.Steps.{StepShapes.run_of, StepViews.steps-seen}
use Rattle.kernel_types.proofs.ListLemmas.{slice_get-middle}

-- ---- the row

row-filled : (suite : Suite) (old : SessionView) (t : Task) (es : List Made) (row : Row) (new : SessionView)
    (cached : Option Cached)
    → new.conf ≡ old.conf → leased_to new row ≡ leases_in (replies es) → ask_by new t ≡ ask_for (handed old t) es
    → MatchOption cached (row.calls ≡ []) (IsAnswered suite (handed old t) es row)
    → MatchOption cached (row.calls ≡ []) (IsFilled suite new t row)
row-filled suite old t es row new None conf leased ask is = is
row-filled suite old t es row new (Some cached) conf leased ask is = record {
  leased = ap length leased ∙ is.leased ∙ ap (λ (c : SessionConf). length (sets_by c.ipam)) (sym conf);
  calls = subst (λ k. suite.may_call t.kind_name k row.calls) (sym ask) is.calls;
  own = subst (λ k. OwnCalls k row.kinds row.calls) (sym ask) is.own;
  netns = is.netns;
  mappings = is.mappings;
  result = subst (λ k. suite.may_result t.kind_name k cached.result) (sym ask) is.result;
}

row-by : (suite : Suite) (old : SessionView) (t : Task) (es : List Made) (row : Row) (a : TaskAnswer)
    (v : seen (after_task old es (Some row) a) t ≡ seen_for (handed old t) (finish old) es (Some row))
    → IsNewRow suite (handed old t) es row → IsRowBy suite (after_task old es (Some row) a) t row
row-by suite old t es row a v is = record {
  task = is.task ∙ sym (ap (λ s. s.number) v);
  att = is.att;
  plugin = is.plugin;
  named = is.named;
  kinds = is.kinds;
  filled =
      row-filled suite old t es row (after_task old es (Some row) a) row.cached refl
      (ap (λ n. leases_in (replies (entries_of n (after_task old es (Some row) a).history)))
      (is.task ∙ sym (ap (λ s. s.number) v))
      ∙ ap (λ made. leases_in (replies made)) (ap (λ s. s.own) v))
      (ap (λ s. s.ask) v) is.filled;
}

-- a task made these rows, by whether its Begin was granted
abbrev HasRows : Suite → SessionView → Task → List Row → Bool → Type 0
HasRows suite new t rows begun = MatchBool begun ((row : Row) × (rows ≡ row ∷ []) × IsRowBy suite new t row) (rows ≡ [])

rows-by : (suite : Suite) (old : SessionView) (t : Task) (es : List Made) (more : Option Row) (a : TaskAnswer)
    → seen (after_task old es more a) t ≡ seen_for (handed old t) (finish old) es more
    → Ran suite (handed old t) (finish old) es more a
    → HasRows suite (after_task old es more a) t (if_any more) (has_begun es)
rows-by suite old t es None a v ran = subst (HasRows suite (after_task old es None a) t []) ran.begun refl
rows-by suite old t es (Some row) a v ran =
    subst (HasRows suite (after_task old es (Some row) a) t (row ∷ [])) ran.begun
    (row, refl, row-by suite old t es row a v ran.row)

has-row : (suite : Suite) (old : SessionView) (t : Task) (es : List Made) (more : Option Row) (a : TaskAnswer)
    → seen (after_task old es more a) t ≡ seen_for (handed old t) (finish old) es more
    → Ran suite (handed old t) (finish old) es more a → HasRow suite (after_task old es more a) t
has-row suite old t es more a v ran =
    subst (λ s. HasRows suite (after_task old es more a) t s.rows (has_begun s.own)) (sym v)
    (rows-by suite old t es more a v ran)

-- ---- a success

same_cached : (cached : Cached) (netns : List ℕ) (r : AddResult) → cached.netns ≡ netns → cached.mappings ≡ []
    → cached.result ≡ r
    → cached ≡ record { netns = netns; mappings = []; result = r }
same_cached cached netns r at mappings is = λ i. record { netns = at i; mappings = mappings i; result = is i }

has-added : (suite : Suite) (old : SessionView) (t : Task) (es : List Made) (more : Option Row) (a : TaskAnswer)
    (r : AddResult) (o : Option TaskCause)
    → IsViewKept old → Ran suite (handed old t) (finish old) es more a
    → seen (after_task old es more a) t ≡ seen_for (handed old t) (finish old) es more
    → IsRun (handed old t) (finish old) es more a o → a ≡ answers.Added r
    → HasAdded suite (after_task old es more a) t r
has-added suite old t es more a r (Some cause) kept all v was is =
    absurd (early-added (handed old t) es a cause r was is)
has-added suite old t es None a r None kept all v ran is =
    let answer : IsAnswerAt (handed old t) es None ran.state (answers.Added r) =
    subst (IsAnswerAt (handed old t) es None ran.state) is ran.answer in
    let no_row = answer.1.1 in
    absurd (cc no_row)
has-added suite old t es (Some row) a r None kept all v ran is =
    let h : Handed = handed old t in
    let new : SessionView = after_task old es (Some row) a in
    let answer : IsAnswerAt h es (Some row) ran.state (answers.Added r) =
    subst (IsAnswerAt h es (Some row) ran.state) is ran.answer in
    let begun = begun-found suite h (finish old) es row a all in
    let ends : state_from (course_for h es (Some row)) 0 AtBegin (replies es) ≡ ran.state =
    sym (ap (λ verb. state_from (course_for h es (Some row)) 0 (begins verb) (replies es)) begun.add) ∙ ran.is in
    let at_end =
    ended-found (course_for h es (Some row)) AtBegin (replies es) endings.Added refl
    (subst (λ s. IsOver s endings.Added) (sym ends) answer.0) in
    let whole =
    (added_is_whole old.conf.ipam row (run_of h (finish old) es (Some row))
    (is-add suite old t es row kept all.row begun) at_end.0 at_end.1).1 in
    let found = answer.1 in
    let same : row ≡ found.0 = same_Some row found.0 found.1 in
    let cached : Cached = found.2.0 in
    let there : row.cached ≡ Some cached = ap (λ x. x.cached) same ∙ found.2.1 in
    let filled : IsAnswered suite h es row cached =
    MatchOption-at_some (row.calls ≡ []) (IsAnswered suite h es row) cached there all.row.filled in
    let ask = ap (λ s. s.ask) v in
    record {
      row = row;
      is = row-own suite old t es row a all.row;
      of_task = all.row.task ∙ sym (ap (λ s. s.number) v);
      whole =
          ap (λ att. share_of att (finish new)) all.row.att
          ∙ ap (share_of (att_by old t)) (ap (λ s. s.finish) v)
          ∙ whole ∙ sym (part-own suite old t es row a kept all.row);
      calls = subst (λ k. suite.may_call t.kind_name k row.calls) (sym ask) filled.calls;
      result =
          subst (λ k. suite.may_result t.kind_name k r) (sym ask)
          (subst (λ x. suite.may_result t.kind_name (ask_for h es) x) found.2.2 filled.result);
      cached = there ∙ ap Some (same_cached cached t.netns r filled.netns filled.mappings found.2.2);
    }

-- ---- all of it

refused-at : (new : SessionView) (t : Task) → IsUndone (own new) (share_of (att_by new t) (finish new))
    → RefusedAt new t
refused-at new t is = record {
  past = is.past;
  by = is.by;
  later = is.later;
  are = is.are;
  granted = is.granted;
  refuses = is.refuses;
  undone = is.undone;
}

holds-after : (suite : Suite) (old : SessionView) (t : Task) (es : List Made) (more : Option Row) (a : TaskAnswer)
    → IsViewKept old
    → Ran suite (handed old t) (finish old) es more a → HoldsOf suite (after_task old es more a) t a
holds-after suite old t es more a kept ran =
    let new : SessionView = after_task old es more a in
    let h : Handed = handed old t in
    let att : Att = att_by old t in
    let v : seen new t ≡ seen_for h (finish old) es more = steps-seen suite old t es more a kept ran in
    let by : Option TaskCause = early_for suite h in
    record {
      runs = subst (SeenRuns suite t) (sym v) (runs-seen suite old t es kept more a by ran.ran);
      ended = subst (SeenEnded suite t a) (sym v) (ended-seen suite old t es kept more a by refl ran.ran);
      sound = (ready-after suite old t es more a kept ran).sound;
      row = has-row suite old t es more a v ran;
      objects = objects-after suite old t es more a kept ran;
      added = λ r is. has-added suite old t es more a r by kept ran v ran.ran is;
      refused = λ e add is. match-map (early suite.plugins new t) (refused-at new t) (λ cause none. none)
          (subst (SeenRefused suite t att) (sym v) (refused-seen suite old t es kept more a e by ran ran.ran add is));
      deleted = λ del.
          let is : SeenDeletes t att a (seen new t) =
          subst (SeenDeletes t att a) (sym v) (deletes-seen suite old t es kept more a by ran ran.ran del) in
          record { gone = is.0; idle = is.1 };
      checked = λ check.
          subst (SeenChecks t att a) (sym v) (checks-seen suite old t es kept more a by refl ran.ran check);
      collected = λ gc.
          subst (SeenCollects old.conf.network t a) (sym v) (collects-seen suite old t es kept more a by ran.ran gc);
      caused = λ whole.
          subst (SeenCauses suite t a) (sym v) (causes-seen suite old t es kept more a by ran.row ran.ran whole);
      stopped = record {
        only = λ calls is.
            let at_stop : SeenStopped suite t calls (seen new t) =
            subst (SeenStopped suite t calls) (sym v)
            (only-seen suite old t es kept more a calls by refl ran.ran is) in
            record { stop = at_stop.0; made = at_stop.1; begun = at_stop.2; goes_on = at_stop.3 };
        where_due = λ calls is.
            due-seen suite old t es kept more a calls by refl ran.ran
            (subst (SeenStopped suite t calls) v (is.stop, is.made, is.begun, is.goes_on));
        within = subst (SeenWithin t) (sym v) ran.within;
      };
    }

pub steps-hold : (suite : Suite) → StepsHold suite
steps-hold suite old new t es more a kept step =
    subst (λ s. HoldsOf suite s t a) (sym step.is) (holds-after suite old t es more a kept step.ran)

-- ---- the task that was answered last is this one

pub steps-hold_of_the_last : (suite : Suite) → StepsHoldOfTheLast suite
steps-hold_of_the_last suite old new t es more a kept step = λ u b there answer.
    let numbers : number new - 1 ≡ number old =
    ap (λ (s : SessionView). number s - 1) step.is ∙ (let pushed = length_push old.answers a in omega arith) in
    let task : t ≡ u =
    same_Some t u (sym step.there
    ∙ sym (ap (slice_get old.conf.tasks) numbers)
    ∙ sym (ap (λ (s : SessionView). slice_get s.conf.tasks (number new - 1)) step.is)
    ∙ there) in
    let answered : a ≡ b =
    same_Some a b (sym (slice_get-middle old.answers [] a)
    ∙ sym (ap (slice_get (old.answers ++ a ∷ [])) numbers)
    ∙ sym (ap (λ (s : SessionView). slice_get s.answers (number new - 1)) step.is)
    ∙ answer) in
    subst (λ x. HoldsOf suite new x b) task
    (subst (λ x. HoldsOf suite new t x) answered (steps-hold suite old new t es more a kept step))
