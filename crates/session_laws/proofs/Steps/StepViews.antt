-- What is said of a session's last task, by what the task was handed and what it did.
use Rattle.session_laws.proofs.Names.{◌≡◌, ◌==◌, ℕ, ◌+◌, false, cond, List, [], ◌∷◌, ◌++◌, map, filter, find, Option}
use Rattle.session_laws.proofs.Names.{Some, None, refl, ap, ◌∙◌, arith, IfSome, eq-eqb, nat_tests, append-nil}
use Rattle.session_laws.proofs.Names.{length_push, map-append, reverse-append, filter-append, find-append, IfSome_then}
use Rattle.session_laws.proofs.Names.{option_or, nat_lt, reverse, att_eq, Att, att_eq-refl, leases_in, Made, host_from}
use Rattle.session_laws.proofs.Names.{host_on, replies, Task}
use Rattle.std.proofs.lemmas.List.Sums.{fold-append}
use Rattle.host_local.specs.Leases.{given_of}
use Rattle.session_laws.specs.{Holds.{Suite, rows_of_task}, Kept.IsRowKept, Pools.sets_by, Ran.{IsNewRow, leased_after}}
use Rattle.session_laws.specs.{Ran.row_after, Steps.{IsViewKept, StepsAreSeen, StepsGrow, after_task, handed, if_any}}
use Rattle.session_laws.specs.{Steps.{seen, seen_for}, Tasks.{command_of, course_by}, Views.{entry_of, SessionView}}
use Rattle.session_laws.specs.Views.{att_by, entries_of, finish, leased_by, leased_to, made_of, number, own, row_of}
use Rattle.session_laws.specs.{Views.start, declared.{answer.TaskAnswer.TaskAnswer, entry.Entry.Entry, row.Row.Row}}
use Rattle.session_laws.proofs.Steps.Numbered.{before-all, before-own, entries_of-append, entries_of-later}
use Rattle.session_laws.proofs.Steps.Numbered.{entries_of-others, all-numbered, entries_of-own, filter-none_all}
use Rattle.session_laws.proofs.Steps.Numbered.{last_found, map-made}

module _ (old : SessionView) (es : List Made) (more : Option Row) (a : TaskAnswer) where
  pub number-after : number (after_task old es more a) ≡ number old + 1
  number-after = length_push old.answers a

  -- the entries of a number, after the task
  entries_of-after : (n : ℕ) → entries_of n (after_task old es more a).history
      ≡ entries_of n old.history ++ entries_of n (map (entry_of (number old + 1)) es)
  entries_of-after n = entries_of-append n old.history (map (entry_of (number old + 1)) es)

  pub finish-after : finish (after_task old es more a) ≡ host_from (finish old) es
  finish-after =
      ap (host_from old.conf.opening) (map-append made_of old.history (map (entry_of (number old + 1)) es)
      ∙ ap (λ l. map made_of old.history ++ l) (map-made (number old + 1) es))
      ∙ fold-append host_on old.conf.opening (map made_of old.history) es

  module _ (kept : IsViewKept old) where
    own-after_at : entries_of (number old + 1) (after_task old es more a).history ≡ es
    own-after_at =
        entries_of-after (number old + 1)
        ∙ ap (λ l. l ++ entries_of (number old + 1) (map (entry_of (number old + 1)) es))
        (entries_of-later (number old) (number old + 1) old.history (omega arith) kept.entries)
        ∙ entries_of-own (number old + 1) es

    pub own-after : own (after_task old es more a) ≡ es
    own-after = ap (λ n. entries_of n (after_task old es more a).history) number-after ∙ own-after_at

    start-after_at : filter (λ (e : Entry). nat_lt e.task (number old + 1)) (after_task old es more a).history
        ≡ old.history
    start-after_at =
        filter-append (λ (e : Entry). nat_lt e.task (number old + 1)) old.history (map (entry_of (number old + 1)) es)
        ∙ ap (λ l. l ++ filter (λ (e : Entry). nat_lt e.task (number old + 1)) (map (entry_of (number old + 1)) es))
        (before-all (number old) (number old + 1) old.history (omega arith) kept.entries)
        ∙ ap (λ l. old.history ++ l) (before-own (number old + 1) es)
        ∙ append-nil old.history

    pub start-after : start (after_task old es more a) ≡ finish old
    start-after =
        ap (λ n.
        host_from old.conf.opening
        (map made_of (filter (λ (e : Entry). nat_lt e.task n) (after_task old es more a).history)))
        number-after
        ∙ ap (λ l. host_from old.conf.opening (map made_of l)) start-after_at

    -- what an earlier row's task was leased stays
    pub leased_to-before : (row : Row) → IsRowKept (number old) row
        → leased_to (after_task old es more a) row ≡ leased_to old row
    leased_to-before row is =
        let in_range = is.numbered in
        let differ : number old + 1 ≡ row.task → ⊥ = λ same. grind (arith, nat_tests) in
        ap (λ l. leases_in (replies l)) (entries_of-after row.task
        ∙ ap (λ l. entries_of row.task old.history ++ l) (entries_of-others (number old + 1) row.task es differ)
        ∙ append-nil (entries_of row.task old.history))

    -- what the task was leased itself
    pub leased_to-own : (row : Row) → row.task ≡ number old + 1
        → leased_to (after_task old es more a) row ≡ leases_in (replies es)
    leased_to-own row is =
        ap (λ n. leases_in (replies (entries_of n (after_task old es more a).history))) is
        ∙ ap (λ l. leases_in (replies l)) own-after_at

    leased_by-before : (o : Option Row) → IfSome o (IsRowKept (number old))
        → leased_by (after_task old es more a) o ≡ leased_by old o
    leased_by-before None is = refl
    leased_by-before (Some row) is = leased_to-before row is

    -- the row of an attachment, where the task made none for it
    row-kept : (att : Att) → IfSome (row_of old att) (IsRowKept (number old))
    row-kept att = at_row (row_of old att) refl
      where
        at_row : (o : Option Row) → row_of old att ≡ o → IfSome o (IsRowKept (number old))
        at_row None is = tt
        at_row (Some row) is = last_found (IsRowKept (number old)) (λ r. att_eq r.att att) old.rows row kept.rows is

    pub rows-after : IfSome more (λ row. row.task ≡ number old + 1)
        → rows_of_task (after_task old es more a) ≡ if_any more
    rows-after of_task =
        ap (λ n. filter (λ (r : Row). r.task == n) (after_task old es more a).rows) number-after
        ∙ filter-append (λ (r : Row). r.task == number old + 1) old.rows (if_any more)
        ∙ ap (λ l. l ++ filter (λ (r : Row). r.task == number old + 1) (if_any more))
        (filter-none_all (IsRowKept (number old)) (λ r. r.task == number old + 1)
        (λ r is. let in_range = is.numbered in grind (arith, nat_tests)) old.rows kept.rows)
        ∙ filter-own more of_task
      where
        filter-own : (o : Option Row) → IfSome o (λ row. row.task ≡ number old + 1)
            → filter (λ (r : Row). r.task == number old + 1) (if_any o) ≡ if_any o
        filter-own None is = refl
        filter-own (Some row) is = ap (λ b. cond b (row ∷ []) []) (eq-eqb row.task (number old + 1) is)

reverse-any : {X : Type 0} (o : Option X) → reverse (if_any o) ≡ if_any o
reverse-any None = refl
reverse-any (Some x) = refl

-- the row that the task made, where it is the attachment's, and else the one that it had
pub row_of-after : (old : SessionView) (es : List Made) (more : Option Row) (a : TaskAnswer) (att : Att)
    → row_of (after_task old es more a) att ≡ option_or (find (λ r. att_eq r.att att) (if_any more)) (row_of old att)
row_of-after old es more a att =
    ap (find (λ r. att_eq r.att att))
    (reverse-append old.rows (if_any more) ∙ ap (λ l. l ++ reverse old.rows) (reverse-any more))
    ∙ find-append (λ r. att_eq r.att att) (if_any more) (reverse old.rows)

found-own : (att : Att) (more before : Option Row) → IfSome more (λ row. row.att ≡ att)
    → option_or (find (λ r. att_eq r.att att) (if_any more)) before ≡ option_or more before
found-own att None before is = refl
found-own att (Some row) before is =
    ap (λ b. option_or (cond b (Some row) None) before) (ap (λ x. att_eq x att) is ∙ att_eq-refl att)

found-other : (att : Att) (more before : Option Row) → IfSome more (λ row. att_eq row.att att ≡ false)
    → option_or (find (λ r. att_eq r.att att) (if_any more)) before ≡ before
found-other att None before is = refl
found-other att (Some row) before is = ap (λ b. option_or (cond b (Some row) None) before) is

-- ---- all of it

abbrev IsOfTask : SessionView → Task → Row → Type 0
IsOfTask old t row = (row.task ≡ number old + 1) × (row.att ≡ att_by old t)

of_task : (suite : Suite) (old : SessionView) (t : Task) (es : List Made) (more : Option Row)
    → IfSome more (IsNewRow suite (handed old t) es) → IfSome more (IsOfTask old t)
of_task suite old t es None is = tt
of_task suite old t es (Some row) is = (is.task, is.att)

leased-after : (old : SessionView) (t : Task) (es : List Made) (more : Option Row) (a : TaskAnswer) → IsViewKept old
    → IfSome more (IsOfTask old t)
    → leased_by (after_task old es more a) (row_after (handed old t) more) ≡ leased_after (handed old t) es more
leased-after old t es None a kept is =
    leased_by-before old es None a kept (row_of old (att_by old t)) (row-kept old es None a kept (att_by old t))
leased-after old t es (Some row) a kept is = leased_to-own old es (Some row) a kept row is.0

same_seen : (old : SessionView) (t : Task) (es : List Made) (more : Option Row) (a : TaskAnswer)
    → number (after_task old es more a) ≡ number old + 1
    → start (after_task old es more a) ≡ finish old
    → own (after_task old es more a) ≡ es
    → finish (after_task old es more a) ≡ host_from (finish old) es
    → row_of (after_task old es more a) (att_by old t) ≡ row_after (handed old t) more
    → leased_by (after_task old es more a) (row_of (after_task old es more a) (att_by old t))
    ≡ leased_after (handed old t) es more
    → rows_of_task (after_task old es more a) ≡ if_any more
    → seen (after_task old es more a) t ≡ seen_for (handed old t) (finish old) es more
same_seen old t es more a numbers starts owns finishes row leased rows = λ i. record {
  number = numbers i;
  command = command_of old.conf.network (numbers i) t;
  ask = record {
    att = att_by old t;
    netns = t.netns;
    options = t.options;
    given = given_of (sets_by old.conf.ipam) (leases_in (replies (owns i)));
  };
  course = course_by old.conf.network old.conf.ipam t (row i) (leased i);
  start = starts i;
  own = owns i;
  finish = finishes i;
  row = row i;
  leased = leased i;
  rows = rows i;
}

pub steps-seen : (suite : Suite) → StepsAreSeen suite
steps-seen suite old t es more a kept ran =
    let own_row = of_task suite old t es more ran.row in
    let row : row_of (after_task old es more a) (att_by old t) ≡ row_after (handed old t) more =
    row_of-after old es more a (att_by old t)
    ∙ found-own (att_by old t) more (row_of old (att_by old t)) (IfSome_then more own_row (λ r is. is.1)) in
    same_seen old t es more a (number-after old es more a) (start-after old es more a kept)
    (own-after old es more a kept)
    (finish-after old es more a) row
    (ap (leased_by (after_task old es more a)) row ∙ leased-after old t es more a kept own_row)
    (rows-after old es more a kept (IfSome_then more own_row (λ r is. is.0)))

pub steps-grow : (suite : Suite) → StepsGrow suite
steps-grow suite old new t es more a step = record {
  conf = ap (λ s. s.conf) step.is;
  answer = a;
  answers = ap (λ s. s.answers) step.is;
  entries = map (entry_of (number old + 1)) es;
  history = ap (λ s. s.history) step.is;
  numbered = all-numbered (number old + 1) es;
  more = more;
  rows = ap (λ s. s.rows) step.is;
  of_task = IfSome_then more step.ran.row (λ row is. is.task);
}
