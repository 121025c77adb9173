-- A task whose Begin was granted, and one whose Begin was not.
use Rattle.session_laws.proofs.Names.{◌≡◌, ◌+◌, Bool, true, false, cond, List, [], ◌∷◌, find, Option, Some, None, refl}
use Rattle.session_laws.proofs.Names.{sym, ap, subst, ◌∙◌, inl, inr, IfSome, cases_Bool, option_or, MatchOption, att_eq}
use Rattle.session_laws.proofs.Names.{Att, Host, att_eq-refl, att_eq-same, no_objects, share_of, AtBegin, leases_in}
use Rattle.session_laws.proofs.Names.{Made, host_from, replies, HasKindsAlone, Task}
use Rattle.pod_file.specs.declared.command.Verb.TheVariants as verbs
use Rattle.gc_sweep.proofs.OfKinds.{HasKindsAlone-nothing}
use Rattle.session_laws.specs.{Course.begins, Holds.{HasByRow, IsPartOf, Suite, TaskCause, has_begun, is_faulty}}
use Rattle.session_laws.specs.{Kept.{IsRowKept, pools_of}, Laws.{BeginsAt, IsAdd, Run, part_of}}
use Rattle.session_laws.specs.{LawsOfAnswers.LeasesBySetsAlone, Pools.IsReady, Ran.{Handed, IsNewRow, Ran, RanByCourse}}
use Rattle.session_laws.specs.{Ran.{WasEarly, command_for, course_for, early_for, row_after}, Steps.IsViewKept}
use Rattle.session_laws.specs.{Steps.{after_task, handed, if_any}, Tasks.kinds_back, Views.{SessionView, att_by}}
use Rattle.session_laws.specs.Views.{finish, leased_to, number, part_by, row_of}
use Rattle.session_laws.specs.declared.{answer.TaskAnswer.TaskAnswer, row.Row.Row}
use Rattle.session_laws.proofs.{Answers.Checked.row-asks, Courses.Added.{add_leaves_others, add_makes_parts}}
use Rattle.session_laws.proofs.{Courses.{Added.add_stays_ready, Calls.part-of_kinds}, Steps.Numbered.last_found}
use Rattle.session_laws.proofs.Steps.{StepEnds.begun-add, StepRows.{found-att, found-kept, kept-later, kept-new}}
use Rattle.session_laws.proofs.Steps.{StepRows.{own-kept, ranges-apart, row-no_lease}, StepShares.{IsFit, Shrinks}}
use Rattle.session_laws.proofs.Steps.StepShares.{part-equal, shrinks-same, shrunk-by_row, unbegun-ready}
use Rattle.session_laws.proofs.Steps.{StepShares.unbegun-shrinks, StepViews.{finish-after, leased_to-before}}
use Rattle.session_laws.proofs.Steps.StepViews.{leased_to-own, row_of-after}

-- the task's entries as a run of its course
abbrev pub run_of : Handed → Host → List Made → Option Row → Run
run_of h host es more = record {
  course = course_for h es more;
  command = command_for h;
  faulty = is_faulty h.task.faults;
  start = host;
  entries = es;
}

-- ---- one whose Begin was granted

pub record IsBegun (suite : Suite) (h : Handed) (host : Host) (es : List Made) (row : Row) : Type 0 where
  pub begun : has_begun es ≡ true
  pub add : h.task.verb ≡ verbs.Add
  pub run : BeginsAt AtBegin (run_of h host es (Some row))
  pub early : early_for suite h ≡ None

begun-by : (suite : Suite) (h : Handed) (host : Host) (es : List Made) (row : Row) (a : TaskAnswer)
    (o : Option TaskCause)
    → early_for suite h ≡ o → has_begun es ≡ true → MatchOption o (RanByCourse h host es (Some row) a) (WasEarly h es a)
    → IsBegun suite h host es row
begun-by suite h host es row a None early begun ran =
    let add =
    begun-add (course_for h es (Some row)) (command_for h) (is_faulty h.task.faults) h.task.verb host es
    ran.run begun in
    record {
      begun = begun;
      add = add;
      run = subst (λ verb. BeginsAt (begins verb) (run_of h host es (Some row))) add ran.run;
      early = early;
    }
begun-by suite h host es row a (Some cause) early begun ran =
    let none : has_begun es ≡ false = ap has_begun ran.none in absurd (cc (begun, none))

pub begun-found : (suite : Suite) (h : Handed) (host : Host) (es : List Made) (row : Row) (a : TaskAnswer)
    → Ran suite h host es (Some row) a → IsBegun suite h host es row
begun-found suite h host es row a ran = begun-by suite h host es row a (early_for suite h) refl (sym ran.begun) ran.ran

pub is-add : (suite : Suite) (old : SessionView) (t : Task) (es : List Made) (row : Row) → IsViewKept old
    → IsNewRow suite (handed old t) es row → IsBegun suite (handed old t) (finish old) es row
    → IsAdd old.conf.ipam row (run_of (handed old t) (finish old) es (Some row))
is-add suite old t es row kept is begun = record {
  run = begun.run;
  of_row = own-kept (number old + 1) (att_by old t) row (kept-new suite old t es row is) is.att;
  sets = refl;
  forward = refl;
  kinds = refl;
  apart = ranges-apart old.conf.ipam kept.conf.ipam;
  ready = kept.ready;
}

-- ---- one whose Begin was not

kinds-alone : (old : SessionView) (att : Att) (o : Option Row) → IsViewKept old → row_of old att ≡ o
    → MatchOption o (share_of att (finish old) ≡ no_objects)
    (λ row. IsPartOf (share_of att (finish old)) (part_by old row))
    → HasKindsAlone (kinds_back old.conf.ipam o) (share_of att (finish old))
kinds-alone old att None kept is had =
    subst (HasKindsAlone (kinds_back old.conf.ipam None)) (sym had)
    (HasKindsAlone-nothing (kinds_back old.conf.ipam None))
kinds-alone old att (Some row) kept is had =
    let its = found-att old att row is in
    part-of_kinds old.conf.ipam att row (leased_to old row) (share_of att (finish old))
    (own-kept (number old) att row (found-kept old att row kept is) its)
    (λ none. last_found (λ r. leased_to old r ≡ []) (λ r. att_eq r.att att) old.rows row (kept.unleased none) is)
    (subst (λ x. IsPartOf (share_of att (finish old)) (part_of x row (leased_to old row))) its had)

pub is-fit : (old : SessionView) (t : Task) (es : List Made) → IsViewKept old
    → IsFit (run_of (handed old t) (finish old) es None)
is-fit old t es kept = record {
  sound = kept.ready.sound;
  kinds = kinds-alone old (att_by old t) (row_of old (att_by old t)) kept refl (kept.objects (att_by old t));
  questions = row-asks (row_of old (att_by old t)) (handed old t).leased;
  network = refl;
}

none-shrinks : (suite : Suite) (old : SessionView) (t : Task) (es : List Made) (a : TaskAnswer)
    (o : Option TaskCause) (att : Att)
    → IsViewKept old → has_begun es ≡ false
    → MatchOption o (RanByCourse (handed old t) (finish old) es None a) (WasEarly (handed old t) es a)
    → Shrinks att (finish old) (host_from (finish old) es)
none-shrinks suite old t es a None att kept none ran =
    unbegun-shrinks t.verb (run_of (handed old t) (finish old) es None) att ran.run none (is-fit old t es kept)
none-shrinks suite old t es a (Some cause) att kept none ran =
    shrinks-same att (finish old) (host_from (finish old) es) (ap (host_from (finish old)) ran.none)

-- ---- what attachments have

-- an attachment whose row stays
objects-before : (old : SessionView) (es : List Made) (more : Option Row) (a : TaskAnswer) (att : Att) → IsViewKept old
    → find (λ r. att_eq r.att att) (if_any more) ≡ None → Shrinks att (finish old) (host_from (finish old) es)
    → HasByRow (after_task old es more a) att
objects-before old es more a att kept other shrinks =
    let new : SessionView = after_task old es more a in
    let same : row_of new att ≡ row_of old att =
    row_of-after old es more a att ∙ ap (λ o. option_or o (row_of old att)) other in
    let parts : (row : Row) → row_of old att ≡ Some row → part_by new row ≡ part_by old row =
    λ row is. ap (part_of row.att row) (leased_to-before old es more a kept row (found-kept old att row kept is)) in
    let Has : Option Row → Host → Type 0 = λ o k.
    MatchOption o (share_of att k ≡ no_objects) (λ row. IsPartOf (share_of att k) (part_by new row)) in
    subst (λ o. Has o (finish new)) (sym same)
    (subst (Has (row_of old att)) (sym (finish-after old es more a))
    (shrunk-by_row old new att (row_of old att) (finish old) (host_from (finish old) es) parts shrinks
    (kept.objects att)))

other-found : (att : Att) (row : Row) (b : Bool) → att_eq row.att att ≡ b → b ≡ false
    → find (λ r. att_eq r.att att) (row ∷ []) ≡ None
other-found att row b is none = ap (λ c. cond c (Some row) None) (is ∙ none)

-- the row that the task made
pub row-own : (suite : Suite) (old : SessionView) (t : Task) (es : List Made) (row : Row) (a : TaskAnswer)
    → IsNewRow suite (handed old t) es row → row_of (after_task old es (Some row) a) (att_by old t) ≡ Some row
row-own suite old t es row a is =
    row_of-after old es (Some row) a (att_by old t)
    ∙ ap (λ b. option_or (cond b (Some row) None) (row_of old (att_by old t)))
    (ap (λ x. att_eq x (att_by old t)) is.att ∙ att_eq-refl (att_by old t))

-- what its attachment may have by it
pub part-own : (suite : Suite) (old : SessionView) (t : Task) (es : List Made) (row : Row) (a : TaskAnswer)
    → IsViewKept old
    → IsNewRow suite (handed old t) es row
    → part_by (after_task old es (Some row) a) row ≡ part_of (att_by old t) row (leases_in (replies es))
part-own suite old t es row a kept is =
    ap (part_of row.att row) (leased_to-own old es (Some row) a kept row is.task)
    ∙ ap (λ x. part_of x row (leases_in (replies es))) is.att

objects-own : (suite : Suite) (old : SessionView) (t : Task) (es : List Made) (row : Row) (a : TaskAnswer)
    → IsViewKept old → IsNewRow suite (handed old t) es row → IsBegun suite (handed old t) (finish old) es row
    → HasByRow (after_task old es (Some row) a) (att_by old t)
objects-own suite old t es row a kept is begun =
    let new : SessionView = after_task old es (Some row) a in
    let att : Att = att_by old t in
    let parts : IsPartOf (share_of att (host_from (finish old) es)) (part_of att row (leases_in (replies es))) =
    add_makes_parts old.conf.ipam row (run_of (handed old t) (finish old) es (Some row))
    (is-add suite old t es row kept is begun) begun.begun in
    let Has : Option Row → Type 0 = λ o.
    MatchOption o (share_of att (finish new) ≡ no_objects)
    (λ r. IsPartOf (share_of att (finish new)) (part_by new r)) in
    subst Has (sym (row-own suite old t es row a is))
    (subst (λ k. IsPartOf (share_of att k) (part_by new row)) (sym (finish-after old es (Some row) a))
    (subst (IsPartOf (share_of att (host_from (finish old) es)))
    (sym (part-own suite old t es row a kept is)) parts))

pub objects-after : (suite : Suite) (old : SessionView) (t : Task) (es : List Made) (more : Option Row) (a : TaskAnswer)
    → IsViewKept old → Ran suite (handed old t) (finish old) es more a → (att : Att)
    → HasByRow (after_task old es more a) att
objects-after suite old t es None a kept ran att =
    objects-before old es None a att kept refl
    (none-shrinks suite old t es a (early_for suite (handed old t)) att kept (sym ran.begun) ran.ran)
objects-after suite old t es (Some row) a kept ran att =
    let begun = begun-found suite (handed old t) (finish old) es row a ran in
    elim (cases_Bool (att_eq (att_by old t) att)) [
      | inl same ↦
          subst (HasByRow (after_task old es (Some row) a)) (att_eq-same (att_by old t) att same)
          (objects-own suite old t es row a kept ran.row begun)
      | inr differ ↦
          objects-before old es (Some row) a att kept
          (other-found att row (att_eq row.att att) refl (ap (λ x. att_eq x att) ran.row.att ∙ differ))
          (part-equal (share_of att (host_from (finish old) es)) (share_of att (finish old))
          (add_leaves_others old.conf.ipam row (run_of (handed old t) (finish old) es (Some row))
          (is-add suite old t es row kept ran.row begun) att differ))
    ]

-- ---- the host

none-ready : (suite : Suite) (old : SessionView) (t : Task) (es : List Made) (a : TaskAnswer) (o : Option TaskCause)
    → IsViewKept old
    → has_begun es ≡ false
    → MatchOption o (RanByCourse (handed old t) (finish old) es None a) (WasEarly (handed old t) es a)
    → IsReady (pools_of old.conf) (host_from (finish old) es)
none-ready suite old t es a None kept none ran =
    unbegun-ready t.verb (run_of (handed old t) (finish old) es None) (pools_of old.conf) ran.run none
    (is-fit old t es kept) kept.ready
none-ready suite old t es a (Some cause) kept none ran =
    subst (λ l. IsReady (pools_of old.conf) (host_from (finish old) l)) (sym ran.none) kept.ready

ready-by : (suite : Suite) (old : SessionView) (t : Task) (es : List Made) (more : Option Row) (a : TaskAnswer)
    → IsViewKept old
    → Ran suite (handed old t) (finish old) es more a → IsReady (pools_of old.conf) (host_from (finish old) es)
ready-by suite old t es None a kept ran =
    none-ready suite old t es a (early_for suite (handed old t)) kept (sym ran.begun) ran.ran
ready-by suite old t es (Some row) a kept ran =
    add_stays_ready old.conf.ipam row (run_of (handed old t) (finish old) es (Some row))
    (is-add suite old t es row kept ran.row (begun-found suite (handed old t) (finish old) es row a ran))

pub ready-after : (suite : Suite) (old : SessionView) (t : Task) (es : List Made) (more : Option Row) (a : TaskAnswer)
    → IsViewKept old
    → Ran suite (handed old t) (finish old) es more a → IsReady (pools_of old.conf) (finish (after_task old es more a))
ready-after suite old t es more a kept ran =
    subst (IsReady (pools_of old.conf)) (sym (finish-after old es more a)) (ready-by suite old t es more a kept ran)

-- ---- the row after the task

pub row_after-kept : (suite : Suite) (old : SessionView) (t : Task) (es : List Made) (more : Option Row)
    → IsViewKept old
    → IfSome more (IsNewRow suite (handed old t) es)
    → IfSome (row_after (handed old t) more) (IsRowKept (number old + 1))
row_after-kept suite old t es None kept is = at_row (row_of old (att_by old t)) refl
  where
    at_row : (o : Option Row) → row_of old (att_by old t) ≡ o → IfSome o (IsRowKept (number old + 1))
    at_row None found = tt
    at_row (Some row) found = kept-later (number old) row (found-kept old (att_by old t) row kept found)
row_after-kept suite old t es (Some row) kept is = kept-new suite old t es row is

pub leases-alone : (suite : Suite) (old : SessionView) (t : Task) (es : List Made) (more : Option Row) → IsViewKept old
    → IfSome more (IsNewRow suite (handed old t) es) → LeasesBySetsAlone (course_for (handed old t) es more)
leases-alone suite old t es more kept is =
    row-no_lease (number old + 1) (row_after (handed old t) more) (row_after-kept suite old t es more kept is)
