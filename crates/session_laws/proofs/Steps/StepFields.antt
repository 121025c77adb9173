-- The session's law of a task's calls, its answer and what it leaves, by what the task did.
use Rattle.session_laws.proofs.Names.{◌≡◌, ◌≤◌, ℕ, false, List, [], length, Option, Some, None, refl, sym, ap, subst}
use Rattle.session_laws.proofs.Names.{◌∙◌, IfSome, ◌⊎◌, list_any, option_or, MatchOption, option_map, MatchBool}
use Rattle.session_laws.proofs.Names.{is_fault, Att, Host, Command, no_objects, share_of, State, AtBegin, ReadingCache}
use Rattle.session_laws.proofs.Names.{IsOpen, keep, Made, host_from, replies, Task}
use Rattle.cni_result.specs.declared.error.CniError.{CniError}
use Rattle.cni_errors.specs.CommandFields.{del_refusal}
use Rattle.pod_file.specs.declared.command.Verb.TheVariants as verbs
use Rattle.cni_errors.specs.declared.answer.Ending.TheVariants as endings
use Rattle.session_laws.specs.{Course.{Course, IsRunFrom, begins, state_from, IsOver}, Holds.{IsSuccess, Known, Suite}}
use Rattle.session_laws.specs.{Holds.{TaskCause, early_by, error_by, is_cut_off, is_faulty, late_by}, Laws.IsDel}
use Rattle.session_laws.specs.{Laws.{IsUndone, BeginsAt}, LawsOfAnswers.has_all_of, Ran.{Handed, IsAnswerAt, IsNewRow}}
use Rattle.session_laws.specs.{Ran.{Ran, RanByCourse, WasEarly, early_for}, Steps.{IsViewKept, Seen, handed, seen_for}}
use Rattle.session_laws.specs.{Views.{SessionView, att_by, finish}, declared.answer.TaskAnswer.TaskAnswer}
use Rattle.session_laws.specs.declared.row.Row.{Row}
use Rattle.session_laws.specs.declared.answer.TaskAnswer.TheVariants as answers
use Rattle.session_laws.proofs.Answers.{Causes.each-cause, Checked.{check-exact, check-same, row-asks}}
use Rattle.session_laws.proofs.{Answers.Collected.gc-keeps, Courses.{Added.refused_add_is_undone, Deleted.deleted-gone}}
use Rattle.session_laws.proofs.Courses.{Deleted.deleted-idle, Unbegun.unbegun_is_undone}
use Rattle.session_laws.proofs.Steps.StepAnswers.{answers-cause, early-refused, early-stopped, early-yes, stopped-due}
use Rattle.session_laws.proofs.Steps.{StepAnswers.{told, yes-exact}, StepEnds.{ended-found, open-over}}
use Rattle.session_laws.proofs.Steps.StepShapes.{begun-found, is-add, is-fit, leases-alone, run_of}

pub match-map : {X : Type 0} (o : Option X) {A B : Type 0} {P Q : X → Type 0} → (A → B) → ((x : X) → P x → Q x)
    → MatchOption o A P → MatchOption o B Q
match-map None none some is = none is
match-map (Some x) none some is = some x is

-- what is known of a task: by its course, or before its first call
abbrev pub IsRun : Handed → Host → List Made → Option Row → TaskAnswer → Option TaskCause → Type 0
IsRun h host es more a o = MatchOption o (RanByCourse h host es more a) (WasEarly h es a)

-- ---- what is said of the views alone

abbrev pub SeenRuns : Suite → Task → Seen → Type 0
SeenRuns suite t v = MatchOption (early_by suite.plugins t.verb v.command t)
    (IsRunFrom v.course v.command (is_faulty t.faults) 0 (begins t.verb) v.start v.own) (λ cause. v.own ≡ [])

abbrev pub SeenCauses : Suite → Task → TaskAnswer → Seen → Type 0
SeenCauses suite t a v = MatchOption
    (option_or (early_by suite.plugins t.verb v.command t) (option_map Known (late_by t.verb v.course.questions v.own)))
    (IsSuccess t.verb a) (λ cause. a ≡ answers.Refused (error_by v.command cause))

-- one entry refused it, by the task's attachment
abbrev pub SeenRefused : Suite → Task → Att → Seen → Type 0
SeenRefused suite t att v = MatchOption (early_by suite.plugins t.verb v.command t)
    (IsUndone v.own (share_of att v.finish)) (λ cause. v.own ≡ [])

abbrev pub SeenDeletes : Task → Att → TaskAnswer → Seen → Type 0
SeenDeletes t att a v = (a ≡ answers.Yes → share_of att v.finish ≡ no_objects)
    × (share_of att v.start ≡ no_objects → v.finish ≡ v.start)

abbrev pub SeenChecks : Task → Att → TaskAnswer → Seen → Type 0
SeenChecks t att a v = del_refusal v.command ≡ None → list_any (λ (e : Made). is_fault e.reply) v.own ≡ false
    → is_cut_off a ≡ false → MatchBool (has_all_of v.course att v.finish) (a ≡ answers.Yes) (a ≡ answers.Yes → ⊥)

abbrev pub SeenCollects : List ℕ → Task → TaskAnswer → Seen → Type 0
SeenCollects network t a v = a ≡ answers.Yes → v.finish ≡ keep network t.valid v.start

-- a task that made every call of its course
abbrev pub SeenEnded : Suite → Task → TaskAnswer → Seen → Type 0
SeenEnded suite t a v = is_cut_off a ≡ false → early_by suite.plugins t.verb v.command t ≡ None
    → IsOpen (state_from v.course 0 (begins t.verb) (replies v.own)) → ⊥

-- one that made no more calls than its stop says
abbrev pub SeenWithin : Task → Seen → Type 0
SeenWithin t v = IfSome t.stop (λ most. length v.own ≤ most)

-- a task that is stopped: its stop, its entries, no cause before them, and a call left
abbrev pub SeenStopped : Suite → Task → ℕ → Seen → Type 0
SeenStopped suite t calls v = (t.stop ≡ Some calls) × (length v.own ≡ calls)
    × (early_by suite.plugins t.verb v.command t ≡ None)
    × IsOpen (state_from v.course 0 (begins t.verb) (replies v.own))

-- ---- each of them, by what the task did

module _ (suite : Suite) (old : SessionView) (t : Task) (es : List Made) (kept : IsViewKept old) where
  abbrev the_handed : Handed
  the_handed = handed old t

  abbrev the_seen : Option Row → Seen
  the_seen more = seen_for (handed old t) (finish old) es more

  pub runs-seen : (more : Option Row) (a : TaskAnswer) (o : Option TaskCause)
      → IsRun (handed old t) (finish old) es more a o
      → MatchOption o
      (IsRunFrom (the_seen more).course (the_seen more).command (is_faulty t.faults) 0 (begins t.verb)
      (finish old) es)
      (λ cause. es ≡ [])
  runs-seen more a o ran = match-map o (λ r. r.run) (λ cause w. w.none) ran

  pub causes-seen : (more : Option Row) (a : TaskAnswer) (o : Option TaskCause)
      → IfSome more (IsNewRow suite (handed old t) es)
      → IsRun (handed old t) (finish old) es more a o → is_cut_off a ≡ false
      → MatchOption (option_or o (option_map Known (late_by t.verb (the_seen more).course.questions es)))
      (IsSuccess t.verb a) (λ cause. a ≡ answers.Refused (error_by (the_seen more).command cause))
  causes-seen more a None row ran whole =
      let state : State = state_from (the_seen more).course 0 (begins t.verb) (replies es) in
      let answer : IsAnswerAt (handed old t) es more state a =
      subst (λ s. IsAnswerAt (handed old t) es more s a) (sym ran.is) ran.answer in
      let ending = told (handed old t) es more state a whole answer in
      answers-cause (the_seen more).command t.verb a ending.0
      (late_by t.verb (the_seen more).course.questions es) ending.2
      (each-cause t.verb (the_seen more).course (the_seen more).command (is_faulty t.faults) (finish old) es
      ending.0 (λ add. leases-alone suite old t es more kept row) (record { run = ran.run; over = ending.1 }))
  causes-seen more a (Some cause) row was whole = early-refused (handed old t) es a cause was whole

  pub refused-seen : (more : Option Row) (a : TaskAnswer) (e : CniError) (o : Option TaskCause)
      → Ran suite (handed old t) (finish old) es more a
      → IsRun (handed old t) (finish old) es more a o → t.verb ≡ verbs.Add → a ≡ answers.Refused e
      → MatchOption o (IsUndone es (share_of (att_by old t) (host_from (finish old) es))) (λ cause. es ≡ [])
  refused-seen None a e None all ran add is =
      let answer : IsAnswerAt (handed old t) es None ran.state (answers.Refused e) =
      subst (IsAnswerAt (handed old t) es None ran.state) is ran.answer in
      let run : BeginsAt AtBegin (run_of (handed old t) (finish old) es None) =
      subst (λ verb. BeginsAt (begins verb) (run_of (handed old t) (finish old) es None)) add ran.run in
      let ends : state_from (the_seen None).course 0 AtBegin (replies es) ≡ ran.state =
      sym (ap (λ verb. state_from (the_seen None).course 0 (begins verb) (replies es)) add) ∙ ran.is in
      unbegun_is_undone (run_of (handed old t) (finish old) es None) answer.0 run (sym all.begun)
      (subst (λ s. IsOver s (endings.Refused answer.0)) (sym ends) answer.1)
  refused-seen (Some row) a e None all ran add is =
      let answer : IsAnswerAt (handed old t) es (Some row) ran.state (answers.Refused e) =
      subst (IsAnswerAt (handed old t) es (Some row) ran.state) is ran.answer in
      let begun = begun-found suite (handed old t) (finish old) es row a all in
      let ends : state_from (the_seen (Some row)).course 0 AtBegin (replies es) ≡ ran.state =
      sym (ap (λ verb. state_from (the_seen (Some row)).course 0 (begins verb) (replies es)) add) ∙ ran.is in
      refused_add_is_undone old.conf.ipam row (run_of (handed old t) (finish old) es (Some row))
      (is-add suite old t es row kept all.row begun) answer.0
      (subst (λ s. IsOver s (endings.Refused answer.0)) (sym ends) answer.1)
  refused-seen more a e (Some cause) all was add is = was.none

  pub deletes-seen : (more : Option Row) (a : TaskAnswer) (o : Option TaskCause)
      → Ran suite (handed old t) (finish old) es more a
      → IsRun (handed old t) (finish old) es more a o → t.verb ≡ verbs.Del
      → SeenDeletes t (att_by old t) a (the_seen more)
  deletes-seen None a None all ran del =
      let run : BeginsAt (ReadingCache endings.Yes) (run_of (handed old t) (finish old) es None) =
      subst (λ verb. BeginsAt (begins verb) (run_of (handed old t) (finish old) es None)) del ran.run in
      let ends : state_from (the_seen None).course 0 (ReadingCache endings.Yes) (replies es) ≡ ran.state =
      sym (ap (λ verb. state_from (the_seen None).course 0 (begins verb) (replies es)) del) ∙ ran.is in
      let fit = is-fit old t es kept in
      let is-del : IsDel (run_of (handed old t) (finish old) es None) =
      record { run = run; sound = fit.sound; kinds = fit.kinds } in (
        (λ yes.
            let over : IsOver ran.state endings.Yes =
            subst (IsAnswerAt (handed old t) es None ran.state) yes ran.answer in
            let at_end =
            ended-found (the_seen None).course (ReadingCache endings.Yes) (replies es) endings.Yes refl
            (subst (λ s. IsOver s endings.Yes) (sym ends) over) in
            deleted-gone (run_of (handed old t) (finish old) es None) is-del at_end.0 at_end.1),
        (λ none. deleted-idle (run_of (handed old t) (finish old) es None) is-del none),
      )
  deletes-seen (Some row) a None all ran del =
      let begun = begun-found suite (handed old t) (finish old) es row a all in
      let add = begun.add in
      absurd (cc (add, del))
  deletes-seen more a (Some cause) all was del = (
    (λ yes. absurd (early-yes (handed old t) es a cause was yes)),
    (λ none. ap (host_from (finish old)) was.none),
  )

  pub checks-seen : (more : Option Row) (a : TaskAnswer) (o : Option TaskCause) → early_for suite (handed old t) ≡ o
      → IsRun (handed old t) (finish old) es more a o → t.verb ≡ verbs.Check
      → SeenChecks t (att_by old t) a (the_seen more)
  checks-seen more a None early ran check = λ unrefused unfaulted whole.
      let course : Course = (the_seen more).course in
      let command : Command = (the_seen more).command in
      let asks = row-asks (the_seen more).row (the_seen more).leased in
      let answer = told (handed old t) es more ran.state a whole ran.answer in
      let run : IsRunFrom course command (is_faulty t.faults) 0 (begins verbs.Check) (finish old) es =
      subst (λ verb. IsRunFrom course command (is_faulty t.faults) 0 (begins verb) (finish old) es) check ran.run in
      let ends : state_from course 0 (begins verbs.Check) (replies es) ≡ ran.state =
      sym (ap (λ verb. state_from course 0 (begins verb) (replies es)) check) ∙ ran.is in
      let same : host_from (finish old) es ≡ finish old =
      check-same course command (is_faulty t.faults) (finish old) es asks run in
      let exact =
      check-exact course command (is_faulty t.faults) (finish old) es answer.0 asks
      (record { run = run; over = subst (λ s. IsOver s answer.0) (sym ends) answer.1 }) unfaulted in
      yes-exact command a answer.0 (has_all_of course (att_by old t) (host_from (finish old) es)) answer.2
      (subst (λ host.
      MatchBool (has_all_of course (att_by old t) host) (answer.0 ≡ endings.Yes) (answer.0 ≡ endings.Yes → ⊥))
      (sym same) exact)
  checks-seen more a (Some cause) early was check = λ unrefused unfaulted whole.
      let by_fields : early_for suite (handed old t) ≡ option_map Known (del_refusal (the_seen more).command) =
      ap (λ verb. early_by suite.plugins verb (the_seen more).command t) check in
      let none : option_map Known (del_refusal (the_seen more).command) ≡ None = ap (option_map Known) unrefused in
      absurd (cc (early, by_fields, none))

  pub collects-seen : (more : Option Row) (a : TaskAnswer) (o : Option TaskCause)
      → IsRun (handed old t) (finish old) es more a o
      → t.verb ≡ verbs.Gc → SeenCollects old.conf.network t a (the_seen more)
  collects-seen more a None ran gc = λ yes.
      let course : Course = (the_seen more).course in
      let command : Command = (the_seen more).command in
      let over : IsOver ran.state endings.Yes = subst (IsAnswerAt (handed old t) es more ran.state) yes ran.answer in
      let run : IsRunFrom course command (is_faulty t.faults) 0 (begins verbs.Gc) (finish old) es =
      subst (λ verb. IsRunFrom course command (is_faulty t.faults) 0 (begins verb) (finish old) es) gc ran.run in
      let ends : state_from course 0 (begins verbs.Gc) (replies es) ≡ ran.state =
      sym (ap (λ verb. state_from course 0 (begins verb) (replies es)) gc) ∙ ran.is in
      gc-keeps course command (is_faulty t.faults) (finish old) es refl kept.ready.sound
      (record { run = run; over = subst (λ s. IsOver s endings.Yes) (sym ends) over })
  collects-seen more a (Some cause) was gc = λ yes. absurd (early-yes (handed old t) es a cause was yes)

  pub ended-seen : (more : Option Row) (a : TaskAnswer) (o : Option TaskCause) → early_for suite (handed old t) ≡ o
      → IsRun (handed old t) (finish old) es more a o → SeenEnded suite t a (the_seen more)
  ended-seen more a None early ran = λ whole none goes_on.
      let ending = told (handed old t) es more ran.state a whole ran.answer in
      open-over ran.state ending.0 ending.1 (subst IsOpen ran.is goes_on)
  ended-seen more a (Some cause) early was = λ whole none goes_on. cc (early, none)

  pub only-seen : (more : Option Row) (a : TaskAnswer) (calls : ℕ) (o : Option TaskCause)
      → early_for suite (handed old t) ≡ o
      → IsRun (handed old t) (finish old) es more a o → a ≡ answers.Stopped calls
      → SeenStopped suite t calls (the_seen more)
  only-seen more a calls None early ran is =
      let answer : IsAnswerAt (handed old t) es more ran.state (answers.Stopped calls) =
      subst (IsAnswerAt (handed old t) es more ran.state) is ran.answer in
      (answer.1, answer.2, early, subst IsOpen (sym ran.is) answer.0)
  only-seen more a calls (Some cause) early was is = absurd (early-stopped (handed old t) es a cause calls was is)

  pub due-seen : (more : Option Row) (a : TaskAnswer) (calls : ℕ) (o : Option TaskCause)
      → early_for suite (handed old t) ≡ o
      → IsRun (handed old t) (finish old) es more a o → SeenStopped suite t calls (the_seen more)
      → (a ≡ answers.Stopped calls) ⊎ (a ≡ answers.OutOfMemory)
  due-seen more a calls None early ran at_stop =
      stopped-due (handed old t) es more ran.state calls a ran.answer at_stop.0 (subst IsOpen ran.is at_stop.3)
  due-seen more a calls (Some cause) early was at_stop =
      let none = at_stop.2 in
      absurd (cc (early, none))
