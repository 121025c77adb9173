-- What an attachment has after a task, as part of what it had.
use Rattle.session_laws.proofs.Names.{◌≡◌, true, false, Option, Some, None, refl, sym, ap, subst, inl, inr, cases_Bool}
use Rattle.session_laws.proofs.Names.{AllByRecursion, MatchOption, att_eq, IsSound, Att, Host, att_eq-same, Verb, Share}
use Rattle.session_laws.proofs.Names.{no_objects, share_of, HasKindsAlone}
use Rattle.pod_file.specs.declared.command.Verb.TheVariants as verbs
use Rattle.session_laws.specs.{Course.begins, Holds.{IsPartOf, has_begun}, Laws.{BeginsAt, IsDel, Run, finish, own_att}}
use Rattle.session_laws.specs.{LawsOfAnswers.are_questions, Pools.{IsLastOf, IsReady, Pools}, Views.SessionView}
use Rattle.session_laws.specs.{Views.part_by, declared.row.Row.Row}
use Rattle.session_laws.proofs.{Answers.{Checked.check-same, Collected.gc-removes}, Courses.Deleted.deleted-others}
use Rattle.session_laws.proofs.Courses.{Deleted.{deleted-parts, deleted-ready}, Parts.{part-removes, part-same}}
use Rattle.session_laws.proofs.Courses.{Parts.part-trans, Unbegun.unbegun_leaves}

-- ---- parts

pub part-equal : (small big : Share) → small ≡ big → IsPartOf small big
part-equal small big is = subst (IsPartOf small) is (part-same small)

-- nothing is part of nothing alone
pub part-none : (small : Share) → IsPartOf small no_objects → small ≡ no_objects
part-none small p = λ i. record {
  links = p.links i;
  addresses = p.addresses i;
  routes = p.routes i;
  rules = p.rules i;
  settings = p.settings i;
  leases = p.leases i;
  cached = p.cached i;
}

-- ---- an attachment's share

-- what it has is part of what it had
abbrev pub Shrinks : Att → Host → Host → Type 0
Shrinks att old new = IsPartOf (share_of att new) (share_of att old)

pub shrinks-same : (att : Att) (old new : Host) → new ≡ old → Shrinks att old new
shrinks-same att old new is = part-equal (share_of att new) (share_of att old) (ap (share_of att) is)

-- ---- a run

-- what the laws ask of a run in which no Begin was granted
pub record IsFit (r : Run) : Type 0 where
  pub sound : IsSound r.start
  pub kinds : HasKindsAlone r.course.kinds (share_of (own_att r) r.start)
  pub questions : are_questions r.course.questions ≡ true
  pub network : r.course.gc.network ≡ r.command.network

del-shrinks : (r : Run) (att : Att) → IsDel r → Shrinks att r.start (finish r)
del-shrinks r att is =
    elim (cases_Bool (att_eq (own_att r) att)) [
      | inl same ↦ subst (λ x. Shrinks x r.start (finish r)) (att_eq-same (own_att r) att same) (deleted-parts r is)
      | inr differ ↦ part-equal (share_of att (finish r)) (share_of att r.start) (deleted-others r is att differ)
    ]

-- where no Begin was granted, no attachment has more than it had
pub unbegun-shrinks : (verb : Verb) (r : Run) (att : Att) → BeginsAt (begins verb) r → has_begun r.entries ≡ false
    → IsFit r → Shrinks att r.start (finish r)
unbegun-shrinks verbs.Add r att run none fit = shrinks-same att r.start (finish r) (unbegun_leaves r run none)
unbegun-shrinks verbs.Del r att run none fit =
    del-shrinks r att (record { run = run; sound = fit.sound; kinds = fit.kinds })
unbegun-shrinks verbs.Check r att run none fit =
    shrinks-same att r.start (finish r) (check-same r.course r.command r.faulty r.start r.entries fit.questions run)
unbegun-shrinks _ r att run none fit =
    let gone = gc-removes r.course r.command r.faulty r.start r.entries fit.network fit.sound run in
    part-removes att r.start (finish r) gone.within.removes

-- where no Begin was granted, what was ready stays so
pub unbegun-ready : (verb : Verb) (r : Run) (pools : Pools) → BeginsAt (begins verb) r → has_begun r.entries ≡ false
    → IsFit r
    → IsReady pools r.start → IsReady pools (finish r)
unbegun-ready verbs.Add r pools run none fit ready = subst (IsReady pools) (sym (unbegun_leaves r run none)) ready
unbegun-ready verbs.Del r pools run none fit ready =
    deleted-ready r (record { run = run; sound = fit.sound; kinds = fit.kinds }) pools ready
unbegun-ready verbs.Check r pools run none fit ready =
    subst (IsReady pools) (sym (check-same r.course r.command r.faulty r.start r.entries fit.questions run)) ready
unbegun-ready _ r pools run none fit ready =
    let gone = gc-removes r.course r.command r.faulty r.start r.entries fit.network fit.sound run in
    record { sound = gone.sound; lasts = subst (AllByRecursion (IsLastOf pools)) (sym gone.within.lasts) ready.lasts }

-- ---- what a row says

-- an attachment whose row stays has nothing but what the row says, where it had nothing else
pub shrunk-by_row : (old new : SessionView) (att : Att) (o : Option Row) (before after : Host)
    → ((row : Row) → o ≡ Some row → part_by new row ≡ part_by old row) → Shrinks att before after
    → MatchOption o (share_of att before ≡ no_objects) (λ row. IsPartOf (share_of att before) (part_by old row))
    → MatchOption o (share_of att after ≡ no_objects) (λ row. IsPartOf (share_of att after) (part_by new row))
shrunk-by_row old new att None before after parts shrinks had =
    part-none (share_of att after) (subst (IsPartOf (share_of att after)) had shrinks)
shrunk-by_row old new att (Some row) before after parts shrinks had =
    subst (IsPartOf (share_of att after)) (sym (parts row refl))
    (part-trans (share_of att after) (share_of att before) (part_by old row) shrinks had)
