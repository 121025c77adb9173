-- Every legal history is guaranteed.
use Rattle.pod_laws.proofs.Names.{◌≡◌, ℕ, true, List, ◌++◌, Some, slice_get, refl, ◌∙◌, ap, subst, inl, inr, cases_Bool}
use Rattle.pod_laws.proofs.Names.{Answer, NetList, is_of_network, Command, Verb, Legal, Placed, commands_of, list_for}
use Rattle.pod_laws.proofs.Names.{World, Entry, Plan, listed_network, each_prefix, sound_host}
use Rattle.cni_errors.specs.declared.answer.Answer.TheVariants as answers
use Rattle.pod_file.specs.declared.command.Verb.TheVariants as verbs
use Rattle.pod_workers.proofs.Hosts.Sound.{no_address_twice}
use Rattle.pod_laws.specs.{Answers.is_cut_off, CachedResults.EachCachedResultIsItsAdds, Collected.IsAnswerOfGc}
use Rattle.pod_laws.specs.Guaranteed.{AreAnswers, EveryLegalHistoryIsGuaranteed, IsAnswerOfAdd, IsAnswerOfCheck}
use Rattle.pod_laws.specs.Guaranteed.{IsAnswerOfDel, IsWellKept}
use Rattle.pod_laws.proofs.AskedFor.{MadeLinks.links_are_made_or_wanted, Moments.nothing_is_unasked}
use Rattle.pod_laws.proofs.Checked.{Runs.was_checked, Starts.checks_hold_from_their_start}
use Rattle.pod_laws.proofs.Collected.Answered.{collections_are_answered, collections_are_bounded}
use Rattle.pod_laws.proofs.{Deleted.Repeated.repeated_deletions_leave, Given.OfRuns.{answers_of_add, answers_of_del}}
use Rattle.pod_laws.proofs.Given.OfRuns.{was_added, was_deleted, was_not_deleted, was_refused}
use Rattle.pod_laws.proofs.LastAddresses.{each_last_is_candidate}

-- ---- moments

well_kept : EachCachedResultIsItsAdds → (w : World) → Legal w → IsWellKept w.plan w.history
well_kept results w legal = record {
  sound = sound_host w legal;
  leased_once = no_address_twice w legal;
  asked_for = nothing_is_unasked w legal;
  links = links_are_made_or_wanted w legal;
  results = results w legal;
  lasts = each_last_is_candidate w legal;
}

always_well_kept : EachCachedResultIsItsAdds → (w : World) → Legal w → (before rest : List Entry)
    → w.history ≡ before ++ rest → IsWellKept w.plan before
always_well_kept results w legal before rest at =
    let f = each_prefix w legal before rest at in
    subst (λ (p : Plan). IsWellKept p before) f.plan_is
    (subst (IsWellKept f.world.plan) f.history_is (well_kept results f.world f.legal))

-- ---- answers

-- the command at place n of this verb has this list and this answer
record IsAnswered (w : World) (verb : Verb) (n : ℕ) (c : Placed) (list : NetList) (a : Answer) : Type 0 where
  there : slice_get (commands_of w.plan) n ≡ Some c
  listed : list_for w.plan c.command ≡ Some list
  of_verb : c.command.verb ≡ verb
  answer : slice_get w.answers n ≡ Some (Some a)

are_answers : (w : World) → Legal w → (verb : Verb) → is_of_network verb ≡ true
    → (Is : ℕ → Command → NetList → Answer → Type 0)
    → ((n : ℕ) (c : Placed) (list : NetList) (a : Answer) → IsAnswered w verb n c list a → Is n c.command list a)
    → AreAnswers w verb Is
are_answers w legal verb network Is each n c a at of_verb is =
    let found = listed_network w legal n c at (ap is_of_network of_verb ∙ network) in
    (found.0, found.1, each n c found.0 a (record { there = at; listed = found.1; of_verb = of_verb; answer = is }))

answer_of_add : (w : World) → Legal w → (n : ℕ) (c : Placed) (list : NetList) (a : Answer)
    → IsAnswered w verbs.Add n c list a → IsAnswerOfAdd w n c.command list a
answer_of_add w legal n c list (answers.Added result) i = was_added w legal n c list result i.there i.listed i.answer
answer_of_add w legal n c list (answers.Refused error) i =
    was_refused w legal n c (answers.Refused error) i.there i.of_verb i.answer list i.listed error refl
answer_of_add w legal n c list a i = elim (answers_of_add w legal n c a i.there i.of_verb i.answer) [
  | inl (inl added) ↦ let is = added.1 in cc
  | inl (inr cut) ↦ cut
  | inr refused ↦ let is = refused.1 in cc
]

answer_of_del : (w : World) → Legal w → (n : ℕ) (c : Placed) (list : NetList) (a : Answer)
    → IsAnswered w verbs.Del n c list a → IsAnswerOfDel w n c.command list a
answer_of_del w legal n c list answers.Yes i = was_deleted w legal n c answers.Yes i.there i.of_verb i.answer refl
answer_of_del w legal n c list (answers.Refused error) i =
    was_not_deleted w legal n c (answers.Refused error) i.there i.of_verb i.answer list i.listed error refl
answer_of_del w legal n c list a i = elim (answers_of_del w legal n c a i.there i.of_verb i.answer) [
  | inl (inl deleted) ↦ cc
  | inl (inr cut) ↦ cut
  | inr refused ↦ let is = refused.1 in cc
]

answer_of_check : (w : World) → Legal w → (n : ℕ) (c : Placed) (list : NetList) (a : Answer)
    → IsAnswered w verbs.Check n c list a → IsAnswerOfCheck w n c.command list a
answer_of_check w legal n c list a i = elim (cases_Bool (is_cut_off a)) [
  | inl cut ↦ inr cut
  | inr whole ↦ inl (was_checked w legal n c a i.there i.of_verb i.answer list i.listed whole)
]

answer_of_gc : (w : World) → Legal w → (n : ℕ) (c : Placed) (list : NetList) (a : Answer)
    → IsAnswered w verbs.Gc n c list a → IsAnswerOfGc w n c.command list a
answer_of_gc w legal n c list a i = collections_are_answered w legal n c a i.there i.of_verb i.answer list i.listed

-- ---- the guarantee

pub every_legal_history_is_guaranteed : EachCachedResultIsItsAdds → EveryLegalHistoryIsGuaranteed
every_legal_history_is_guaranteed results w legal = record {
  moments = always_well_kept results w legal;
  adds = are_answers w legal verbs.Add refl (IsAnswerOfAdd w) (answer_of_add w legal);
  dels = are_answers w legal verbs.Del refl (IsAnswerOfDel w) (answer_of_del w legal);
  repeats = repeated_deletions_leave w legal;
  checks = are_answers w legal verbs.Check refl (IsAnswerOfCheck w) (answer_of_check w legal);
  check_starts = checks_hold_from_their_start w legal;
  collections = are_answers w legal verbs.Gc refl (IsAnswerOfGc w) (answer_of_gc w legal);
  bounds = collections_are_bounded w legal;
}
