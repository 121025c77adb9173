-- The status and the book of a run, by what its words and files come to; and the answers of a book that is over.
use Rattle.std.proofs.Common.{◌≡◌, ◌∙◌, ◌≤◌, ◌<◌, ℕ, List, [], ◌∷◌, length, refl, sym, ap, subst, arith, inl, inr, Bool}
use Rattle.std.proofs.{Common.{true, false, cond, Option, Some, None, slice_get}, lemmas.Option.none-some}
use Rattle.std.specs.{List.list_any, Prelude.map}
use Rattle.session_text.specs.SessionText.{answer_as}
use Rattle.cni_addr.specs.Lists.{IsAmong}
use Rattle.cni_io.specs.Files.{StoredFiles}
use Rattle.cni_errors.specs.declared.answer.Answer.{Answer}
use Rattle.pod_text.specs.Statuses.{is_failure, is_out_of_memory, status_of}
use Rattle.pod_workers.specs.{Facts.LegalWorldsMeetEachClause, Plans.{Placed, commands_of}, declared.plan.Plan.Plan}
use Rattle.pod_workers.proofs.Books.Rounds.{round-of}
use Rattle.tool_words.specs.{Words.words_given, declared.words.Words.Words}
use Rattle.tool_plan.specs.{Dues.AreFiles, Seen.FilesSeen, Verdict.{Verdict, verdict_if, verdict_of}}
use Rattle.tool_run.specs.Laws.{EachOutcomeIsOfItsVerdict, EachCommandIsAnsweredAtTheEnd, EachStatusIsOfItsVerdict}
use Rattle.tool_run.specs.{Laws.{IsLeftOf, IsStatusOf, RefusedWordsAreReported}, Statuses.{HasReadAll, IsReport, Left}}
use Rattle.tool_run.specs.Statuses.{of_session, IsUsage, cut_short, of_book, of_failed_read, of_refusal, of_usage}
use Rattle.tool_run.specs.Statuses.{out_of_memory, reported}
use Rattle.tool_run.proofs.Determined.{has_not_read}

status_is : (answers : List (Option Answer)) → IsAmong {X = ℕ} (status_of answers) (0 ∷ 1 ∷ 8 ∷ [])
status_is answers = go (list_any is_out_of_memory answers) (list_any is_failure answers)
  where
    go : (m f : Bool) → IsAmong {X = ℕ} (cond m 8 (cond f 1 0)) (0 ∷ 1 ∷ 8 ∷ [])
    go true f = inr (inr (inl refl))
    go false true = inr (inl refl)
    go false false = inl refl

-- words that aren't taken come to usage
of_no_words : (words : List (List ℕ)) (bytes : List ℕ) (stored : StoredFiles) (P : Verdict → Type 0)
    → IsUsage words bytes → P (verdict_if None stored) → P (verdict_of words stored)
of_no_words words bytes stored P given holds =
    subst P (sym (ap (λ (o : Option Words). verdict_if o stored) given.not_taken)) holds

report_status : (words : List (List ℕ)) (files : FilesSeen) (status : ℕ) (left : Left) (bytes : List ℕ)
    (stored : StoredFiles)
    → AreFiles words files stored → HasReadAll words files → IsReport words files status left bytes
    → IsStatusOf (verdict_of words stored) status
report_status words files status left bytes stored told reads (of_usage st none given) =
    of_no_words words bytes stored (λ (v : Verdict). IsStatusOf v status) given st
report_status words files status left bytes stored told reads (of_refusal st none refusal) =
    subst (λ (v : Verdict). IsStatusOf v status) (sym (refusal.comes stored told)) st
report_status words files status left bytes stored told reads (of_failed_read st none unread) =
    absurd (has_not_read words files bytes unread reads)
report_status words files status left bytes stored told reads (of_session s asked st some ran text) =
    subst (λ (v : Verdict). IsStatusOf v status) (sym (ran.comes stored told))
    (subst (λ (n : ℕ). IsAmong n (0 ∷ 1 ∷ 8 ∷ [])) (sym st) (status_is (map (λ a. Some (answer_as a)) s.answers)))
report_status words files status left bytes stored told reads (of_book b asked st some carried text) =
    subst (λ (v : Verdict). IsStatusOf v status) (sym (carried.comes stored told))
    (subst (λ (s : ℕ). IsAmong s (0 ∷ 1 ∷ 8 ∷ [])) (sym st) (status_is b.answers))

pub each_status_is_of_its_verdict : EachStatusIsOfItsVerdict
each_status_is_of_its_verdict words files sink status left (reported bytes report wrote) stored told reads writes =
    inl (report_status words files status left bytes stored told reads report)
each_status_is_of_its_verdict words files sink status left (cut_short bytes meant report st fault front) stored
    told reads writes =
    absurd (writes fault)
each_status_is_of_its_verdict words files sink status left (out_of_memory st none nothing) stored told reads writes =
    inr st

report_left : (words : List (List ℕ)) (files : FilesSeen) (status : ℕ) (left : Left) (bytes : List ℕ)
    (stored : StoredFiles)
    → AreFiles words files stored → HasReadAll words files → IsReport words files status left bytes
    → IsLeftOf (verdict_of words stored) left
report_left words files status left bytes stored told reads (of_usage st none given) =
    of_no_words words bytes stored (λ (v : Verdict). IsLeftOf v left) given none
report_left words files status left bytes stored told reads (of_refusal st none refusal) =
    subst (λ (v : Verdict). IsLeftOf v left) (sym (refusal.comes stored told)) none
report_left words files status left bytes stored told reads (of_failed_read st none unread) =
    absurd (has_not_read words files bytes unread reads)
report_left words files status left bytes stored told reads (of_session s asked st some ran text) =
    subst (λ (v : Verdict). IsLeftOf v left) (sym (ran.comes stored told)) (s, some, refl)
report_left words files status left bytes stored told reads (of_book b asked st some carried text) =
    subst (λ (v : Verdict). IsLeftOf v left) (sym (carried.comes stored told)) (b, some, refl)

pub each_outcome_is_of_its_verdict : EachOutcomeIsOfItsVerdict
each_outcome_is_of_its_verdict words files sink status left (reported bytes report wrote) stored told reads memory =
    report_left words files status left bytes stored told reads report
each_outcome_is_of_its_verdict words files sink status left (cut_short bytes meant report st fault front) stored
    told reads memory =
    report_left words files meant left bytes stored told reads report
each_outcome_is_of_its_verdict words files sink status left (out_of_memory st none nothing) stored told reads memory =
    absurd (memory st)

taken : (words : List (List ℕ)) (by : Words) → words_given words ≡ Some by → words_given words ≡ None → ⊥
taken words by is none = none-some by (sym none ∙ is)

pub refused_words_are_reported : RefusedWordsAreReported
refused_words_are_reported words files sink status left (reported bytes (of_usage st none given) wrote) refused = inl st
refused_words_are_reported words files sink status left (reported bytes (of_refusal st none refusal) wrote) refused =
    absurd (taken words refusal.by refusal.words_are refused)
refused_words_are_reported words files sink status left (reported bytes (of_failed_read st none unread) wrote) refused =
    absurd (taken words unread.by unread.words_are refused)
refused_words_are_reported words files sink status left
    (reported bytes (of_session s asked st some ran text) wrote) refused =
    absurd (taken words ran.by ran.words_are refused)
refused_words_are_reported words files sink status left
    (reported bytes (of_book b asked st some carried text) wrote) refused =
    absurd (taken words carried.by carried.words_are refused)
refused_words_are_reported words files sink status left (cut_short bytes meant report st fault front) refused =
    inr (inl st)
refused_words_are_reported words files sink status left (out_of_memory st none nothing) refused = inr (inr (inl st))

-- ---- a book that is over

-- a command's round is one of the plan's
round_is_past : (p : Plan) (n : ℕ) (c : Placed) (round : ℕ) → slice_get (commands_of p) n ≡ Some c
    → length p.pods.rounds ≤ round → c.round < round
unfolding commands_of
round_is_past p n c round at over = let within = (round-of 0 p.pods.rounds n c at).1 in omega (arith, within, over)

pub each_command_is_answered : LegalWorldsMeetEachClause → EachCommandIsAnsweredAtTheEnd
each_command_is_answered law w legal over n c at =
    (law w legal).rounds.past n c at (round_is_past w.plan n c w.round at over)
