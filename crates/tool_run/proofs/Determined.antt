-- What an undisturbed run reports is determined by what it was told.
use Rattle.std.proofs.Common.{◌≡◌, ◌≢◌, ◌∙◌, ℕ, List, [], ◌++◌, refl, sym, ap, ap₂, subst, inl, inr, Bool, cond, Option}
use Rattle.std.proofs.{Common.{Some, None, IfSome, slice_get}, lemmas.Map.Keys.any_passes_from_place}
use Rattle.std.proofs.lemmas.Option.{none-some}
use Rattle.std.specs.List.{list_any}
use Rattle.cni_io.specs.Files.{StoredFiles}
use Rattle.cni_errors.specs.declared.answer.Answer.{Answer, TheVariants.OutOfMemory}
use Rattle.plugin_requests.specs.Raw.{RawView}
use Rattle.kernel_text.specs.Dump.{dump_of}
use Rattle.pod_text.specs.{Fates.fates_from, Lines.{command_part, requests_asked, text_of, trace_lines, where_asked}}
use Rattle.pod_text.specs.{Statuses.{is_failure, is_out_of_memory, status_of}, Summary.summary_data}
use Rattle.pod_text.specs.declared.asked.{Asked.Asked, CommandPart.{CommandPart, TheVariants.{Lines, Summary}}}
use Rattle.pod_workers.specs.{Order.{IsDoneInFileOrder, IsInFileOrder, OneOutcome}, World.{World, host_of}}
use Rattle.pod_workers.specs.declared.plan.{Entry.Entry, Plan.Plan}
use Rattle.tool_words.specs.declared.source.Source.{Source, TheVariants.{Files, Generated, Session}}
use Rattle.tool_plan.specs.{Causes.{ReachesFile, files_named}, Dues.{AreFiles, IsUnreadOf}, Seen.FilesSeen}
use Rattle.tool_plan.specs.Verdict.{Verdict, carry, verdict_of}
use Rattle.tool_run.specs.{Seen.SinkSeen, Statuses.{Ends, Left, of_session, HasReadAll, IsCarriedOut, IsDetermined}}
use Rattle.tool_run.specs.Statuses.{IsReport, IsUndisturbed, ReportsWorld, Wrote, cut_short, of_book, of_failed_read}
use Rattle.tool_run.specs.Statuses.{of_refusal, of_usage, out_of_memory, reported}

-- ---- a read that failed

-- where no file is named, reading gets to none
reaches_none : (files : Option StoredFiles) (source : Source) (file : List ℕ) → files_named source ≡ []
    → ReachesFile files source file → ⊥
reaches_none files (Files named) file none at = cc
reaches_none files (Generated count stop_at) file none at = at
reaches_none files (Session named) file none at = cc

pub has_not_read : (words : List (List ℕ)) (files : FilesSeen) (bytes : List ℕ) → IsUnreadOf words files bytes
    → HasReadAll words files → ⊥
has_not_read words files bytes un (inl none) =
    reaches_none files.stored un.by.source un.unread.file (none un.by un.words_are) un.unread.reached
has_not_read words files bytes un (inr calm) = calm un.unread.rose

-- ---- one outcome

had_memory : (answers : List (Option Answer)) → status_of answers ≢ 8 → (n : ℕ)
    → slice_get answers n ≢ Some (Some OutOfMemory)
had_memory answers not_eight n at =
    not_eight (ap (λ (b : Bool). cond b 8 (cond (list_any is_failure answers) 1 0))
    (any_passes_from_place is_out_of_memory answers n (Some OutOfMemory) at refl))

-- what is printed is of the plan, the history and the answers, and not of the round
part-any_round : (w : World) (round : ℕ) (part : CommandPart)
    → command_part part (record w { round = round }) ≡ command_part part w
unfolding summary_data
part-any_round w round Lines = refl
part-any_round w round Summary = refl

requests-any_round : (w : World) (round : ℕ) (raws : Option (List RawView))
    → requests_asked raws (record w { round = round }) ≡ requests_asked raws w
requests-any_round w round None = refl
requests-any_round w round (Some raws) = refl

text-any_round : (w : World) (round : ℕ) (asked : Asked) → text_of (record w { round = round }) asked ≡ text_of w asked
unfolding text_of
text-any_round w round asked =
    ap₂ (λ (part requests : List ℕ).
    part ++ requests ++ where_asked asked.trace (trace_lines w) ++ where_asked asked.dump (dump_of (host_of w))
    ++ fates_from 0 (host_of w).rules asked.packets)
    (part-any_round w round asked.commands) (requests-any_round w round asked.requests)

text-same : (v w : World) (asked : Asked) → v.plan ≡ w.plan → v.history ≡ w.history → v.answers ≡ w.answers
    → text_of v asked ≡ text_of w asked
text-same v w asked plan history answers =
    let T : Plan → List Entry → List (Option Answer) → List ℕ = λ p h a.
    text_of (record { plan = p; history = h; answers = a; round = v.round }) asked in
    ap (λ (p : Plan). T p v.history v.answers) plan
    ∙ ap (λ (h : List Entry). T w.plan h v.answers) history
    ∙ ap (λ (a : List (Option Answer)). T w.plan w.history a) answers
    ∙ text-any_round w v.round asked

plan_or : Plan → Verdict → Plan
plan_or p (carry q asked) = q
plan_or p v = p

asked_or : Asked → Verdict → Asked
asked_or a (carry p asked) = asked
asked_or a v = a

pub one_plan : (p q : Plan) (a b : Asked) (v : Verdict) → v ≡ carry p a → v ≡ carry q b → p ≡ q
unfolding plan_or
one_plan p q a b v is also = ap (plan_or p) (sym is ∙ also)

one_asked : (p q : Plan) (a b : Asked) (v : Verdict) → v ≡ carry p a → v ≡ carry q b → a ≡ b
unfolding asked_or
one_asked p q a b v is also = ap (asked_or a) (sym is ∙ also)

of-world : OneOutcome
    → (words : List (List ℕ)) (files : FilesSeen) (sink : SinkSeen) (status : ℕ) (stored : StoredFiles)
    → AreFiles words files stored → IsUndisturbed words files sink status
    → (b w : World) (asks asked : Asked) (bytes : List ℕ) → status ≡ status_of b.answers
    → IsCarriedOut words files b asks → IsInFileOrder b → bytes ≡ text_of b asks → Wrote sink bytes
    → IsCarriedOut words files w asked → IsDoneInFileOrder w → ReportsWorld sink status w asked
of-world law words files sink status stored told calm b w asks asked bytes st carried order text wrote comes done =
    let mine = carried.comes stored told in
    let other = comes.comes stored told in
    let plan = one_plan b.plan w.plan _ _ (verdict_of words stored) mine other in
    let also = one_asked b.plan w.plan asks asked (verdict_of words stored) mine other in
    let by_order : IsDoneInFileOrder b = record {
      legal = carried.legal;
      in_file_order = order;
      ended = carried.over;
      had_memory = had_memory b.answers (λ eight. calm.memory_of_commands (st ∙ eight));
    } in
    let same = law b w plan by_order done in
    record {
      status_is = st ∙ ap status_of same.1;
      text = subst (Wrote sink) (text ∙ ap (text_of b) also ∙ text-same b w asked plan same.0 same.1) wrote;
    }

of-report : OneOutcome
    → (words : List (List ℕ)) (files : FilesSeen) (sink : SinkSeen) (status : ℕ) (left : Left) (bytes : List ℕ)
    (stored : StoredFiles)
    → AreFiles words files stored → IsUndisturbed words files sink status
    → IfSome left.book IsInFileOrder → IsReport words files status left bytes → Wrote sink bytes
    → (w : World) (asked : Asked) → IsCarriedOut words files w asked → IsDoneInFileOrder w
    → ReportsWorld sink status w asked
of-report law words files sink status left bytes stored told calm order (of_usage st none given) wrote w asked
    comes done =
    absurd (none-some comes.by (sym given.not_taken ∙ comes.words_are))
of-report law words files sink status left bytes stored told calm order (of_refusal st none refusal) wrote w asked
    comes done =
    let is = sym (refusal.comes stored told) ∙ comes.comes stored told in cc
of-report law words files sink status left bytes stored told calm order (of_failed_read st none unread) wrote w
    asked comes done =
    absurd (has_not_read words files bytes unread calm.reads)
of-report law words files sink status left bytes stored told calm order (of_book b asks st some carried text) wrote w
    asked comes done =
    of-world law words files sink status stored told calm b w asks asked bytes st carried
    (subst (λ (l : Left). IfSome l.book IsInFileOrder) some order) text wrote comes done
of-report law words files sink status left bytes stored told calm order (of_session s asks st some ran text) wrote w
    asked comes done =
    let is = sym (ran.comes stored told) ∙ comes.comes stored told in cc

pub determined : (words : List (List ℕ)) (files : FilesSeen) (sink : SinkSeen) (status : ℕ) (left : Left)
    → OneOutcome → IfSome left.book IsInFileOrder → Ends words files sink status left
    → IsDetermined words files sink status
determined words files sink status left law order (reported bytes report wrote) = λ stored told calm.
    of-report law words files sink status left bytes stored told calm order report wrote
determined words files sink status left law order (cut_short bytes meant report st fault front) = λ stored told calm.
    absurd (calm.writes fault)
determined words files sink status left law order (out_of_memory st none nothing) = λ stored told calm.
    absurd (calm.memory st)
