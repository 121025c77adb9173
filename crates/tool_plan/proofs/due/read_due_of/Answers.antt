use Rattle.std.proofs.lemmas.Result.{err_from_is_err_and}
use Rattle.tool_plan.specs.Seen.{files_seen}
use Rattle.tool_words.specs.declared.source.Source.TheVariants.{Files, Session}
use Rattle.tool_plan.proofs.Dues.{IsBy, files_are_named, files_come, files_stop, plan_is_due, session_comes}
use Rattle.tool_plan.proofs.Dues.{session_is_due, session_is_named, session_stops, some_named, within}
use Rattle.tool_plan.proofs.due.read_due_of.Goals as goal

pub read_input-requires : goal.read_input-requires
read_input-requires g c =
    (within c.args.given.now c.args.words.now _ (record { words_are = c.requires.taken; source_is = c.in-Files.is })
    c.requires.limits).0

pub generated_input-requires : goal.generated_input-requires
generated_input-requires g c =
    let limits =
    within c.args.given.now c.args.words.now _
    (record { words_are = c.requires.taken; source_is = c.in-Generated.is }) c.requires.limits in
    record { some = limits.0; few = limits.1 }

pub returns-in_err-input-in-Files-clause-comes : goal.returns-in_err-input-in-Files-clause-comes
returns-in_err-input-in-Files-clause-comes g c =
    let p = err_from_is_err_and c.from_residual.result c.from_residual.ensures.1 in
    let files = files_seen g.F.Files.files g.F.Files.failure_count c.args.files.now c.read_input.new.files in
    rw (p.1, p.2) (files_stop c.args.given.now c.args.words.now files c.in-Files.named c.in_err-input-in-Files.field-0.0
    (record { words_are = c.requires.taken; source_is = c.in-Files.is })
    c.in_err-input-in-Files.ensures.gives)

pub returns-in_err-input-in-Files-clause-untouched : goal.returns-in_err-input-in-Files-clause-untouched
returns-in_err-input-in-Files-clause-untouched g c = λ none.
    absurd (some_named c.args.given.now c.args.words.now _
    (record { words_are = c.requires.taken; source_is = c.in-Files.is }) (files_are_named c.in-Files.named) none)

pub returns-in-Files-clause-comes : goal.returns-in-Files-clause-comes
returns-in-Files-clause-comes g c =
    let files = files_seen g.F.Files.files g.F.Files.failure_count c.args.files.now c.read_input.new.files in
    let given = c.args.given.now in
    let words = c.args.words.now in
    let input = c.in_ok-input-in-Files.input in
    let named = c.in-Files.named in
    let is : IsBy given words (Files named) = record { words_are = c.requires.taken; source_is = c.in-Files.is } in
    let comes = files_come given words files named input is c.in_ok-input-in-Files.ensures.gives in
    plan_is_due given words _ files input c.due_plan.result is c.due_plan.ensures.threads c.due_plan.ensures.plan
    c.due_plan.ensures.asked c.in_ok-input-in-Files.ensures.by c.in_ok-input-in-Files.ensures.well_formed
    c.requires.limits.threads_least comes

pub returns-in-Files-clause-untouched : goal.returns-in-Files-clause-untouched
returns-in-Files-clause-untouched g c = λ none.
    absurd (some_named c.args.given.now c.args.words.now _
    (record { words_are = c.requires.taken; source_is = c.in-Files.is }) (files_are_named c.in-Files.named) none)

pub returns-in_err-conf-in-Session-clause-comes : goal.returns-in_err-conf-in-Session-clause-comes
returns-in_err-conf-in-Session-clause-comes g c =
    let p =
    err_from_is_err_and c.from_residual-in_err-conf-in-Session.result
    c.from_residual-in_err-conf-in-Session.ensures.1 in
    let files = files_seen g.F.Files.files g.F.Files.failure_count c.args.files.now c.read_session_file.new.files in
    rw (p.1, p.2) (session_stops c.args.given.now c.args.words.now files c.in-Session.file c.as_str.result.now
    c.in_err-conf-in-Session.field-0.0 (record { words_are = c.requires.taken; source_is = c.in-Session.is })
    c.as_str.ensures c.in_err-conf-in-Session.ensures.gives)

pub returns-in_err-conf-in-Session-clause-untouched : goal.returns-in_err-conf-in-Session-clause-untouched
returns-in_err-conf-in-Session-clause-untouched g c = λ none.
    absurd (some_named c.args.given.now c.args.words.now _
    (record { words_are = c.requires.taken; source_is = c.in-Session.is })
    (session_is_named c.in-Session.file) none)

pub returns-clause-comes : goal.returns-clause-comes
returns-clause-comes g c =
    let files = files_seen g.F.Files.files g.F.Files.failure_count c.args.files.now c.read_session_file.new.files in
    let given = c.args.given.now in
    let words = c.args.words.now in
    let conf = c.in_ok-conf-in-Session.conf in
    let file = c.in-Session.file in
    let is : IsBy given words (Session file) = record { words_are = c.requires.taken; source_is = c.in-Session.is } in
    let comes =
    session_comes given words files file c.as_str.result.now conf is c.as_str.ensures
    c.in_ok-conf-in-Session.ensures.gives in
    session_is_due given words _ files conf c.due_session.result is c.due_session.ensures.conf
    c.due_session.ensures.asked c.in_ok-conf-in-Session.ensures.well_formed comes

pub returns-clause-untouched : goal.returns-clause-untouched
returns-clause-untouched g c = λ none.
    absurd (some_named c.args.given.now c.args.words.now _
    (record { words_are = c.requires.taken; source_is = c.in-Session.is })
    (session_is_named c.in-Session.file) none)
