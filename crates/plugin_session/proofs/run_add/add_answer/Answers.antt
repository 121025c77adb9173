use Rattle.plugin_session.proofs.Names.{◌≡◌, List, IfOk, length, refl, sym, ap, subst, Command, Kind, att_of}
use Rattle.session_verbs.specs.{Adds.{IsFor, IsUnbegun}, declared.begun.Begun.Begun}
use Rattle.plugin_session.specs.Runs.{IsAnswerToAdd, handed_of}
use Rattle.session_laws.specs.{Course.begins, Holds.Suite, Pools.sets_by, Ran.{Handed, command_for}, Views.PluginView}
use Rattle.plugin_session.proofs.AddRuns.{add-cut, add-ends, add-stopped, course_left, left-course, new-row}
use Rattle.plugin_session.proofs.run_add.add_answer.Goals as goal

for-command : (h : Handed) (c : Command) (kinds : List Kind) (b : Begun) → c ≡ command_for h
    → IsUnbegun h.number (att_of c) kinds (length (sets_by h.conf.ipam)) b
    → IsUnbegun h.number (att_of (command_for h)) kinds (length (sets_by h.conf.ipam)) b
for-command h c kinds b is unbegun =
    subst (λ x. IsUnbegun h.number (att_of x) kinds (length (sets_by h.conf.ipam)) b) is unbegun

for-it : (h : Handed) (kinds : List Kind) (b : Begun)
    → IsUnbegun h.number (att_of (command_for h)) kinds (length (sets_by h.conf.ipam)) b
    → IsFor b.row.att h.task.netns (command_for h)
for-it h kinds b unbegun = record { att = sym unbegun.att; netns = refl }

pub returns-in_err-end-clause-ran : goal.returns-in_err-end-clause-ran
returns-in_err-end-clause-ran g c = λ plugins named.
    let h = handed_of c.args.hand.now in
    let p = c.args.plugin.now in
    let b = c.add.new.begun in
    let view : PluginView = record { name = p.name; needs = p.needs; kinds = p.kinds } in
    let suite : Suite =
    record { plugins = plugins; may_call = g.P.Promise.may_call; may_result = g.P.Promise.may_result } in
    let unbegun = for-command h c.args.command.now p.kinds c.args.begun.now c.requires.command c.requires.unbegun in
    add-cut suite h c.args.journal.now c.add.new.journal b _ c.from_residual.result c.requires.turned
    (ap begins c.requires.verb)
    (new-row suite h view (length (sets_by h.conf.ipam)) c.args.begun.now b c.requires.name named unbegun
    c.add.ensures.row c.add.ensures.asked)
    (c.in_err-end.ensures.ends (course_left h b) (command_for h) (left-course h b)
    (for-it h p.kinds c.args.begun.now unbegun))
    c.from_residual.ensures.0

pub answer_add-requires-clause-stopped : goal.answer_add-requires-clause-stopped
answer_add-requires-clause-stopped g c =
    let h = handed_of c.args.hand.now in
    let p = c.args.plugin.now in
    let b = c.add.new.begun in
    let unbegun = for-command h c.args.command.now p.kinds c.args.begun.now c.requires.command c.requires.unbegun in
    add-stopped (course_left h b) (command_for h) c.args.journal.now c.add.new.journal b c.in_ok-end.end
    (c.in_ok-end.ensures.ends (course_left h b) (command_for h) (left-course h b)
    (for-it h p.kinds c.args.begun.now unbegun))

pub returns-clause-ran : goal.returns-clause-ran
returns-clause-ran g c = λ plugins named.
    let h = handed_of c.args.hand.now in
    let p = c.args.plugin.now in
    let b = c.add.new.begun in
    let view : PluginView = record { name = p.name; needs = p.needs; kinds = p.kinds } in
    let suite : Suite =
    record { plugins = plugins; may_call = g.P.Promise.may_call; may_result = g.P.Promise.may_result } in
    let unbegun = for-command h c.args.command.now p.kinds c.args.begun.now c.requires.command c.requires.unbegun in
    add-ends suite h c.args.journal.now c.add.new.journal b c.in_ok-end.end c.answer_add.result c.requires.turned
    (ap begins c.requires.verb)
    (new-row suite h view (length (sets_by h.conf.ipam)) c.args.begun.now b c.requires.name named unbegun
    c.add.ensures.row c.add.ensures.asked)
    (c.in_ok-end.ensures.ends (course_left h b) (command_for h) (left-course h b)
    (for-it h p.kinds c.args.begun.now unbegun))
    (subst (λ x. IfOk c.answer_add.result (IsAnswerToAdd x c.add.new.journal b.row c.in_ok-end.end))
    c.requires.command c.answer_add.ensures)
