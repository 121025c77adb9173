use Rattle.session_verbs.proofs.Names.{◌≡◌, ◌∙◌, sym, subst, ap, option_copied, att_of, CacheGet, Att, Command}
use Rattle.session_verbs.specs.Asking.{AreProbes}
use Rattle.session_laws.specs.Course.{Course}
use Rattle.session_verbs.proofs.Checks.Entered.{EnteredAs, entry-asked, entry-failed, entry-then, probes-row}
use Rattle.session_verbs.proofs.check.check.{Given.Over, Goals.After-end_by_entry}
use Rattle.session_verbs.proofs.check.check.Goals as goal

-- how the reply about the cached result is gone on from
entered : (g : Over) (c : After-end_by_entry g) (co : Course) (command : Command) → att_of command ≡ c.args.att.now
    → EnteredAs co command c.args.journal.now c.make.new.self c.end_by_entry.result
entered g c co command of =
    entry-asked co command c.args.att.now c.in_ok-of.field-0 c.args.journal.now c.make.new.self _ c.made.result
    c.end_by_entry.result (c.in_ok-of.ensures ∙ ap (λ (att : Att). CacheGet att) c.in_ok-copy.ensures) of
    c.in_ok-make.ensures.ok (c.reply.ensures _ c.in_ok-make.ensures.reply) c.made.ensures.made c.end_by_entry.ensures

pub ask_questions-requires-clause-probes : goal.ask_questions-requires-clause-probes
ask_questions-requires-clause-probes g c =
    subst AreProbes (sym c.in_ok-questions-in-None.ensures) (probes-row (option_copied c.args.row) c.args.leased.now)

pub returns-in-Some-clause-ends : goal.returns-in-Some-clause-ends
returns-in-Some-clause-ends g c = λ co command of are.
    subst (EnteredAs co command c.args.journal.now c.make.new.self) c.in-Some.is
    (entered g (goal.at.returns-in-Some-clause-ends g c).After-end_by_entry co command of)

pub returns-in_err-questions-in-None-clause-ends : goal.returns-in_err-questions-in-None-clause-ends
returns-in_err-questions-in-None-clause-ends g c = λ co command of are.
    entry-failed co command c.args.journal.now c.make.new.self c.end_by_entry.result _ c.in-None.is
    (entered g (goal.at.returns-in_err-questions-in-None-clause-ends g c).After-end_by_entry co command of)
    c.from_residual-in_err-questions-in-None.ensures.0

pub returns-in_ok-questions-in-None-clause-ends : goal.returns-in_ok-questions-in-None-clause-ends
returns-in_ok-questions-in-None-clause-ends g c = λ co command of are.
    entry-then co command c.args.journal.now c.make.new.self c.ask_questions.new.journal
    c.in_ok-questions-in-None.questions c.end_by_entry.result c.ask_questions.result c.in-None.is
    (entered g (goal.at.returns-in_ok-questions-in-None-clause-ends g c).After-end_by_entry co command of)
    (are ∙ sym c.in_ok-questions-in-None.ensures) (c.ask_questions.ensures.ends co command)
