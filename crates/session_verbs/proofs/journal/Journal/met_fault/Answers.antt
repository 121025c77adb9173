use Rattle.session_verbs.proofs.Names.{ap, sym, ◌∙◌, none-some, same_Some, option_copied, is_fault}
use Rattle.session_verbs.proofs.journal.Journal.met_fault.Goals as goal

pub returns-in-Some : goal.returns-in-Some
returns-in-Some g c = λ reply last.
    c.is_fault.ensures
    ∙ ap is_fault (same_Some _ reply (ap option_copied (sym c.in-Some.is) ∙ c.reply.ensures reply last))

pub returns-in-None : goal.returns-in-None
returns-in-None g c = λ reply last.
    absurd (none-some reply (ap option_copied (sym c.in-None.is) ∙ c.reply.ensures reply last))
