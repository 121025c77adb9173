use Rattle.session_verbs.proofs.Names.{◌≡◌, Some, sym, ◌∙◌, rules, option_copied}
use Rattle.session_laws.specs.Tasks.{kinds_back}
use Rattle.session_verbs.proofs.Adds.AddEnds.{undone-refused}
use Rattle.session_verbs.proofs.add.undo.Goals as goal

pub returns-clause-ends : goal.returns-clause-ends
returns-clause-ends g c =
    let all : c.as_slice.result.now ≡ kinds_back (option_copied c.args.ipam) (Some c.args.row.now) = search rules in
    λ co c' own kinds. c.take_back.ensures.ends co c' own (kinds ∙ sym all)

pub returns-clause-refused : goal.returns-clause-refused
returns-clause-refused g c =
    undone-refused c.args.row.now.att c.as_slice.result.now c.args.cause c.args.journal.now c.take_back.new.journal
    c.take_back.result c.take_back.ensures.ends
