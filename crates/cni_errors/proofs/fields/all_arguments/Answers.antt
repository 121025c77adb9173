use Rattle.std.proofs.{Common.{lit<, rules}, lemmas.Iterator.Search.all_from_yields_List}
use Rattle.std.proofs.lemmas.Iterator.Splits.{YieldsList-from_str_split}
use Rattle.std.specs.Prelude.{is_some}
use borrow.Author.Tests.{tests}
use Rattle.cni_errors.specs.CommandFields.{argument_of}
use Rattle.cni_errors.proofs.fields.all_arguments.Goals as goal

pub returns : goal.returns
returns c =
    all_from_yields_List (λ piece. is_some (argument_of piece)) _ _ _ c.all.ensures.ran
    (YieldsList-from_str_split 59 c.args.text.now (lit< tt) c.split.ensures.text c.split.ensures.has_more
    c.split.ensures.pattern)
    (λ x b q k. search (rules, tests))
