use Rattle.std.proofs.Common.{◌≡◌, Bool, true, false, cond, Some, None, sym, lit<}
use Rattle.std.proofs.lemmas.Str.Pattern.{split_once_first}
use Rattle.cni_errors.specs.CommandFields as fields
use Rattle.cni_errors.proofs.{Arguments.{uncut_is_none, argument_is}, fields.argument_of.Goals.After-is_pair}
use Rattle.cni_errors.proofs.fields.argument_of.Goals as goal

-- a piece that is cut at `=`, by whether the two parts are a pair
cut : (c : After-is_pair) (b : Bool) → c.is_pair.result ≡ b
    → fields.argument_of c.args.piece.now ≡ cond b (Some (c.in-Some.key.now, c.in-Some.value.now)) None
cut c b is =
    let first = split_once_first 61 c.args.piece.now c.split_once.result c.split_once.ensures.cases (lit< tt) in
    let here = rw c.in-Some.is at first in
    argument_is c.args.piece.now c.in-Some.key.now c.in-Some.value.now here.0 here.1 here.2 c.is_pair.result b
    c.is_pair.ensures is

pub returns-then-is_pair : goal.returns-then-is_pair
returns-then-is_pair c = sym (cut (goal.at.returns-then-is_pair c).After-is_pair true c.if-is_pair.true)

pub returns-else-is_pair : goal.returns-else-is_pair
returns-else-is_pair c = sym (cut (goal.at.returns-else-is_pair c).After-is_pair false c.if-is_pair.false)

pub returns-in-None : goal.returns-in-None
returns-in-None c =
    let first = split_once_first 61 c.args.piece.now c.split_once.result c.split_once.ensures.cases (lit< tt) in
    let uncut = rw c.in-None.is at first in
    sym (uncut_is_none c.args.piece.now uncut)
