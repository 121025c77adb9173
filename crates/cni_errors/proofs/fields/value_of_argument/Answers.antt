use Rattle.std.proofs.{Common.{◌∙◌, sym, ap, lit<, rules}, lemmas.Str.Pattern.split_once_first}
use Rattle.std.specs.Option.{option_copied}
use denote.Shadow.{shadow}
use denote.Text.{Utf8}
use Rattle.cni_errors.specs.CommandFields.{value_of_argument}
use Rattle.cni_errors.proofs.Arguments.{value_is_first, value_is_later, value_is_last}
use Rattle.cni_errors.proofs.fields.value_of_argument.Goals as goal

pub returns-in-Some-value_if : goal.returns-in-Some-value_if
unfolding value_of_argument
returns-in-Some-value_if c =
    let first = split_once_first 59 c.pieces.rest.now c.split_once.result c.split_once.ensures.cases (lit< tt) in
    let here = rw c.in-Some.is at first in
    let found = sym c.value_if.ensures ∙ ap option_copied c.in-Some-value_if.is in
    sym (value_is_first c.args.key.now c.pieces.rest.now c.in-Some.piece.now c.in-Some.later.now
    c.in-Some-value_if.value.now here.0 here.1 here.2 found)
    ∙ c.pieces.invariant.0

pub pieces-preserved : goal.pieces-preserved
pieces-preserved c =
    let first = split_once_first 59 c.pieces.rest.now c.split_once.result c.split_once.ensures.cases (lit< tt) in
    let here = rw c.in-Some.is at first in
    let missed = sym c.value_if.ensures ∙ ap option_copied c.in-None-value_if.is in
    let text : shadow (Utf8 c.in-Some.later.now) = search rules in (
      sym (value_is_later c.args.key.now c.pieces.rest.now c.in-Some.piece.now c.in-Some.later.now here.0 here.1 here.2
          missed) ∙ c.pieces.invariant.0,
      text,
    )

pub returns-in-None : goal.returns-in-None
unfolding value_of_argument
returns-in-None c =
    let first = split_once_first 59 c.pieces.rest.now c.split_once.result c.split_once.ensures.cases (lit< tt) in
    let uncut = rw c.in-None.is at first in
    c.value_if-in-None.ensures ∙ sym (value_is_last c.args.key.now c.pieces.rest.now uncut) ∙ c.pieces.invariant.0
