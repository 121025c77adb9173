use Rattle.std.proofs.Common.{sym, ap, ◌∙◌}
use Rattle.cni_addr.specs.MacText.{mac_of_digits}
use Rattle.cni_addr.proofs.MacTexts.{none_without_colons, around_colons, decoded, undecoded}
use Rattle.cni_addr.proofs.read.read_mac.Goals as goal

pub returns-then-not-has_colons : goal.returns-then-not-has_colons
returns-then-not-has_colons c =
    sym (none_without_colons c.args.text.now (sym c.has_colons.ensures ∙ c.if-not-has_colons.true))

pub returns-in-Ok : goal.returns-in-Ok
returns-in-Ok c =
    decoded c.digits_in.result c.decode_to_slice.new.out c.decode_to_slice.result c.decode_to_slice.ensures.value
    c.in-Ok.is
    ∙ ap mac_of_digits c.digits_in.ensures
    ∙ sym (around_colons c.args.text.now (sym c.has_colons.ensures ∙ c.if-not-has_colons.false))

pub returns-in-Err : goal.returns-in-Err
returns-in-Err c =
    undecoded c.digits_in.result c.decode_to_slice.new.out c.decode_to_slice.result _ c.decode_to_slice.ensures.value
    c.in-Err.is
    ∙ ap mac_of_digits c.digits_in.ensures
    ∙ sym (around_colons c.args.text.now (sym c.has_colons.ensures ∙ c.if-not-has_colons.false))
