use Rattle.std.proofs.Common.{◌≡◌, subst, ◌∙◌}
use Rattle.std.specs.Prelude.{IfOk}
use Rattle.cni_addr.proofs.CidrTexts.{written_parts}
use Rattle.cni_addr.proofs.write.write_cidr.Goals as goal

pub returns : goal.returns
returns c =
    let parts =
    written_parts c.args.cidr.now _ _ c.as_str-addr.result.now c.cidr.view_is
    (c.as_str-addr.ensures ∙ c.in_ok-addr.ensures) in
    let text = c.as_str.ensures.value ∙ c.in_ok-format.ensures.ok ∙ parts in
    subst (λ x. IfOk c.of.result (λ t. t ≡ x)) text c.of.ensures
