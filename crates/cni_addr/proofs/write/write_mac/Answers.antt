use Rattle.std.proofs.Common.{◌≡◌, subst, ◌∙◌}
use Rattle.std.specs.Prelude.{IfOk}
use Rattle.cni_addr.specs.MacText.{mac_text}
use Rattle.cni_addr.proofs.write.write_mac.Goals as goal

pub returns : goal.returns
unfolding mac_text
returns c =
    subst (λ x. IfOk c.of.result (λ t. t ≡ x)) (c.as_str.ensures.value ∙ c.in_ok-join_pairs.ensures) c.of.ensures
