use Rattle.std.proofs.Common.{◌≡◌, subst, ap, ◌∙◌}
use Rattle.std.specs.{Net.{Addr.IsIpv4OfBits, Text.ipv4_text}, Prelude.IfOk}
use Rattle.cni_addr.proofs.write.write_v4.Goals as goal

pub returns : goal.returns
unfolding IsIpv4OfBits
returns c =
    let text = c.as_str.ensures.value ∙ c.in_ok-to_string.ensures.ok ∙ ap ipv4_text c.from_bits.ensures in
    subst (λ x. IfOk c.of.result (λ t. t ≡ x)) text c.of.ensures
