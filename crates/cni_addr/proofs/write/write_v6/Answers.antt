use Rattle.std.proofs.Common.{◌≡◌, subst, ap, ◌∙◌}
use Rattle.std.specs.{Net.{Addr.{IsIpv6OfBits, ipv6_segments}, Text.hex_groups_text}, Prelude.IfOk}
use Rattle.cni_addr.proofs.write.write_v6.Goals as goal

pub returns : goal.returns
unfolding IsIpv6OfBits
returns c =
    let groups = ap ipv6_segments c.hex_groups-groups.ensures ∙ c.from_bits.ensures in
    let text = c.as_str.ensures.value ∙ c.in_ok-to_string.ensures.ok ∙ ap hex_groups_text groups in
    subst (λ x. IfOk c.of.result (λ t. t ≡ x)) text c.of.ensures
