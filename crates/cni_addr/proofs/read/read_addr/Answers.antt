use Rattle.std.proofs.Common.{◌≡◌, ℕ, Option, Some, sym, ap, ◌∙◌}
use Rattle.std.specs.declared.net.ip_addr.IpAddr.TheVariants as ip
use Rattle.std.specs.Net.Addr.{ipv4_bits, ipv6_bits}
use Rattle.cni_addr.specs.{Value.AddrValue, declared.address.Family.{Family, TheVariants.{V4, V6}}}
use Rattle.cni_addr.proofs.AddrTexts.{read_dotted, read_groups, none_spelled}
use Rattle.cni_addr.proofs.read.read_addr.Goals as goal

some_of : (family : Family) (m n : ℕ) → m ≡ n → ◌≡◌ {A = Option AddrValue} (Some (record { family = family; bits = m }))
    (Some (record { family = family; bits = n }))
some_of family m n e = ap (λ bits. Some (record { family = family; bits = bits })) e

pub returns-in-Ok-V4 : goal.returns-in-Ok-V4
unfolding ipv4_bits
returns-in-Ok-V4 c =
    let dotted = rw c.in-Ok-V4.field-0-is at c.in-Ok-V4.ensures in
    some_of V4 _ _ (c.from.ensures ∙ c.to_bits.ensures) ∙ sym (read_dotted c.args.text.now _ dotted)

pub returns-in-Ok-V6 : goal.returns-in-Ok-V6
unfolding ipv6_bits
returns-in-Ok-V6 c =
    let groups = rw c.in-Ok-V6.field-0-is at c.in-Ok-V6.ensures in
    some_of V6 _ _ c.to_bits-in-Ok-V6.ensures ∙ sym (read_groups c.args.text.now _ groups)

pub returns-in-Err : goal.returns-in-Err
returns-in-Err c =
    sym (none_spelled c.args.text.now (λ octets h. c.in-Err.ensures (ip.V4 (record { octets = octets })) h)
    (λ groups h. c.in-Err.ensures (ip.V6 (record { segments = groups })) h))
