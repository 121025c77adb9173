use Rattle.std.proofs.Common.{◌≡◌, subst}
use Rattle.std.specs.Prelude.{IfOk}
use Rattle.cni_addr.specs.declared.address.Family.TheVariants.{V4, V6}
use Rattle.cni_addr.proofs.AddrTexts.{written_bits}
use Rattle.cni_addr.proofs.write.write_addr.Goals as goal

pub returns-in-V4 : goal.returns-in-V4
returns-in-V4 c =
    subst (λ x. IfOk c.write_v4.result (λ t. t ≡ x)) (written_bits _ c.args.addr.now V4 c.addr.view_is c.in-V4.is)
    c.write_v4.ensures

pub returns-in-V6 : goal.returns-in-V6
returns-in-V6 c =
    subst (λ x. IfOk c.write_v6.result (λ t. t ≡ x)) (written_bits _ c.args.addr.now V6 c.addr.view_is c.in-V6.is)
    c.write_v6.ensures
