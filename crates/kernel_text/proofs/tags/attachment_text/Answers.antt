use Rattle.std.proofs.Common.{◌≡◌, IfOk, ℕ, List, subst}
use Rattle.kernel_text.proofs.TextLemmas.{with_slashes}
use Rattle.kernel_text.specs.Texts.{attachment_text}
use Rattle.kernel_text.proofs.tags.attachment_text.Goals as goal

pub returns : goal.returns
returns c =
    let text : c.as_str.result.now ≡ attachment_text c.args.att.now =
    with_slashes _ _ _ _ _ _ _ _ c.as_str.ensures.value c.in_ok-format.ensures.ok c.as_str-network.ensures
    c.as_str-container.ensures c.as_str-ifname.ensures in
    subst (λ (t : List ℕ). IfOk c.of.result (λ text. text ≡ t)) text c.of.ensures
