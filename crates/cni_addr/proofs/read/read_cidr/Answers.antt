use Rattle.std.proofs.Common.{◌≡◌, ◌≤◌, ◌<◌, ℕ, Some, None, refl, sym, ap, ◌∙◌, subst}
use Rattle.cni_addr.specs.Value.{AddrValue, longest_prefix}
use Rattle.cni_addr.proofs.CidrTexts.{none_without_slash, read_parts, without_prefix, fitting_prefix, long_prefix}
use Rattle.cni_addr.proofs.read.read_cidr.Goals as goal

pub returns-in_err-slash : goal.returns-in_err-slash
returns-in_err-slash c = c.from_residual.ensures ∙ sym (none_without_slash c.args.text.now c.in_err-slash.ensures)

pub returns-in_err-addr : goal.returns-in_err-addr
returns-in_err-addr c =
    c.from_residual-in_err-addr.ensures
    ∙ read_parts c.args.text.now _ None _ c.in_ok-slash.ensures c.in_err-addr.ensures refl

pub returns-in_err-prefix : goal.returns-in_err-prefix
returns-in_err-prefix c =
    c.from_residual-in_err-prefix.ensures ∙ sym (without_prefix (Some c.in_ok-addr.addr))
    ∙ read_parts c.args.text.now _ (Some c.in_ok-addr.addr) None c.in_ok-slash.ensures c.in_ok-addr.ensures
    c.in_err-prefix.ensures

-- the longest prefix, of the address that was read
longest_here : (a addr : AddrValue) (longest : ℕ) → a ≡ addr → longest ≡ longest_prefix a.family
    → longest ≡ longest_prefix addr.family
longest_here a addr longest same is = is ∙ ap (λ (x : AddrValue). longest_prefix x.family) same

pub returns-then-prefix-longest_prefix : goal.returns-then-prefix-longest_prefix
returns-then-prefix-longest_prefix c =
    let longest = longest_here _ c.in_ok-addr.addr _ c.addr.view_is c.longest_prefix.ensures in
    fitting_prefix c.in_ok-addr.addr c.in_ok-prefix.prefix
    (subst (λ n. c.in_ok-prefix.prefix ≤ n) longest c.if-prefix-longest_prefix.true)
    ∙ read_parts c.args.text.now _ (Some c.in_ok-addr.addr) (Some c.in_ok-prefix.prefix) c.in_ok-slash.ensures
    c.in_ok-addr.ensures c.in_ok-prefix.ensures

pub returns-else-prefix-longest_prefix : goal.returns-else-prefix-longest_prefix
returns-else-prefix-longest_prefix c =
    let longest = longest_here _ c.in_ok-addr.addr _ c.addr.view_is c.longest_prefix.ensures in
    long_prefix c.in_ok-addr.addr c.in_ok-prefix.prefix
    (subst (λ n. n < c.in_ok-prefix.prefix) longest c.if-prefix-longest_prefix.false)
    ∙ read_parts c.args.text.now _ (Some c.in_ok-addr.addr) (Some c.in_ok-prefix.prefix) c.in_ok-slash.ensures
    c.in_ok-addr.ensures c.in_ok-prefix.ensures
