use Rattle.std.proofs.Common.{◌≡◌, ◌∙◌, ap, refl}
use Rattle.std.specs.{List.list_any, Prelude.is_some}
use Rattle.cni_addr.specs.Lists.{without_first}
use Rattle.cni_addr.proofs.Lists.{is_some-find}
use Rattle.kernel_types.specs.{Terms.is_own, declared.rule.Rule.Rule}
use Rattle.host_tables.proofs.Owned.{any-own, first-own}
use Rattle.host_tables.proofs.tables.Tables.rule_del.Goals as goal

pub returns : goal.returns
returns c =
    let rest : c.take_first_owned.new.self
    ≡ without_first (λ (x : Rule). is_own c.args.att.now x.tag) c.self.inside.rules =
    c.take_first_owned.ensures.rest ∙ first-own (λ (x : Rule). x.tag) c.args.att.now c.self.inside.rules in
    let any : c.is_some.result ≡ list_any (λ (x : Rule). is_own c.args.att.now x.tag) c.self.inside.rules =
    c.is_some.ensures
    ∙ ap is_some c.take_first_owned.ensures.first
    ∙ is_some-find _ c.self.inside.rules
    ∙ any-own (λ (x : Rule). x.tag) c.args.att.now c.self.inside.rules in
    rw (rest, any, ← c.self.view_is) refl
