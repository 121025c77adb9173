use Rattle.std.proofs.Common.{◌∙◌}
use Rattle.plugin_registry.proofs.Finds.{named-found}
use Rattle.plugin_registry.proofs.registry.Registry.add.Goals as goal

pub returns-then-is_some-clause-same_name : goal.returns-then-is_some-clause-same_name
returns-then-is_some-clause-same_name g c = λ back is.
    let any = named-found c.args.self.now.plugins.items (λ p. p.name) c.args.plugin.name c.as_str.result.now
    c.find.result c.is_some.result c.as_str.ensures c.find.ensures c.is_some.ensures in
    (cc, any ∙ c.if-is_some.true)

pub returns-then-is_err-clause-memory : goal.returns-then-is_err-clause-memory
returns-then-is_err-clause-memory g c = λ back is.
    let any = named-found c.args.self.now.plugins.items (λ p. p.name) c.args.plugin.name c.as_str.result.now
    c.find.result c.is_some.result c.as_str.ensures c.find.ensures c.is_some.ensures in
    (cc, any ∙ c.if-is_some.false)

pub returns-clause-named : goal.returns-clause-named
returns-clause-named g c =
    named-found c.args.self.now.plugins.items (λ p. p.name) c.args.plugin.name c.as_str.result.now
    c.find.result c.is_some.result c.as_str.ensures c.find.ensures c.is_some.ensures
    ∙ c.if-is_some.false
