use Rattle.std.proofs.Common.{◌≡◌, drop, find}
use Rattle.std.specs.Str.{bytes_eq}
use Rattle.plugin_registry.proofs.registry.Registry.find.Given as goal

-- what the plugins that are left give is what all give
abbrev pub invariant-loop-plugin : goal.invariant-loop-plugin
invariant-loop-plugin g l =
    find (λ p. bytes_eq p.name l.name) (drop l.plugin-index l.self.plugins.items)
    ≡ find (λ p. bytes_eq p.name l.name) l.self.plugins.items
