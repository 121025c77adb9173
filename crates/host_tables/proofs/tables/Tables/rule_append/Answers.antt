use Rattle.std.proofs.Common.{◌≡◌, ◌++◌, ◌∷◌, [], ◌∙◌, ap, refl, true, false, not, rules, if◌then◌else◌}
use Rattle.std.specs.List.{list_any}
use Rattle.kernel_types.specs.Keys.{is_same_rule}
use Rattle.host_tables.proofs.Added.{new-rule}
use Rattle.host_tables.proofs.tables.Tables.rule_append.Goals as goal

pub returns-then-not-branch-clause-ok : goal.returns-then-not-branch-clause-ok
returns-then-not-branch-clause-ok c =
    let told : c.in_ok-push_unless_there.field-0 ≡ false = search rules in
    let there : list_any (is_same_rule c.args.rule.now) c.args.self.now.rules ≡ true =
    rw (← c.self.view_is) (new-rule c.args.rule.now c.in_ok-copy.field-0 c.self.inside.rules
    c.in_ok-push_unless_there.field-0 c.in_ok-copy.ensures c.in_ok-push_unless_there.ensures.new
    ∙ ap not told) in
    let same : c.push_unless_there.new.self ≡ c.self.inside.rules =
    c.in_ok-push_unless_there.ensures.ok
    ∙ ap (λ b. if b then c.self.inside.rules ++ c.in_ok-copy.field-0 ∷ [] else c.self.inside.rules) told in
    rw (there, ← c.self.view_is) (rw (same, c.in_ok-copy-2.ensures, c.get.ensures) refl)

pub returns-clause-ok : goal.returns-clause-ok
returns-clause-ok c =
    let told : c.in_ok-push_unless_there.field-0 ≡ true = search rules in
    let none : list_any (is_same_rule c.args.rule.now) c.args.self.now.rules ≡ false =
    rw (← c.self.view_is) (new-rule c.args.rule.now c.in_ok-copy.field-0 c.self.inside.rules
    c.in_ok-push_unless_there.field-0 c.in_ok-copy.ensures c.in_ok-push_unless_there.ensures.new
    ∙ ap not told) in
    let more : c.push_unless_there.new.self ≡ c.self.inside.rules ++ c.in_ok-copy.field-0 ∷ [] =
    c.in_ok-push_unless_there.ensures.ok
    ∙ ap (λ b. if b then c.self.inside.rules ++ c.in_ok-copy.field-0 ∷ [] else c.self.inside.rules) told in
    rw (none, ← c.self.view_is) (rw (more, c.in_ok-copy.ensures) refl)
