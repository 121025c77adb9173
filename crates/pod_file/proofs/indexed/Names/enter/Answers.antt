use Rattle.std.proofs.Common.{rules, ◌≡◌, [], ◌∷◌, ◌++◌, true, cond, ap, sym, subst, ◌∙◌}
use Rattle.std.specs.{BTreeSet.contains, Ordering.is_eq}
use Rattle.pod_file.proofs.IndexFacts.{HasOneMore, names-more}
use Rattle.pod_file.specs.Indexed.{HasNames, end_of, name_cmp}
use Rattle.pod_file.proofs.indexed.Names.enter.Goals as goal

pub invariant_of-self-then-is_new : goal.invariant_of-self-then-is_new
invariant_of-self-then-is_new c =
    let before = contains name_cmp c.self.inside.keys in
    let after = contains name_cmp c.insert.new.self in
    let grown : HasOneMore name_cmp before after (end_of c.args.name, c.args.name) =
    λ q. c.in_ok-is_new.ensures.updates.0 q
    ∙ ap (λ key. cond (is_eq (name_cmp key q)) true (before q)) c.in_ok-key.ensures in
    let pushed : c.push.new.self.items ≡ c.self.inside.in_order.items ++ c.args.name ∷ [] = search rules in
    subst (HasNames after) (sym pushed)
    (names-more before after c.self.inside.in_order.items c.args.name c.self.invariant grown)
