use Rattle.std.proofs.Common.{rules, ◌≡◌, [], ◌∷◌, ◌++◌, true, cond, ap, sym, subst, ◌∙◌}
use Rattle.std.specs.{BTreeSet.contains, Ordering.is_eq}
use Rattle.pod_file.proofs.IndexFacts.{HasOneMore, places-more}
use Rattle.pod_file.specs.Indexed.{HasPlaces, end_of, link_place_cmp}
use Rattle.pod_file.proofs.indexed.PlacedLinks.enter.Goals as goal

pub invariant_of-self-then-is_new : goal.invariant_of-self-then-is_new
invariant_of-self-then-is_new c =
    let before = contains link_place_cmp c.self.inside.places in
    let after = contains link_place_cmp c.insert.new.self in
    let link = c.args.link in
    let grown : HasOneMore link_place_cmp before after ((end_of link.name, link.name), link.ns) =
    λ q. c.in_ok-is_new.ensures.updates.0 q
    ∙ ap (λ key. cond (is_eq (link_place_cmp key q)) true (before q)) c.in_ok-place.ensures in
    let pushed : c.push.new.self.items ≡ c.self.inside.in_order.items ++ c.args.link ∷ [] = search rules in
    subst (HasPlaces after) (sym pushed)
    (places-more before after c.self.inside.in_order.items c.args.link c.self.invariant grown)
