use Rattle.std.proofs.Common.{◌≡◌, ℕ, true, cond, length, sym, ap, ap₂, ◌∙◌, subst}
use Rattle.std.specs.{BTreeMap.get, BTreeSet.contains, Ordering.is_eq}
use Rattle.packet_probe.proofs.Filing.{filed-more}
use Rattle.packet_probe.specs.{Filed.{IsFiled, first_with}, Kinds.{Key, key_cmp, key_of, kind_cmp, kind_of}}
use Rattle.packet_probe.specs.declared.kinds.Kind.{Kind}
use Rattle.packet_probe.proofs.host_rules.Ruleset.with.Goals as goal

pub invariant_of-result : goal.invariant_of-result
invariant_of-result c =
    let first = get key_cmp c.self.inside.firsts in
    let more = get key_cmp c.in_ok-firsts.firsts in
    let is_kind = contains kind_cmp c.self.inside.kinds in
    let next = contains kind_cmp c.insert.new.self in
    let firsts : (q : Key) → more q ≡ first_with first (key_of c.args.rule) (length c.self.inside.rules) q =
    λ q. c.in_ok-firsts.ensures q
    ∙ ap₂ (λ (key : Key) (n : ℕ). first_with first key n q) (c.key_of.ensures ∙ ap key_of c.get.ensures)
    (ap length c.as_slice.ensures) in
    let kinds : (k : Kind) → next k ≡ cond (is_eq (kind_cmp (kind_of c.args.rule) k)) true (is_kind k) =
    λ k. c.in_ok-insert.ensures.updates.0 k
    ∙ ap (λ (kind : Kind). cond (is_eq (kind_cmp kind k)) true (is_kind k))
    (c.kind_of.ensures ∙ ap kind_of c.get-2.ensures) in
    subst (IsFiled more next) (sym c.in_ok-push.ensures.ok)
    (filed-more first more is_kind next c.self.inside.rules c.args.rule c.self.invariant firsts kinds)
