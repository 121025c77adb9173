use Rattle.std.proofs.{Common.{◌≡◌, ℕ, [], ◌∷◌, List, length, sym, ap, ◌∙◌, subst, arith}, lemmas.Map.Iter.rest_all}
use Rattle.std.proofs.lemmas.Map.Iter.{rest_more}
use Rattle.std.specs.{List.position_or_len, Map.Iter.deref, Prelude.min}
use Rattle.kernel_types.specs.declared.rule.Rule.{Rule}
use Rattle.packet_probe.proofs.{Filing.{is_found, place-found, place-next}, Places.{last-least, place-bound}}
use Rattle.packet_probe.proofs.Places.{place-none, take-least}
use Rattle.packet_probe.specs.{Fate.matches_in, Filed.is_found_at, Value.IsPacket, declared.kinds.Kind.Kind}
use Rattle.packet_probe.proofs.host_rules.Ruleset.first_place.Goals as goal

pub loop-kind-init : goal.loop-kind-init
loop-kind-init c =
    let rules = c.args.self.now in
    let all : length c.as_slice-first.result.now ≡ length rules =
    ap length (c.as_slice-first.ensures ∙ c.self.view_is) in
    let bound = place-bound (is_found c.args.chain c.args.packet.now c.into_iter-kind-iterator.result) rules in
    (omega (arith, all), omega (arith, all, bound))

pub loop-kind-preserved : goal.loop-kind-preserved
loop-kind-preserved c =
    let rules = c.args.self.now in
    let place : List Kind → ℕ = λ kinds. position_or_len (is_found c.args.chain c.args.packet.now kinds) rules in
    let next : c.loop-kind.kind-iterator ≡ c.in-Some.kind.now ∷ c.next.new.self =
    rest_more (deref {X = Kind}) c.loop-kind.kind-iterator c.next.new.self c.next.result c.in-Some.kind c.in-Some.is
    c.next.ensures.steps in
    take-least c.loop-kind.first (position_or_len (is_found_at c.args.chain c.args.packet.now c.in-Some.kind.now) rules)
    (place c.next.new.self) (place c.loop-kind.kind-iterator) c.min-first.result
    (place c.into_iter-kind-iterator.result) (length rules)
    c.loop-kind.invariant.0
    (c.min-first.ensures ∙ ap (λ (n : ℕ). min c.loop-kind.first n) c.place_of_kind.ensures)
    (ap place next ∙ place-next c.args.chain c.args.packet.now c.in-Some.kind.now c.next.new.self rules)
    c.loop-kind.invariant.1

pub returns : goal.returns
returns c =
    let rules = c.args.self.now in
    let place : List Kind → ℕ = λ kinds. position_or_len (is_found c.args.chain c.args.packet.now kinds) rules in
    let none : c.loop-kind.kind-iterator ≡ [] =
    rest_all (deref {X = Kind}) c.loop-kind.kind-iterator c.next.new.self c.next.result c.in-None.is
    c.next.ensures.steps in
    let all : c.into_iter-kind-iterator.result ≡ c.self.inside.kinds.keys =
    c.into_iter-kind-iterator.ensures.into_iter_gives ∙ c.iter-kind-items.ensures.rest in
    let one : IsPacket c.args.packet.now = subst IsPacket c.packet.view_is c.packet.invariant in
    last-least c.loop-kind.first (place c.loop-kind.kind-iterator) (place c.into_iter-kind-iterator.result)
    (length rules) c.loop-kind.invariant.0 (ap place none ∙ place-none rules) c.loop-kind.invariant.1
    ∙ ap place all
    ∙ ap (λ (rs : List Rule). position_or_len (is_found c.args.chain c.args.packet.now c.self.inside.kinds.keys) rs)
    (sym c.self.view_is)
    ∙ place-found c.args.chain c.args.packet.now c.self.inside.kinds.keys c.self.inside.rules one.family
    c.self.invariant.kinds
    ∙ ap (λ (rs : List Rule). position_or_len (matches_in c.args.chain c.args.packet.now) rs) c.self.view_is
