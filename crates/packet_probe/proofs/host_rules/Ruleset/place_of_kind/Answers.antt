use Rattle.std.proofs.Common.{List, length, sym, ap, ap₂, ◌∙◌}
use Rattle.std.specs.{BTreeMap.get, List.position_or_len, Prelude.unwrap_or}
use Rattle.kernel_types.specs.declared.rule.Rule.{Rule}
use Rattle.packet_probe.proofs.Filing.{place-admitted, place-refused}
use Rattle.packet_probe.specs.{Filed.is_found_at, Kinds.key_cmp, declared.kinds.Values.Values}
use Rattle.packet_probe.proofs.host_rules.Ruleset.place_of_kind.Goals as goal

pub returns-then-admits : goal.returns-then-admits
returns-then-admits c =
    c.unwrap_or.ensures
    ∙ ap₂ unwrap_or (c.copied.ensures ∙ c.get.ensures.value
    ∙ ap (λ (values : Values). get key_cmp c.self.inside.firsts (values, c.args.kind.now)) c.values_at.ensures)
    (ap length c.as_slice-none.ensures)
    ∙ place-admitted (get key_cmp c.self.inside.firsts) c.self.inside.rules c.self.invariant.firsts c.args.chain
    c.args.packet.now c.args.kind.now (sym c.admits.ensures ∙ c.if-admits.true)
    ∙ ap (λ (rules : List Rule). position_or_len (is_found_at c.args.chain c.args.packet.now c.args.kind.now) rules)
    c.self.view_is

pub returns-else-admits : goal.returns-else-admits
returns-else-admits c =
    ap length (c.as_slice-none.ensures ∙ c.self.view_is)
    ∙ place-refused c.args.self.now c.args.chain c.args.packet.now c.args.kind.now
    (sym c.admits.ensures ∙ c.if-admits.false)
