use Rattle.std.proofs.Common.{◌≡◌, ℕ, Bool, true, false, Some, sym, ap, ◌∙◌}
use Rattle.std.specs.{BTreeMap.{BTreeMap, get}, Ordering.is_eq, Prelude.{is_some, if◌then◌else◌}}
use Rattle.packet_probe.specs.Kinds.{Key, key_cmp}
use Rattle.packet_probe.proofs.host_rules.with_first.Goals as goal
use Rattle.packet_probe.proofs.host_rules.with_first.Goals.{then-not-contains_key+in_ok-insert, else-not-contains_key}

pub returns : goal.returns
returns c = λ q.
    let first = get key_cmp c.args.firsts in
    let added = if is_eq (key_cmp c.args.key q) then Some c.args.place else first q in
    elim c.if-not-contains_key.branch [
      | then-not-contains_key+in_ok-insert w ↦
          let new : is_some (first c.args.key) ≡ false = sym c.contains_key.ensures ∙ w.if-not-contains_key.true in
          ap (λ (m : BTreeMap Key ℕ). get key_cmp m q) w.firsts-is
          ∙ w.in_ok-insert.ensures.updates.0 q
          ∙ ap (λ (b : Bool). if b then first q else added) (sym new)
      | else-not-contains_key w ↦
          let old : is_some (first c.args.key) ≡ true = sym c.contains_key.ensures ∙ w.if-not-contains_key.false in
          ap (λ (m : BTreeMap Key ℕ). get key_cmp m q) w.firsts-is
          ∙ ap (λ (b : Bool). if b then first q else added) (sym old)
    ]
