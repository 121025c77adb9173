-- Rules that are filed by their keys: for each key the place of the first rule that has it, and each kind.
use Rattle.std.specs.{List.list_all, Ordering.is_eq, Prelude.{◌≡◌, ℕ, ◌&&◌, Bool, true, List, Option, Some, is_some}}
use Rattle.std.specs.Prelude.{position, if◌then◌else◌}
use Rattle.kernel_types.specs.declared.rule.{Chain.Chain, Rule.Rule}
use Rattle.packet_probe.specs.{Kinds.{Key, admits, has_key, key_cmp, kind_of, values_at}, declared.kinds.Kind.Kind}
use Rattle.packet_probe.specs.declared.packet.Packet.{Packet}

-- the place is that of the first rule with the key
abbrev pub HasFirsts : (Key → Option ℕ) → List Rule → Type 0
HasFirsts first rules = (key : Key) → first key ≡ position (has_key key) rules

-- each rule's kind is one of these
abbrev pub HasKinds : (Kind → Bool) → List Rule → Type 0
HasKinds is_kind rules = list_all (λ rule. is_kind (kind_of rule)) rules ≡ true

pub record IsFiled (first : Key → Option ℕ) (is_kind : Kind → Bool) (rules : List Rule) : Type 0 where
  pub firsts : HasFirsts first rules
  pub kinds : HasKinds is_kind rules

-- ---- what is looked up

-- the rule is of this kind, which admits the packet, and asks for what the packet has
abbrev pub is_found_at : Chain → Packet → Kind → Rule → Bool
is_found_at chain p kind rule = admits chain kind p && has_key (values_at kind p, kind) rule

-- the first places, and that of one more rule with this key where none had it
abbrev pub first_with : (Key → Option ℕ) → Key → ℕ → Key → Option ℕ
first_with first key place q =
    if is_some (first key) then first q else if is_eq (key_cmp key q) then Some place else first q
