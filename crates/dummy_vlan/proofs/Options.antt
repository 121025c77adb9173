-- What the options are where they meet the needs of the plugins.
use Rattle.std.proofs.Common.{◌≡◌, ℕ, ◌^◌, ◌-◌, ◌≤◌, true, List, Option, Some, None, is_some, codes, IfSome, arith}
use Rattle.std.proofs.{Common.refl, lemmas.Bool.and_parts}
use Rattle.std.specs.{Option.option_map_or, Str.Parse.digits_value}
use Rattle.plugin_registry.specs.{Needs.{IsAskable, is_met, is_met_by, is_number, value_of}, declared.ask.Ask.Ask}
use Rattle.plugin_registry.specs.declared.ask.Opt.{Opt}
use Rattle.dummy_vlan.specs.DummyVlan.{IsNumberOrAbsent, dummy_needs_of, master_need, mtu_need, vlan_id_need}
use Rattle.dummy_vlan.specs.DummyVlan.{vlan_id_of, vlan_needs_of}
use Rattle.dummy_vlan.proofs.Numbers.{number-wider, numeral-of}

-- ---- each need

pub dummy_mtu_met : (ask : Ask) → IsAskable dummy_needs_of ask → is_met ask.options mtu_need ≡ true
dummy_mtu_met ask h = (and_parts (is_met ask.options mtu_need) true h.options).0

pub vlan_master_met : (ask : Ask) → IsAskable vlan_needs_of ask → is_met ask.options master_need ≡ true
vlan_master_met ask h = grind (arith, h.options)

pub vlan_id_met : (ask : Ask) → IsAskable vlan_needs_of ask → is_met ask.options vlan_id_need ≡ true
vlan_id_met ask h = grind (arith, h.options)

pub vlan_mtu_met : (ask : Ask) → IsAskable vlan_needs_of ask → is_met ask.options mtu_need ≡ true
vlan_mtu_met ask h = grind (arith, h.options)

-- ---- the values

met-mtu : (o : Option (List ℕ)) → is_met_by mtu_need o ≡ true → IfSome o (λ text. is_number 0 (2 ^ 32 - 1) text ≡ true)
met-mtu None h = tt
met-mtu (Some text) h = number-wider 68 65535 (2 ^ 32 - 1) text (omega arith) h

pub mtu_number : (options : List Opt) → is_met options mtu_need ≡ true → IsNumberOrAbsent (codes "mtu") options
mtu_number options h = met-mtu (value_of (codes "mtu") options) h

met-vlan_id : (o : Option (List ℕ)) → is_met_by vlan_id_need o ≡ true
    → IfSome o (λ text. is_number 0 (2 ^ 32 - 1) text ≡ true)
met-vlan_id None h = tt
met-vlan_id (Some text) h = number-wider 1 4094 (2 ^ 32 - 1) text (omega arith) h

pub vlan_id_number : (options : List Opt) → is_met options vlan_id_need ≡ true
    → IsNumberOrAbsent (codes "vlanId") options
vlan_id_number options h = met-vlan_id (value_of (codes "vlanId") options) h

few-vlan_ids : (o : Option (List ℕ)) → is_met_by vlan_id_need o ≡ true → option_map_or (digits_value 10) o 0 ≤ 4094
few-vlan_ids None h = omega arith
few-vlan_ids (Some text) h = (numeral-of 1 4094 text h).below

-- 12 bits
pub vlan_id_fits : (options : List Opt) → is_met options vlan_id_need ≡ true → vlan_id_of options ≤ 4094
vlan_id_fits options h = few-vlan_ids (value_of (codes "vlanId") options) h

met-master : (o : Option (List ℕ)) → is_met_by master_need o ≡ true → is_some o ≡ true
met-master None h = h
met-master (Some name) h = refl

pub master_there : (options : List Opt) → is_met options master_need ≡ true
    → is_some (value_of (codes "master") options) ≡ true
master_there options h = met-master (value_of (codes "master") options) h
