-- Enums without fields, by number, and when two are the same.
use Rattle.std.specs.Prelude.{ℕ, Bool, ◌==◌}
use Rattle.kernel_types.specs.declared.{call.Kind.Kind, rule.{Chain.Chain, Table.Table}}
use Rattle.kernel_types.specs.declared.call.Kind.TheVariants as kinds
use Rattle.kernel_types.specs.declared.rule.Table.TheVariants as tables
use Rattle.kernel_types.specs.declared.rule.Chain.TheVariants as chains

abbrev pub table_code : Table → ℕ
table_code tables.Nat = 0
table_code tables.Filter = 1

abbrev pub table_eq : Table → Table → Bool
table_eq a b = table_code a == table_code b

abbrev pub chain_code : Chain → ℕ
chain_code chains.Dnat = 0
chain_code chains.HostMasq = 1
chain_code chains.Masq = 2
chain_code chains.Forward = 3

abbrev pub chain_eq : Chain → Chain → Bool
chain_eq a b = chain_code a == chain_code b

abbrev pub kind_code : Kind → ℕ
kind_code kinds.Links = 0
kind_code kinds.Rules = 1
kind_code kinds.Settings = 2
kind_code kinds.Leases = 3
kind_code kinds.Cached = 4

abbrev pub kind_eq : Kind → Kind → Bool
kind_eq a b = kind_code a == kind_code b
