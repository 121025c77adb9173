-- How kinds of links and tables are written in messages and dumps, and named in pod files.
use Rattle.std.specs.{Prelude.{ℕ, List, codes, Option, find}, Str.bytes_eq}
use Rattle.kernel_types.specs.declared.{object.LinkKind.LinkKind, rule.{Table.Table, TheConstants.Table.ALL}}
use Rattle.kernel_types.specs.declared.object.LinkKind.TheVariants as kinds
use Rattle.kernel_types.specs.declared.rule.Table.TheVariants as tables

-- what a link is
abbrev pub link_kind_text : LinkKind → List ℕ
link_kind_text kinds.Device = codes "device"
link_kind_text kinds.Bridge = codes "bridge"
link_kind_text kinds.Veth = codes "veth"
link_kind_text (kinds.Macvlan mode) = codes "macvlan"
link_kind_text kinds.Dummy = codes "dummy"
link_kind_text (kinds.Vlan id) = codes "vlan"

-- a table as iptables names it
abbrev pub table_text : Table → List ℕ
table_text tables.Nat = codes "nat"
table_text tables.Filter = codes "filter"

-- the table that the text names
abbrev pub table_named : List ℕ → Option Table
table_named text = find (λ table. bytes_eq text (table_text table)) ALL
