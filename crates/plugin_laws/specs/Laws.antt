-- What holds of the plugins of every network list.
use Rattle.std.specs.{List.{list_all, list_any}, Prelude.{◌≡◌, ℕ, Bool, true, ◌&&◌, List, [], ◌∷◌}}
use Rattle.cni_addr.specs.declared.address.Addr.{Addr}
use Rattle.cni_result.specs.{Laws.IsReadable, declared.{cached.PortMapping.PortMapping, result.IpEntry.IpEntry}}
use Rattle.kernel_types.specs.{Codes.{chain_eq, table_eq}, declared.{call.Given.Given, object.Att.Att}}
use Rattle.kernel_types.specs.declared.rule.{Chain.Chain, Rule.Rule, Table.Table}
use Rattle.kernel_types.specs.declared.rule.Chain.TheVariants as chains
use Rattle.kernel_types.specs.declared.rule.Table.TheVariants as tables
use Rattle.net_conf.specs.{PluginTypes.type_of_chained, WellFormed.IsWellFormedList, declared.chained.Chained.Chained}
use Rattle.net_conf.specs.declared.{first.First.{First, TheVariants.{Bridge, Ptp, Macvlan}}, list.NetList.NetList}
use Rattle.net_conf.specs.declared.plugins.PluginType.{PluginType}
use Rattle.net_conf.specs.declared.plugins.PluginType.TheVariants as types
use Rattle.plugin_chain.specs.{Plugins.plugin_of, Wanted.{result_of_add, rules_of}}

-- ---- results

-- the result of an ADD of a well-formed list is read again as it was printed, whatever addresses it was given
abbrev pub ResultsAreReadable : Type 0
ResultsAreReadable = (list : NetList) (att : Att) (netns : List ℕ) (addrs : List Addr) → IsWellFormedList list
    → IsReadable (result_of_add list att netns addrs)

-- ---- rules

-- the table that the chain is of
abbrev pub table_of : Chain → Table
table_of chains.Dnat = tables.Nat
table_of chains.HostMasq = tables.Nat
table_of chains.Masq = tables.Nat
table_of chains.Forward = tables.Filter

-- the chains in which rules of a plugin of this type stand
abbrev pub chains_of : PluginType → List Chain
chains_of types.Bridge = chains.Masq ∷ []
chains_of types.Ptp = chains.Masq ∷ []
chains_of types.Macvlan = []
chains_of types.Portmap = chains.Dnat ∷ chains.HostMasq ∷ []
chains_of types.Firewall = chains.Forward ∷ []
chains_of types.Tuning = []

-- the rule stands in one of these chains, and in the table of its chain
abbrev pub stands_in : List Chain → Rule → Bool
stands_in cs r = list_any (chain_eq r.chain) cs && table_eq r.table (table_of r.chain)

abbrev pub type_of_first : First → PluginType
type_of_first (Bridge conf) = types.Bridge
type_of_first (Ptp conf) = types.Ptp
type_of_first (Macvlan conf) = types.Macvlan

-- the rules that the calls of a first plugin append
abbrev pub FirstRulesStandInChains : Type 0
FirstRulesStandInChains = (first : First) (att : Att) (given : List Given)
    → list_all (stands_in (chains_of (type_of_first first))) ((plugin_of first).rules att given) ≡ true

-- the rules that those of a chained one append
abbrev pub ChainedRulesStandInChains : Type 0
ChainedRulesStandInChains = (c : Chained) (att : Att) (mappings : List PortMapping) (ips : List IpEntry)
    → list_all (stands_in (chains_of (type_of_chained c))) (rules_of c att mappings ips) ≡ true
