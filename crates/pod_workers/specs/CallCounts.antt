-- How many calls an ADD makes at most.
use Rattle.std.specs.Prelude.{ℕ, ◌+◌, ◌≤◌, List, length, sum_by}
use Rattle.cni_addr.specs.declared.address.Addr.{Addr}
use Rattle.cni_result.specs.declared.cached.PortMapping.{PortMapping}
use Rattle.net_conf.specs.declared.{chained.Chained.Chained, list.NetList.NetList}
use Rattle.pod_file.specs.declared.command.Command.{Command}
use Rattle.cni_verbs.specs.{AddCalls.calls_of_add, Mappings.mappings_of, Script.before_of}
use Rattle.plugin_chain.specs.{Plugins.{chained_plugin_of, plugin_of}, Wanted.sets_of}

-- whatever addresses it is leased, an ADD makes no more calls than so many
abbrev pub AddsInAtMost : NetList → Command → ℕ → Type 0
AddsInAtMost list c most = (given : List Addr) → length (calls_of_add list c given) ≤ most

-- those of a chained plugin, for these mappings and so many addresses
abbrev pub most_of_chained : List PortMapping → ℕ → Chained → ℕ
most_of_chained mappings addresses c = (chained_plugin_of c).most (length mappings) addresses

-- Begin, those before the leases, a lease a set, those of the plugins, and the cached result
abbrev pub most_calls : NetList → Command → ℕ
most_calls list c =
    1 + length (before_of list c) + length (sets_of list)
    + ((plugin_of list.first).most_after (length (sets_of list))
    + sum_by (most_of_chained (mappings_of list c) (length (sets_of list))) list.chained + 1)
