-- The requests of an ADD, each with the result of the plugin before it (CNI specification 1.1.0, section 3, "Adding an
-- attachment").
use Rattle.std.specs.Prelude.{ℕ, zero, suc, ◌+◌, List, take, scan, Option, Some, None}
use Rattle.serde_json.specs.Data.{Data}
use Rattle.cni_addr.specs.declared.address.Addr.{Addr}
use Rattle.cni_result.specs.declared.{cached.PortMapping.PortMapping, result.AddResult.AddResult}
use Rattle.net_conf.specs.declared.{chained.Chained.Chained, list.NetList.NetList}
use Rattle.pod_file.specs.declared.command.Command.{Command}
use Rattle.cni_errors.specs.CommandFields.{att_of}
use Rattle.plugin_chain.specs.Wanted.{all_chained_results, first_plugin_result}
use Rattle.cni_verbs.specs.Mappings.{mappings_of}
use Rattle.plugin_requests.specs.{Raw.RawView, Request.request_data}

-- the result of the plugin in this place, where the first plugin has this one
abbrev pub result_after : List Chained → AddResult → ℕ → AddResult
result_after chained first k = all_chained_results (take k chained) first

-- the result of the plugin before it, if there is one
abbrev pub result_before : List Chained → AddResult → ℕ → Option AddResult
result_before chained first zero = None
result_before chained first (suc k) = Some (result_after chained first k)

-- the request to the plugin in this place
abbrev pub chain_request : NetList → List PortMapping → AddResult → ℕ → Data → Data
chain_request list mappings first k d = request_data list d (result_before list.chained first k) mappings None

-- the requests to all plugins, in list order
abbrev pub chain_requests : RawView → List PortMapping → AddResult → List Data
chain_requests raw mappings first = scan (λ k d. k + 1) (chain_request raw.list mappings first) 0 raw.objects

-- those of an ADD that is leased these addresses
abbrev pub add_requests : RawView → Command → List Addr → List Data
add_requests raw c addrs =
    chain_requests raw (mappings_of raw.list c) (first_plugin_result raw.list (att_of c) c.netns addrs)
