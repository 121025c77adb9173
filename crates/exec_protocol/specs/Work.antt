-- What a plugin makes of its request at an ADD, and what all plugins of a list make (CNI specification 1.1.0, section
-- 3, "Adding an attachment").
use Rattle.std.specs.{List.AllZip, Prelude.{◌≡◌, ℕ, true, List, [], ◌∷◌, ◌++◌, map, Option, Some, None, option_map}}
use Rattle.std.specs.Prelude.{IsSome, ⊤}
use Rattle.cni_addr.specs.declared.{address.Addr.Addr, range.RangeSet.RangeSet}
use Rattle.cni_result.specs.declared.{cached.PortMapping.PortMapping, result.AddResult.AddResult}
use Rattle.cni_result.specs.declared.version.Version.{Version}
use Rattle.ip_pool.specs.NextAddress.{is_candidate}
use Rattle.kernel_types.specs.declared.{call.{Call.TheVariants.{Begin, CachePut}, Given.Given}, object.Att.Att}
use Rattle.net_conf.specs.declared.{chained.Chained.Chained, first.First.First, list.NetList.NetList}
use Rattle.net_conf.specs.declared.plugin.Plugin.{Plugin}
use Rattle.net_conf.specs.declared.plugin.Plugin.TheVariants as plugins
use Rattle.pod_file.specs.declared.command.Command.{Command}
use Rattle.pod_file.specs.declared.command.Verb.TheVariants as verbs
use Rattle.host_local.specs.{Conf.range_sets_of, Leases.{given_by_set, lease_calls_of}, Results.ipam_result_of}
use Rattle.cni_errors.specs.CommandFields.{add_refusal}
use Rattle.plugin_chain.specs.Wanted.{all_chained_calls, all_chained_results, calls_after, calls_before, chained_calls}
use Rattle.plugin_chain.specs.Wanted.{chained_result, first_result, ipam_of, sets_of}
use Rattle.exec_protocol.specs.declared.types.{Request.Request, Work.Work}

-- ---- the work of one plugin

-- the first plugin makes its link, leases an address of each range set, and lays on what was given
abbrev pub first_work : First → Version → Att → List ℕ → List Given → Work
first_work first version att netns given = record {
  calls = calls_before first att netns
      ++ (lease_calls_of (range_sets_of (ipam_of first)) att ++ calls_after first att netns given);
  result = first_result first att netns (ipam_result_of (ipam_of first) given version);
}

-- a chained plugin goes on from the result of the one before
abbrev pub chained_work : Chained → Att → List ℕ → List PortMapping → AddResult → Work
chained_work c att netns mappings prev =
    record { calls = chained_calls c att netns mappings prev.ips; result = chained_result c prev }

-- the attachment that a request speaks of
abbrev pub att_of_request : Request → Att
att_of_request r = record { network = r.name; container = r.env.container; ifname = r.env.ifname }

abbrev pub work_by : Request → List Given → Plugin → Option Work
work_by r given (plugins.First first) = Some (first_work first r.version (att_of_request r) r.env.netns given)
work_by r given (plugins.Chained c) = option_map (chained_work c (att_of_request r) r.env.netns r.mappings) r.prev

-- what the plugin of a request makes of it, where these addresses are given; nothing without a result to go on from
abbrev pub work_of : Request → List Given → Option Work
work_of r given = work_by r given r.plugin

-- a chained plugin has the result of the one before
abbrev pub HasItsPrev : Plugin → Option AddResult → Type 0
HasItsPrev (plugins.First first) prev = ⊤
HasItsPrev (plugins.Chained c) prev = IsSome prev

-- ---- the work of all plugins

-- each is handed the result of the one before
unfoldable pub plugins_work : NetList → Att → List ℕ → List PortMapping → List Given → Work
plugins_work list att netns mappings given =
    let first = first_work list.first list.version att netns given in
    record {
      calls = first.calls ++ all_chained_calls list.chained att netns mappings first.result;
      result = all_chained_results list.chained first.result;
    }

-- an ADD whose plugins do this: it begins before them, and puts their result into the cache after them
unfoldable pub add_work : Att → List ℕ → List PortMapping → Work → Work
add_work att netns mappings plugins = record {
  calls = Begin att netns
      ∷ (plugins.calls
      ++ CachePut att (record { netns = netns; mappings = mappings; result = plugins.result }) ∷ []);
  result = plugins.result;
}

-- ---- the addresses that are given

abbrev pub addresses : List Given → List Addr
addresses given = map (λ g. g.address.addr) given

-- a candidate of the set, as `host-local` gives it
pub record IsGivenBy (set : RangeSet) (g : Given) : Type 0 where
  pub candidate : is_candidate set g.address.addr ≡ true
  pub given : given_by_set set g.address.addr ≡ Some g

-- one of each range set of the list
abbrev pub AreGivenFor : NetList → List Given → Type 0
AreGivenFor list given = AllZip IsGivenBy (sets_of list) given

-- ---- the plugins of an ADD

-- an ADD of this network that its fields don't refuse
pub record IsAddFor (list : NetList) (c : Command) : Type 0 where
  pub verb : c.verb ≡ verbs.Add
  pub network : c.network ≡ list.name
  pub fields : add_refusal c ≡ None
