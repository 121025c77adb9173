-- The calls of an ADD, the objects that it wants, and its result (CNI specification, section 3, "Adding an
-- attachment").
use Rattle.std.specs.{List.fold, Prelude.{ℕ, Bool, List, [], ◌∷◌, ◌++◌, map, flat_map, Option}}
use Rattle.cni_addr.specs.declared.{address.Addr.Addr, range.RangeSet.RangeSet}
use Rattle.cni_result.specs.declared.{cached.{Cached.Cached, PortMapping.PortMapping}, result.AddResult.AddResult}
use Rattle.cni_result.specs.declared.result.IpEntry.{IpEntry}
use Rattle.net_conf.specs.declared.{chained.Chained.Chained, first.{First.First, HostLocalConf.HostLocalConf}}
use Rattle.net_conf.specs.declared.list.NetList.{NetList}
use Rattle.kernel_types.specs.{Terms.lease_of, declared.call.Call.{Call, TheVariants.{Begin, LinkDel, RuleDel}}}
use Rattle.kernel_types.specs.declared.call.{Call.TheVariants.{SettingDel, LeaseDel, CacheDel, CachePut}, Given.Given}
use Rattle.kernel_types.specs.declared.{call.Kind.Kind, object.{Att.Att, Link.Link, Setting.Setting}}
use Rattle.kernel_types.specs.declared.{object.Tag.TheVariants.Own, rule.Rule.Rule}
use Rattle.kernel_types.specs.declared.call.Kind.TheVariants as kinds
use Rattle.plugin_base.specs.{Plugins.added_after, Share.Share}
use Rattle.host_local.specs.{Conf.range_sets_of, Leases.{given_of, lease_calls_of}, Results.ipam_result_of}
use Rattle.plugin_chain.specs.Plugins.{chained_plugin_of, plugin_of}

-- ---- the first plugin

abbrev pub ipam_of : First → Option HostLocalConf
ipam_of first = (plugin_of first).ipam

abbrev pub calls_before : First → Att → List ℕ → List Call
calls_before first att netns = (plugin_of first).calls_before att netns

abbrev pub calls_after : First → Att → List ℕ → List Given → List Call
calls_after first att netns given = (plugin_of first).calls_after att netns given

abbrev pub first_result : First → Att → List ℕ → AddResult → AddResult
first_result first att netns ipam = (plugin_of first).result att netns ipam

abbrev pub first_kinds : First → List Kind
first_kinds first = (plugin_of first).kinds

abbrev pub bridge_of : First → Option (List ℕ)
bridge_of first = (plugin_of first).bridge

abbrev pub master_of : First → Option (List ℕ)
master_of first = (plugin_of first).master

-- ---- the chained plugins

abbrev pub rules_of : Chained → Att → List PortMapping → List IpEntry → List Rule
rules_of c att mappings ips = (chained_plugin_of c).rules att mappings ips

abbrev pub settings_of : Chained → Att → List ℕ → List Setting
settings_of c att netns = (chained_plugin_of c).settings att netns

abbrev pub links_after : Chained → Att → List ℕ → List Link → List Link
links_after c att netns links = (chained_plugin_of c).links_after att netns links

abbrev pub chained_calls : Chained → Att → List ℕ → List PortMapping → List IpEntry → List Call
chained_calls c att netns mappings ips = (chained_plugin_of c).calls att netns mappings ips

abbrev pub chained_result : Chained → AddResult → AddResult
chained_result c prev = (chained_plugin_of c).result prev

abbrev pub chained_kinds : Chained → List Kind
chained_kinds c = (chained_plugin_of c).kinds

abbrev pub sets_links : Chained → Bool
sets_links c = (chained_plugin_of c).sets_links

-- each is handed the result of the one before
abbrev pub all_chained_results : List Chained → AddResult → AddResult
all_chained_results cs prev = fold (λ r c. chained_result c r) prev cs

abbrev pub all_chained_calls : List Chained → Att → List ℕ → List PortMapping → AddResult → List Call
all_chained_calls [] att netns mappings prev = []
all_chained_calls (c ∷ cs) att netns mappings prev =
    chained_calls c att netns mappings prev.ips ++ all_chained_calls cs att netns mappings (chained_result c prev)

abbrev pub all_links_after : List Chained → Att → List ℕ → List Link → List Link
all_links_after cs att netns links = fold (λ ls c. links_after c att netns ls) links cs

-- ---- the result

abbrev pub sets_of : NetList → List RangeSet
sets_of list = range_sets_of (ipam_of list.first)

abbrev pub given_by_list : NetList → List Addr → List Given
given_by_list list addrs = given_of (sets_of list) addrs

abbrev pub first_plugin_result : NetList → Att → List ℕ → List Addr → AddResult
first_plugin_result list att netns addrs =
    first_result list.first att netns (ipam_result_of (ipam_of list.first) (given_by_list list addrs) list.version)

-- the result of the last plugin
unfoldable pub result_of_add : NetList → Att → List ℕ → List Addr → AddResult
result_of_add list att netns addrs = all_chained_results list.chained (first_plugin_result list att netns addrs)

-- ---- the wanted objects

abbrev pub cached_of : NetList → Att → List ℕ → List PortMapping → List Addr → Cached
cached_of list att netns mappings addrs =
    record { netns = netns; mappings = mappings; result = result_of_add list att netns addrs }

-- the links as they are before a chained plugin sets values of them
abbrev pub links_made : NetList → Att → List ℕ → List Link
links_made list att netns = (plugin_of list.first).links att netns

-- all objects of the attachment, where these addresses were leased
abbrev pub wanted : NetList → Att → List ℕ → List PortMapping → List Addr → Share
wanted list att netns mappings addrs =
    let first = added_after (plugin_of list.first) att netns (given_by_list list addrs) in
    let ips = (first_plugin_result list att netns addrs).ips in
    record {
      links = all_links_after list.chained att netns (links_made list att netns);
      addresses = first.addresses;
      routes = first.routes;
      rules = first.rules ++ flat_map (λ c. rules_of c att mappings ips) list.chained;
      settings = flat_map (λ c. settings_of c att netns) list.chained;
      leases = map (lease_of att) addrs;
      cached = record { cached = cached_of list att netns mappings addrs; tag = Own att } ∷ [];
    }

-- ---- the calls

-- after the last lease
abbrev pub back_calls : NetList → Att → List ℕ → List PortMapping → List Addr → List Call
back_calls list att netns mappings addrs =
    calls_after list.first att netns (given_by_list list addrs)
    ++ (all_chained_calls list.chained att netns mappings (first_plugin_result list att netns addrs)
    ++ CachePut att (cached_of list att netns mappings addrs) ∷ [])

-- all of them, where none is refused: what a run makes one by one
abbrev pub add_calls : NetList → Att → List ℕ → List PortMapping → List Addr → List Call
add_calls list att netns mappings addrs =
    Begin att netns
    ∷ (calls_before list.first att netns
    ++ (lease_calls_of (sets_of list) att ++ back_calls list att netns mappings addrs))

-- ---- deletions (CNI specification, section 3, "Deleting an attachment")

-- the kinds of the chained plugins, the last one's first
abbrev pub chained_kinds_reversed : List Chained → List Kind
chained_kinds_reversed [] = []
chained_kinds_reversed (c ∷ cs) = chained_kinds_reversed cs ++ chained_kinds c

-- the kinds of all plugins, the last plugin's first, and the cached result
abbrev pub kinds_of : NetList → List Kind
kinds_of list = chained_kinds_reversed list.chained ++ (first_kinds list.first ++ kinds.Cached ∷ [])

abbrev pub deletion : Att → Kind → Call
deletion att kinds.Links = LinkDel att
deletion att kinds.Rules = RuleDel att
deletion att kinds.Settings = SettingDel att
deletion att kinds.Leases = LeaseDel att
deletion att kinds.Cached = CacheDel att
