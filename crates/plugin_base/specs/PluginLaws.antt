-- What a plugin owes to the verbs and to the laws of every history.
use Rattle.std.specs.{List.{AllByRecursion, list_any, list_all}, Prelude.{◌≡◌, ◌≤◌, ℕ, true, false, List, length, map}}
use Rattle.std.specs.Prelude.{None, is_some, option_to_list}
use Rattle.cni_result.specs.declared.{cached.PortMapping.PortMapping, result.{AddResult.AddResult, IpEntry.IpEntry}}
use Rattle.kernel_types.specs.{Sound.IsSound, Terms.{is_host_ns, is_macvlan, is_veth}, declared.call.Given.Given}
use Rattle.kernel_types.specs.declared.object.{Att.Att, Host.Host, Link.Link}
use Rattle.kernel_types.specs.declared.call.Kind.TheVariants as kinds
use Rattle.plugin_base.specs.Calls.{AllDone, AppendsShare, IsWellFormedCall, applied, has_kind, is_of_kinds}
use Rattle.plugin_base.specs.{Calls.is_plugin_call_of, PluginCalls.{changes_links, has_inner, is_ensured}}
use Rattle.plugin_base.specs.PluginCalls.{is_ensured_first, is_later_call, makes_interface, masters_of, set_links_once}
use Rattle.plugin_base.specs.{PluginCalls.stands_on, Plugins.{ChainedPlugin, FirstPlugin, added_after, added_before}}
use Rattle.plugin_base.specs.{Plugins.changed_by, Results.{names_first, names_of}, Share.{Share, share_after_calls}}
use Rattle.plugin_base.specs.Share.{share_of, share_plus}

-- ---- the first plugin

-- its calls before the leases: each is the attachment's own, or ensures what all attachments share; each makes links
-- or ensures its bridge; each is well formed, where the namespace isn't the host's; the bridge, if there is one, is
-- ensured before all calls that stand under it, and they stand under no other
pub record AreCallsBefore (p : FirstPlugin) (att : Att) (netns : List ℕ) : Type 0 where
  pub own : list_all (is_plugin_call_of att) (p.calls_before att netns) ≡ true
  pub make_interface : list_all (makes_interface p.bridge) (p.calls_before att netns) ≡ true
  pub well_formed : is_host_ns netns ≡ false → AllByRecursion IsWellFormedCall (p.calls_before att netns)
  pub ensured : is_ensured p.bridge (p.calls_before att netns) ≡ true
  pub in_order : is_ensured_first p.bridge (p.calls_before att netns) ≡ true

-- its calls after them: each is the attachment's own, or ensures what all attachments share; they make no link, cache
-- no result, and add settings of the namespace alone; what they make is of its kinds; each lies on its links, and
-- stands under no bridge but its own; none sets values of a link
pub record AreCallsAfter (p : FirstPlugin) (att : Att) (netns : List ℕ) (given : List Given) : Type 0 where
  pub own : list_all (is_plugin_call_of att) (p.calls_after att netns given) ≡ true
  pub later : list_all (is_later_call netns) (p.calls_after att netns given) ≡ true
  pub of_kinds : list_all (is_of_kinds p.kinds) (p.calls_after att netns given) ≡ true
  pub stand : list_all (stands_on (p.links att netns) p.bridge) (p.calls_after att netns given) ≡ true
  pub set_none : list_any changes_links (p.calls_after att netns given) ≡ false

pub record FirstLaws (p : FirstPlugin) : Type 0 where
  pub before : (att : Att) (netns : List ℕ) → AreCallsBefore p att netns
  pub after : (att : Att) (netns : List ℕ) (given : List Given) → AreCallsAfter p att netns given
  -- the container's end is among its links
  pub inner : (att : Att) (netns : List ℕ) → has_inner att netns (p.links att netns) ≡ true
  -- its bridge is what its veth pair is under, and its master what its macvlan link is over
  pub under : (att : Att) (netns : List ℕ) → masters_of is_veth (p.links att netns) ≡ option_to_list p.bridge
  pub over : (att : Att) (netns : List ℕ) → masters_of is_macvlan (p.links att netns) ≡ option_to_list p.master
  -- its calls add exactly its objects
  pub adds_before : (att : Att) (netns : List ℕ) (s : Share)
      → share_after_calls s (p.calls_before att netns) ≡ share_plus s (added_before p att netns)
  pub adds_after : (att : Att) (netns : List ℕ) (given : List Given) (s : Share)
      → share_after_calls s (p.calls_after att netns given) ≡ share_plus s (added_after p att netns given)
  -- DEL takes back links, and leases where addresses are given
  pub takes_links : has_kind kinds.Links p.kinds ≡ true
  pub takes_leases : is_some p.ipam ≡ true → has_kind kinds.Leases p.kinds ≡ true
  -- the result has the addresses of its address management, and names the bridge first, if there is one. (The name
  -- alone is owed, though CHECK asks for the bridge by its MAC too.)
  pub keeps_addresses : (att : Att) (netns : List ℕ) (ipam : AddResult)
      → map (λ ip. ip.address) (p.result att netns ipam).ips ≡ map (λ ip. ip.address) ipam.ips
  pub names_bridge : (att : Att) (netns : List ℕ) (ipam : AddResult)
      → names_first p.bridge (names_of (p.result att netns ipam)) ≡ true
  -- no more calls than it says
  pub few : (att : Att) (netns : List ℕ) (given : List Given) (leases : ℕ) → length given ≤ leases
      → length (p.calls_after att netns given) ≤ p.most_after leases

-- ---- a chained plugin

-- its calls, likewise: what they lie on is there wherever the container's end is, and they stand under no bridge; one
-- at most sets values of a link, and only where the plugin says so
pub record AreChainedCalls (p : ChainedPlugin) (att : Att) (netns : List ℕ) (mappings : List PortMapping)
    (ips : List IpEntry) : Type 0 where
  pub own : list_all (is_plugin_call_of att) (p.calls att netns mappings ips) ≡ true
  pub later : list_all (is_later_call netns) (p.calls att netns mappings ips) ≡ true
  pub of_kinds : list_all (is_of_kinds p.kinds) (p.calls att netns mappings ips) ≡ true
  pub stand : (links : List Link) → has_inner att netns links ≡ true
      → list_all (stands_on links None) (p.calls att netns mappings ips) ≡ true
  pub set_once : set_links_once p.sets_links (p.calls att netns mappings ips) ≡ true

pub record ChainedLaws (p : ChainedPlugin) : Type 0 where
  pub calls : (att : Att) (netns : List ℕ) (mappings : List PortMapping) (ips : List IpEntry)
      → AreChainedCalls p att netns mappings ips
  -- they make of an attachment's objects exactly what the plugin says
  pub adds : (att : Att) (netns : List ℕ) (mappings : List PortMapping) (ips : List IpEntry) (s : Share)
      → share_after_calls s (p.calls att netns mappings ips) ≡ changed_by p att netns mappings ips s
  -- the result keeps the addresses, and the names of the interfaces. (The names alone: a MAC may be set anew.)
  pub keeps_ips : (prev : AddResult) → (p.result prev).ips ≡ prev.ips
  pub keeps_names : (prev : AddResult) → names_of (p.result prev) ≡ names_of prev
  -- no more calls than it says
  pub few : (att : Att) (netns : List ℕ) (mappings : List PortMapping) (ips : List IpEntry) (addresses : ℕ)
      → length ips ≤ addresses → length (p.calls att netns mappings ips) ≤ p.most (length mappings) addresses

-- ---- what follows in every host, for plugins that keep these laws

abbrev pub FirstsAppendTheirShares : Type 0
FirstsAppendTheirShares = (p : FirstPlugin) → FirstLaws p → (att : Att) (netns : List ℕ) (given : List Given)
    → AppendsShare att (p.calls_before att netns) (added_before p att netns)
    × AppendsShare att (p.calls_after att netns given) (added_after p att netns given)

abbrev pub ChainedChangeTheirShares : Type 0
ChainedChangeTheirShares = (p : ChainedPlugin) → ChainedLaws p
    → (att : Att) (netns : List ℕ) (mappings : List PortMapping) (ips : List IpEntry) (host : Host) → IsSound host
    → AllDone host (p.calls att netns mappings ips)
    → share_of att (applied host (p.calls att netns mappings ips))
    ≡ changed_by p att netns mappings ips (share_of att host)
