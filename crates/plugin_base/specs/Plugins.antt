-- What a plugin does, as the verbs ask it (CNI specification, section 3, "Adding an attachment").
use Rattle.std.specs.Prelude.{ℕ, Bool, List, ◌++◌, Option}
use Rattle.cni_result.specs.declared.{cached.PortMapping.PortMapping, result.{AddResult.AddResult, IpEntry.IpEntry}}
use Rattle.net_conf.specs.declared.first.HostLocalConf.{HostLocalConf}
use Rattle.kernel_types.specs.declared.{call.{Call.Call, Given.Given, Kind.Kind}, object.{AddrObj.AddrObj, Att.Att}}
use Rattle.kernel_types.specs.declared.{object.{Link.Link, RouteObj.RouteObj, Setting.Setting}, rule.Rule.Rule}
use Rattle.plugin_base.specs.Share.{Share, no_objects}

-- ---- the first plugin of a list, which makes the interface

-- what it does, by the attachment, its namespace and the leased addresses
pub record FirstPlugin : Type 0 where
  -- its address management, if it has any
  pub ipam : Option HostLocalConf
  -- its calls before the leases
  pub calls_before : Att → List ℕ → List Call
  -- the links that these make
  pub links : Att → List ℕ → List Link
  -- its calls after the leases
  pub calls_after : Att → List ℕ → List Given → List Call
  -- the addresses that these add
  pub addresses : Att → List ℕ → List Given → List AddrObj
  -- the routes that they add
  pub routes : Att → List ℕ → List Given → List RouteObj
  -- the rules that they append
  pub rules : Att → List Given → List Rule
  -- its result, by that of its address management
  pub result : Att → List ℕ → AddResult → AddResult
  -- the kinds of objects that DEL takes back
  pub kinds : List Kind
  -- the bridge that its link is under, for which CHECK asks
  pub bridge : Option (List ℕ)
  -- the link of the host that its link is over, for which STATUS asks
  pub master : Option (List ℕ)
  -- how many calls it makes at most after so many leases
  pub most_after : ℕ → ℕ

-- the objects that its calls before the leases add, and those after them
abbrev pub added_before : FirstPlugin → Att → List ℕ → Share
added_before p att netns = record no_objects { links = p.links att netns }

abbrev pub added_after : FirstPlugin → Att → List ℕ → List Given → Share
added_after p att netns given = record no_objects {
  addresses = p.addresses att netns given;
  routes = p.routes att netns given;
  rules = p.rules att given;
}

-- ---- a plugin chained after it

-- what it does, by the attachment, its namespace, the port mappings and the addresses of the result before
pub record ChainedPlugin : Type 0 where
  -- whether it asks for the port mappings: where one plugin of a list does, all are handed them
  pub takes_mappings : Bool
  -- its calls
  pub calls : Att → List ℕ → List PortMapping → List IpEntry → List Call
  -- the rules that they append
  pub rules : Att → List PortMapping → List IpEntry → List Rule
  -- the settings that they add
  pub settings : Att → List ℕ → List Setting
  -- what they make of the attachment's links
  pub links_after : Att → List ℕ → List Link → List Link
  -- whether they set values of a link
  pub sets_links : Bool
  -- its result, by the one before
  pub result : AddResult → AddResult
  -- the kinds of objects that DEL takes back
  pub kinds : List Kind
  -- how many calls it makes at most for so many mappings and addresses
  pub most : ℕ → ℕ → ℕ

-- what its calls make of an attachment's objects
abbrev pub changed_by : ChainedPlugin → Att → List ℕ → List PortMapping → List IpEntry → Share → Share
changed_by p att netns mappings ips s = record s {
  links = p.links_after att netns s.links;
  rules = s.rules ++ p.rules att mappings ips;
  settings = s.settings ++ p.settings att netns;
}
