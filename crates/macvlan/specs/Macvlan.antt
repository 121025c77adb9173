-- The `macvlan` plugin: a link of the container over a link of the host.
use Rattle.std.specs.Prelude.{ℕ, ◌+◌, false, List, [], ◌∷◌, ◌++◌, length, map, Some, None}
use Rattle.cni_result.specs.declared.result.AddResult.{AddResult}
use Rattle.net_conf.specs.declared.first.MacvlanConf.{MacvlanConf}
use Rattle.kernel_types.specs.declared.call.{Call.{Call, TheVariants.{MacvlanAdd, AddrAdd, RouteAdd}}, Given.Given}
use Rattle.kernel_types.specs.declared.{call.Kind.Kind, object.Att.Att}
use Rattle.plugin_base.specs.{Plugins.FirstPlugin, Results.{inner_interface, completed}, Shapes.macvlan_link}
use Rattle.plugin_base.specs.Shapes.{addresses_on, routes_on}
use Rattle.host_local.specs.{Conf.routes_of, Kinds.interface_kinds}

abbrev pub macvlan_calls_before : MacvlanConf → Att → List ℕ → List Call
macvlan_calls_before conf att netns = MacvlanAdd (macvlan_link att netns conf.master conf.mode conf.mtu) ∷ []

abbrev pub macvlan_calls_after : MacvlanConf → Att → List ℕ → List Given → List Call
macvlan_calls_after conf att netns given =
    map AddrAdd (addresses_on att netns given) ++ map RouteAdd (routes_on att netns given (routes_of conf.ipam))

-- the kinds of objects that DEL takes back
abbrev pub macvlan_kinds_of : MacvlanConf → List Kind
macvlan_kinds_of conf = interface_kinds false conf.ipam

abbrev pub macvlan_result_of : MacvlanConf → Att → List ℕ → AddResult → AddResult
macvlan_result_of conf att netns ipam = completed ipam
    (inner_interface att netns conf.mtu ipam.version ∷ []) 0 ipam.routes conf.dns

-- After the leases come at most the addresses and the routes.
abbrev pub macvlan_plugin : MacvlanConf → FirstPlugin
macvlan_plugin conf = record {
  ipam = conf.ipam;
  calls_before = λ att netns. macvlan_calls_before conf att netns;
  links = λ att netns. macvlan_link att netns conf.master conf.mode conf.mtu ∷ [];
  calls_after = λ att netns given. macvlan_calls_after conf att netns given;
  addresses = λ att netns given. addresses_on att netns given;
  routes = λ att netns given. routes_on att netns given (routes_of conf.ipam);
  rules = λ att given. [];
  result = λ att netns ipam. macvlan_result_of conf att netns ipam;
  kinds = macvlan_kinds_of conf;
  bridge = None;
  master = Some conf.master;
  most_after = λ leases. leases + length (routes_of conf.ipam);
}
