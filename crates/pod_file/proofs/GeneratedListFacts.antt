-- The list of the generated workload is well formed.
use Rattle.std.proofs.{Common.{true, [], ◌∷◌, refl, arith}, lemmas.List.Elements.{All-nil, All-cons}}
use Rattle.std.specs.{List.IsDistinct, Str.chars}
use Rattle.cni_addr.specs.Network.{network_of, contains}
use Rattle.net_conf.specs.{Names.{is_network_name, is_interface_name}, PluginTypes.HaveTypesOnce, Ranges.is_subnet}
use Rattle.net_conf.specs.WellFormed.{IsWellFormedRange, IsWellFormedSet, IsWellFormedRoute, IsWellFormedHostLocal}
use Rattle.net_conf.specs.WellFormed.{IsWellFormedBridge, IsWellFormedChained, IsWellFormedList}
use Rattle.net_conf.specs.declared.chained.Chained.TheVariants.{Portmap, Firewall}
use Rattle.pod_file.specs.Generator.{range_of_tens, addresses_of_tens, gateway_bridge, later_plugins, generated_list}

pub later_plugins-once : HaveTypesOnce later_plugins
unfolding IsDistinct
later_plugins-once = search arith

range_of_tens-ok : IsWellFormedRange range_of_tens
unfolding is_subnet network_of contains
range_of_tens-ok = record {
  is_cidr = record { addr = record { within = omega arith }; prefix = omega arith };
  subnet = refl;
  start_is_addr = record { within = omega arith };
  start_inside = refl;
  end_is_addr = record { within = omega arith };
  end_inside = refl;
  in_order = refl;
  gateway_is_addr = record { within = omega arith };
  gateway_family = refl;
}

addresses_of_tens-ok : IsWellFormedHostLocal addresses_of_tens
addresses_of_tens-ok = record {
  count = refl;
  sets = All-cons IsWellFormedSet (record { ranges = range_of_tens ∷ [] }) [] (record {
    some = omega arith;
    ranges = All-cons IsWellFormedRange range_of_tens [] range_of_tens-ok (All-nil IsWellFormedRange);
    apart = refl;
    one_family = refl;
  }) (All-nil IsWellFormedSet);
  apart = refl;
  routes = All-nil IsWellFormedRoute;
}

gateway_bridge-ok : IsWellFormedBridge gateway_bridge
unfolding is_interface_name chars
gateway_bridge-ok = record { name = refl; mtu = refl; ipam = addresses_of_tens-ok }

pub generated_list-ok : IsWellFormedList generated_list
unfolding is_network_name
generated_list-ok = record {
  name = refl;
  first = gateway_bridge-ok;
  chained =
      All-cons IsWellFormedChained (Portmap (record { mappings = true; snat = true })) (Firewall (record {}) ∷ []) tt
      (All-cons IsWellFormedChained (Firewall (record {})) [] tt (All-nil IsWellFormedChained));
  types_once = later_plugins-once;
}
