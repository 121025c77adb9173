-- Each plugin keeps what it owes, by its configuration.
use Rattle.std.proofs.Common.{◌≡◌, true, refl, ap, ◌∙◌}
use Rattle.net_conf.specs.{PluginTypes.{type_eq, type_of_chained}, WellFormed.{IsWellFormedFirst, IsWellFormedIpam}}
use Rattle.net_conf.specs.declared.chained.Chained.{Chained, TheVariants.{Portmap, Firewall, Tuning}}
use Rattle.net_conf.specs.declared.first.First.{First, TheVariants.{Bridge, Ptp, Macvlan}}
use Rattle.net_conf.specs.declared.plugins.PluginType.TheVariants as types
use Rattle.plugin_base.specs.PluginLaws.{ChainedLaws, FirstLaws}
use Rattle.bridge_ptp.proofs.{BridgeLaws.bridge_laws, PtpLaws.ptp_laws}
use Rattle.firewall_tuning.proofs.{FirewallLaws.firewall_laws, TuningLaws.tuning_laws}
use Rattle.macvlan.proofs.MacvlanLaws.{macvlan_laws}
use Rattle.portmap.proofs.PortmapLaws.{portmap_laws}
use Rattle.plugin_chain.specs.{Plugins.{chained_plugin_of, plugin_of}, Wanted.{ipam_of, sets_links}}

pub first_laws : (first : First) → FirstLaws (plugin_of first)
unfolding plugin_of
first_laws (Bridge conf) = bridge_laws conf
first_laws (Ptp conf) = ptp_laws conf
first_laws (Macvlan conf) = macvlan_laws conf

pub chained_laws : (c : Chained) → ChainedLaws (chained_plugin_of c)
unfolding chained_plugin_of
chained_laws (Portmap conf) = portmap_laws conf
chained_laws (Firewall conf) = firewall_laws
chained_laws (Tuning conf) = tuning_laws conf

-- address management is well formed where there is some
pub formed_ipam : (first : First) → IsWellFormedFirst first → IsWellFormedIpam (ipam_of first)
unfolding plugin_of
formed_ipam (Bridge conf) formed = formed.ipam
formed_ipam (Ptp conf) formed = formed.ipam
formed_ipam (Macvlan conf) formed = formed.ipam

-- plugins of one type alone set values of links
setter-type : (c : Chained) → sets_links c ≡ true → type_of_chained c ≡ types.Tuning
unfolding chained_plugin_of
setter-type (Portmap conf) sets = cc
setter-type (Firewall conf) sets = cc
setter-type (Tuning conf) sets = refl

pub one_setter : (c d : Chained) → sets_links c ≡ true → sets_links d ≡ true
    → type_eq (type_of_chained c) (type_of_chained d) ≡ true
one_setter c d at_c at_d =
    ap (λ t. type_eq t (type_of_chained d)) (setter-type c at_c) ∙ ap (type_eq types.Tuning) (setter-type d at_d)
