-- The veth pair of an attachment: both ends are its own, well formed, and where they should be.
use Rattle.std.proofs.Common.{◌≡◌, ℕ, Bool, true, false, List, [], Option, refl, arith}
use Rattle.std.specs.{Cmp.Lexicographic.nat_list_eq_equiv, List.list_any}
use Rattle.kernel_types.specs.{Allowed.IsVethPair, Names.host_name_of, Terms.{is_host_ns, is_link_of}}
use Rattle.kernel_types.specs.declared.object.{Att.Att, Tag.TheVariants.Own}
use Rattle.kernel_types.proofs.Cases.{att_eq-refl}
use Rattle.plugin_base.specs.{Calls.is_plugin_call_of, PluginCalls.has_inner, Shapes.{host_end, inner_end}}
use Rattle.plugin_base.proofs.PluginCalls.{link-there}
use Rattle.bridge_ptp.specs.Veth.{veth_links, veth_pair}

pub veth-own : (att : Att) (netns : List ℕ) (master : Option (List ℕ)) (mtu : ℕ) (hairpin : Bool)
    → is_plugin_call_of att (veth_pair att netns master mtu hairpin) ≡ true
veth-own att netns master mtu hairpin = grind (arith, att_eq-refl att)

pub veth-well_formed : (att : Att) (netns : List ℕ) (master : Option (List ℕ)) (mtu : ℕ) (hairpin : Bool)
    → is_host_ns netns ≡ false → IsVethPair (host_end att netns master mtu hairpin) (inner_end att netns mtu)
veth-well_formed att netns master mtu hairpin place = record {
  host_kind = refl;
  inner_kind = refl;
  owned = refl;
  same_tag = refl;
  to_inner = grind (arith, nat_list_eq_equiv.refl netns, nat_list_eq_equiv.refl att.ifname);
  to_host = grind (arith, nat_list_eq_equiv.refl (host_name_of att));
  outer = refl;
  inner = place;
}

-- the container's end is one of them, and the host's the other
pub veth-inner : (att : Att) (netns : List ℕ) (master : Option (List ℕ)) (mtu : ℕ) (hairpin : Bool)
    → has_inner att netns (veth_links att netns master mtu hairpin) ≡ true
veth-inner att netns master mtu hairpin =
    let there = link-there netns att.ifname (Own att) (inner_end att netns mtu) refl refl refl in
    grind (arith, there)

pub veth-outer : (att : Att) (netns : List ℕ) (master : Option (List ℕ)) (mtu : ℕ) (hairpin : Bool)
    → list_any (is_link_of [] (host_name_of att) (Own att)) (veth_links att netns master mtu hairpin) ≡ true
veth-outer att netns master mtu hairpin =
    let there = link-there [] (host_name_of att) (Own att) (host_end att netns master mtu hairpin) refl refl refl in
    grind (arith, there)
