-- The objects of an attachment, as the plugins make them (documentation of `bridge`, `ptp`, `macvlan`; the rule sets
-- are this project's own, after iptables).
use Rattle.std.specs.{Option.option_or, Prelude.{ℕ, ◌*◌, ◌^◌, Bool, true, false, List, [], ◌∷◌, ◌++◌, map, flat_map}}
use Rattle.std.specs.Prelude.{Option, Some, None, if◌then◌else◌}
use Rattle.cni_addr.specs.{Lists.each_key_once, Network.whole, declared.address.{Addr.Addr, Cidr.Cidr, Family.Family}}
use Rattle.cni_addr.specs.declared.{address.Family.TheVariants.{V4, V6}, macvlan.MacvlanMode.MacvlanMode}
use Rattle.cni_result.specs.declared.result.RouteEntry.{RouteEntry}
use Rattle.kernel_types.specs.{Apply.Calls.{is_same_addr, is_same_route}, Equal.rule_eq, Names.host_name_of}
use Rattle.kernel_types.specs.{Names.{host_mac_of, inner_mac_of}, Terms.new_link, declared.call.Call.Call}
use Rattle.kernel_types.specs.declared.{call.{Call.TheVariants.ForwardEnsure, Given.Given}, object.AddrObj.AddrObj}
use Rattle.kernel_types.specs.declared.object.{Att.Att, Link.Link, LinkKey.LinkKey, LinkKind.TheVariants.Veth}
use Rattle.kernel_types.specs.declared.object.{LinkKind.TheVariants.Macvlan, RouteObj.RouteObj, Tag.TheVariants.Own}
use Rattle.kernel_types.specs.declared.rule.{Chain.{Chain, TheVariants.Masq}, Rule.Rule, Table.{Table, TheVariants.Nat}}
use Rattle.kernel_types.specs.declared.rule.Target.{Target, TheVariants.{Accept, Masquerade}}
use Rattle.plugin_base.specs.Families.{family_gateway, has_family}

-- ---- networks that rules and routes speak of

-- every address of the family
abbrev pub default_route : Family → Cidr
default_route family = record { addr = record { family = family; bits = 0 }; prefix = 0 }

-- `224.0.0.0/4` (RFC 5771) and `ff00::/8` (RFC 4291)
abbrev pub multicast : Family → Cidr
multicast V4 = record { addr = record { family = V4; bits = 14 * 2 ^ 28 }; prefix = 4 }
multicast V6 = record { addr = record { family = V6; bits = 255 * 2 ^ 120 }; prefix = 8 }

-- ---- links

-- where the host's end of the attachment is, and where the container's
abbrev pub host_key : Att → LinkKey
host_key att = record { ns = []; name = host_name_of att }

abbrev pub inner_key : Att → List ℕ → LinkKey
inner_key att netns = record { ns = netns; name = att.ifname }

abbrev pub host_end : Att → List ℕ → Option (List ℕ) → ℕ → Bool → Link
host_end att netns master mtu hairpin = record (new_link (host_key att) Veth (host_mac_of att) mtu (Own att)) {
  master = master;
  peer = Some (inner_key att netns);
  hairpin = hairpin;
}

abbrev pub inner_end : Att → List ℕ → ℕ → Link
inner_end att netns mtu =
    record (new_link (inner_key att netns) Veth (inner_mac_of att) mtu (Own att)) { peer = Some (host_key att) }

abbrev pub macvlan_link : Att → List ℕ → List ℕ → MacvlanMode → ℕ → Link
macvlan_link att netns master mode mtu =
    record (new_link (inner_key att netns) (Macvlan mode) (inner_mac_of att) mtu (Own att)) { master = Some master }

-- ---- on an end

abbrev pub address_at : Att → LinkKey → Cidr → AddrObj
address_at att key cidr = record { ns = key.ns; link = key.name; cidr = cidr; tag = Own att }

abbrev pub route_at : Att → LinkKey → Cidr → Option Addr → RouteObj
route_at att key dst gw = record { ns = key.ns; dst = dst; link = key.name; gw = gw; tag = Own att }

-- ---- on the container's end

abbrev pub address_on : Att → List ℕ → Given → AddrObj
address_on att netns g = address_at att (inner_key att netns) g.address

-- the route's own gateway, else the first given address's of its family
abbrev pub gateway_for : List Given → RouteEntry → Option Addr
gateway_for given r = option_or r.gw (family_gateway r.dst.addr.family given)

abbrev pub route_by : Att → List ℕ → Cidr → Option Addr → RouteObj
route_by att netns dst gw = route_at att (inner_key att netns) dst gw

abbrev pub route_on : Att → List ℕ → List Given → RouteEntry → RouteObj
route_on att netns given r = route_by att netns r.dst (gateway_for given r)

-- ---- rules

-- a rule of the attachment for every packet of the chain, where its target has an address for those of its family
abbrev pub rule_for_all : Att → Table → Chain → Target → Rule
rule_for_all att table chain target = record {
  table = table;
  chain = chain;
  src = None;
  dst = None;
  not_dst = false;
  protocol = None;
  dport = None;
  established = false;
  target = target;
  tag = Own att;
}

-- from the address into its subnet: as it is
abbrev pub no_masquerade_in_subnet : Att → Given → Rule
no_masquerade_in_subnet att g =
    record (rule_for_all att Nat Masq Accept) { src = Some (whole g.address.addr); dst = Some g.subnet }

-- from the address to anywhere but multicast: masqueraded
abbrev pub masquerade_out : Att → Given → Rule
masquerade_out att g = record (rule_for_all att Nat Masq Masquerade) {
  src = Some (whole g.address.addr);
  dst = Some (multicast g.address.addr.family);
  not_dst = true;
}

abbrev pub masquerade_of : Att → Given → List Rule
masquerade_of att g = no_masquerade_in_subnet att g ∷ masquerade_out att g ∷ []

-- ---- for all given addresses

abbrev pub addresses_on : Att → List ℕ → List Given → List AddrObj
addresses_on att netns given = each_key_once is_same_addr (map (address_on att netns) given)

abbrev pub routes_on : Att → List ℕ → List Given → List RouteEntry → List RouteObj
routes_on att netns given entries = each_key_once is_same_route (map (route_on att netns given) entries)

abbrev pub masquerade_rules : Bool → Att → List Given → List Rule
masquerade_rules ip_masq att given = if ip_masq then each_key_once rule_eq (flat_map (masquerade_of att) given) else []

-- the host forwards for the families of the given addresses, IPv4 first
abbrev pub forward_for : Family → List Given → List Call
forward_for family given = if has_family family given then ForwardEnsure family ∷ [] else []

abbrev pub forward_calls : List Given → List Call
forward_calls given = forward_for V4 given ++ forward_for V6 given
