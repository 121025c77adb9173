-- Packets go as the cached results say: to published ports, out of networks that masquerade, and through to containers
-- with `firewall`.
use Rattle.std.specs.{List.list_any, Option.option_map_or, Prelude.{◌≡◌, ◌==◌, Bool, true, false, not, ◌&&◌, ◌||◌}}
use Rattle.std.specs.Prelude.{List, [], ◌∷◌, ◌++◌, find, filter, Some, unwrap_or, option_map}
use Rattle.cni_addr.specs.{Lists.IsAmong, Network.contains, declared.address.Addr.Addr}
use Rattle.cni_result.specs.declared.cached.{Cached.Cached, PortMapping.PortMapping}
use Rattle.cni_verbs.specs.Mappings.{takes_mappings}
use Rattle.verb_questions.specs.Questions.{addresses_of_result}
use Rattle.kernel_types.specs.{Equal.{addr_eq, proto_eq}, Terms.lease_of, declared.{call.Given.Given, object.Att.Att}}
use Rattle.kernel_types.specs.declared.object.{CachedObj.CachedObj, Host.Host, Tag.{Tag, TheVariants.{Outside, Base}}}
use Rattle.kernel_types.specs.declared.{object.Tag.TheVariants.Own, rule.Rule.Rule}
use Rattle.kernel_types.specs.declared.rule.Chain.TheVariants as chains
use Rattle.net_conf.specs.declared.chained.Chained.{Chained, TheVariants.{Portmap, Firewall, Tuning}}
use Rattle.net_conf.specs.declared.{first.First.{First, TheVariants.{Bridge, Ptp, Macvlan}}, list.NetList.NetList}
use Rattle.packet_probe.specs.{Fate.{any_match, asks, fate_of, rewriting}, Value.IsPacket, declared.packet.Fate.Fate}
use Rattle.packet_probe.specs.declared.packet.Packet.{Packet}
use Rattle.plugin_base.specs.{Families.first_of_family, Shapes.multicast}
use Rattle.plugin_chain.specs.Wanted.{given_by_list}
use Rattle.pod_workers.specs.{Legal.Legal, Plans.list_named, World.{World, host_of}, declared.plan.Plan.Plan}
use Rattle.portmap.specs.Portmap.{dnat_of}
use Rattle.packet_laws.specs.Complete.{IsAttached, IsComplete}

-- ---- published ports

-- the mapping is of the packet's destination or of every address of the host, and of its protocol and port
abbrev pub is_for : Packet → PortMapping → Bool
is_for packet m =
    asks (λ ip. addr_eq ip packet.dst) m.host_ip
    && (proto_eq packet.protocol m.protocol && packet.dport == m.host_port)

-- a port mapping of an attachment, and where it leads
pub record PublishedPort : Type 0 where
  pub att : Att
  pub mapping : PortMapping
  pub addr : Addr

abbrev pub rule_by : PublishedPort → Rule
rule_by port = dnat_of port.att port.mapping port.addr

-- the attachment publishes the packet's port by this mapping, and the address is its first of the packet's family
pub record IsPublished (p : Plan) (host : Host) (packet : Packet) (port : PublishedPort) : Type 0 where
  pub list : NetList
  pub cached : Cached
  pub attached : IsAttached p host port.att list cached
  pub takes : list_any takes_mappings list.chained ≡ true
  pub mapped : IsAmong port.mapping cached.mappings
  pub fits : is_for packet port.mapping ≡ true
  pub first : option_map (λ ip. ip.address.addr) (first_of_family packet.dst.family cached.result.ips) ≡ Some port.addr

-- and its rule stands before those of all others that publish it
pub record IsFirstPublished (p : Plan) (host : Host) (packet : Packet) (port : PublishedPort) : Type 0 where
  pub published : IsPublished p host packet port
  pub before : List Rule
  pub after : List Rule
  pub stands : host.rules ≡ before ++ rule_by port ∷ after
  pub none_before : (other : PublishedPort) → IsPublished p host packet other → IsAmong (rule_by other) before → ⊥

-- where some attachment publishes its port the packet is sent on to the first that does; else it isn't
pub data IsRewrittenAsPublished (p : Plan) (host : Host) (packet : Packet) (fate : Fate) : Type 0 where
  sent : (port : PublishedPort) → IsFirstPublished p host packet port → fate.rewritten ≡ true
      → fate.dst ≡ port.addr → fate.dport ≡ port.mapping.container_port → IsRewrittenAsPublished p host packet fate
  left : ((port : PublishedPort) → IsPublished p host packet port → ⊥) → fate.rewritten ≡ false
      → IsRewrittenAsPublished p host packet fate

-- ---- what leaves a container

-- of all leases of the address, in whatever network, the one is the attachment's
abbrev pub IsOnlyLessee : Host → Att → Addr → Type 0
IsOnlyLessee host att addr = filter (λ l. addr_eq l.addr addr) host.leases ≡ lease_of att addr ∷ []

abbrev pub has_ip_masq : First → Bool
has_ip_masq (Bridge conf) = conf.ip_masq
has_ip_masq (Ptp conf) = conf.ip_masq
has_ip_masq (Macvlan conf) = false

-- it goes neither into the subnet of the given address nor to many
abbrev pub is_outward : Given → Addr → Bool
is_outward g dst = not (contains g.subnet dst) && not (contains (multicast g.address.addr.family) dst)

-- it is masqueraded exactly where the attachment's list has `ipMasq` and it goes outward, by the range that holds the
-- leased address
pub record IsMasqueradedAsListed (p : Plan) (host : Host) (att : Att) (src : Addr) (fate : Fate) : Type 0 where
  pub list : NetList
  pub cached : Cached
  pub attached : IsAttached p host att list cached
  pub given : Given
  pub is_given : find (λ g. addr_eq g.address.addr src) (given_by_list list (addresses_of_result cached.result))
      ≡ Some given
  pub exactly : fate.masqueraded ≡ (has_ip_masq list.first && is_outward given fate.dst)

-- ---- what is let through

abbrev pub is_firewall : Chained → Bool
is_firewall (Portmap conf) = false
is_firewall (Firewall conf) = true
is_firewall (Tuning conf) = false

-- the network of the attachment with this tag has a list with `firewall`
abbrev pub has_firewall : Plan → Tag → Bool
has_firewall p Outside = false
has_firewall p Base = false
has_firewall p (Own att) =
    option_map_or (λ (list : NetList). list_any is_firewall list.chained) (list_named p.lists att.network) false

abbrev pub has_address : Cached → Addr → Bool
has_address cached addr = list_any (addr_eq addr) (addresses_of_result cached.result)

-- the cached result is of an attachment with `firewall` that the packet comes from, or that it goes to in a connection
-- that stands
abbrev pub lets_through : Plan → Packet → CachedObj → Bool
lets_through p packet c =
    has_firewall p c.tag
    && (has_address c.cached packet.src || (packet.established && has_address c.cached packet.dst))

-- ---- all of it

-- Unless it is established the packet is sent on as its port is published, and masqueraded as the list of the only
-- lessee of its source says, if at the destination that it then has no rule of a published port masquerades it. It is
-- let through exactly as the attachments with `firewall` say.
pub record GoesAsCached (p : Plan) (host : Host) (packet : Packet) : Type 0 where
  pub rewritten : packet.established ≡ false → IsRewrittenAsPublished p host packet (fate_of host packet)
  pub masqueraded : packet.established ≡ false → (att : Att) → IsOnlyLessee host att packet.src
      → any_match chains.HostMasq host.rules (unwrap_or (rewriting host.rules packet) packet) ≡ false
      → IsMasqueradedAsListed p host att packet.src (fate_of host packet)
  pub accepted : (fate_of host packet).accepted ≡ list_any (lets_through p packet) host.cached

-- where the host is complete each packet goes so
abbrev pub PacketsGoAsCached : World → Type 0
PacketsGoAsCached w = IsComplete w.plan (host_of w) → (packet : Packet) → IsPacket packet
    → GoesAsCached w.plan (host_of w) packet

-- in every legal world
abbrev pub EveryPacketGoesAsCached : Type 0
EveryPacketGoesAsCached = (w : World) → Legal w → PacketsGoAsCached w
