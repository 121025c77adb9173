-- The kernel, and the packets on its host.
pub use Rattle.kernel_types.proofs.{Cases.own-own, ListLemmas.list_all-weaker}
pub use Rattle.kernel_types.specs.{Equal.{addr_eq, chain_eq, lease_eq, rule_eq, family_eq, proto_eq}, Terms.cached_in}
pub use Rattle.kernel_types.specs.{Terms.is_own, declared.{call.Given.Given, object.{Att.Att, CachedObj.CachedObj}}}
pub use Rattle.kernel_types.specs.declared.object.{Host.Host, Lease.Lease, Tag.{Tag, TheVariants.{Outside, Base, Own}}}
pub use Rattle.kernel_types.specs.declared.rule.{Chain.Chain, Rule.Rule, Target.Target}
pub use Rattle.cni_result.specs.declared.{cached.{Cached.Cached, PortMapping.PortMapping}, result.IpEntry.IpEntry}
pub use Rattle.packet_probe.specs.Fate.{any_match, fate_of, matches, matches_in, first_match, is_masqueraded, asks}
pub use Rattle.packet_probe.specs.{Fate.{fate_at, sent_by}, Value.IsPacket, declared.packet.{Fate.Fate, Packet.Packet}}
