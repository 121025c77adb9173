-- The plugins, their lists, and the runs of them.
pub use Rattle.net_conf.specs.declared.{chained.Chained.Chained, list.NetList.NetList}
pub use Rattle.plugin_base.specs.{Families.first_of_family, Shapes.{masquerade_of, masquerade_out, masquerade_rules}}
pub use Rattle.plugin_base.specs.{Shapes.{multicast, no_masquerade_in_subnet}, Share.share_of}
pub use Rattle.host_local.specs.Laws.{AreCandidates, CandidatesAreGiven}
pub use Rattle.portmap.specs.Portmap.{dnat_of, host_ip_allows, portmap_rules}
pub use Rattle.firewall_tuning.specs.Firewall.{accept_from, accept_replies_to, firewall_rules}
pub use Rattle.plugin_chain.specs.Wanted.{given_by_list, sets_of}
pub use Rattle.cni_verbs.specs.Mappings.{takes_mappings}
pub use Rattle.verb_questions.specs.Questions.{addresses_of_result}
pub use Rattle.pod_workers.specs.{Plans.list_named, World.host_of, declared.plan.Plan.Plan}
pub use Rattle.pod_laws.proofs.Parts.{among-part}
pub use Rattle.pod_laws.specs.{AskedFor.IsPart, Checked.are_in, Guaranteed.EveryLegalHistoryIsGuaranteed}
