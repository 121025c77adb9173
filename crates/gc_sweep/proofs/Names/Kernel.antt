-- The kernel: its calls, objects and replies.
pub use Rattle.kernel_types.proofs.{Cases.att_eq-refl, Isolation.{att_eq-laws, is_own-one}, ListLemmas.list_all-weaker}
pub use Rattle.kernel_types.proofs.{ListLemmas.{list_any-map, list_all-map, passes-find}, Removal.goes_with-itself}
pub use Rattle.kernel_types.proofs.TouchRemoval.{by_bool, list_all-both, is_own-tag_eq}
pub use Rattle.kernel_types.specs.{Allowed.IsAllowed, Apply.{apply, Calls.{tags_of, owner_in, goes_with, without_link}}}
pub use Rattle.kernel_types.specs.{Equal.att_eq, Isolation.RemovesOwn, Replies.is_fault, Sound.IsSound, Terms.is_own}
pub use Rattle.kernel_types.specs.{Touch.{TouchesOwn, DropsOnly}, declared.call.Call.{Call, TheVariants.OwnersOf}}
pub use Rattle.kernel_types.specs.declared.call.Call.TheVariants.{VethAdd, MacvlanAdd, LinkSet, AddrAdd, RouteAdd}
pub use Rattle.kernel_types.specs.declared.call.{Call.TheVariants.{RuleAppend, SettingSet, CachePut}, Kind.Kind}
pub use Rattle.kernel_types.specs.declared.call.{Kind.TheVariants.{Links, Rules, Settings, Leases, Cached}, Reply.Reply}
pub use Rattle.kernel_types.specs.declared.{call.Reply.TheVariants.{Gone, Fault}, object.{AddrObj.AddrObj, Att.Att}}
pub use Rattle.kernel_types.specs.declared.object.{CachedObj.CachedObj, Host.Host, Lease.Lease, Link.Link, NsObj.NsObj}
pub use Rattle.kernel_types.specs.declared.object.{RouteObj.RouteObj, Setting.Setting, Tag.{Tag, TheVariants.Outside}}
pub use Rattle.kernel_types.specs.declared.{object.Tag.TheVariants.{Base, Own}, rule.Rule.Rule}
