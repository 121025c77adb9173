-- What a call leaves of the objects that are not its attachment's.
use Rattle.std.specs.Prelude.{◌≡◌, Bool, true, false, not, ◌&&◌, filter, Option, Some, None}
use Rattle.kernel_types.specs.{Equal.att_eq, Terms.{is_own, is_owned}, Touch.DropsOnly, declared.call.Call.Call}
use Rattle.kernel_types.specs.declared.call.Call.TheVariants.{Begin, BridgeEnsure, GatewayEnsure, ForwardEnsure}
use Rattle.kernel_types.specs.declared.call.Call.TheVariants.{VethAdd, MacvlanAdd, LinkSet, AddrAdd, RouteAdd}
use Rattle.kernel_types.specs.declared.call.Call.TheVariants.{RuleAppend, SettingSet, LeaseNext, CachePut, LinkDel}
use Rattle.kernel_types.specs.declared.call.Call.TheVariants.{RuleDel, SettingDel, LeaseDel, CacheDel, CacheGet}
use Rattle.kernel_types.specs.declared.{call.Call.TheVariants.{NsChange, Outside}, object.{Att.Att, Host.Host, Tag.Tag}}

-- each tagged list has the same objects whose tag passes, in the same order
pub record KeepsWhere (test : Tag → Bool) (old new : Host) : Type 0 where
  pub namespaces : filter (λ n. test n.tag) new.namespaces ≡ filter (λ n. test n.tag) old.namespaces
  pub links : filter (λ l. test l.tag) new.links ≡ filter (λ l. test l.tag) old.links
  pub addresses : filter (λ a. test a.tag) new.addresses ≡ filter (λ a. test a.tag) old.addresses
  pub routes : filter (λ r. test r.tag) new.routes ≡ filter (λ r. test r.tag) old.routes
  pub rules : filter (λ r. test r.tag) new.rules ≡ filter (λ r. test r.tag) old.rules
  pub settings : filter (λ s. test s.tag) new.settings ≡ filter (λ s. test s.tag) old.settings
  pub leases : filter (λ l. test l.tag) new.leases ≡ filter (λ l. test l.tag) old.leases
  pub cached : filter (λ c. test c.tag) new.cached ≡ filter (λ c. test c.tag) old.cached

-- the attachment's objects are the same
abbrev pub KeepsPart : Att → Host → Host → Type 0
KeepsPart att old new = KeepsWhere (is_own att) old new

-- the objects that no attachment owns are the same
abbrev pub KeepsUnowned : Host → Host → Type 0
KeepsUnowned old new = KeepsWhere (λ t. not (is_owned t)) old new

-- the call names this attachment, itself or by the tag of all that it makes
abbrev pub names_att : Att → Call → Bool
names_att att (Begin a netns) = att_eq a att
names_att att (VethAdd host_end inner_end) = is_own att host_end.tag && is_own att inner_end.tag
names_att att (MacvlanAdd link) = is_own att link.tag
names_att att (LinkSet a key mac mtu tx_qlen promisc allmulti) = att_eq a att
names_att att (AddrAdd obj) = is_own att obj.tag
names_att att (RouteAdd obj) = is_own att obj.tag
names_att att (RuleAppend rule) = is_own att rule.tag
names_att att (SettingSet setting) = is_own att setting.tag
names_att att (LeaseNext a number set) = att_eq a att
names_att att (CachePut a cached) = att_eq a att
names_att att (LinkDel a) = att_eq a att
names_att att (RuleDel a) = att_eq a att
names_att att (SettingDel a) = att_eq a att
names_att att (LeaseDel a) = att_eq a att
names_att att (CacheDel a) = att_eq a att
names_att att (CacheGet a) = att_eq a att
names_att att call = false

-- the call comes from outside
abbrev pub is_from_outside : Call → Bool
is_from_outside (NsChange name add) = true
is_from_outside (Outside change) = true
is_from_outside call = false

-- the call ensures something that attachments share
abbrev pub ensures_shared : Call → Bool
ensures_shared (BridgeEnsure name mtu promisc) = true
ensures_shared (GatewayEnsure bridge cidr) = true
ensures_shared (ForwardEnsure family) = true
ensures_shared call = false

-- the attachment of which the call deletes objects
abbrev pub deletes_for : Call → Option Att
deletes_for (LinkDel att) = Some att
deletes_for (RuleDel att) = Some att
deletes_for (SettingDel att) = Some att
deletes_for (LeaseDel att) = Some att
deletes_for (CacheDel att) = Some att
deletes_for call = None

-- objects of the attachment are removed, and all else stands as it stood
pub record RemovesOwn (att : Att) (old new : Host) : Type 0 where
  pub namespaces : new.namespaces ≡ old.namespaces
  pub links : DropsOnly (λ l. is_own att l.tag) old.links new.links
  pub addresses : DropsOnly (λ a. is_own att a.tag) old.addresses new.addresses
  pub routes : DropsOnly (λ r. is_own att r.tag) old.routes new.routes
  pub rules : DropsOnly (λ r. is_own att r.tag) old.rules new.rules
  pub settings : DropsOnly (λ s. is_own att s.tag) old.settings new.settings
  pub leases : DropsOnly (λ l. is_own att l.tag) old.leases new.leases
  pub cached : DropsOnly (λ c. is_own att c.tag) old.cached new.cached
  pub lasts : new.lasts ≡ old.lasts
