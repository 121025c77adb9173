-- A call of one attachment leaves the share of every other.
use Rattle.std.proofs.{Common.{◌≡◌, true, false, not, ◌&&◌, refl, ◌∙◌, ap}, lemmas.Bool.and_parts}
use Rattle.kernel_types.specs.{Allowed.IsAllowed, Apply.apply, Equal.att_eq, Isolation.{KeepsPart, names_att}}
use Rattle.kernel_types.specs.{Isolation.is_from_outside, Sound.IsSound, Terms.is_own, declared.call.Call.Call}
use Rattle.kernel_types.specs.declared.call.Call.TheVariants.{Begin, BridgeEnsure, GatewayEnsure, ForwardEnsure}
use Rattle.kernel_types.specs.declared.call.Call.TheVariants.{VethAdd, MacvlanAdd, LinkSet, AddrAdd, RouteAdd}
use Rattle.kernel_types.specs.declared.call.Call.TheVariants.{RuleAppend, SettingSet, LeaseNext, CachePut, LinkDel}
use Rattle.kernel_types.specs.declared.call.Call.TheVariants.{RuleDel, SettingDel, LeaseDel, CacheDel, CacheGet}
use Rattle.kernel_types.specs.declared.object.{Att.Att, Host.Host}
use Rattle.kernel_types.proofs.{EveryCall.Touches-apply, Isolation.{KeepsPart-Touches, att_eq-same, own_apart}}
use Rattle.plugin_base.specs.{Calls.{is_beside_plugins, is_plugin_call_of, is_call_of}, Share.share_of}

-- the same objects of the attachment are the same share
pub share-KeepsPart : (att : Att) (old new : Host) → KeepsPart att old new → share_of att new ≡ share_of att old
share-KeepsPart att old new keeps =
    rw (keeps.links, keeps.addresses, keeps.routes, keeps.rules, keeps.settings, keeps.leases, keeps.cached) refl

-- a call of this attachment names no other, and it doesn't come from outside
pub record IsApart (other : Att) (call : Call) : Type 0 where
  pub inside : is_from_outside call ≡ false
  pub unnamed : names_att other call ≡ false

apart_att : (att other own : Att) → att_eq att other ≡ false → att_eq own att ≡ true → att_eq own other ≡ false
apart_att att other own differ is = ap (λ a. att_eq a other) (att_eq-same own att is) ∙ differ

pub call-apart : (att other : Att) (call : Call) → att_eq att other ≡ false → is_call_of att call ≡ true
    → IsApart other call
call-apart att other (Begin a netns) differ is = record { inside = refl; unnamed = apart_att att other a differ is }
call-apart att other (BridgeEnsure name mtu promisc) differ is = record { inside = refl; unnamed = refl }
call-apart att other (GatewayEnsure bridge cidr) differ is = record { inside = refl; unnamed = refl }
call-apart att other (ForwardEnsure family) differ is = record { inside = refl; unnamed = refl }
call-apart att other (VethAdd h i) differ is = record {
  inside = refl;
  unnamed = ap (λ b. b && is_own other i.tag)
      (own_apart att other differ h.tag (and_parts (is_own att h.tag) (is_own att i.tag) is).0);
}
call-apart att other (MacvlanAdd link) differ is =
    record { inside = refl; unnamed = own_apart att other differ link.tag is }
call-apart att other (LinkSet a key mac mtu tx_qlen promisc allmulti) differ is =
    record { inside = refl; unnamed = apart_att att other a differ is }
call-apart att other (AddrAdd obj) differ is = record { inside = refl; unnamed = own_apart att other differ obj.tag is }
call-apart att other (RouteAdd obj) differ is =
    record { inside = refl; unnamed = own_apart att other differ obj.tag is }
call-apart att other (RuleAppend rule) differ is =
    record { inside = refl; unnamed = own_apart att other differ rule.tag is }
call-apart att other (SettingSet setting) differ is =
    record { inside = refl; unnamed = own_apart att other differ setting.tag is }
call-apart att other (LeaseNext a number set) differ is =
    record { inside = refl; unnamed = apart_att att other a differ is }
call-apart att other (CachePut a cached) differ is = record { inside = refl; unnamed = apart_att att other a differ is }
call-apart att other (LinkDel a) differ is = record { inside = refl; unnamed = apart_att att other a differ is }
call-apart att other (RuleDel a) differ is = record { inside = refl; unnamed = apart_att att other a differ is }
call-apart att other (SettingDel a) differ is = record { inside = refl; unnamed = apart_att att other a differ is }
call-apart att other (LeaseDel a) differ is = record { inside = refl; unnamed = apart_att att other a differ is }
call-apart att other (CacheDel a) differ is = record { inside = refl; unnamed = apart_att att other a differ is }
call-apart att other (CacheGet a) differ is = record { inside = refl; unnamed = apart_att att other a differ is }
call-apart att other _ differ is = cc

-- a call of one attachment that may be made leaves the share of every other
pub share-other : (att other : Att) (host : Host) (call : Call) → att_eq att other ≡ false → IsSound host
    → IsAllowed host call → is_call_of att call ≡ true → share_of other (apply host call).0 ≡ share_of other host
share-other att other host call differ sound allowed is =
    let apart = call-apart att other call differ is in
    share-KeepsPart other host (apply host call).0 (KeepsPart-Touches call other host
    (apply host call).0 allowed apart.inside apart.unnamed (Touches-apply host call sound allowed))

-- a plugin's call is one of the attachment
pub call-plugin : (att : Att) (call : Call) → is_plugin_call_of att call ≡ true → is_call_of att call ≡ true
call-plugin att call is = (and_parts (not (is_beside_plugins call)) (is_call_of att call) is).1
