-- The calls that a plugin of a registry may give are a plugin's calls: well formed, for the attachment, of its kinds.
use Rattle.std.proofs.Common.{◌≡◌, ◌∙◌, Bool, true, false, is_none, List, Option, Some, None, refl, sym}
use Rattle.std.proofs.lemmas.Bool.{and_parts, not-true}
use Rattle.kernel_types.specs.{Allowed.{IsInnerLink, IsVethPair}, declared.call.Call.{Call, TheVariants.VethAdd}}
use Rattle.kernel_types.specs.declared.call.Call.TheVariants.{MacvlanAdd, AddrAdd, RouteAdd, RuleAppend, SettingSet}
use Rattle.kernel_types.specs.declared.{call.Kind.Kind, object.{Att.Att, Link.Link}}
use Rattle.kernel_types.proofs.Isolation.{is_own-one, is_own-owned}
use Rattle.plugin_base.specs.Calls.{IsWellFormedCall, is_of_kinds, is_plugin_call_of}
use Rattle.plugin_registry.specs.Own.{IsPluginCall, is_own_call, is_own_inner_link, is_own_pair}

-- the call makes objects of an attachment: links, an address, a route, a rule or a setting
abbrev pub makes_objects : Call → Bool
makes_objects (VethAdd host_end inner_end) = true
makes_objects (MacvlanAdd link) = true
makes_objects (AddrAdd obj) = true
makes_objects (RouteAdd obj) = true
makes_objects (RuleAppend rule) = true
makes_objects (SettingSet setting) = true
makes_objects call = false

pub own-makes : (att : Att) (ks : List Kind) (call : Call) → is_own_call att ks call ≡ true → makes_objects call ≡ true
own-makes att ks (VethAdd host_end inner_end) is = refl
own-makes att ks (MacvlanAdd link) is = refl
own-makes att ks (AddrAdd obj) is = refl
own-makes att ks (RouteAdd obj) is = refl
own-makes att ks (RuleAppend rule) is = refl
own-makes att ks (SettingSet setting) is = refl
own-makes att ks call is = is

alone : {X : Type 0} (peer : Option X) → is_none peer ≡ true → peer ≡ None
alone None is = refl
alone (Some x) is = absurd cc

own-pair : (att : Att) (host_end inner_end : Link) → is_own_pair att host_end inner_end ≡ true
    → IsVethPair host_end inner_end
own-pair att host_end inner_end is =
    let (owns, rest) = and_parts _ _ is in
    let (own_host, own_inner) = and_parts _ _ owns in
    let (kinds, rest) = and_parts _ _ rest in
    let (peers, places) = and_parts _ _ rest in
    record {
      host_kind = (and_parts _ _ kinds).0;
      inner_kind = (and_parts _ _ kinds).1;
      owned = is_own-owned att host_end.tag own_host;
      same_tag = is_own-one att inner_end.tag own_inner ∙ sym (is_own-one att host_end.tag own_host);
      to_inner = (and_parts _ _ peers).0;
      to_host = (and_parts _ _ peers).1;
      outer = (and_parts _ _ places).0;
      inner = not-true _ (and_parts _ _ places).1;
    }

own-inner : (att : Att) (link : Link) → is_own_inner_link att link ≡ true → IsInnerLink link
own-inner att link is =
    let (own, rest) = and_parts _ _ is in
    let (fits, rest) = and_parts _ _ rest in
    record {
      fits = fits;
      owned = is_own-owned att link.tag own;
      alone = alone link.peer (and_parts _ _ rest).0;
      inner = not-true _ (and_parts _ _ rest).1;
    }

pub own-well_formed : (att : Att) (ks : List Kind) (call : Call) → is_own_call att ks call ≡ true
    → IsWellFormedCall call
own-well_formed att ks (VethAdd host_end inner_end) is = own-pair att host_end inner_end (and_parts _ _ is).0
own-well_formed att ks (MacvlanAdd link) is = own-inner att link (and_parts _ _ is).0
own-well_formed att ks (AddrAdd obj) is = is_own-owned att obj.tag (and_parts _ _ is).0
own-well_formed att ks (RouteAdd obj) is = is_own-owned att obj.tag (and_parts _ _ is).0
own-well_formed att ks (RuleAppend rule) is = is_own-owned att rule.tag (and_parts _ _ is).0
own-well_formed att ks (SettingSet setting) is =
    let (own, inner) = and_parts _ _ (and_parts _ _ is).0 in (is_own-owned att setting.tag own, not-true _ inner)
own-well_formed att ks call is = absurd cc

pub own-for_attachment : (att : Att) (ks : List Kind) (call : Call) → is_own_call att ks call ≡ true
    → is_plugin_call_of att call ≡ true
own-for_attachment att ks (VethAdd host_end inner_end) is = (and_parts _ _ (and_parts _ _ is).0).0
own-for_attachment att ks (MacvlanAdd link) is = (and_parts _ _ (and_parts _ _ is).0).0
own-for_attachment att ks (AddrAdd obj) is = (and_parts _ _ is).0
own-for_attachment att ks (RouteAdd obj) is = (and_parts _ _ is).0
own-for_attachment att ks (RuleAppend rule) is = (and_parts _ _ is).0
own-for_attachment att ks (SettingSet setting) is = (and_parts _ _ (and_parts _ _ is).0).0
own-for_attachment att ks call is = absurd cc

pub own-of_kinds : (att : Att) (ks : List Kind) (call : Call) → is_own_call att ks call ≡ true
    → is_of_kinds ks call ≡ true
own-of_kinds att ks (VethAdd host_end inner_end) is = (and_parts _ _ is).1
own-of_kinds att ks (MacvlanAdd link) is = (and_parts _ _ is).1
own-of_kinds att ks (AddrAdd obj) is = (and_parts _ _ is).1
own-of_kinds att ks (RouteAdd obj) is = (and_parts _ _ is).1
own-of_kinds att ks (RuleAppend rule) is = (and_parts _ _ is).1
own-of_kinds att ks (SettingSet setting) is = (and_parts _ _ is).1
own-of_kinds att ks call is = absurd cc

pub own-plugin_call : (att : Att) (ks : List Kind) (call : Call) → is_own_call att ks call ≡ true
    → IsPluginCall att ks call
own-plugin_call att ks call is = record {
  well_formed = own-well_formed att ks call is;
  for_attachment = own-for_attachment att ks call is;
  of_kinds = own-of_kinds att ks call is;
}
