-- The calls of both plugins are the attachment's own.
use Rattle.std.proofs.Common.{◌≡◌, ℕ, true, false, List, [], ◌∷◌, Option, None, map, codes, refl, arith}
use Rattle.std.specs.List.{list_all}
use Rattle.kernel_types.specs.{Apply.Calls.is_same_addr, Terms.{fits_master, is_host_ns}}
use Rattle.kernel_types.specs.declared.{call.{Call.TheVariants.AddrAdd, Kind.TheVariants.Links}, object.Link.Link}
use Rattle.kernel_types.specs.declared.object.LinkKind.{LinkKind, TheVariants.{Dummy, Vlan}}
use Rattle.kernel_types.proofs.Cases.{att_eq-refl}
use Rattle.plugin_base.specs.Shapes.{address_on, addresses_on}
use Rattle.plugin_base.proofs.PluginCalls.{passes-once}
use Rattle.plugin_registry.specs.{Needs.{IsAskable, value_of}, Own.{OwnCalls, is_own_call, is_own_inner_link}}
use Rattle.plugin_registry.specs.declared.ask.Ask.{Ask}
use Rattle.dummy_vlan.specs.DummyVlan.{calls_with, dummy_calls_of, dummy_link_of, dummy_needs_of, inner_link}
use Rattle.dummy_vlan.specs.DummyVlan.{vlan_calls_of, vlan_id_of, vlan_link_of, vlan_needs_of}
use Rattle.dummy_vlan.proofs.Options.{master_there, vlan_master_met}

own-link : (ask : Ask) (kind : LinkKind) (master : Option (List ℕ)) → is_host_ns ask.netns ≡ false
    → fits_master kind master ≡ true → is_own_inner_link ask.att (inner_link ask kind master) ≡ true
own-link ask kind master inner fits = grind (arith, att_eq-refl ask.att, inner, fits)

own-addresses : (ask : Ask)
    → list_all (is_own_call ask.att (Links ∷ [])) (map AddrAdd (addresses_on ask.att ask.netns ask.given)) ≡ true
own-addresses ask = passes-once (is_own_call ask.att (Links ∷ [])) AddrAdd is_same_addr
    (address_on ask.att ask.netns) (λ g. grind (arith, att_eq-refl ask.att)) ask.given

own-with : (ask : Ask) (link : Link) → is_own_inner_link ask.att link ≡ true
    → OwnCalls ask (Links ∷ []) (calls_with ask link)
own-with ask link own = grind (arith, own, own-addresses ask)

pub own_dummy : (ask : Ask) → IsAskable dummy_needs_of ask → OwnCalls ask (Links ∷ []) (dummy_calls_of ask)
own_dummy ask h = own-with ask (dummy_link_of ask) (own-link ask Dummy None h.container refl)

pub own_vlan : (ask : Ask) → IsAskable vlan_needs_of ask → OwnCalls ask (Links ∷ []) (vlan_calls_of ask)
own_vlan ask h =
    let there = master_there ask.options (vlan_master_met ask h) in
    own-with ask (vlan_link_of ask)
    (own-link ask (Vlan (vlan_id_of ask.options)) (value_of (codes "master") ask.options) h.container there)
