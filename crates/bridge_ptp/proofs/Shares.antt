-- What the calls of `bridge` and `ptp` after the leases add to a share.
use Rattle.std.proofs.Common.{◌≡◌, ℕ, ap, List, [], ◌∷◌, ◌++◌, map, refl, sym, ◌∙◌, append_assoc}
use Rattle.std.proofs.lemmas.List.{append-nil}
use Rattle.std.specs.Prelude.{filter_map}
use Rattle.net_conf.specs.{BridgeModes.is_gateway, declared.first.{BridgeConf.BridgeConf, PtpConf.PtpConf}}
use Rattle.kernel_types.specs.declared.call.{Call.TheVariants.{AddrAdd, RouteAdd, RuleAppend}, Given.Given}
use Rattle.kernel_types.specs.declared.object.Att.{Att}
use Rattle.plugin_base.specs.{Plugins.added_after, Shapes.{addresses_on, routes_on, masquerade_rules, forward_calls}}
use Rattle.plugin_base.specs.Share.{Share, share_after_call, share_after_calls, share_plus}
use Rattle.plugin_base.proofs.{Appends.share-laid_on, CallLists.{share_after_calls-then, share_after_calls-forward}}
use Rattle.plugin_base.proofs.CallLists.{share_after_calls-if, share_after_calls-shared_rules, share_plus-laid_on}
use Rattle.bridge_ptp.specs.Bridge.{bridge_calls_after, bridge_entries, bridge_plugin, gateway_calls}
use Rattle.bridge_ptp.specs.{Gateways.{gateway_call, gateways_on}, Ptp.{AddressOrRoute, Address, Route, address_in}}
use Rattle.bridge_ptp.specs.Ptp.{route_in, call_for, ptp_objects, ptp_calls_after, ptp_plugin}
use Rattle.bridge_ptp.specs.declared.bridge.Gateway.{Gateway}

-- ---- bridge

share-asked : (s : Share) (xs : List Gateway) → share_after_calls s (map gateway_call xs) ≡ s
share-asked s [] = refl
share-asked s (x ∷ xs) = share-asked s xs

share-gateways : (conf : BridgeConf) (given : List Given) (s : Share)
    → share_after_calls s (gateway_calls conf given) ≡ s
share-gateways conf given s =
    let asked = map gateway_call (gateways_on conf.bridge given) in
    share_after_calls-if s (is_gateway conf.gateway) (asked ++ forward_calls given)
    (share_after_calls-then s s s asked (forward_calls given) (share-asked s (gateways_on conf.bridge given))
    (share_after_calls-forward s given))

-- what the calls after the leases add to a share
pub share-bridge_after : (conf : BridgeConf) (att : Att) (netns : List ℕ) (given : List Given) (s : Share)
    → share_after_calls s (bridge_calls_after conf att netns given)
    ≡ share_plus s (added_after (bridge_plugin conf) att netns given)
share-bridge_after conf att netns given s =
    share-laid_on s (addresses_on att netns given) (routes_on att netns given (bridge_entries conf given))
    (gateway_calls conf given) (masquerade_rules conf.ip_masq att given) (share-gateways conf given)
    ∙ sym (share_plus-laid_on s _ _ _)

-- ---- ptp

share-objects : (s : Share) (xs : List AddressOrRoute)
    → share_after_calls s (map call_for xs)
    ≡ record s { addresses = s.addresses ++ filter_map address_in xs; routes = s.routes ++ filter_map route_in xs }
share-objects s [] = rw (append-nil s.addresses, append-nil s.routes) refl
share-objects s (Address x ∷ xs) =
    share-objects (share_after_call s (AddrAdd x)) xs
    ∙ ap (λ l. record s { addresses = l; routes = s.routes ++ filter_map route_in xs })
    (append_assoc s.addresses (x ∷ []) (filter_map address_in xs))
share-objects s (Route x ∷ xs) =
    share-objects (share_after_call s (RouteAdd x)) xs
    ∙ ap (λ l. record s { addresses = s.addresses ++ filter_map address_in xs; routes = l })
    (append_assoc s.routes (x ∷ []) (filter_map route_in xs))

-- what the calls after the leases add to a share
pub share-ptp_after : (conf : PtpConf) (att : Att) (netns : List ℕ) (given : List Given) (s : Share)
    → share_after_calls s (ptp_calls_after conf att netns given)
    ≡ share_plus s (added_after (ptp_plugin conf) att netns given)
share-ptp_after conf att netns given s =
    let xs = ptp_objects conf att netns given in
    let rules = masquerade_rules conf.ip_masq att given in
    let with_xs : Share =
    record s { addresses = s.addresses ++ filter_map address_in xs; routes = s.routes ++ filter_map route_in xs } in
    let with_all : Share = record with_xs { rules = s.rules ++ rules } in
    share_after_calls-then s with_xs with_all (map call_for xs) (forward_calls given ++ map RuleAppend rules)
    (share-objects s xs)
    (share_after_calls-shared_rules with_xs (forward_calls given) rules (λ t. share_after_calls-forward t given))
    ∙ sym (share_plus-laid_on s _ _ _)
