-- Addresses, routes, rules, settings and cached results that are appended leave a host sound, and are their
-- attachment's.
use Rattle.std.proofs.Common.{◌≡◌, ℕ, true, List, [], ◌∷◌, inl, inr, refl, sym, ◌∙◌, arith}
use Rattle.std.specs.{List.list_any, Option.option_map, Prelude.{find, ◌&&◌}, Str.bytes_eq}
use Rattle.cni_result.specs.declared.cached.Cached.{Cached}
use Rattle.cni_addr.specs.declared.address.{Cidr.Cidr, Family.Family}
use Rattle.kernel_types.specs.Apply.Calls.{cache_put_of, addr_add_of, route_add_of, rule_append_of, setting_set_of}
use Rattle.kernel_types.specs.Apply.Calls.{gateway_ensure_of, forward_ensure_of, is_same_addr, is_same_route}
use Rattle.kernel_types.specs.{Apply.Calls.{is_same_setting, has_link_of, new_gateway, new_forward}, Equal.rule_eq}
use Rattle.kernel_types.specs.{Equal.tag_eq, Sound.{IsSound, address_fits_tag, setting_fits_tag}, Terms.is_own}
use Rattle.kernel_types.specs.{Terms.{is_owned, is_link_of, has_named_ns, has_host_bridge}, Touch.AddsAddress}
use Rattle.kernel_types.specs.{Touch.{AddsSetting, TouchesOwnAlone, TouchesTag}, declared.call.Reply.Reply}
use Rattle.kernel_types.specs.declared.object.{AddrObj.AddrObj, Att.Att, Host.Host, Link.Link, NsObj.NsObj}
use Rattle.kernel_types.specs.declared.object.{RouteObj.RouteObj, Setting.Setting, Tag.{Tag, TheVariants.Outside}}
use Rattle.kernel_types.specs.declared.{object.Tag.TheVariants.{Base, Own}, rule.Rule.Rule}
use Rattle.cni_addr.proofs.Cases.{by_test}
use Rattle.kernel_types.proofs.Cases.{by_absence, by_addition, none-option_map, tag_eq-own, own-own, TouchesTag-owned}
use Rattle.kernel_types.proofs.{ChangeLemmas.ChangesOnly-append, ListLemmas.{list_any-none, list_any-find_none}}
use Rattle.kernel_types.proofs.{ListLemmas.{list_all-push, distinct-push}, OneList.IsSound-with_cached}
use Rattle.kernel_types.proofs.OneList.{IsSound-with_addresses, IsSound-with_routes, IsSound-with_rules}
use Rattle.kernel_types.proofs.OneList.{IsSound-with_settings, TouchesOwnAlone-nothing, TouchesOwnAlone-with_cached}
use Rattle.kernel_types.proofs.OneList.{TouchesOwnAlone-with_addresses, TouchesOwnAlone-with_routes}
use Rattle.kernel_types.proofs.OneList.{TouchesOwnAlone-with_rules, TouchesOwnAlone-with_settings}

one_own : (att : Att) (t : Tag) → t ≡ Own att → (is_own att t && true) ≡ true
one_own att t own = let at : is_own att t ≡ true = own-own att t own in grind (arith, at)

TouchesTag-nothing : (t : Tag) (host : Host) → TouchesTag t host host
TouchesTag-nothing Outside host = refl
TouchesTag-nothing Base host = refl
TouchesTag-nothing (Own att) host = TouchesOwnAlone-nothing att host

-- ---- cached results

pub IsSound-cache_put : (host : Host) (att : Att) (cached : Cached) → IsSound host
    → IsSound (cache_put_of host att cached).0
IsSound-cache_put host att cached sound =
    by_absence IsSound (list_any (λ c. is_own att c.tag) host.cached) _ host _ sound
    (λ none. IsSound-with_cached host _ sound (record {
      keys =
          distinct-push (λ a b. tag_eq a.tag b.tag) host.cached
          (record { cached = cached; tag = Own att }) sound.cached.keys
          (list_any-none (λ c. tag_eq c.tag (Own att)) (λ c. is_own att c.tag)
          (λ c e. sym (tag_eq-own att c.tag) ∙ e) host.cached none);
      tags =
          list_all-push (λ c. is_owned c.tag) host.cached (record { cached = cached; tag = Own att }) sound.cached.tags
          refl;
    }))

pub TouchesOwnAlone-cache_put : (host : Host) (att : Att) (cached : Cached)
    → TouchesOwnAlone att host (cache_put_of host att cached).0
TouchesOwnAlone-cache_put host att cached =
    by_absence (TouchesOwnAlone att host) (list_any (λ c. is_own att c.tag) host.cached) _ host _
    (TouchesOwnAlone-nothing att host)
    (λ none. TouchesOwnAlone-with_cached att host _ (ChangesOnly-append (λ c. is_own att c.tag) host.cached
    (record { cached = cached; tag = Own att } ∷ []) (one_own att (Own att) refl)))

-- ---- addresses

address_fits_tag-owned : (links : List Link) (a : AddrObj) (t : Tag) → is_owned t ≡ true
    → list_any (is_link_of a.ns a.link t) links ≡ true → address_fits_tag links a t ≡ true
address_fits_tag-owned links a Outside h g = cc
address_fits_tag-owned links a Base h g = cc
address_fits_tag-owned links a (Own att) h g = g

pub IsSound-addr_add : (host : Host) (obj : AddrObj) → is_owned obj.tag ≡ true → IsSound host
    → IsSound (addr_add_of host obj).0
IsSound-addr_add host obj owned sound =
    by_addition IsSound (has_link_of host obj.ns obj.link obj.tag)
    (option_map (λ a. a.tag) (find (is_same_addr obj) host.addresses)) host _ _ sound
    (λ there free. IsSound-with_addresses host _ sound (record {
      keys = distinct-push (λ a b. is_same_addr b a) host.addresses obj sound.addresses.keys
          (list_any-find_none (is_same_addr obj) host.addresses (none-option_map (λ a. a.tag) _ free));
      on_links =
          list_all-push (λ a. address_fits_tag host.links a a.tag) host.addresses obj sound.addresses.on_links
          (address_fits_tag-owned host.links obj obj.tag owned there);
    }))

pub TouchesTag-addr_add : (host : Host) (obj : AddrObj) → is_owned obj.tag ≡ true
    → TouchesTag obj.tag host (addr_add_of host obj).0
TouchesTag-addr_add host obj owned =
    by_addition (TouchesTag obj.tag host) (has_link_of host obj.ns obj.link obj.tag)
    (option_map (λ a. a.tag) (find (is_same_addr obj) host.addresses)) host _ _ (TouchesTag-nothing obj.tag host)
    (λ _ _. TouchesTag-owned obj.tag host _ owned (λ att own. TouchesOwnAlone-with_addresses att host _
    (ChangesOnly-append (λ a. is_own att a.tag) host.addresses (obj ∷ []) (one_own att obj.tag own))))

-- ---- routes

pub IsSound-route_add : (host : Host) (obj : RouteObj) → IsSound host → IsSound (route_add_of host obj).0
IsSound-route_add host obj sound =
    by_addition IsSound (has_link_of host obj.ns obj.link obj.tag)
    (option_map (λ r. r.tag) (find (is_same_route obj) host.routes)) host _ _ sound
    (λ there free. IsSound-with_routes host _ sound (record {
      keys = distinct-push (λ a b. is_same_route b a) host.routes obj sound.routes.keys
          (list_any-find_none (is_same_route obj) host.routes (none-option_map (λ r. r.tag) _ free));
      on_links =
          list_all-push (λ r. list_any (is_link_of r.ns r.link r.tag) host.links) host.routes obj sound.routes.on_links
          there;
    }))

pub TouchesTag-route_add : (host : Host) (obj : RouteObj) → is_owned obj.tag ≡ true
    → TouchesTag obj.tag host (route_add_of host obj).0
TouchesTag-route_add host obj owned =
    by_addition (TouchesTag obj.tag host) (has_link_of host obj.ns obj.link obj.tag)
    (option_map (λ r. r.tag) (find (is_same_route obj) host.routes)) host _ _ (TouchesTag-nothing obj.tag host)
    (λ _ _. TouchesTag-owned obj.tag host _ owned (λ att own. TouchesOwnAlone-with_routes att host _
    (ChangesOnly-append (λ r. is_own att r.tag) host.routes (obj ∷ []) (one_own att obj.tag own))))

-- ---- rules

pub IsSound-rule_append : (host : Host) (rule : Rule) → is_owned rule.tag ≡ true → IsSound host
    → IsSound (rule_append_of host rule).0
IsSound-rule_append host rule owned sound =
    by_absence IsSound (list_any (λ r. rule_eq r rule) host.rules) _ host _ sound
    (λ none. IsSound-with_rules host _ sound (record {
      keys = distinct-push (λ a b. rule_eq a b) host.rules rule sound.rules.keys none;
      tags = list_all-push (λ r. is_owned r.tag) host.rules rule sound.rules.tags owned;
    }))

pub TouchesTag-rule_append : (host : Host) (rule : Rule) → is_owned rule.tag ≡ true
    → TouchesTag rule.tag host (rule_append_of host rule).0
TouchesTag-rule_append host rule owned =
    by_absence (TouchesTag rule.tag host) (list_any (λ r. rule_eq r rule) host.rules) _ host _
    (TouchesTag-nothing rule.tag host)
    (λ _. TouchesTag-owned rule.tag host _ owned (λ att own. TouchesOwnAlone-with_rules att host _
    (ChangesOnly-append (λ r. is_own att r.tag) host.rules (rule ∷ []) (one_own att rule.tag own))))

-- ---- settings

setting_fits_tag-owned : (namespaces : List NsObj) (s : Setting) (t : Tag) → is_owned t ≡ true
    → list_any (λ n. bytes_eq n.name s.ns) namespaces ≡ true → setting_fits_tag namespaces s t ≡ true
setting_fits_tag-owned namespaces s Outside h there = cc
setting_fits_tag-owned namespaces s Base h there = cc
setting_fits_tag-owned namespaces s (Own att) h there = grind (arith, there)

pub IsSound-setting_set : (host : Host) (setting : Setting) → is_owned setting.tag ≡ true → IsSound host
    → IsSound (setting_set_of host setting).0
IsSound-setting_set host setting owned sound =
    by_addition IsSound (has_named_ns host setting.ns)
    (option_map (λ s. s.tag) (find (is_same_setting setting) host.settings)) host _ _ sound
    (λ there free. IsSound-with_settings host _ sound (record {
      keys = distinct-push (λ a b. is_same_setting b a) host.settings setting sound.settings.keys
          (list_any-find_none (is_same_setting setting) host.settings (none-option_map (λ s. s.tag) _ free));
      tags =
          list_all-push (λ s. setting_fits_tag host.namespaces s s.tag) host.settings setting sound.settings.tags
          (setting_fits_tag-owned host.namespaces setting setting.tag owned there);
    }))

pub TouchesTag-setting_set : (host : Host) (setting : Setting) → is_owned setting.tag ≡ true
    → TouchesTag setting.tag host (setting_set_of host setting).0
TouchesTag-setting_set host setting owned =
    by_addition (TouchesTag setting.tag host) (has_named_ns host setting.ns)
    (option_map (λ s. s.tag) (find (is_same_setting setting) host.settings)) host _ _
    (TouchesTag-nothing setting.tag host)
    (λ _ _. TouchesTag-owned setting.tag host _ owned (λ att own. TouchesOwnAlone-with_settings att host _
    (ChangesOnly-append (λ s. is_own att s.tag) host.settings (setting ∷ []) (one_own att setting.tag own))))

-- ---- what the attachments of a host share

pub IsSound-gateway_ensure : (host : Host) (bridge : List ℕ) (cidr : Cidr) → IsSound host
    → IsSound (gateway_ensure_of host bridge cidr).0
IsSound-gateway_ensure host bridge cidr sound =
    by_test (λ (step : Host × Reply). IsSound step.0) (has_host_bridge host bridge) _ _
    (λ there. by_absence IsSound (list_any (is_same_addr (new_gateway bridge cidr)) host.addresses) _ host _ sound
    (λ free. IsSound-with_addresses host _ sound (record {
      keys = distinct-push (λ a b. is_same_addr b a) host.addresses (new_gateway bridge cidr) sound.addresses.keys free;
      on_links =
          list_all-push (λ a. address_fits_tag host.links a a.tag) host.addresses
          (new_gateway bridge cidr) sound.addresses.on_links there;
    })))
    (λ _. sound)

pub AddsAddress-gateway_ensure : (host : Host) (bridge : List ℕ) (cidr : Cidr)
    → AddsAddress host (gateway_ensure_of host bridge cidr).0
AddsAddress-gateway_ensure host bridge cidr =
    by_test (λ (step : Host × Reply). AddsAddress host step.0) (has_host_bridge host bridge) _ _
    (λ there. by_absence (AddsAddress host) (list_any (is_same_addr (new_gateway bridge cidr)) host.addresses) _ host _
    (inl refl) (λ free. inr (new_gateway bridge cidr, refl, refl)))
    (λ _. inl refl)

pub IsSound-forward_ensure : (host : Host) (family : Family) → IsSound host → IsSound (forward_ensure_of host family).0
IsSound-forward_ensure host family sound =
    by_absence IsSound (list_any (is_same_setting (new_forward family)) host.settings) _ host _ sound
    (λ free. IsSound-with_settings host _ sound (record {
      keys = distinct-push (λ a b. is_same_setting b a) host.settings (new_forward family) sound.settings.keys free;
      tags =
          list_all-push (λ s. setting_fits_tag host.namespaces s s.tag) host.settings
          (new_forward family) sound.settings.tags refl;
    }))

pub AddsSetting-forward_ensure : (host : Host) (family : Family) → AddsSetting host (forward_ensure_of host family).0
AddsSetting-forward_ensure host family =
    by_absence (AddsSetting host) (list_any (is_same_setting (new_forward family)) host.settings) _ host _ (inl refl)
    (λ free. inr (new_forward family, refl, refl))
