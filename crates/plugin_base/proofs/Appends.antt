-- Calls of plugins append a share where each is the attachment's, and where they add it to every share.
use Rattle.std.proofs.{Common.{◌≡◌, Bool, true, ap, List, [], ◌∷◌, ◌++◌, map, refl, ◌∙◌, arith}, lemmas.Bool.and_parts}
use Rattle.std.specs.{List.list_all, Prelude.flat_map}
use Rattle.kernel_types.specs.{Apply.apply, Equal.rule_eq, Terms.is_own, declared.call.Call.{Call, TheVariants.AddrAdd}}
use Rattle.kernel_types.specs.declared.call.{Call.TheVariants.{RouteAdd, RuleAppend}, Given.Given}
use Rattle.kernel_types.specs.declared.{object.{AddrObj.AddrObj, Att.Att, Host.Host, RouteObj.RouteObj}, rule.Rule.Rule}
use Rattle.kernel_types.proofs.Cases.{att_eq-refl}
use Rattle.plugin_base.specs.Calls.{is_plugin_call_of, AllDone, applied, AppendsShare}
use Rattle.plugin_base.specs.{PluginLaws.{ChainedChangeTheirShares, FirstsAppendTheirShares}, Plugins.added_after}
use Rattle.plugin_base.specs.{Plugins.added_before, Shapes.{masquerade_of, masquerade_rules}, Share.{Share, share_of}}
use Rattle.plugin_base.specs.Share.{share_plus, share_after_calls}
use Rattle.plugin_base.proofs.CallLists.{share_after_calls-then, share_after_calls-addresses, share_after_calls-routes}
use Rattle.plugin_base.proofs.{CallLists.share_after_calls-shared_rules, KeyLists.{list_all-flat, list_all-if}}
use Rattle.plugin_base.proofs.{KeyLists.list_all-each_key_once, OwnCalls.share-own}

-- ---- from the calls to the host

-- what calls of the attachment that are all done make of its share
share-applied : (att : Att) (host : Host) (calls : List Call) → list_all (is_plugin_call_of att) calls ≡ true
    → AllDone host calls → share_of att (applied host calls) ≡ share_after_calls (share_of att host) calls
share-applied att host [] own done = refl
share-applied att host (c ∷ cs) own done =
    let both = and_parts (is_plugin_call_of att c) (list_all (is_plugin_call_of att) cs) own in
    share-applied att (apply host c).0 cs both.1 done.1
    ∙ ap (λ s. share_after_calls s cs) (share-own att host c both.0 done.0)

-- calls of the attachment that add this share to every share append it in every host
pub appends-share : (att : Att) (calls : List Call) (share : Share) → list_all (is_plugin_call_of att) calls ≡ true
    → ((s : Share) → share_after_calls s calls ≡ share_plus s share) → AppendsShare att calls share
appends-share att calls share own adds =
    λ host sound done. share-applied att host calls own done ∙ adds (share_of att host)

-- ---- rules

-- each rule is the attachment's own
pub own-masquerades : (ip_masq : Bool) (att : Att) (given : List Given)
    → list_all (λ x. is_own att x.tag) (masquerade_rules ip_masq att given) ≡ true
own-masquerades ip_masq att given =
    list_all-if (λ x. is_own att x.tag) ip_masq _
    (list_all-each_key_once (λ x. is_own att x.tag) rule_eq (flat_map (masquerade_of att) given)
    (list_all-flat (λ x. is_own att x.tag) (masquerade_of att) (λ g. grind (arith, att_eq-refl att)) given))

-- ---- what plugins add

pub firsts_append : FirstsAppendTheirShares
firsts_append p laws att netns given = (
  appends-share att (p.calls_before att netns) (added_before p att netns) (laws.before att netns).own
      (laws.adds_before att netns),
  appends-share att (p.calls_after att netns given) (added_after p att netns given) (laws.after att netns given).own
      (laws.adds_after att netns given),
)

pub chained_change : ChainedChangeTheirShares
chained_change p laws att netns mappings ips host sound done =
    share-applied att host (p.calls att netns mappings ips) (laws.calls att netns mappings ips).own done
    ∙ laws.adds att netns mappings ips (share_of att host)

-- addresses, routes, calls that add nothing, and rules
pub share-laid_on : (s : Share) (addresses : List AddrObj) (routes : List RouteObj) (shared : List Call)
    (rules : List Rule)
    → ((t : Share) → share_after_calls t shared ≡ t)
    → share_after_calls s (map AddrAdd addresses ++ (map RouteAdd routes ++ (shared ++ map RuleAppend rules)))
    ≡ record s { addresses = s.addresses ++ addresses; routes = s.routes ++ routes; rules = s.rules ++ rules }
share-laid_on s addresses routes shared rules adds_none =
    let with_as : Share = record s { addresses = s.addresses ++ addresses } in
    let with_rs : Share = record with_as { routes = s.routes ++ routes } in
    let with_all : Share = record with_rs { rules = s.rules ++ rules } in
    share_after_calls-then s with_as with_all (map AddrAdd addresses)
    (map RouteAdd routes ++ (shared ++ map RuleAppend rules)) (share_after_calls-addresses s addresses)
    (share_after_calls-then with_as with_rs with_all (map RouteAdd routes) (shared ++ map RuleAppend rules)
    (share_after_calls-routes with_as routes)
    (share_after_calls-shared_rules with_rs shared rules adds_none))
