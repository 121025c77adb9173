-- A test that passes the calls of each plugin passes all that an ADD makes after its leases.
use Rattle.std.proofs.Common.{◌≡◌, ℕ, Bool, true, List, [], ◌∷◌, ◌++◌, refl, arith}
use Rattle.std.specs.List.{AllByRecursion, list_all}
use Rattle.cni_addr.specs.declared.address.Addr.{Addr}
use Rattle.cni_result.specs.declared.{cached.{Cached.Cached, PortMapping.PortMapping}, result.AddResult.AddResult}
use Rattle.cni_result.specs.declared.result.IpEntry.{IpEntry}
use Rattle.net_conf.specs.declared.{chained.Chained.Chained, list.NetList.NetList}
use Rattle.kernel_types.specs.declared.{call.{Call.{Call, TheVariants.CachePut}, Given.Given}, object.Att.Att}
use Rattle.plugin_base.proofs.KeyLists.{list_all-append}
use Rattle.plugin_chain.specs.Wanted.{all_chained_calls, back_calls, cached_of, calls_after, chained_calls}
use Rattle.plugin_chain.specs.Wanted.{chained_result, first_plugin_result, given_by_list}

-- the calls of a chained plugin pass, whatever addresses it is handed
abbrev pub PassesChained : (Call → Bool) → Att → List ℕ → List PortMapping → Chained → Type 0
PassesChained p att netns mappings c = (ips : List IpEntry) → list_all p (chained_calls c att netns mappings ips) ≡ true

passes-all_chained : (p : Call → Bool) (cs : List Chained) (att : Att) (netns : List ℕ) (mappings : List PortMapping)
    (prev : AddResult)
    → AllByRecursion (PassesChained p att netns mappings) cs
    → list_all p (all_chained_calls cs att netns mappings prev) ≡ true
passes-all_chained p [] att netns mappings prev w = refl
passes-all_chained p (c ∷ cs) att netns mappings prev w =
    list_all-append p (chained_calls c att netns mappings prev.ips)
    (all_chained_calls cs att netns mappings (chained_result c prev)) (w.0 prev.ips)
    (passes-all_chained p cs att netns mappings (chained_result c prev) w.1)

pub passes-back : (p : Call → Bool) (list : NetList) (att : Att) (netns : List ℕ) (mappings : List PortMapping)
    (addrs : List Addr)
    → ((given : List Given) → list_all p (calls_after list.first att netns given) ≡ true)
    → AllByRecursion (PassesChained p att netns mappings) list.chained
    → ((cached : Cached) → p (CachePut att cached) ≡ true)
    → list_all p (back_calls list att netns mappings addrs) ≡ true
passes-back p list att netns mappings addrs first chained put =
    let given = given_by_list list addrs in
    let chain = all_chained_calls list.chained att netns mappings (first_plugin_result list att netns addrs) in
    let last = CachePut att (cached_of list att netns mappings addrs) in
    list_all-append p (calls_after list.first att netns given) (chain ++ last ∷ []) (first given)
    (list_all-append p chain (last ∷ [])
    (passes-all_chained p list.chained att netns mappings (first_plugin_result list att netns addrs) chained)
    (grind (arith, put (cached_of list att netns mappings addrs))))
