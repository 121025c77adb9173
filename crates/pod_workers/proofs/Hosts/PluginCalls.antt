-- The calls that an ADD's plugins make: each is its attachment's or ensures what all share, and is well formed.
use Rattle.pod_workers.proofs.Names.{◌≡◌, ℕ, Bool, true, false, not, List, [], ◌∷◌, refl, ap, ◌∙◌, and_parts}
use Rattle.pod_workers.proofs.Names.{bytes_eq-Decides, AllByRecursion, list_all, Addr, PortMapping, First, NetList}
use Rattle.pod_workers.proofs.Names.{is_host_ns, Call, VethAdd, MacvlanAdd, AddrAdd, RouteAdd, RuleAppend, SettingSet}
use Rattle.pod_workers.proofs.Names.{LeaseNext, PoolFree, NsChange, Outside, Att, list_all-weaker, IsWellFormedCall}
use Rattle.pod_workers.proofs.Names.{is_plugin_call_of, PassesChained, passes-back, own-back, chained_laws, first_laws}
use Rattle.pod_workers.proofs.Names.{back_calls, calls_after, calls_before, chained_calls}
use Rattle.std.proofs.lemmas.Bool.{not-true}
use Rattle.cni_result.proofs.ReadAgain.{each_of}
use Rattle.kernel_types.proofs.Isolation.{is_own-owned}
use Rattle.plugin_base.specs.PluginCalls.{is_later_call}
use Rattle.pod_workers.proofs.Lists.Each.{each-both}

-- ---- one call

abbrev pub IsOfPlugins : Att → Call → Type 0
IsOfPlugins att call = (is_plugin_call_of att call ≡ true) × IsWellFormedCall call

abbrev pub AllOfPlugins : Att → List Call → Type 0
AllOfPlugins att calls = AllByRecursion (IsOfPlugins att) calls

-- ---- the calls before the leases

pub of_plugins-before : (first : First) (att : Att) (netns : List ℕ) → is_host_ns netns ≡ false
    → AllOfPlugins att (calls_before first att netns)
of_plugins-before first att netns place =
    let before = (first_laws first).before att netns in
    each-both (λ x. is_plugin_call_of att x) IsWellFormedCall (calls_before first att netns) before.own
    (before.well_formed place)

-- ---- the calls after them make no link, and set nothing of the host's

abbrev is_plain : Call → Bool
is_plain (VethAdd h i) = false
is_plain (MacvlanAdd l) = false
is_plain (SettingSet s) = not (is_host_ns s.ns)
is_plain _ = true

well_formed-plain : (att : Att) (call : Call) → is_plugin_call_of att call ≡ true → is_plain call ≡ true
    → IsWellFormedCall call
well_formed-plain att (VethAdd h i) own plain = cc
well_formed-plain att (MacvlanAdd l) own plain = cc
well_formed-plain att (AddrAdd obj) own plain = is_own-owned att obj.tag own
well_formed-plain att (RouteAdd obj) own plain = is_own-owned att obj.tag own
well_formed-plain att (RuleAppend rule) own plain = is_own-owned att rule.tag own
well_formed-plain att (SettingSet s) own plain = (is_own-owned att s.tag own, not-true (is_host_ns s.ns) plain)
well_formed-plain att (LeaseNext a number set) own plain = cc
well_formed-plain att (PoolFree network set) own plain = cc
well_formed-plain att (NsChange name add) own plain = cc
well_formed-plain att (Outside change) own plain = absurd cc
well_formed-plain att _ own plain = tt

later-plain : (netns : List ℕ) → is_host_ns netns ≡ false → (call : Call) → is_later_call netns call ≡ true
    → is_plain call ≡ true
later-plain netns place (SettingSet s) later =
    ap (λ ns. not (is_host_ns ns)) ((bytes_eq-Decides s.ns netns).0 later) ∙ ap not place
later-plain netns place (VethAdd h i) later = cc
later-plain netns place (MacvlanAdd l) later = cc
later-plain netns place _ later = refl

of_plugins-plain : (att : Att) (calls : List Call) → list_all (is_plugin_call_of att) calls ≡ true
    → list_all is_plain calls ≡ true → AllOfPlugins att calls
of_plugins-plain att [] own plain = tt
of_plugins-plain att (x ∷ xs) own plain =
    let o = and_parts (is_plugin_call_of att x) (list_all (is_plugin_call_of att) xs) own in
    let p = and_parts (is_plain x) (list_all is_plain xs) plain in
    ((o.0, well_formed-plain att x o.0 p.0), of_plugins-plain att xs o.1 p.1)

pub of_plugins-back : (list : NetList) (att : Att) (netns : List ℕ) (mappings : List PortMapping) (addrs : List Addr)
    → is_host_ns netns ≡ false → AllOfPlugins att (back_calls list att netns mappings addrs)
of_plugins-back list att netns mappings addrs place =
    let plain : (calls : List Call) → list_all (is_later_call netns) calls ≡ true → list_all is_plain calls ≡ true =
    list_all-weaker (is_later_call netns) is_plain (later-plain netns place) in
    of_plugins-plain att (back_calls list att netns mappings addrs) (own-back list att netns mappings addrs)
    (passes-back is_plain list att netns mappings addrs
    (λ given. plain (calls_after list.first att netns given) ((first_laws list.first).after att netns given).later)
    (each_of (PassesChained is_plain att netns mappings) list.chained (λ c ips.
    plain (chained_calls c att netns mappings ips) ((chained_laws c).calls att netns mappings ips).later))
    (λ cached. refl))
