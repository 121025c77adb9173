-- What the plugins of an ADD make, each of its own request, is what the ADD makes.
use Rattle.std.proofs.Common.{◌≡◌, ℕ, zero, suc, List, [], ◌∷◌, ◌++◌, length, map, Some, refl, sym, ap, ◌∙◌, subst}
use Rattle.std.proofs.Common.{append_assoc}
use Rattle.std.specs.{List.slice_get, Prelude.flat_map}
use Rattle.cni_result.specs.declared.{cached.PortMapping.PortMapping, result.AddResult.AddResult}
use Rattle.kernel_types.specs.declared.{call.{Call.{Call, TheVariants.{Begin, CachePut}}, Given.Given}, object.Att.Att}
use Rattle.net_conf.proofs.ChainFacts.{each-at}
use Rattle.net_conf.specs.{Plugin.{plugin_by_type_at, plugins_in}, declared.chained.Chained.Chained}
use Rattle.net_conf.specs.declared.plugin.Plugin.{Plugin}
use Rattle.net_conf.specs.declared.plugin.Plugin.TheVariants as plugins
use Rattle.pod_file.specs.declared.command.Command.{Command}
use Rattle.cni_errors.specs.CommandFields.{att_of}
use Rattle.plugin_chain.specs.Wanted.{all_chained_calls, cached_of, chained_calls, chained_result, first_plugin_result}
use Rattle.cni_verbs.specs.{AddCalls.calls_of_add, Mappings.mappings_of}
use Rattle.exec_protocol.proofs.{Chained.{first_work-result, works-calls_of_add}, PluginMappings.asked-calls}
use Rattle.plugin_requests.proofs.Placed.{length-objects}
use Rattle.plugin_requests.specs.{Adding.{result_after, result_before}, Raw.{IsRaw, RawView}, Request.mappings_for}
use Rattle.plugin_requests.specs.Request.{object_at}
use Rattle.exec_protocol.specs.Work.{AreGivenFor, IsAddFor, addresses, chained_work, first_work, work_of}
use Rattle.exec_protocol.specs.{Works.{EachWorkIsOfTheAdd, read_of_add}, declared.types.Work.Work}

-- ---- the works of chained plugins

abbrev chained_works : List Chained → Att → List ℕ → List PortMapping → AddResult → List Work
chained_works [] att netns mappings prev = []
chained_works (c ∷ cs) att netns mappings prev =
    chained_work c att netns mappings prev ∷ chained_works cs att netns mappings (chained_result c prev)

length-works : (cs : List Chained) (att : Att) (netns : List ℕ) (mappings : List PortMapping) (prev : AddResult)
    → length (chained_works cs att netns mappings prev) ≡ length cs
length-works [] att netns mappings prev = refl
length-works (c ∷ cs) att netns mappings prev = ap suc (length-works cs att netns mappings (chained_result c prev))

works-at : (cs : List Chained) (att : Att) (netns : List ℕ) (mappings : List PortMapping) (prev : AddResult)
    (k : ℕ) (c : Chained)
    → slice_get cs k ≡ Some c
    → slice_get (chained_works cs att netns mappings prev) k
    ≡ Some (chained_work c att netns mappings (result_after cs prev k))
works-at [] att netns mappings prev k c is = cc
works-at (d ∷ cs) att netns mappings prev zero c is =
    let same : d ≡ c = cc in ap (λ x. Some (chained_work x att netns mappings prev)) same
works-at (d ∷ cs) att netns mappings prev (suc k) c is = works-at cs att netns mappings (chained_result d prev) k c is

works-results : (cs : List Chained) (att : Att) (netns : List ℕ) (mappings : List PortMapping) (prev : AddResult)
    (k : ℕ) (w : Work)
    → slice_get (chained_works cs att netns mappings prev) k ≡ Some w → result_after cs prev (suc k) ≡ w.result
works-results [] att netns mappings prev k w is = cc
works-results (d ∷ cs) att netns mappings prev zero w is =
    let same : chained_work d att netns mappings prev ≡ w = cc in ap (λ (x : Work). x.result) same
works-results (d ∷ cs) att netns mappings prev (suc k) w is =
    works-results cs att netns mappings (chained_result d prev) k w is

works-calls : (cs : List Chained) (att : Att) (netns : List ℕ) (mappings : List PortMapping) (prev : AddResult)
    → flat_map (λ w. w.calls) (chained_works cs att netns mappings prev) ≡ all_chained_calls cs att netns mappings prev
works-calls [] att netns mappings prev = refl
works-calls (c ∷ cs) att netns mappings prev =
    ap (λ l. chained_calls c att netns mappings prev.ips ++ l)
    (works-calls cs att netns mappings (chained_result c prev))

-- ---- all works

abbrev works_of : RawView → Command → List Given → List Work
works_of raw c given =
    first_work raw.list.first raw.list.version (att_of c) c.netns given
    ∷ chained_works raw.list.chained (att_of c) c.netns (mappings_of raw.list c)
    (first_plugin_result raw.list (att_of c) c.netns (addresses given))

-- the plugin in a later place
record Placed (cs : List Chained) (k : ℕ) (plugin : Plugin) : Type 0 where
  chained : Chained
  here : slice_get cs k ≡ Some chained
  is : plugins.Chained chained ≡ plugin

placed : (cs : List Chained) (k : ℕ) (plugin : Plugin) → slice_get (map plugins.Chained cs) k ≡ Some plugin
    → Placed cs k plugin
placed [] k plugin is = cc
placed (c ∷ cs) zero plugin is = record { chained = c; here = refl; is = cc }
placed (c ∷ cs) (suc k) plugin is =
    let later = placed cs k plugin is in
    record { chained = later.chained; here = later.here; is = later.is }

each-work : (raw : RawView) (c : Command) (given : List Given) (k : ℕ) (plugin : Plugin) → IsRaw raw
    → IsAddFor raw.list c
    → slice_get (plugins_in raw.list.first raw.list.chained) k ≡ Some plugin
    → work_of (read_of_add raw c (first_plugin_result raw.list (att_of c) c.netns (addresses given)) k plugin) given
    ≡ slice_get (works_of raw c given) k
each-work raw c given zero plugin is add at =
    let first = first_plugin_result raw.list (att_of c) c.netns (addresses given) in
    let same : plugins.First raw.list.first ≡ plugin = cc in
    subst (λ (p : Plugin). work_of (read_of_add raw c first zero p) given ≡ slice_get (works_of raw c given) zero) same
    (ap (λ (n : List ℕ).
    Some (first_work raw.list.first raw.list.version
    (record { network = n; container = c.container; ifname = c.ifname }) c.netns given))
    (sym add.network))
each-work raw c given (suc k) plugin is add at =
    let first = first_plugin_result raw.list (att_of c) c.netns (addresses given) in
    let mappings = mappings_of raw.list c in
    let prev = result_after raw.list.chained first k in
    let p = placed raw.list.chained k plugin at in
    let here : slice_get (plugins_in raw.list.first raw.list.chained) (suc k) ≡ Some (plugins.Chained p.chained) =
    at ∙ ap Some (sym p.is) in
    let read =
    each-at plugin_by_type_at raw.objects (plugins_in raw.list.first raw.list.chained) (suc k)
    (plugins.Chained p.chained) is.plugins here in
    let calls =
    asked-calls raw.list c k p.chained (object_at raw (suc k)) (att_of c) c.netns prev.ips is.list.types_once
    p.here read in
    subst (λ (q : Plugin). work_of (read_of_add raw c first (suc k) q) given ≡ slice_get (works_of raw c given) (suc k))
    p.is
    (ap (λ (n : List ℕ).
    Some (chained_work p.chained (record { network = n; container = c.container; ifname = c.ifname })
    c.netns (mappings_for (object_at raw (suc k)) mappings) prev))
    (sym add.network)
    ∙ ap (λ l. Some (record { calls = l; result = chained_result p.chained prev })) calls
    ∙ sym (works-at raw.list.chained (att_of c) c.netns mappings first k p.chained p.here))

each-result : (raw : RawView) (c : Command) (given : List Given) (k : ℕ) (work : Work) → AreGivenFor raw.list given
    → slice_get (works_of raw c given) k ≡ Some work
    → result_before raw.list.chained (first_plugin_result raw.list (att_of c) c.netns (addresses given)) (suc k)
    ≡ Some work.result
each-result raw c given zero work are at =
    let same : first_work raw.list.first raw.list.version (att_of c) c.netns given ≡ work = cc in
    ap Some (sym (first_work-result raw.list (att_of c) c.netns given are) ∙ ap (λ (w : Work). w.result) same)
each-result raw c given (suc k) work are at =
    ap Some (works-results raw.list.chained (att_of c) c.netns (mappings_of raw.list c)
    (first_plugin_result raw.list (att_of c) c.netns (addresses given)) k work at)

all-calls : (raw : RawView) (c : Command) (given : List Given) → AreGivenFor raw.list given
    → Begin (att_of c) c.netns
    ∷ (flat_map (λ work. work.calls) (works_of raw c given)
    ++ CachePut (att_of c) (cached_of raw.list (att_of c) c.netns (mappings_of raw.list c) (addresses given)) ∷ [])
    ≡ calls_of_add raw.list c (addresses given)
all-calls raw c given are =
    let first = first_plugin_result raw.list (att_of c) c.netns (addresses given) in
    let mappings = mappings_of raw.list c in
    let own : List Call = (first_work raw.list.first raw.list.version (att_of c) c.netns given).calls in
    let put : List Call = CachePut (att_of c) (cached_of raw.list (att_of c) c.netns mappings (addresses given)) ∷ [] in
    ap (λ l. Begin (att_of c) c.netns ∷ l)
    (ap (λ l. (own ++ l) ++ put) (works-calls raw.list.chained (att_of c) c.netns mappings first)
    ∙ append_assoc own (all_chained_calls raw.list.chained (att_of c) c.netns mappings first) put)
    ∙ works-calls_of_add raw.list c given are

pub each_work_is_of_the_add : EachWorkIsOfTheAdd
each_work_is_of_the_add raw c given is add are = (
  works_of raw c given,
  record {
    all =
        ap suc (length-works raw.list.chained (att_of c) c.netns (mappings_of raw.list c)
        (first_plugin_result raw.list (att_of c) c.netns (addresses given)))
        ∙ sym (length-objects raw is);
    each = λ k plugin at. each-work raw c given k plugin is add at;
    results = λ k work at. each-result raw c given k work are at;
    calls = all-calls raw c given are;
  },
)
