-- What the plugins of an ADD make, each of the request that it reads, is together what the ADD makes.
use Rattle.std.specs.Prelude.{◌≡◌, ℕ, suc, List, [], ◌∷◌, ◌++◌, length, codes, flat_map, slice_get, Some, None}
use Rattle.cni_result.specs.declared.result.AddResult.{AddResult}
use Rattle.kernel_types.specs.declared.call.{Call.TheVariants.{Begin, CachePut}, Given.Given}
use Rattle.net_conf.specs.declared.plugin.Plugin.{Plugin}
use Rattle.pod_file.specs.declared.command.Command.{Command}
use Rattle.cni_errors.specs.CommandFields.{att_of}
use Rattle.plugin_chain.specs.Wanted.{cached_of, first_plugin_result}
use Rattle.cni_verbs.specs.{AddCalls.calls_of_add, Mappings.mappings_of}
use Rattle.plugin_requests.specs.{Adding.result_before, Raw.{IsRaw, RawView}, Request.object_at}
use Rattle.exec_protocol.specs.{Laws.{plugin_in, said}, Work.{AreGivenFor, IsAddFor, addresses, work_of}}
use Rattle.exec_protocol.specs.declared.{env.Env.Env, types.{Request.Request, Work.Work}}

-- the words that the plugins of an ADD are called with
abbrev pub words_of_add : Command → Env
words_of_add c = record {
  command = codes "ADD";
  container = c.container;
  netns = c.netns;
  ifname = c.ifname;
  args = c.args;
}

-- what the plugin in this place reads of its request, where the first plugin has this result
abbrev pub read_of_add : RawView → Command → AddResult → ℕ → Plugin → Request
read_of_add raw c first k plugin =
    said (words_of_add c) raw.list plugin (object_at raw k) (result_before raw.list.chained first k)
    (mappings_of raw.list c) None

-- the works of all plugins: each is what its plugin makes of its request, and its result is in the next one; between
-- the beginning and the cached result their calls are those of the ADD
pub record AreWorksOfAdd (raw : RawView) (c : Command) (given : List Given) (works : List Work) : Type 0 where
  pub all : length works ≡ length raw.objects
  pub each : (k : ℕ) (plugin : Plugin) → plugin_in raw.list k ≡ Some plugin
      → work_of (read_of_add raw c (first_plugin_result raw.list (att_of c) c.netns (addresses given)) k plugin) given
      ≡ slice_get works k
  pub results : (k : ℕ) (work : Work) → slice_get works k ≡ Some work
      → result_before raw.list.chained (first_plugin_result raw.list (att_of c) c.netns (addresses given)) (suc k)
      ≡ Some work.result
  pub calls : Begin (att_of c) c.netns
      ∷ (flat_map (λ work. work.calls) works
      ++ CachePut (att_of c) (cached_of raw.list (att_of c) c.netns (mappings_of raw.list c) (addresses given)) ∷ [])
      ≡ calls_of_add raw.list c (addresses given)

-- there are such works of every ADD
abbrev pub EachWorkIsOfTheAdd : Type 0
EachWorkIsOfTheAdd = (raw : RawView) (c : Command) (given : List Given) → IsRaw raw → IsAddFor raw.list c
    → AreGivenFor raw.list given → (works : List Work) × AreWorksOfAdd raw c given works
