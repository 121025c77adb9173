-- Each object of a list that is read is read, by itself, as its plugin.
use Rattle.std.proofs.Common.{◌≡◌, ℕ, zero, suc, Bool, true, false, List, [], ◌∷◌, ◌++◌, Option, Some, None, Result, Ok}
use Rattle.std.proofs.Common.{refl, sym, ap, ◌∙◌, subst, append_assoc, append-nil}
use Rattle.std.specs.{List.slice_get, Prelude.{map, codes, option_and_then, slice_index_or}}
use Rattle.serde_json.specs.{Data.{Data, null, boolean, number, string, array, object, Items, no_items, item}, Find.get}
use Rattle.serde_json.specs.{Find.as_bool, View.items_of}
use Rattle.cni_json.proofs.Endings.{goes, ok_same}
use Rattle.cni_json.specs.{Each.{each, each_after}, Fields.{field_of, object_of, object_or}, Outcome.◌>>=◌}
use Rattle.net_conf.proofs.PluginFacts.{plugin_at-by_type}
use Rattle.net_conf.specs.{Accepted.all_supported, Capabilities.{is_true, asks_for_mappings}, List.header_at}
use Rattle.net_conf.specs.{List.{switch_at, disable_check_key, disable_gc_key, network_list_at}, Members.with_default}
use Rattle.net_conf.specs.{Members.flag_at, Plugin.{plugin_by_type_at, each_plugin_at, plugins_in}, Plugins.type_at}
use Rattle.net_conf.specs.Plugins.{first_at, chained_at, not_repeated, later_at, plugins_at, chain_of, chain_at}
use Rattle.net_conf.specs.{Plugins.wrong_plugins, Portmap.{portmap_rows, mappings_flag, takes_mappings_at, portmap_at}}
use Rattle.net_conf.specs.declared.{chained.{Chained.Chained, PortmapConf.PortmapConf}, first.First.First}
use Rattle.net_conf.specs.declared.{list.NetList.NetList, plugins.PluginChain.PluginChain}
use Rattle.net_conf.specs.declared.plugin.Plugin.TheVariants as plugins

-- ---- a plugin

first_by_itself : (d : Data) (p : First) → first_at d ≡ Ok p → plugin_by_type_at d ≡ Ok (plugins.First p)
first_by_itself d p is = plugin_at-by_type true d (plugins.First p) (rw is refl)

-- a later plugin is read as it is behind none
later_by_itself : (before : List Chained) (d : Data) (p : Chained) → later_at before d ≡ Ok p → chained_at d ≡ Ok p
unfolding later_at chained_at
later_by_itself before d p is =
    let form = goes (object_or wrong_plugins d) _ p is in
    let type = goes (type_at d) _ p form.rest in
    let new = goes (not_repeated before type.value) _ p type.rest in
    rw (form.first, type.first) new.rest

later_by_type : (before : List Chained) (d : Data) (p : Chained) → later_at before d ≡ Ok p
    → plugin_by_type_at d ≡ Ok (plugins.Chained p)
later_by_type before d p is = plugin_at-by_type false d (plugins.Chained p) (rw (later_by_itself before d p is) refl)

-- ---- all plugins

-- those that are read after these, by themselves
record ReadAfter (before : List Chained) (ds : Items) (found : List Chained) : Type 0 where
  more : List Chained
  all : before ++ more ≡ found
  alone : each plugin_by_type_at ds ≡ Ok (map plugins.Chained more)

read_after : (before : List Chained) (ds : Items) (found : List Chained) → each_after later_at before ds ≡ Ok found
    → ReadAfter before ds found
read_after before no_items found is = record { more = []; all = append-nil before ∙ ok_same is; alone = refl }
read_after before (item d ds) found is =
    let next = goes (later_at before d) _ found is in
    let rest = read_after (before ++ next.value ∷ []) ds found next.rest in
    record {
      more = next.value ∷ rest.more;
      all = sym (append_assoc before (next.value ∷ []) rest.more) ∙ rest.all;
      alone = rw (later_by_type before d next.value next.first, rest.alone) refl;
    }

-- each object that a chain is read of is read, by itself, as its plugin
pub chain_of-each : (ds : Items) (chain : PluginChain) → chain_of ds ≡ Ok chain
    → each plugin_by_type_at ds ≡ Ok (plugins_in chain.first chain.chained)
chain_of-each no_items chain is = cc
chain_of-each (item d ds) chain is =
    let first = goes (first_at d) _ chain is in
    let chained = goes (each_after later_at [] ds) _ chain first.rest in
    let rest = read_after [] ds chained.value chained.first in
    subst (λ (c : PluginChain). each plugin_by_type_at (item d ds) ≡ Ok (plugins_in c.first c.chained))
    (ok_same chained.rest)
    (rw (first_by_itself d first.value first.first, rest.alone)
    (ap (λ (ps : List Chained). Ok (plugins_in first.value ps)) rest.all))

then-ok : {A B E : Type 0} (r : Result A E) (next : A → Result B E) (a : A) (b : B) → r ≡ Ok a → next a ≡ Ok b
    → (r >>= next) ≡ Ok b
then-ok r next a b first rest = rw first rest

-- the same of a whole list
pub network_list_at-each : (d : Data) (list : NetList) → network_list_at d ≡ Ok list
    → each_plugin_at d ≡ Ok (plugins_in list.first list.chained)
unfolding network_list_at chain_at each_plugin_at
network_list_at-each d list is =
    let header = goes (header_at d) _ list is in
    let check = goes (switch_at disable_check_key d) _ list header.rest in
    let gc = goes (switch_at disable_gc_key d) _ list check.rest in
    let chain = goes (chain_at d) _ list gc.rest in
    let objects = goes (plugins_at d) chain_of chain.value chain.first in
    subst (λ (l : NetList). (plugins_at d >>= each plugin_by_type_at) ≡ Ok (plugins_in l.first l.chained))
    (ok_same chain.rest)
    (then-ok (plugins_at d) (each plugin_by_type_at) objects.value (plugins_in chain.value.first chain.value.chained)
    objects.first
    (chain_of-each objects.value chain.value objects.rest))

-- ---- by place

-- what is read of each item is read of that in a place
pub each-at : {A E : Type 0} (read : Data → Result A E) (ds : List Data) (xs : List A) (k : ℕ) (x : A)
    → each read (items_of ds) ≡ Ok xs → slice_get xs k ≡ Some x → read (slice_index_or ds k null) ≡ Ok x
each-at {A = A} read [] xs k x is there =
    nothing_in k (subst (λ ys. slice_get ys k ≡ Some x) (sym (ok_same {x = []} {y = xs} is)) there)
  where
    nothing_in : (k : ℕ) → slice_get [] k ≡ Some x → read (slice_index_or [] k null) ≡ Ok x
    nothing_in k is = cc
each-at {A = A} read (d ∷ ds) xs k x is there =
    let first = goes (read d) _ xs is in
    let rest = goes (each read (items_of ds)) _ xs first.rest in
    in_place (λ ys i all at. each-at read ds ys i x all at) first.value rest.value k first.first rest.first
    (subst (λ ys. slice_get ys k ≡ Some x) (sym (ok_same rest.rest)) there)
  where
    in_place : ((ys : List A) (i : ℕ) → each read (items_of ds) ≡ Ok ys → slice_get ys i ≡ Some x
        → read (slice_index_or ds i null) ≡ Ok x)
        → (y : A) (ys : List A) (k : ℕ) → read d ≡ Ok y → each read (items_of ds) ≡ Ok ys
        → slice_get (y ∷ ys) k ≡ Some x → read (slice_index_or (d ∷ ds) k null) ≡ Ok x
    in_place later y ys zero one all at = let same : y ≡ x = cc in rw (← same) one
    in_place later y ys (suc k) one all at = later ys k all at

-- ---- what a plugin asks for

-- a `portmap` that is to get the port mappings asks for them
pub takes_mappings_at-asks : (d : Data) (b : Bool) → takes_mappings_at d ≡ Ok b → asks_for_mappings d ≡ b
unfolding takes_mappings_at
takes_mappings_at-asks d b is = asked (get (codes "capabilities") d) b is
  where
    flagged : (o : Option Data) (b : Bool) → with_default (codes "capabilities") false Ok (field_of as_bool o) ≡ Ok b
        → is_true o ≡ b
    flagged None b is = ok_same is
    flagged (Some null) b is = ok_same is
    flagged (Some (boolean c)) b is = ok_same is
    flagged (Some (number n)) b is = cc
    flagged (Some (string s)) b is = cc
    flagged (Some (array ds)) b is = cc
    flagged (Some (object ms)) b is = cc

    asked : (o : Option Data) (b : Bool) → mappings_flag (field_of object_of o) ≡ Ok b
        → is_true (option_and_then (get (codes "portMappings")) o) ≡ b
    asked None b is = ok_same is
    asked (Some null) b is = ok_same is
    asked (Some (boolean c)) b is = cc
    asked (Some (number n)) b is = cc
    asked (Some (string s)) b is = cc
    asked (Some (array ds)) b is = cc
    asked (Some (object ms)) b is = flagged (get (codes "portMappings") (object ms)) b is

pub portmap_at-asks : (d : Data) (conf : PortmapConf) → portmap_at d ≡ Ok conf → asks_for_mappings d ≡ conf.mappings
unfolding portmap_at
portmap_at-asks d conf is =
    let rows = goes (all_supported portmap_rows d) _ conf is in
    let mappings = goes (takes_mappings_at d) _ conf rows.rest in
    let snat = goes (flag_at (codes "snat") true d) _ conf mappings.rest in
    takes_mappings_at-asks d mappings.value mappings.first ∙ ap (λ (c : PortmapConf). c.mappings) (ok_same snat.rest)
