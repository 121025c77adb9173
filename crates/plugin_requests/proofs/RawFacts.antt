-- What every raw list is, by how it is read.
use Rattle.std.proofs.Common.{◌≡◌, ℕ, ◌+◌, ◌≤◌, List, [], ◌∷◌, false, Option, Some, None, Result, Ok, Err, refl, sym}
use Rattle.std.proofs.{Common.{ap, ◌∙◌, arith}, lemmas.{Bool.or_parts, List.Elements.{All-nil, All-cons, All-head}}}
use Rattle.std.proofs.lemmas.List.Elements.{All-tail}
use Rattle.std.specs.Prelude.{All, IfOk, codes, map}
use Rattle.serde_json.specs.Data.{Data, null, boolean, number, string, array, object, Items, depth, items_depth}
use Rattle.serde_json.specs.{Find.{get, as_array}, Read.max_depth, View.items_of, Written.{has_float, items_have_float}}
use Rattle.cni_json.proofs.{Depths.get-depth, Endings.{goes, ok_same}, WholeNumbers.get-whole}
use Rattle.cni_json.specs.{Each.each, Fields.field_of, Json.json_of, Outcome.◌>>=◌}
use Rattle.plugin_requests.specs.Raw.{RawView, IsPluginObject, IsRaw, objects_of, raw_at, raw_of}
use Rattle.net_conf.proofs.ChainFacts.{network_list_at-each}
use Rattle.net_conf.specs.{List.{read_or_refused, network_list_at, list_of}, Members.ok_map, Plugin.plugin_by_type_at}
use Rattle.net_conf.specs.{Plugin.{each_plugin_at, plugins_in}, Plugins.{plugins_of, plugins_at}}
use Rattle.net_conf.specs.{WellFormed.IsWellFormedList, declared.{error.ConfError.ConfError, list.NetList.NetList}}

-- ---- lists of what is seen as something else

-- what holds of each view holds of each item by its view
pub All-viewed : {A B : Type 0} (f : A → B) (P : B → Type 0) (xs : List A) → All P (map f xs) → All (λ x. P (f x)) xs
All-viewed f P [] all = All-nil (λ x. P (f x))
All-viewed f P (x ∷ xs) all =
    All-cons (λ y. P (f y)) x xs (All-head P (f x) (map f xs) all) (All-viewed f P xs (All-tail P (f x) (map f xs) all))

-- ---- the objects of a list

objects_of-items_of : (ds : List Data) → objects_of (items_of ds) ≡ ds
objects_of-items_of [] = refl
objects_of-items_of (d ∷ ds) = ap (λ es. d ∷ es) (objects_of-items_of ds)

plugins_of-found : (o : Option Data) (ds : Items) → plugins_of (field_of as_array o) ≡ Ok ds → o ≡ Some (array ds)
plugins_of-found None ds is = cc
plugins_of-found (Some null) ds is = cc
plugins_of-found (Some (boolean b)) ds is = cc
plugins_of-found (Some (number n)) ds is = cc
plugins_of-found (Some (string s)) ds is = cc
plugins_of-found (Some (array es)) ds is = ap (λ fs. Some (array fs)) (ok_same is)
plugins_of-found (Some (object ms)) ds is = cc

plugins_at-found : (d : Data) (ds : Items) → plugins_at d ≡ Ok ds → get (codes "plugins") d ≡ Some (array ds)
unfolding plugins_at
plugins_at-found d ds is = plugins_of-found (get (codes "plugins") d) ds is

all_objects : (ds : List Data) → items_have_float (items_of ds) ≡ false → items_depth (items_of ds) + 2 ≤ max_depth
    → All IsPluginObject ds
all_objects [] whole shallow = All-nil IsPluginObject
all_objects (d ∷ ds) whole shallow =
    let parts = or_parts (has_float d) _ whole in
    All-cons IsPluginObject d ds (record { whole = parts.0; shallow = omega arith })
    (all_objects ds parts.1 (omega arith))

-- ---- a list that is read

network_list_at-plugins : (d : Data) (list : NetList) → network_list_at d ≡ Ok list
    → (ds : Items) × (plugins_at d ≡ Ok ds)
unfolding each_plugin_at
network_list_at-plugins d list is =
    let objects =
    goes (plugins_at d) (each plugin_by_type_at) (plugins_in list.first list.chained)
    (network_list_at-each d list is) in
    (objects.value, objects.first)

-- what was taken out for the plugins is the plugins, since the list has some
plugins_at-taken : (d : Data) (list : NetList) (ds : Items) → network_list_at d ≡ Ok list
    → IfOk (plugins_at d) (λ plugins. ds ≡ plugins) → plugins_at d ≡ Ok ds
plugins_at-taken d list ds is taken =
    let found = network_list_at-plugins d list is in
    found.1 ∙ ap Ok (sym (rw found.1 at taken))

pub raw_is : (bytes : List ℕ) (d : Data) (list : NetList) (ds : List Data)
    → ((bytes : List ℕ) (list : NetList) → list_of bytes ≡ Ok list → IsWellFormedList list)
    → read_or_refused (json_of bytes) ≡ Ok d → network_list_at d ≡ Ok list
    → IfOk (plugins_at d) (λ plugins. items_of ds ≡ plugins) → has_float d ≡ false → depth d ≤ max_depth
    → IsRaw (record { list = list; objects = ds })
unfolding list_of each_plugin_at
raw_is bytes d list ds well_formed json is taken whole shallow =
    let plugins = plugins_at-taken d list (items_of ds) is taken in
    let there = plugins_at-found d (items_of ds) plugins in
    let deeper = get-depth (codes "plugins") d (array (items_of ds)) there in
    record {
      list = well_formed bytes list (rw json is);
      plugins = rw plugins at (network_list_at-each d list is);
      objects =
          all_objects ds (get-whole (codes "plugins") d (array (items_of ds)) whole there)
          (omega (arith, deeper, shallow));
    }

pub raw_of-ok : (bytes : List ℕ) (d : Data) (list : NetList) (ds : List Data) → read_or_refused (json_of bytes) ≡ Ok d
    → network_list_at d ≡ Ok list → IfOk (plugins_at d) (λ plugins. items_of ds ≡ plugins)
    → raw_of bytes ≡ Ok (record { list = list; objects = ds })
unfolding raw_of raw_at
raw_of-ok bytes d list ds json is taken =
    let plugins = plugins_at-taken d list (items_of ds) is taken in
    rw (json, is, plugins) (ap (λ es. Ok (record { list = list; objects = es })) (objects_of-items_of ds))

-- ---- its refusals

by_list : (list : Result NetList ConfError) (plugins : Result Items ConfError)
    → ((l : NetList) → list ≡ Ok l → (ds : Items) × (plugins ≡ Ok ds))
    → list
    ≡ ok_map (λ (raw : RawView). raw.list)
    (list >>= λ l. plugins >>= λ ds. Ok (record { list = l; objects = objects_of ds }))
by_list (Ok l) plugins there = let found = there l refl in rw (found.1) refl
by_list (Err e) plugins there = refl

raw_at-list : (d : Data) → network_list_at d ≡ ok_map (λ (raw : RawView). raw.list) (raw_at d)
unfolding raw_at
raw_at-list d = by_list (network_list_at d) (plugins_at d) (network_list_at-plugins d)

after_json : (json : Result Data ConfError)
    → (json >>= network_list_at) ≡ ok_map (λ (raw : RawView). raw.list) (json >>= raw_at)
after_json (Ok d) = raw_at-list d
after_json (Err e) = refl

-- a raw list is refused as its network list is, and has it
pub raw_of-list : (bytes : List ℕ) → list_of bytes ≡ ok_map (λ (raw : RawView). raw.list) (raw_of bytes)
unfolding list_of raw_of
raw_of-list bytes = after_json (read_or_refused (json_of bytes))
