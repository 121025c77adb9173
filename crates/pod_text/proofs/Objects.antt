-- The requests to each plugin, by the plugins' objects as values.
use Rattle.std.proofs.Common.{◌≡◌, ◌∙◌, List, [], ◌∷◌, ap, map, refl}
use Rattle.std.specs.Prelude.{Option}
use Rattle.serde_json.specs.{Data.Data, View.view, declared.value.Value.Value}
use Rattle.cni_result.specs.declared.{cached.PortMapping.PortMapping, result.AddResult.AddResult}
use Rattle.plugin_requests.specs.{Raw.RawView, Request.request_data}
use Rattle.net_conf.specs.declared.list.NetList.{NetList}
use Rattle.pod_file.specs.declared.command.ValidAtt.{ValidAtt}
use Rattle.pod_text.specs.Requests.{to_each}

map-view : (f : Data → Data) (objects : List Value) → map (λ o. f (view o)) objects ≡ map f (map view objects)
map-view f [] = refl
map-view f (o ∷ objects) = ap (λ ds. f (view o) ∷ ds) (map-view f objects)

pub to_each-view : (raw : RawView) (prev : Option AddResult) (mappings : List PortMapping)
    (valid : Option (List ValidAtt)) (list : NetList) (objects : List Value)
    → list ≡ raw.list → map view objects ≡ raw.objects
    → map (λ o. request_data list (view o) prev mappings valid) objects ≡ to_each raw prev mappings valid
to_each-view raw prev mappings valid list objects list_is objects_are =
    map-view (λ d. request_data list d prev mappings valid) objects
    ∙ ap (map (λ d. request_data list d prev mappings valid)) objects_are
    ∙ ap (λ (l : NetList). map (λ d. request_data l d prev mappings valid) raw.objects) list_is
