-- A request that was printed is read again, part by part.
use Rattle.std.proofs.Common.{◌≡◌, ℕ, List, [], ◌∷◌, Bool, true, false, Option, Some, None, option_map, Ok, refl, ap}
use Rattle.std.proofs.{Common.◌∙◌, lemmas.List.Elements.{All-nil, recursion_from_All}}
use Rattle.std.specs.Prelude.{All, if◌then◌else◌, IfSome}
use Rattle.serde_json.specs.Find.{as_array}
use Rattle.cni_json.specs.{Each.each, Fields.{field_of, member_or, object_of, unless_null}, Json.json_of}
use Rattle.cni_json.specs.Members.{list_data}
use Rattle.cni_result.proofs.{Lookups.object_member, ReadAgain.{each_again, everywhere, each_of}}
use Rattle.cni_result.specs.Laws.{IsMapping, IsReadable, MappingsAreReadAgain, ResultsAreReadAgain}
use Rattle.cni_result.specs.{Mappings.mapping_data, Results.result_data, declared.cached.PortMapping.PortMapping}
use Rattle.cni_result.specs.declared.result.AddResult.{AddResult}
use Rattle.net_conf.proofs.ChainFacts.{each-at}
use Rattle.net_conf.specs.{Capabilities.asks_for_mappings, Members.ok_map, Names.is_network_name}
use Rattle.net_conf.specs.{Plugin.{plugin_by_type_at, plugins_in}, declared.plugin.Plugin.Plugin}
use Rattle.plugin_requests.specs.{Raw.{IsRaw, RawView}, Request.{mappings_for, object_at, request_members, request_of}}
use Rattle.plugin_requests.specs.Request.{runtime_members, valid_data}
use Rattle.pod_file.specs.declared.command.{ValidAtt.ValidAtt, Verb.Verb}
use Rattle.exec_protocol.proofs.{HeadAgain.head_again, RequestMembers.{Parts, made, at_prev, at_config, at_valid}}
use Rattle.exec_protocol.specs.{Laws.{IsReadAgain, RequestsAreReadAgain}, Reading.{prev_if, prev_at, lacks_prev}}
use Rattle.exec_protocol.specs.Reading.{prev_needed, needed_prev_at, wrong_runtime, mapping_at, runtime_mappings_at}
use Rattle.exec_protocol.specs.Reading.{mappings_at, wrong_valid, valid_text_at, valid_attachment_at, valid_at}
use Rattle.exec_protocol.specs.Reading.{runtime_parts_at, front_at, parts_at, request_at, request_of_bytes}
use Rattle.exec_protocol.specs.declared.env.Env.{Env}

-- ---- the result before it

prev_if_again : ResultsAreReadAgain → (prev : Option AddResult) → IfSome prev IsReadable
    → prev_if (unless_null (option_map result_data prev)) ≡ Ok prev
prev_if_again results None readable = refl
prev_if_again results (Some r) readable = rw (results r readable) refl

prev_again : ResultsAreReadAgain → (p : Parts) → IfSome p.prev IsReadable → prev_at (made p) ≡ Ok p.prev
unfolding prev_at
prev_again results p readable =
    ap (λ found. prev_if (unless_null found)) (at_prev p) ∙ prev_if_again results p.prev readable

needed_prev_again : ResultsAreReadAgain → (p : Parts) (verb : Verb) (plugin : Plugin) → IfSome p.prev IsReadable
    → lacks_prev verb plugin p.prev ≡ false → needed_prev_at verb plugin (made p) ≡ Ok p.prev
unfolding needed_prev_at prev_needed
needed_prev_again results p verb plugin readable needed = rw (prev_again results p readable, needed) refl

-- ---- what the runtime adds

mapping_again : MappingsAreReadAgain → (mapping : PortMapping) → IsMapping mapping
    → mapping_at (mapping_data mapping) ≡ Ok mapping
unfolding mapping_at
mapping_again read mapping is = rw (read mapping is) refl

runtime_mappings_again : MappingsAreReadAgain → (mappings : List PortMapping) → All IsMapping mappings
    → member_or (Ok []) wrong_runtime runtime_mappings_at
    (field_of object_of (object_member (runtime_members mappings))) ≡ Ok mappings
unfolding runtime_mappings_at
runtime_mappings_again read [] all = refl
runtime_mappings_again read (mapping ∷ mappings) all =
    each_again mapping_data mapping_at (mapping ∷ mappings)
    (everywhere IsMapping (λ m. mapping_at (mapping_data m) ≡ Ok m) (mapping ∷ mappings) (mapping_again read)
    (recursion_from_All IsMapping (mapping ∷ mappings) all))

mappings_again : MappingsAreReadAgain → (p : Parts) → All IsMapping p.mappings → mappings_at (made p) ≡ Ok p.mappings
unfolding mappings_at
mappings_again read p all =
    ap (λ found. member_or (Ok []) wrong_runtime runtime_mappings_at (field_of object_of found)) (at_config p)
    ∙ runtime_mappings_again read p.mappings all

valid_attachment_again : (att : ValidAtt) → valid_attachment_at (valid_data att) ≡ Ok att
unfolding valid_attachment_at valid_text_at
valid_attachment_again att = refl

valid_list_again : (valid : Option (List ValidAtt))
    → member_or (Ok None) wrong_valid (λ items. ok_map Some (each valid_attachment_at items))
    (field_of as_array (option_map (list_data valid_data) valid)) ≡ Ok valid
valid_list_again None = refl
valid_list_again (Some atts) =
    rw (each_again valid_data valid_attachment_at atts
    (each_of (λ att. valid_attachment_at (valid_data att) ≡ Ok att) atts valid_attachment_again)) refl

valid_again : (p : Parts) → valid_at (made p) ≡ Ok p.valid
unfolding valid_at
valid_again p =
    ap (λ found. member_or (Ok None) wrong_valid (λ items. ok_map Some (each valid_attachment_at items))
    (field_of as_array found)) (at_valid p)
    ∙ valid_list_again p.valid

runtime_parts_again : MappingsAreReadAgain → (p : Parts) → All IsMapping p.mappings
    → runtime_parts_at (made p) ≡ Ok (record { mappings = p.mappings; valid = p.valid })
unfolding runtime_parts_at
runtime_parts_again read p all = rw (mappings_again read p all, valid_again p) refl

-- ---- the whole

made_again : ResultsAreReadAgain → MappingsAreReadAgain → (p : Parts) (env : Env) (verb : Verb) (plugin : Plugin)
    → is_network_name p.list.name ≡ true → plugin_by_type_at p.own ≡ Ok plugin
    → IfSome p.prev IsReadable → All IsMapping p.mappings → lacks_prev verb plugin p.prev ≡ false
    → request_at env verb (made p) ≡ Ok (record {
      env = env;
      version = p.list.version;
      name = p.list.name;
      plugin = plugin;
      prev = p.prev;
      mappings = p.mappings;
      valid = p.valid;
    })
unfolding request_at parts_at front_at
made_again results read p env verb plugin name is readable all needed =
    rw (
      head_again p plugin name is,
      needed_prev_again results p verb plugin readable needed,
      runtime_parts_again read p all,
    ) refl

all_for : (asks : Bool) (mappings : List PortMapping) → All IsMapping mappings
    → All IsMapping (if asks then mappings else [])
all_for true mappings all = all
all_for false mappings all = All-nil IsMapping

-- the request to a plugin of a list is read again
pub request_again : ResultsAreReadAgain → MappingsAreReadAgain → RequestsAreReadAgain
unfolding request_members
request_again results read raw k plugin env verb prev mappings valid is there readable all needed =
    let d = object_at raw k in
    let named : plugin_by_type_at d ≡ Ok plugin =
    each-at plugin_by_type_at raw.objects (plugins_in raw.list.first raw.list.chained) k plugin is.plugins there in
    made_again results read
    (record { list = raw.list; own = d; prev = prev; mappings = mappings_for d mappings; valid = valid })
    env verb plugin is.list.name named readable (all_for (asks_for_mappings d) mappings all) needed

-- so are the bytes that spell it
pub bytes_again : RequestsAreReadAgain → (raw : RawView) (k : ℕ) (prev : Option AddResult) (mappings : List PortMapping)
    (valid : Option (List ValidAtt)) (bytes : List ℕ) → IsRaw raw → All IsMapping mappings
    → json_of bytes ≡ Ok (request_of raw k prev mappings valid) → IsReadAgain raw k prev mappings valid bytes
unfolding request_of_bytes
bytes_again again raw k prev mappings valid bytes is all json env verb plugin words there readable needed =
    rw (words, json) (again raw k plugin env verb prev mappings valid is there readable all needed)
