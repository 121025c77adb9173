-- What a plugin is asked, part by part in the order of its refusals (CNI specification 1.1.0, section 3, "Deriving
-- execution configuration from plugin configuration").
use Rattle.std.specs.Prelude.{ℕ, List, [], codes, Bool, true, false, if◌then◌else◌, Option, Some, None, Result, Ok}
use Rattle.std.specs.Prelude.{ok_or, ⊤}
use Rattle.serde_json.specs.Data.{Data}
use Rattle.cni_json.specs.{Each.{each, list_or}, Fields.{member_at, text_field, list_field, object_field, member_or}}
use Rattle.cni_json.specs.{Fields.needed, Json.json_of, Outcome.◌>>=◌}
use Rattle.cni_result.specs.Mappings as mappings
use Rattle.cni_result.specs.{Reading.result_at, declared.{cached.PortMapping.PortMapping, result.AddResult.AddResult}}
use Rattle.net_conf.specs.{List.{header_at, read_or_refused}, Members.ok_map, Plugin.plugin_by_type_at}
use Rattle.net_conf.specs.{Refusals.invalid, declared.{error.ConfError.ConfError, plugin.Plugin.Plugin}}
use Rattle.net_conf.specs.declared.error.ConfError.TheVariants as confs
use Rattle.net_conf.specs.declared.plugin.Plugin.TheVariants as plugins
use Rattle.plugin_requests.specs.Request.{valid_key}
use Rattle.pod_file.specs.declared.command.{ValidAtt.ValidAtt, Verb.Verb}
use Rattle.pod_file.specs.declared.command.Verb.TheVariants as verbs
use Rattle.exec_protocol.specs.{Env.verb_at, Refusals.{of_conf, of_prev}, declared.env.Env.Env}
use Rattle.exec_protocol.specs.declared.{error.RequestError.RequestError, members.RequestHead.RequestHead}
use Rattle.exec_protocol.specs.declared.{members.RuntimeParts.RuntimeParts, reading.RequestFront.RequestFront}
use Rattle.exec_protocol.specs.declared.{reading.RequestParts.RequestParts, types.Request.Request}

-- ---- the network and the plugin

unfoldable pub head_at : Data → Result RequestHead ConfError
head_at d = do
  header ← header_at d
  plugin ← plugin_by_type_at d
  Ok (record { header = header; plugin = plugin })

-- ---- the result before it

abbrev pub prev_if : Option Data → Result (Option AddResult) RequestError
prev_if None = Ok None
prev_if (Some d) = do
  result ← of_prev (result_at d)
  Ok (Some result)

-- the result, if there is one
unfoldable pub prev_at : Data → Result (Option AddResult) RequestError
prev_at d = prev_if (member_at (codes "prevResult") d)

-- a chained plugin that is to add has none
abbrev pub lacks_prev : Verb → Plugin → Option AddResult → Bool
lacks_prev verbs.Add (plugins.Chained conf) None = true
lacks_prev verb plugin prev = false

unfoldable pub prev_needed : Verb → Plugin → Option AddResult → Result ⊤ ConfError
prev_needed verb plugin prev = if lacks_prev verb plugin prev then invalid (codes "prevResult") else Ok tt

-- the result, which must be there where it is needed
unfoldable pub needed_prev_at : Verb → Plugin → Data → Result (Option AddResult) RequestError
needed_prev_at verb plugin d = do
  prev ← prev_at d
  _ ← of_conf (prev_needed verb plugin prev)
  Ok prev

-- ---- the port mappings

abbrev pub wrong_runtime : {A : Type 0} → Result A ConfError
wrong_runtime = invalid (codes "runtimeConfig")

unfoldable pub mapping_at : Data → Result PortMapping ConfError
mapping_at d = ok_or (mappings.mapping_at d) (confs.Invalid (codes "runtimeConfig"))

-- those of what is under `runtimeConfig`
unfoldable pub runtime_mappings_at : Data → Result (List PortMapping) ConfError
runtime_mappings_at config = list_or wrong_runtime mapping_at (list_field (codes "portMappings") config)

unfoldable pub mappings_at : Data → Result (List PortMapping) ConfError
mappings_at d = member_or (Ok []) wrong_runtime runtime_mappings_at (object_field (codes "runtimeConfig") d)

-- ---- the attachments that a GC keeps

abbrev pub wrong_valid : {A : Type 0} → Result A ConfError
wrong_valid = invalid valid_key

unfoldable pub valid_text_at : List ℕ → Data → Result (List ℕ) ConfError
valid_text_at key d = needed wrong_valid Ok (text_field key d)

unfoldable pub valid_attachment_at : Data → Result ValidAtt ConfError
valid_attachment_at d = do
  container ← valid_text_at (codes "containerID") d
  ifname ← valid_text_at (codes "ifname") d
  Ok (record { container = container; ifname = ifname })

-- an empty list keeps none, and is not as an absent one
unfoldable pub valid_at : Data → Result (Option (List ValidAtt)) ConfError
valid_at d = member_or (Ok None) wrong_valid (λ items. ok_map Some (each valid_attachment_at items))
    (list_field valid_key d)

-- ---- the whole

unfoldable pub runtime_parts_at : Data → Result RuntimeParts ConfError
runtime_parts_at d = do
  mappings ← mappings_at d
  valid ← valid_at d
  Ok (record { mappings = mappings; valid = valid })

-- what names the plugin, and the result before it
unfoldable pub front_at : Verb → Data → Result RequestFront RequestError
front_at verb d = do
  head ← of_conf (head_at d)
  prev ← needed_prev_at verb head.plugin d
  Ok (record { head = head; prev = prev })

unfoldable pub parts_at : Verb → Data → Result RequestParts RequestError
parts_at verb d = do
  front ← front_at verb d
  runtime ← of_conf (runtime_parts_at d)
  Ok (record { front = front; runtime = runtime })

-- the parts, to a plugin that is called with these words
abbrev pub request_of_parts : Env → RequestParts → Request
request_of_parts env parts = record {
  env = env;
  version = parts.front.head.header.version;
  name = parts.front.head.header.name;
  plugin = parts.front.head.plugin;
  prev = parts.front.prev;
  mappings = parts.runtime.mappings;
  valid = parts.runtime.valid;
}

-- what the request says to a plugin that is called with these words for this verb
unfoldable pub request_at : Env → Verb → Data → Result Request RequestError
request_at env verb d = do
  parts ← parts_at verb d
  Ok (request_of_parts env parts)

-- what these words and bytes ask a plugin, or the first refusal
unfoldable pub request_of_bytes : Env → List ℕ → Result Request RequestError
request_of_bytes env bytes = do
  verb ← verb_at env
  d ← of_conf (read_or_refused (json_of bytes))
  request_at env verb d
