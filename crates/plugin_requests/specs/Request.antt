-- The request to one plugin: its own object, with what a runtime replaces in it (CNI specification 1.1.0, section 3,
-- "Deriving execution configuration from plugin configuration").
use Rattle.std.specs.Prelude.{ℕ, List, [], codes, not, if◌then◌else◌, Option, slice_index_or}
use Rattle.serde_json.specs.Data.{Data, null, object, Members, no_members, put}
use Rattle.cni_json.specs.Members.{members_in, members_where, text_data, list_data, ◌▷◌, put_if, put_list_unless_empty}
use Rattle.cni_json.specs.Members.{put_object_unless_empty}
use Rattle.cni_result.specs.{Mappings.mapping_data, Results.{version_data, result_data}}
use Rattle.cni_result.specs.declared.{cached.PortMapping.PortMapping, result.AddResult.AddResult}
use Rattle.plugin_requests.specs.Raw.{RawView}
use Rattle.net_conf.specs.{Capabilities.asks_for_mappings, RuntimeKeys.is_runtime_key, declared.list.NetList.NetList}
use Rattle.pod_file.specs.declared.command.ValidAtt.{ValidAtt}

-- the mappings that a plugin's object gets: these, where it asks for them
abbrev pub mappings_for : Data → List PortMapping → List PortMapping
mappings_for d mappings = if asks_for_mappings d then mappings else []

-- the key of the attachments that a GC is to keep
abbrev pub valid_key : List ℕ
valid_key = codes "cni.dev/valid-attachments"

-- an attachment that a GC is to keep
abbrev pub valid_data : ValidAtt → Data
valid_data att = object (no_members
    ▷ put (codes "containerID") (text_data att.container)
    ▷ put (codes "ifname") (text_data att.ifname))

-- what is under `runtimeConfig`
abbrev pub runtime_members : List PortMapping → Members
runtime_members mappings = no_members ▷ put_list_unless_empty mapping_data (codes "portMappings") mappings

-- the members of a plugin's object that its runtime leaves as they are
abbrev pub own_members : Data → Members
own_members d = members_where (λ key. not (is_runtime_key key)) (members_in d)

-- the members of the request to the plugin of this list that the object d configures
unfoldable pub request_members : NetList → Data → Option AddResult → List PortMapping → Option (List ValidAtt)
    → Members
request_members list d prev mappings valid = own_members d
    ▷ put_if (list_data valid_data) valid_key valid
    ▷ put (codes "cniVersion") (version_data list.version)
    ▷ put (codes "name") (text_data list.name)
    ▷ put_if result_data (codes "prevResult") prev
    ▷ put_object_unless_empty (codes "runtimeConfig") (runtime_members (mappings_for d mappings))

-- the request
abbrev pub request_data : NetList → Data → Option AddResult → List PortMapping → Option (List ValidAtt) → Data
request_data list d prev mappings valid = object (request_members list d prev mappings valid)

-- the object of the plugin in this place, from 0
abbrev pub object_at : RawView → ℕ → Data
object_at raw k = slice_index_or raw.objects k null

-- the request to the plugin in this place
abbrev pub request_of : RawView → ℕ → Option AddResult → List PortMapping → Option (List ValidAtt) → Data
request_of raw k prev mappings valid = request_data raw.list (object_at raw k) prev mappings valid
