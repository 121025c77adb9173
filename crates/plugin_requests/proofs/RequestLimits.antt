-- What a line of a request needs to be read again: whole numbers, and no more levels than a reader takes.
use Rattle.std.proofs.Common.{◌≡◌, ◌+◌, ◌≤◌, List, false, Option, not, refl, arith, rules}
use Rattle.std.specs.Prelude.{codes}
use Rattle.serde_json.specs.{Data.{Data, Members, no_members, put, depth, members_depth}, Read.max_depth}
use Rattle.serde_json.specs.Written.{has_float, members_have_float}
use Rattle.cni_json.proofs.{Building.members_have_float-put, Depths.{members_depth-put, members_depth-put_if}}
use Rattle.cni_json.proofs.Depths.{depth-list, members_depth-put_list, members_depth-put_object, depth-object}
use Rattle.cni_json.proofs.KeptMembers.{members_depth-where, members_depth-members_in, members_have_float-where}
use Rattle.cni_json.proofs.KeptMembers.{members_have_float-members_in}
use Rattle.cni_json.specs.Members.{members_in, text_data, list_data, ◌▷◌, put_if}
use Rattle.cni_result.proofs.{Depths.result_depth, ResultLemmas.{result_is_whole, mapping_is_whole}}
use Rattle.cni_result.proofs.WholeNumbers.{puts_are_whole, items_are_whole, put_if_is_whole, put_list_is_whole}
use Rattle.cni_result.proofs.WholeNumbers.{put_object_is_whole}
use Rattle.cni_result.specs.{Mappings.mapping_data, Results.{version_data, result_data}}
use Rattle.cni_result.specs.declared.{cached.PortMapping.PortMapping, result.AddResult.AddResult}
use Rattle.plugin_requests.specs.{Raw.IsPluginObject, Request.{mappings_for, valid_key, valid_data, runtime_members}}
use Rattle.plugin_requests.specs.Request.{own_members, request_members}
use Rattle.net_conf.specs.{RuntimeKeys.is_runtime_key, declared.list.NetList.NetList}
use Rattle.pod_file.specs.declared.command.ValidAtt.{ValidAtt}

-- ---- a request, member by member

abbrev up_to_valid : Data → Option (List ValidAtt) → Members
up_to_valid d valid = own_members d ▷ put_if (list_data valid_data) valid_key valid

abbrev up_to_version : NetList → Data → Option (List ValidAtt) → Members
up_to_version list d valid = up_to_valid d valid ▷ put (codes "cniVersion") (version_data list.version)

abbrev up_to_name : NetList → Data → Option (List ValidAtt) → Members
up_to_name list d valid = up_to_version list d valid ▷ put (codes "name") (text_data list.name)

abbrev up_to_prev : NetList → Data → Option AddResult → Option (List ValidAtt) → Members
up_to_prev list d prev valid = up_to_name list d valid ▷ put_if result_data (codes "prevResult") prev

-- ---- numbers

own_is_whole : (d : Data) → has_float d ≡ false → members_have_float (own_members d) ≡ false
own_is_whole d whole =
    members_have_float-where (λ key. not (is_runtime_key key)) (members_in d) (members_have_float-members_in d whole)

valid_is_whole : (att : ValidAtt) → has_float (valid_data att) ≡ false
valid_is_whole att = search puts_are_whole depth 8

runtime_is_whole : (mappings : List PortMapping) → members_have_float (runtime_members mappings) ≡ false
runtime_is_whole mappings =
    put_list_is_whole mapping_data (codes "portMappings") mappings no_members mapping_is_whole refl

pub request_is_whole : (list : NetList) (d : Data) (prev : Option AddResult) (mappings : List PortMapping)
    (valid : Option (List ValidAtt))
    → IsPluginObject d
    → members_have_float (request_members list d prev mappings valid) ≡ false
unfolding request_members
request_is_whole list d prev mappings valid object =
    let atts =
    put_if_is_whole (list_data valid_data) valid_key valid (own_members d)
    (λ found. items_are_whole valid_data found valid_is_whole) (own_is_whole d object.whole) in
    let version =
    members_have_float-put (codes "cniVersion") (version_data list.version) (up_to_valid d valid) refl atts in
    let name = members_have_float-put (codes "name") (text_data list.name) (up_to_version list d valid) refl version in
    let before = put_if_is_whole result_data (codes "prevResult") prev (up_to_name list d valid) result_is_whole name in
    put_object_is_whole (codes "runtimeConfig") (runtime_members (mappings_for d mappings))
    (up_to_prev list d prev valid) (runtime_is_whole (mappings_for d mappings)) before

-- ---- levels

own_depth : (d : Data) → IsPluginObject d → members_depth (own_members d) ≤ 125
own_depth d object =
    let all = members_depth-members_in d in
    let kept = members_depth-where (λ key. not (is_runtime_key key)) (members_in d) in
    omega (arith, all, kept, object.shallow)

valid_depth : (att : ValidAtt) → depth (valid_data att) ≤ 1
valid_depth att =
    let container =
    members_depth-put 0 (codes "containerID") (text_data att.container) no_members (omega arith) (omega arith) in
    let both =
    members_depth-put 0 (codes "ifname") (text_data att.ifname)
    (put (codes "containerID") (text_data att.container) no_members) (omega arith) container in
    omega (arith, both)

valid_list_depth : (atts : List ValidAtt) → depth (list_data valid_data atts) ≤ 125
valid_list_depth atts = let list = depth-list 1 valid_data atts valid_depth in omega (arith, list)

mapping_depth : (m : PortMapping) → depth (mapping_data m) ≤ 1
unfolding mapping_data
mapping_depth m = depth-object 0 _ (search (rules, members_depth-put, members_depth-put_if) depth 9)

runtime_depth : (mappings : List PortMapping) → members_depth (runtime_members mappings) ≤ 124
runtime_depth mappings =
    let list =
    members_depth-put_list 1 mapping_data (codes "portMappings") mappings no_members mapping_depth (omega arith) in
    omega (arith, list)

prev_depth : (r : AddResult) → depth (result_data r) ≤ 125
prev_depth r = let result = result_depth r in omega (arith, result)

-- a line may have the request in an object
pub request_depth : (list : NetList) (d : Data) (prev : Option AddResult) (mappings : List PortMapping)
    (valid : Option (List ValidAtt))
    → IsPluginObject d
    → members_depth (request_members list d prev mappings valid) + 2 ≤ max_depth
unfolding request_members
request_depth list d prev mappings valid object =
    let atts =
    members_depth-put_if 125 (list_data valid_data) valid_key valid (own_members d) valid_list_depth
    (own_depth d object) in
    let version =
    members_depth-put 125 (codes "cniVersion") (version_data list.version) (up_to_valid d valid)
    (omega arith) atts in
    let name =
    members_depth-put 125 (codes "name") (text_data list.name) (up_to_version list d valid) (omega arith) version in
    let before =
    members_depth-put_if 125 result_data (codes "prevResult") prev (up_to_name list d valid) prev_depth name in
    let whole =
    members_depth-put_object 124 (codes "runtimeConfig") (runtime_members (mappings_for d mappings))
    (up_to_prev list d prev valid) (runtime_depth (mappings_for d mappings)) before in
    omega (arith, whole)
