-- What a network list keeps that is read.
use Rattle.std.proofs.Common.{◌≡◌, ℕ, true, List, codes, Result, Ok, Err, refl, subst}
use Rattle.serde_json.specs.Data.{Data}
use Rattle.cni_json.specs.{Fields.{text_field, object_or}, Json.json_of, WellFormed.KeysAscend}
use Rattle.cni_json.specs.declared.reading.ReadEnd.{ReadEnd}
use Rattle.cni_json.specs.declared.reading.ReadEnd.TheVariants as ends
use Rattle.cni_json.proofs.{Ascending.KeysAscend-json_of, Endings.{goes, ok_same}}
use Rattle.net_conf.proofs.{Endings.needed_text-ok, PluginFacts.chain_at-ok}
use Rattle.net_conf.specs.List.{read_or_refused, name_at, header_at, switch_at, disable_check_key, disable_gc_key}
use Rattle.net_conf.specs.{List.{network_list_at, list_of}, Names.is_network_name, Plugins.chain_at, Refusals.invalid}
use Rattle.net_conf.specs.{Versions.version_at, WellFormed.IsWellFormedList, declared.list.ListHeader.ListHeader}
use Rattle.net_conf.specs.declared.list.NetList.{NetList}

name_at-ok : (d : Data) (name : List ℕ) → name_at d ≡ Ok name → is_network_name name ≡ true
unfolding name_at
name_at-ok d name is = needed_text-ok (codes "name") is_network_name (text_field (codes "name") d) name is

-- the name of a list whose head is read is in its grammar
pub header_at-ok : (d : Data) (header : ListHeader) → header_at d ≡ Ok header → is_network_name header.name ≡ true
unfolding header_at
header_at-ok d header is =
    let form = goes (object_or (invalid (codes "list")) d) _ header is in
    let version = goes (version_at d) _ header form.rest in
    let name = goes (name_at d) _ header version.rest in
    subst (λ h. is_network_name h.name ≡ true) (ok_same name.rest) (name_at-ok d name.value name.first)

network_list_at-ok : (d : Data) (list : NetList) → KeysAscend d → network_list_at d ≡ Ok list → IsWellFormedList list
unfolding network_list_at
network_list_at-ok d list order is =
    let header = goes (header_at d) _ list is in
    let check = goes (switch_at disable_check_key d) _ list header.rest in
    let gc = goes (switch_at disable_gc_key d) _ list check.rest in
    let plugins = goes (chain_at d) _ list gc.rest in
    let chain = chain_at-ok d plugins.value order plugins.first in
    subst IsWellFormedList (ok_same plugins.rest) (record {
      name = header_at-ok d header.value header.first;
      first = chain.first;
      chained = chain.later;
      types_once = chain.types_once;
    })

read-ok : (r : Result Data ReadEnd) (d : Data) → read_or_refused r ≡ Ok d → r ≡ Ok d
read-ok (Ok e) d is = let same : e ≡ d = ok_same is in rw same refl
read-ok (Err ends.Decode) d is = cc
read-ok (Err ends.Number) d is = cc
read-ok (Err ends.NoMemory) d is = cc

-- every list that is read is well formed
pub list_of-ok : (bytes : List ℕ) (list : NetList) → list_of bytes ≡ Ok list → IsWellFormedList list
unfolding list_of
list_of-ok bytes list is =
    let json = goes (read_or_refused (json_of bytes)) _ list is in
    network_list_at-ok json.value list
    (KeysAscend-json_of bytes json.value (read-ok (json_of bytes) json.value json.first)) json.rest
