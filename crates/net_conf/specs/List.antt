-- A network list, part by part in the order of its refusals (CNI specification 1.1.0, section 1).
use Rattle.std.specs.Prelude.{ℕ, List, codes, Bool, true, false, if◌then◌else◌, Result, Ok, Err, Option, Some, None}
use Rattle.std.specs.Str.{bytes_eq}
use Rattle.serde_json.specs.Data.{Data, boolean, string}
use Rattle.cni_json.specs.{Fields.{member_at, text_field, object_or}, Json.json_of, Outcome.◌>>=◌}
use Rattle.cni_json.specs.declared.reading.ReadEnd.{ReadEnd}
use Rattle.cni_json.specs.declared.reading.ReadEnd.TheVariants as ends
use Rattle.net_conf.specs.{Members.needed_text, Names.is_network_name, Plugins.chain_at, Refusals.invalid}
use Rattle.net_conf.specs.{Versions.version_at, declared.{error.ConfError.ConfError, list.ListHeader.ListHeader}}
use Rattle.net_conf.specs.declared.list.NetList.{NetList}
use Rattle.net_conf.specs.declared.error.ConfError.TheVariants as refusal

-- bytes that are no JSON, or have another number than whole ones of 64 bits
abbrev pub read_or_refused : Result Data ReadEnd → Result Data ConfError
read_or_refused (Ok d) = Ok d
read_or_refused (Err ends.Decode) = Err refusal.Decode
read_or_refused (Err ends.Number) = invalid (codes "number")
read_or_refused (Err ends.NoMemory) = Err refusal.NoMemory

-- the name of the network
unfoldable pub name_at : Data → Result (List ℕ) ConfError
name_at d = needed_text (codes "name") is_network_name (text_field (codes "name") d)

abbrev pub switch_named : List ℕ → List ℕ → Result Bool ConfError
switch_named key text =
    if bytes_eq text (codes "true") then Ok true
    else if bytes_eq text (codes "false") then Ok false
    else invalid key

abbrev pub switch_of : List ℕ → Option Data → Result Bool ConfError
switch_of key None = Ok false
switch_of key (Some (boolean b)) = Ok b
switch_of key (Some (string text)) = switch_named key text
switch_of key (Some d) = invalid key

-- a truth value, or the text of one
unfoldable pub switch_at : List ℕ → Data → Result Bool ConfError
switch_at key d = switch_of key (member_at key d)

-- the keys that disable a verb (CNI specification, section 1, "Network configuration format")
abbrev pub disable_check_key : List ℕ
disable_check_key = codes "disableCheck"

abbrev pub disable_gc_key : List ℕ
disable_gc_key = codes "disableGC"

-- what a list says of itself before its plugins
unfoldable pub header_at : Data → Result ListHeader ConfError
header_at d = do
  _ ← object_or (invalid (codes "list")) d
  version ← version_at d
  name ← name_at d
  Ok (record { version = version; name = name })

-- a network list
unfoldable pub network_list_at : Data → Result NetList ConfError
network_list_at d = do
  header ← header_at d
  check ← switch_at disable_check_key d
  gc ← switch_at disable_gc_key d
  plugins ← chain_at d
  Ok (record {
    version = header.version;
    name = header.name;
    disable_check = check;
    disable_gc = gc;
    first = plugins.first;
    chained = plugins.chained;
  })

-- the network list that the bytes spell, or the first refusal
unfoldable pub list_of : List ℕ → Result NetList ConfError
list_of bytes = read_or_refused (json_of bytes) >>= network_list_at
