-- A command of a pod file, key by key in the order of its refusals. Each key is tested at every verb.
use Rattle.std.specs.Prelude.{ℕ, ◌&&◌, List, [], codes, Bool, true, false, nat_le, if◌then◌else◌, Result, Ok, ok_or}
use Rattle.std.specs.{Prelude.{option_map, Option, Some, None, find}, Str.bytes_eq}
use Rattle.serde_json.specs.Data.{Data}
use Rattle.cni_json.specs.Fields.{text_field, u32_field, u32_of, has_32_bits, member_or, object_or, needed, tested}
use Rattle.cni_json.specs.{Outcome.◌>>=◌, declared.fields.Field.Field}
use Rattle.kernel_types.specs.{Texts.table_named, declared.rule.Table.Table}
use Rattle.pod_file.specs.{Members.{text_at, needed_text_at, list_at, mappings_at, valid_at}, Refusals.wrong}
use Rattle.pod_file.specs.{Refusals.{wrong_key, command_path, key_path}, declared.command.Command.Command}
use Rattle.pod_file.specs.declared.{command.{TheConstants.Verb.ALL, Verb.Verb}, commands.CommandTexts.CommandTexts}
use Rattle.pod_file.specs.declared.{error.PodError.PodError, place.Place.Place}
use Rattle.pod_file.specs.declared.command.Verb.TheVariants as verbs
use Rattle.pod_file.specs.declared.error.PodError.TheVariants as refusal

-- ---- the verb

abbrev pub wrong_verb : {A : Type 0} → Place → Result A PodError
wrong_verb place = wrong_key place (codes "verb")

-- a verb as pod files and the output spell it
abbrev pub verb_text : Verb → List ℕ
verb_text verbs.Add = codes "ADD"
verb_text verbs.Check = codes "CHECK"
verb_text verbs.Del = codes "DEL"
verb_text verbs.Gc = codes "GC"
verb_text verbs.Status = codes "STATUS"
verb_text verbs.Version = codes "VERSION"
verb_text verbs.NsAdd = codes "NSADD"
verb_text verbs.NsDel = codes "NSDEL"
verb_text verbs.Drop = codes "DROP"
verb_text verbs.Flush = codes "FLUSH"

-- the verb that the text names
abbrev pub verb_named : List ℕ → Option Verb
verb_named text = find (λ verb. bytes_eq text (verb_text verb)) ALL

-- what the command does; it must be there
unfoldable pub verb_at : Place → Data → Result Verb PodError
verb_at place d =
    needed (wrong_verb place)
    (λ text. ok_or (verb_named text) (refusal.Shape (key_path place (codes "verb")))) (text_field (codes "verb") d)

-- the verbs of the CNI specification, which speak of a network
abbrev pub is_of_network : Verb → Bool
is_of_network verbs.NsAdd = false
is_of_network verbs.NsDel = false
is_of_network verbs.Drop = false
is_of_network verbs.Flush = false
is_of_network verb = true

-- a flush names its table
abbrev pub needs_table : Verb → Bool
needs_table verbs.Flush = true
needs_table verb = false

-- the verbs that no other command may stand beside in a round
abbrev pub is_exclusive_verb : Verb → Bool
is_exclusive_verb verbs.Add = false
is_exclusive_verb verbs.Check = false
is_exclusive_verb verbs.Del = false
is_exclusive_verb verbs.Version = false
is_exclusive_verb verb = true

-- ---- texts

-- the network's name, which must be there for a verb that speaks of one
unfoldable pub network_at : Place → Verb → Data → Result (List ℕ) PodError
network_at place verb d =
    if is_of_network verb then needed_text_at place (codes "network") (codes "network") d
    else text_at place (codes "network") [] d

-- the texts that name what the command is about
unfoldable pub texts_at : Place → Verb → Data → Result CommandTexts PodError
texts_at place verb d = do
  network ← network_at place verb d
  container ← text_at place (codes "container") [] d
  netns ← text_at place (codes "netns") [] d
  ifname ← text_at place (codes "ifname") (codes "eth0") d
  args ← text_at place (codes "args") [] d
  Ok (record { network = network; container = container; netns = netns; ifname = ifname; args = args })

-- ---- the table, the stop and the faults

abbrev pub no_table : Place → Verb → Result (Option Table) PodError
no_table place verb = if needs_table verb then wrong_key place (codes "table") else Ok None

abbrev pub table_of : Place → Verb → Field (List ℕ) → Result (Option Table) PodError
table_of place verb f =
    member_or (no_table place verb) (wrong_key place (codes "table"))
    (λ text. ok_or (option_map Some (table_named text)) (refusal.Shape (key_path place (codes "table")))) f

-- the table that a flush empties
unfoldable pub table_at : Place → Verb → Data → Result (Option Table) PodError
table_at place verb d = table_of place verb (text_field (codes "table") d)

abbrev pub stop_of : Place → Field ℕ → Result (Option ℕ) PodError
stop_of place f = member_or (Ok None) (wrong_key place (codes "stop")) (λ n. Ok (Some n)) f

-- the number of calls after which the command stops
unfoldable pub stop_at : Place → Data → Result (Option ℕ) PodError
stop_at place d = stop_of place (u32_field (codes "stop") d)

-- calls are numbered from 1, in 32 bits
abbrev pub is_call_number : ℕ → Bool
is_call_number n = nat_le 1 n && has_32_bits n

abbrev pub fault_of : Place → Option ℕ → Result ℕ PodError
fault_of place None = wrong_key place (codes "faults")
fault_of place (Some n) = tested (wrong_key place (codes "faults")) is_call_number n

-- the number of a fault
abbrev pub fault_at : Place → Data → Result ℕ PodError
fault_at place d = fault_of place (u32_of d)

-- the numbers of the faults, in any order
unfoldable pub faults_at : Place → Data → Result (List ℕ) PodError
faults_at place d = list_at place (codes "faults") (fault_at place) d

-- ---- the whole command; it has no number yet

unfoldable pub command_at : Place → Data → Result Command PodError
command_at place d = do
  _ ← object_or (wrong (command_path place)) d
  verb ← verb_at place d
  texts ← texts_at place verb d
  mappings ← mappings_at place d
  valid ← valid_at place d
  table ← table_at place verb d
  stop ← stop_at place d
  faults ← faults_at place d
  Ok (record {
    number = 0;
    verb = verb;
    network = texts.network;
    container = texts.container;
    netns = texts.netns;
    ifname = texts.ifname;
    args = texts.args;
    mappings = mappings;
    valid = valid;
    table = table;
    stop = stop;
    faults = faults;
  })
