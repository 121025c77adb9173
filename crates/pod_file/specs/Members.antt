-- Members of a command, each with its refusal: the place is the command's, `outer` the command's key that holds the
-- member.
use Rattle.std.specs.Prelude.{ℕ, List, [], codes, Result, Ok}
use Rattle.serde_json.specs.Data.{Data}
use Rattle.cni_json.specs.{Each.list_or, Fields.{text_field, list_field, u64_field, member_or, needed, object_or}}
use Rattle.cni_json.specs.Outcome.{◌>>=◌}
use Rattle.pod_file.specs.{Refusals.wrong_key, declared.command.{RawMapping.RawMapping, ValidAtt.ValidAtt}}
use Rattle.pod_file.specs.declared.{error.PodError.PodError, place.Place.Place}

-- a text, or the default where there is none
unfoldable pub inner_text_at : Place → List ℕ → List ℕ → List ℕ → Data → Result (List ℕ) PodError
inner_text_at place outer key default d = member_or (Ok default) (wrong_key place outer) Ok (text_field key d)

-- a text of the command itself
abbrev pub text_at : Place → List ℕ → List ℕ → Data → Result (List ℕ) PodError
text_at place key default d = inner_text_at place key key default d

-- a text that must be there
unfoldable pub needed_text_at : Place → List ℕ → List ℕ → Data → Result (List ℕ) PodError
needed_text_at place outer key d = needed (wrong_key place outer) Ok (text_field key d)

-- a port, which is any number here: an ADD tests it
unfoldable pub port_at : Place → List ℕ → Data → Result ℕ PodError
port_at place key d = member_or (Ok 0) (wrong_key place (codes "portMappings")) Ok (u64_field key d)

-- the list under a key of the command, each of its members read, and empty where it is absent
unfoldable pub list_at : {A : Type 0} → Place → List ℕ → (Data → Result A PodError) → Data
    → Result (List A) PodError
list_at place key read d = list_or (wrong_key place key) read (list_field key d)

-- a text of a mapping, empty where there is none
unfoldable pub mapping_text_at : Place → List ℕ → Data → Result (List ℕ) PodError
mapping_text_at place key d = inner_text_at place (codes "portMappings") key [] d

-- a port mapping (the capability `portMappings` of the CNI conventions), as it is written
unfoldable pub mapping_at : Place → Data → Result RawMapping PodError
mapping_at place d = do
  _ ← object_or (wrong_key place (codes "portMappings")) d
  host_port ← port_at place (codes "hostPort") d
  container_port ← port_at place (codes "containerPort") d
  protocol ← mapping_text_at place (codes "protocol") d
  host_ip ← mapping_text_at place (codes "hostIP") d
  Ok (record { host_port = host_port; container_port = container_port; protocol = protocol; host_ip = host_ip })

-- the port mappings, none where there is no list
unfoldable pub mappings_at : Place → Data → Result (List RawMapping) PodError
mappings_at place d = list_at place (codes "portMappings") (mapping_at place) d

-- an attachment that a GC keeps (CNI specification 1.1.0, section 2, `cni.dev/valid-attachments`); a value that is no
-- object has no `containerID`
unfoldable pub valid_attachment_at : Place → Data → Result ValidAtt PodError
valid_attachment_at place d = do
  container ← needed_text_at place (codes "valid") (codes "containerID") d
  ifname ← needed_text_at place (codes "valid") (codes "ifname") d
  Ok (record { container = container; ifname = ifname })

-- the attachments that a GC keeps, none where there is no list
unfoldable pub valid_at : Place → Data → Result (List ValidAtt) PodError
valid_at place d = list_at place (codes "valid") (valid_attachment_at place) d
