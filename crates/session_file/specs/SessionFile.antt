-- A session file, part by part in the order of its refusals. The format is this project's own.
use Rattle.std.specs.Prelude.{ℕ, List, [], codes, Bool, true, false, Option, Result, Ok, unwrap_or}
use Rattle.std.specs.Result.{result_map_both}
use Rattle.serde_json.specs.Data.{Data, null}
use Rattle.cni_json.specs.{Fields.{member_at, needed, object_or, tested, text_field}, Json.json_of, Outcome.◌>>=◌}
use Rattle.net_conf.specs.{Ipam.read_ipam_at, Names.is_network_name, declared.first.HostLocalConf.HostLocalConf}
use Rattle.pod_file.specs.{Opening.opening_at, PodFile.read_or_refused, Refusals.wrong}
use Rattle.pod_file.specs.declared.error.PodError.{PodError}
use Rattle.session_file.specs.{Tasks.tasks_at, declared.session.SessionConf.SessionConf}
use Rattle.pod_file.specs.declared.error.PodError.TheVariants as refusal

-- the network's name, in the grammar of a list's
unfoldable pub network_at : Data → Result (List ℕ) PodError
network_at d =
    needed (wrong (codes "network")) (tested (wrong (codes "network")) is_network_name) (text_field (codes "network") d)

-- the pools that the value of an `ipam` is; whatever is wrong in them has the place of the whole
unfoldable pub pools_of : Data → Result (Option HostLocalConf) PodError
pools_of d = result_map_both (λ pools. pools) (λ _. refusal.Shape (codes "ipam")) (read_ipam_at d)

-- the pools of a file; an `ipam` that is absent is as null
unfoldable pub pools_at : Data → Result (Option HostLocalConf) PodError
pools_at d = pools_of (unwrap_or (member_at (codes "ipam") d) null)

unfoldable pub session_at : Data → Result SessionConf PodError
session_at d = do
  _ ← object_or (wrong []) d
  network ← network_at d
  pools ← pools_at d
  opening ← opening_at d
  tasks ← tasks_at d
  Ok (record { network = network; ipam = pools; opening = opening; tasks = tasks })

-- the session that the bytes spell, or the first refusal
unfoldable pub session_of : List ℕ → Result SessionConf PodError
session_of bytes = read_or_refused (json_of bytes) >>= session_at

-- the refusal says that a command doesn't stand alone in its round; a session has no rounds
abbrev pub is_of_round : PodError → Bool
is_of_round (refusal.Alone round) = true
is_of_round refused = false
