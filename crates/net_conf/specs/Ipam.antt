-- The configuration of address management (CNI specification 1.1.0, section 1, `ipam`; the `host-local` plugin).
use Rattle.std.specs.Prelude.{◌&&◌, codes, Bool, true, false, if◌then◌else◌, Result, Ok, Err, Option, Some, None, ⊤}
use Rattle.std.specs.Str.{bytes_eq}
use Rattle.serde_json.specs.{Data.{Data, null, string, object, Members, no_members, member}, Find.get}
use Rattle.serde_json.specs.Written.{compact_text}
use Rattle.cni_json.specs.{Fields.{member_at, object_or}, Outcome.◌>>=◌}
use Rattle.cni_result.specs.Dns.{dns_of_object}
use Rattle.net_conf.specs.{Accepted.supported, Members.{is_null, ok_map}, Refusals.invalid, Routes.routes_at}
use Rattle.net_conf.specs.{Sets.sets_at, declared.{accepted.Accepted.TheVariants.EmptyText, error.ConfError.ConfError}}
use Rattle.net_conf.specs.declared.{first.HostLocalConf.HostLocalConf, ipam.Addressing.Addressing}
use Rattle.net_conf.specs.declared.error.ConfError.TheVariants as refusal

abbrev pub manager_of : Option Data → Result ⊤ ConfError
manager_of (Some (string text)) =
    if bytes_eq text (codes "host-local") then Ok tt
    else Err (refusal.Unsupported (codes "type") (compact_text (string text)))
manager_of d = invalid (codes "ipam")

-- `host-local` is the one plugin of this kind that is built
unfoldable pub manager_at : Data → Result ⊤ ConfError
manager_at d = manager_of (get (codes "type") d)

-- the configuration of `host-local`
unfoldable pub host_local_at : Data → Result HostLocalConf ConfError
host_local_at d = do
  _ ← object_or (invalid (codes "ipam")) d
  _ ← manager_at d
  _ ← supported EmptyText (codes "resolvConf") d
  sets ← sets_at d
  routes ← routes_at d
  Ok (record { sets = sets; routes = routes })

-- each member is null
abbrev pub all_null : Members → Bool
all_null no_members = true
all_null (member key d ms) = is_null d && all_null ms

-- null, and an object whose members, if it has any, are null
abbrev pub is_empty : Data → Bool
is_empty null = true
is_empty (object ms) = all_null ms
is_empty d = false

-- an `ipam` by itself; an empty one asks for no address
unfoldable pub read_ipam_at : Data → Result (Option HostLocalConf) ConfError
read_ipam_at d = if is_empty d then Ok None else ok_map Some (host_local_at d)

-- an absent one asks for none either
abbrev pub read_ipam_of : Option Data → Result (Option HostLocalConf) ConfError
read_ipam_of None = Ok None
read_ipam_of (Some d) = read_ipam_at d

-- the `ipam` of a plugin's object
unfoldable pub ipam_at : Data → Result (Option HostLocalConf) ConfError
ipam_at d = read_ipam_of (member_at (codes "ipam") d)

-- the members that each first plugin has last
unfoldable pub addressing_at : Data → Result Addressing ConfError
addressing_at d = do
  dns ← dns_of_object (refusal.Invalid (codes "dns")) d
  ipam ← ipam_at d
  Ok (record { dns = dns; ipam = ipam })
