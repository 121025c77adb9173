-- How many calls a GC can make.
use Rattle.std.specs.Prelude.{◌≡◌, ℕ, ◌+◌, ◌*◌, ◌≤◌, Bool, true, not, List, ◌++◌, map, filter, filter_map, length}
use Rattle.kernel_types.specs.{Apply.Calls.owner_in, Equal.att_eq, Sound.IsSound, declared.object.{Att.Att, Host.Host}}
use Rattle.kernel_types.specs.declared.object.Tag.{Tag}
use Rattle.cni_addr.specs.Lists.{each_key_once}
use Rattle.net_conf.specs.declared.list.NetList.{NetList}
use Rattle.pod_file.specs.declared.command.{Command.Command, ValidAtt.ValidAtt}
use Rattle.cni_verbs.specs.{Progress.is_gc, Sweep.is_valid}
use Rattle.plugin_chain.specs.Wanted.{kinds_of}
use Rattle.gc_sweep.specs.{Keep.goes, Trace.{Made, IsRun}}

-- the stale attachments that these tags name, each once
abbrev pub stale_owners : List ℕ → List ValidAtt → List Tag → List Att
stale_owners network valid tags =
    filter (λ a. not (is_valid valid a)) (each_key_once att_eq (filter_map (owner_in network) tags))

abbrev pub all_tags : Host → List Tag
all_tags host =
    map (λ l. l.tag) host.links
    ++ map (λ a. a.tag) host.addresses
    ++ map (λ r. r.tag) host.routes
    ++ map (λ r. r.tag) host.rules
    ++ map (λ s. s.tag) host.settings
    ++ map (λ l. l.tag) host.leases
    ++ map (λ c. c.tag) host.cached

-- how many objects have a tag that passes
abbrev pub objects_by : (Tag → Bool) → Host → ℕ
objects_by test host = length (filter test (all_tags host))

-- six; for each stale attachment six more than the kinds of a DEL; and one for each object that is not kept
abbrev pub most_of_collection : NetList → Command → Host → ℕ
most_of_collection list c host =
    6 + length (stale_owners c.network c.valid (all_tags host)) * (length (kinds_of list) + 6)
    + objects_by (goes c.network c.valid) host

abbrev pub GcBound : Type 0
GcBound = (list : NetList) (c : Command) (host : Host) (es : List Made) → is_gc c.verb ≡ true → IsSound host
    → IsRun list c host es → length es ≤ most_of_collection list c host
