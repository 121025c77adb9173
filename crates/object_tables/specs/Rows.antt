-- What the objects of a host are found by.
use Rattle.std.specs.Prelude.{ℕ, List, Option, Some, None, if◌then◌else◌}
use Rattle.kernel_types.specs.{Terms.is_host_ns, declared.object.{Att.Att, Link.Link, LinkKey.LinkKey, Tag.Tag}}
use Rattle.kernel_types.specs.declared.object.Tag.TheVariants.{Outside, Base, Own}

-- the attachment that a tag names
abbrev pub owner_named : Tag → Option Att
owner_named Outside = None
owner_named Base = None
owner_named (Own att) = Some att

-- the name of a link of the host
abbrev pub host_name : Link → Option (List ℕ)
host_name link = if is_host_ns link.ns then Some link.name else None

-- the network of the attachment that a tag names
abbrev pub network_named : Tag → Option (List ℕ)
network_named Outside = None
network_named Base = None
network_named (Own att) = Some att.network

-- the namespace, where it isn't the host's own
abbrev pub inner_ns : List ℕ → Option (List ℕ)
inner_ns ns = if is_host_ns ns then None else Some ns

-- the link at this place, for what lies on it and no attachment owns
abbrev pub unowned_on : Tag → List ℕ → List ℕ → Option LinkKey
unowned_on Outside ns name = Some (record { ns = ns; name = name })
unowned_on Base ns name = Some (record { ns = ns; name = name })
unowned_on (Own att) ns name = None
