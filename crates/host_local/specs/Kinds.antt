-- The kinds of objects that DEL takes back of a first plugin.
use Rattle.std.specs.Prelude.{Bool, List, [], ◌∷◌, ◌++◌, Option, Some, None, if◌then◌else◌}
use Rattle.net_conf.specs.declared.first.HostLocalConf.{HostLocalConf}
use Rattle.kernel_types.specs.declared.call.Kind.{Kind, TheVariants.{Links, Rules}}
use Rattle.host_local.specs.Leases.{host_local_kinds}

-- with `ipMasq` the rules
abbrev pub rule_kinds : Bool → List Kind
rule_kinds ip_masq = if ip_masq then Rules ∷ [] else []

-- with addresses the leases
abbrev pub lease_kinds : Option HostLocalConf → List Kind
lease_kinds None = []
lease_kinds (Some ipam) = host_local_kinds

abbrev pub interface_kinds : Bool → Option HostLocalConf → List Kind
interface_kinds ip_masq ipam = Links ∷ (rule_kinds ip_masq ++ lease_kinds ipam)
