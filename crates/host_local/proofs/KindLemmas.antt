-- Where a first plugin masquerades, DEL takes back its rules; where it gives addresses, the leases.
use Rattle.std.proofs.Common.{◌≡◌, Bool, true, false, List, ◌∷◌, ◌++◌, Option, Some, None, refl}
use Rattle.std.specs.{List.list_any, Prelude.is_some}
use Rattle.net_conf.specs.declared.first.HostLocalConf.{HostLocalConf}
use Rattle.kernel_types.specs.{Codes.kind_eq, declared.call.Kind.Kind}
use Rattle.kernel_types.specs.declared.call.Kind.TheVariants as kinds
use Rattle.host_local.specs.Kinds.{interface_kinds, lease_kinds, rule_kinds}

pub interface_kinds-rules : (ip_masq : Bool) (ipam : Option HostLocalConf) → ip_masq ≡ true
    → list_any (kind_eq kinds.Rules) (interface_kinds ip_masq ipam) ≡ true
interface_kinds-rules true ipam h = refl
interface_kinds-rules false ipam h = cc

behind-rules : (ip_masq : Bool) (rest : List Kind) → list_any (kind_eq kinds.Leases) rest ≡ true
    → list_any (kind_eq kinds.Leases) (kinds.Links ∷ (rule_kinds ip_masq ++ rest)) ≡ true
behind-rules true rest h = h
behind-rules false rest h = h

some-leases : (ipam : Option HostLocalConf) → is_some ipam ≡ true
    → list_any (kind_eq kinds.Leases) (lease_kinds ipam) ≡ true
some-leases None h = cc
some-leases (Some conf) h = refl

pub interface_kinds-leases : (ip_masq : Bool) (ipam : Option HostLocalConf) → is_some ipam ≡ true
    → list_any (kind_eq kinds.Leases) (interface_kinds ip_masq ipam) ≡ true
interface_kinds-leases ip_masq ipam h = behind-rules ip_masq (lease_kinds ipam) (some-leases ipam h)
