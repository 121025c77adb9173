-- Addresses of a family: those that an attachment is given, and those of a result.
use Rattle.std.specs.{List.list_any, Prelude.{Bool, List, find, Option, option_map}}
use Rattle.cni_addr.specs.{Codes.family_eq, declared.address.{Addr.Addr, Cidr.Cidr, Family.Family}}
use Rattle.cni_result.specs.declared.result.IpEntry.{IpEntry}
use Rattle.kernel_types.specs.declared.call.Given.{Given}

abbrev pub is_of_family : Family → Cidr → Bool
is_of_family family address = family_eq address.addr.family family

abbrev pub first_given : Family → List Given → Option Given
first_given family given = find (λ g. is_of_family family g.address) given

-- the gateway of the first given address of the family
abbrev pub family_gateway : Family → List Given → Option Addr
family_gateway family given = option_map (λ g. g.gateway) (first_given family given)

abbrev pub has_family : Family → List Given → Bool
has_family family given = list_any (λ g. is_of_family family g.address) given

abbrev pub first_of_family : Family → List IpEntry → Option IpEntry
first_of_family family ips = find (λ ip. is_of_family family ip.address) ips
