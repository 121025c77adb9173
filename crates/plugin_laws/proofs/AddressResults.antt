-- What address management gives an ADD can be read again.
use Rattle.std.proofs.Common.{◌≡◌, ◌<◌, ◌≤◌, true, List, [], ◌∷◌, map, Option, Some, None, sym, ◌∙◌, subst, arith}
use Rattle.std.proofs.lemmas.{Bool.{and_parts, Decides.nat_tests}, List.Elements.recursion_from_All}
use Rattle.std.specs.{List.{AllByRecursion, cons_option}, Prelude.{IfSome, find, nat_le, option_map}}
use Rattle.cni_addr.proofs.Networks.{family_eq-true}
use Rattle.cni_addr.specs.{Codes.family_eq, Network.contains, Value.{bits_below, longest_prefix}}
use Rattle.cni_addr.specs.declared.{address.Addr.Addr, range.{Range.Range, RangeSet.RangeSet}}
use Rattle.cni_result.proofs.ReadAgain.{everywhere}
use Rattle.cni_result.specs.{Laws.{IsIpEntry, IsRouteEntry}, declared.result.AddResult.AddResult}
use Rattle.cni_result.specs.declared.version.Version.{Version}
use Rattle.host_local.specs.{Conf.range_sets_of, Leases.{given_by, given_by_set, given_of}, Results.ip_of}
use Rattle.host_local.specs.Results.{ipam_result_of}
use Rattle.ip_pool.specs.NextAddress.{is_between}
use Rattle.kernel_types.specs.declared.call.Given.{Given}
use Rattle.net_conf.specs.WellFormed.{IsWellFormedIpam, IsWellFormedRange, IsWellFormedRoute, IsWellFormedSet}
use Rattle.net_conf.specs.declared.first.HostLocalConf.{HostLocalConf}
use Rattle.plugin_laws.proofs.Lists.{find-all}

range-entry : (addr : Addr) (r : Range) → IsWellFormedRange r → is_between addr r ≡ true
    → IsIpEntry (ip_of (given_by addr r))
unfolding contains
range-entry addr r formed is =
    let parts = and_parts (family_eq addr.family r.start.family) _ is in
    let below = and_parts (nat_le r.start.bits addr.bits) _ parts.1 in
    let starts =
    family_eq-true r.subnet.addr.family r.start.family
    (and_parts (family_eq r.subnet.addr.family r.start.family) _ formed.start_inside).0 in
    let ends =
    family_eq-true r.subnet.addr.family r.end.family
    (and_parts (family_eq r.subnet.addr.family r.end.family) _ formed.end_inside).0 in
    let family : addr.family ≡ r.subnet.addr.family = family_eq-true addr.family r.start.family parts.0 ∙ sym starts in
    let least : addr.bits < bits_below r.end.family = grind (arith, nat_tests, below.1, formed.end_is_addr.within) in
    record {
      address = record {
        addr = record { within = subst (λ f. addr.bits < bits_below f) (sym (family ∙ ends)) least };
        prefix = subst (λ f. r.subnet.prefix ≤ longest_prefix f) (sym family) formed.is_cidr.prefix;
      };
      gateway = formed.gateway_is_addr;
      interface = tt;
    }

found-entry : (addr : Addr) (o : Option Range) → IfSome o (λ r. IsWellFormedRange r × (is_between addr r ≡ true))
    → IfSome (option_map (given_by addr) o) (λ g. IsIpEntry (ip_of g))
found-entry addr None is = tt
found-entry addr (Some r) is = range-entry addr r is.0 is.1

entries-cons : (o : Option Given) (gs : List Given) → IfSome o (λ g. IsIpEntry (ip_of g))
    → AllByRecursion IsIpEntry (map ip_of gs) → AllByRecursion IsIpEntry (map ip_of (cons_option o gs))
entries-cons None gs first later = later
entries-cons (Some g) gs first later = (first, later)

given-entries : (sets : List RangeSet) (addrs : List Addr) → AllByRecursion IsWellFormedSet sets
    → AllByRecursion IsIpEntry (map ip_of (given_of sets addrs))
given-entries [] addrs formed = tt
given-entries (s ∷ ss) [] formed = tt
given-entries (s ∷ ss) (a ∷ more) formed =
    entries-cons (given_by_set s a) (given_of ss more)
    (found-entry a (find (is_between a) s.ranges)
    (find-all IsWellFormedRange (is_between a) s.ranges
    (recursion_from_All IsWellFormedRange s.ranges formed.0.ranges)))
    (given-entries ss more formed.1)

pub record IsIpamResult (r : AddResult) : Type 0 where
  pub ips : AllByRecursion IsIpEntry r.ips
  pub routes : AllByRecursion IsRouteEntry r.routes

pub ipam-result : (ipam : Option HostLocalConf) (addrs : List Addr) (version : Version) → IsWellFormedIpam ipam
    → IsIpamResult (ipam_result_of ipam (given_of (range_sets_of ipam) addrs) version)
ipam-result None addrs version formed = record { ips = tt; routes = tt }
ipam-result (Some conf) addrs version formed = record {
  ips = given-entries conf.sets addrs (recursion_from_All IsWellFormedSet conf.sets formed.sets);
  routes =
      everywhere IsWellFormedRoute IsRouteEntry conf.routes (λ r is. record { dst = is.is_cidr; gw = is.hop_is_addr })
      (recursion_from_All IsWellFormedRoute conf.routes formed.routes);
}
