-- A host where CHECK finds all is complete.
use Rattle.packet_laws.proofs.Names.{◌≡◌, Bool, true, false, refl, ap, sym, ◌∙◌, and_parts, ◌&&◌, Cached, lease_eq}
use Rattle.packet_laws.proofs.Names.{rule_eq, Att, Host, NetList, are_in, Plan}
use Rattle.kernel_types.specs.Equal.{addr_obj_eq, link_eq, route_eq, setting_eq}
use Rattle.plugin_base.specs.Share.{Share}
use Rattle.pod_laws.specs.Checked.{has_objects_of}
use Rattle.packet_laws.specs.Complete.{CheckedHostsAreComplete, IsAttached, IsChecked, wanted_of}

two-of_six : (a b c d e f : Bool) → (a && (b && (c && (d && (e && f))))) ≡ true → (d ≡ true) × (f ≡ true)
two-of_six true true true true true true h = (refl, refl)
two-of_six true true true true true false h = cc
two-of_six true true true true false f h = cc
two-of_six true true true false e f h = cc
two-of_six true true false d e f h = cc
two-of_six true false c d e f h = cc
two-of_six false b c d e f h = cc

-- the rules and the leases among the objects that the host holds
held-both : (host : Host) (s : Share) → has_objects_of host s ≡ true
    → (are_in rule_eq s.rules host.rules ≡ true) × (are_in lease_eq s.leases host.leases ≡ true)
held-both host s h =
    two-of_six (are_in link_eq s.links host.links) (are_in addr_obj_eq s.addresses host.addresses)
    (are_in route_eq s.routes host.routes) (are_in rule_eq s.rules host.rules)
    (are_in setting_eq s.settings host.settings) (are_in lease_eq s.leases host.leases) h

-- the host holds all that the cached result wants
held : (p : Plan) (host : Host) → IsChecked p host → (att : Att) (list : NetList) (cached : Cached)
    → IsAttached p host att list cached → has_objects_of host (wanted_of list att cached) ≡ true
held p host checked att list cached attached =
    let by = checked.holds att list cached attached in
    ap (λ (a : Att). has_objects_of host (wanted_of list a cached)) (sym by.1) ∙ (and_parts _ _ by.2).1

pub checked_hosts_are_complete : CheckedHostsAreComplete
checked_hosts_are_complete p host checked = record {
  cached = checked.cached;
  rules = λ att list cached attached.
      (held-both host (wanted_of list att cached) (held p host checked att list cached attached)).0;
  leases = λ att list cached attached.
      (held-both host (wanted_of list att cached) (held p host checked att list cached attached)).1;
}
