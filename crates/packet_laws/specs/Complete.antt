-- A host that has all that its cached results want.
use Rattle.std.specs.Prelude.{◌≡◌, true, Some, is_some}
use Rattle.cni_result.specs.declared.cached.Cached.{Cached}
use Rattle.cni_errors.specs.CommandFields.{att_of}
use Rattle.verb_questions.specs.Questions.{addresses_of_result}
use Rattle.kernel_types.specs.{Equal.{lease_eq, rule_eq}, Terms.{cached_in, has_objects}, declared.object.Att.Att}
use Rattle.kernel_types.specs.declared.object.Host.{Host}
use Rattle.net_conf.specs.declared.list.NetList.{NetList}
use Rattle.plugin_base.specs.Share.{Share}
use Rattle.plugin_chain.specs.Wanted.{wanted}
use Rattle.pod_file.specs.declared.command.Command.{Command}
use Rattle.pod_laws.specs.Checked.{are_in, holds_cached}
use Rattle.pod_workers.specs.{Plans.list_named, declared.plan.Plan.Plan}

-- ---- cached results

-- the network of the attachment has this list, and this is cached of it
pub record IsAttached (p : Plan) (host : Host) (att : Att) (list : NetList) (cached : Cached) : Type 0 where
  pub listed : list_named p.lists att.network ≡ Some list
  pub kept : cached_in host att ≡ Some cached

-- the objects that a cached result wants, by its namespace, its port mappings and its addresses
abbrev pub wanted_of : NetList → Att → Cached → Share
wanted_of list att cached = wanted list att cached.netns cached.mappings (addresses_of_result cached.result)

-- ---- complete hosts

-- each attachment that has an object has a cached result
abbrev pub NoneIsHalfMade : Host → Type 0
NoneIsHalfMade host = (att : Att) → has_objects host att ≡ true → is_some (cached_in host att) ≡ true

-- and every rule and every lease that a cached result wants is there
pub record IsComplete (p : Plan) (host : Host) : Type 0 where
  pub cached : NoneIsHalfMade host
  pub rules : (att : Att) (list : NetList) (cached : Cached) → IsAttached p host att list cached
      → are_in rule_eq (wanted_of list att cached).rules host.rules ≡ true
  pub leases : (att : Att) (list : NetList) (cached : Cached) → IsAttached p host att list cached
      → are_in lease_eq (wanted_of list att cached).leases host.leases ≡ true

-- ---- checked hosts

-- no attachment is half-made, and the host holds all that a CHECK of any cached result asks for
pub record IsChecked (p : Plan) (host : Host) : Type 0 where
  pub cached : NoneIsHalfMade host
  pub holds : (att : Att) (list : NetList) (cached : Cached) → IsAttached p host att list cached
      → (c : Command) × (att_of c ≡ att) × (holds_cached list c cached host ≡ true)

-- such a host is complete
abbrev pub CheckedHostsAreComplete : Type 0
CheckedHostsAreComplete = (p : Plan) (host : Host) → IsChecked p host → IsComplete p host
