-- What the calls of an ADD are, whatever the host (CNI specification, section 3, "Adding an attachment").
use Rattle.std.specs.{List.{AllByRecursion, list_all}, Prelude.{◌≡◌, ℕ, true, false, List, ◌++◌, map}}
use Rattle.cni_addr.specs.declared.address.Addr.{Addr}
use Rattle.cni_result.specs.declared.cached.PortMapping.{PortMapping}
use Rattle.kernel_types.specs.{Terms.{is_host_ns, lease_of}, declared.{call.Call.Call, object.Att.Att}}
use Rattle.net_conf.specs.{WellFormed.IsWellFormedList, declared.list.NetList.NetList}
use Rattle.plugin_base.specs.{Calls.{IsWellFormedCall, is_call_of, is_of_kinds, is_plugin_call_of}, Share.Share}
use Rattle.plugin_base.specs.Share.{no_objects, share_after_calls}
use Rattle.plugin_chain.specs.Wanted.{add_calls, back_calls, calls_before, kinds_of, wanted}

-- those of the plugins: all but the Begin and the leases
abbrev pub calls_of_plugins : NetList → Att → List ℕ → List PortMapping → List Addr → List Call
calls_of_plugins list att netns mappings given =
    calls_before list.first att netns ++ back_calls list att netns mappings given

-- the leases of these addresses, and nothing else
abbrev pub only_leases : Att → List Addr → Share
only_leases att given = record no_objects { leases = map (lease_of att) given }

-- Whichever addresses an ADD is leased: each of its calls names its attachment or ensures what all attachments share,
-- and those of its plugins neither begin nor lease, delete or ask; each is well formed, where the list is and the
-- attachment has a namespace of its own; each makes objects of the kinds alone that a DEL of the list takes back; and
-- with the leases they make just the wanted objects.
pub record MakeTheWanted (list : NetList) (att : Att) (netns : List ℕ) (mappings : List PortMapping)
    (given : List Addr) : Type 0 where
  pub own : list_all (is_call_of att) (add_calls list att netns mappings given) ≡ true
  pub of_plugins : list_all (is_plugin_call_of att) (calls_of_plugins list att netns mappings given) ≡ true
  pub well_formed : IsWellFormedList list → is_host_ns netns ≡ false
      → AllByRecursion IsWellFormedCall (add_calls list att netns mappings given)
  pub of_kinds : list_all (is_of_kinds (kinds_of list)) (add_calls list att netns mappings given) ≡ true
  pub adds : share_after_calls (only_leases att given) (add_calls list att netns mappings given)
      ≡ wanted list att netns mappings given

abbrev pub AddCallsMakeTheWanted : Type 0
AddCallsMakeTheWanted = (list : NetList) (att : Att) (netns : List ℕ) (mappings : List PortMapping) (given : List Addr)
    → MakeTheWanted list att netns mappings given
