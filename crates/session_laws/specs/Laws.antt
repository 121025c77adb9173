-- What the entries of a task, made by its course, do to a host.
use Rattle.std.specs.{List.{AllByRecursion, list_all, list_any}, Prelude.{◌≡◌, ℕ, Bool, true, false, List, [], ◌∷◌}}
use Rattle.std.specs.Prelude.{◌++◌, map, Option, Some, None, ◌⊎◌}
use Rattle.cni_addr.specs.declared.address.Addr.{Addr}
use Rattle.cni_errors.specs.{CommandFields.att_of, declared.answer.{Cause.Cause, Ending.TheVariants.{Added, Yes}}}
use Rattle.cni_errors.specs.declared.answer.Ending.TheVariants.{Refused}
use Rattle.cni_verbs.specs.{Replies.is_granted, Script.{State, AtBegin, ReadingCache, Over, leases_in}}
use Rattle.gc_sweep.specs.{Keep.IsWithin, Trace.{Made, host_from, replies}}
use Rattle.gc_sweep.proofs.OfKinds.{HasKindsAlone}
use Rattle.kernel_types.specs.{Allowed.HasRangesApart, Equal.att_eq, Replies.is_fault, Sound.IsSound, Terms.lease_of}
use Rattle.kernel_types.specs.declared.object.{Att.Att, Host.Host}
use Rattle.net_conf.specs.declared.first.HostLocalConf.{HostLocalConf}
use Rattle.plugin_base.specs.Share.{Share, no_objects, share_of, share_after_calls}
use Rattle.plugin_registry.specs.Own.{is_own_call}
use Rattle.pod_file.specs.declared.command.Command.{Command}
use Rattle.session_laws.specs.{Course.{Course, IsRunFrom, state_from, IsOver}, Holds.{IsPartOf, has_begun}}
use Rattle.session_laws.specs.{Pools.{IsReady, Pools, sets_by}, Tasks.{forward_of, kinds_back}, Views.cached_by}
use Rattle.session_laws.specs.declared.row.Row.{Row}

-- ---- the entries of a task

-- a course, and the entries that its task made
pub record Run : Type 0 where
  pub course : Course
  pub command : Command
  -- whether a call meets a fault, by the number of calls before it
  pub faulty : ℕ → Bool
  pub start : Host
  pub entries : List Made

abbrev pub finish : Run → Host
finish r = host_from r.start r.entries

-- the course made its entries from this state
abbrev pub BeginsAt : State → Run → Type 0
BeginsAt s r = IsRunFrom r.course r.command r.faulty 0 s r.start r.entries

-- the state that they came to
abbrev pub end_from : State → Run → State
end_from s r = state_from r.course 0 s (replies r.entries)

abbrev pub own_att : Run → Att
own_att r = att_of r.command

-- the pools that it leases from
abbrev pub pools_of : Run → Pools
pools_of r = record { network = r.command.network; sets = r.course.sets }

-- ---- ADD

-- all that an attachment may have by its row, with these leases
abbrev pub part_of : Att → Row → List Addr → Share
part_of att row leased = record (share_after_calls no_objects row.calls) {
  leases = map (lease_of att) leased;
  cached = cached_by att row.cached;
}

-- with what the run was leased
abbrev pub part_by_row : Row → Run → Share
part_by_row row r = part_of (own_att r) row (leases_in (replies r.entries))

-- the row is the attachment's, and has calls of its own kinds, or none where its plugin wasn't asked
pub record IsOwnRow (owner : Att) (row : Row) : Type 0 where
  pub att : row.att ≡ owner
  pub own : list_all (is_own_call owner row.kinds) row.calls ≡ true
  pub unasked : row.cached ≡ None → row.calls ≡ []

-- an ADD on pools that are ready, whose course is that of its row
pub record IsAdd (ipam : Option HostLocalConf) (row : Row) (r : Run) : Type 0 where
  pub run : BeginsAt AtBegin r
  pub of_row : IsOwnRow (own_att r) row
  pub sets : r.course.sets ≡ sets_by ipam
  pub forward : r.course.forward ≡ forward_of (Some row)
  pub kinds : r.course.kinds ≡ kinds_back ipam (Some row)
  pub apart : AllByRecursion HasRangesApart r.course.sets
  pub ready : IsReady (pools_of r) r.start

-- what is said of every such ADD
abbrev pub EachAdd : (Option HostLocalConf → Row → Run → Type 0) → Type 0
EachAdd Is = (ipam : Option HostLocalConf) (row : Row) (r : Run) → IsAdd ipam row r → Is ipam row r

-- wherever it stands, its attachment has nothing but what its row says
abbrev pub EachAddMakesParts : Type 0
EachAddMakesParts = EachAdd (λ ipam row r. has_begun r.entries ≡ true
    → IsPartOf (share_of (own_att r) (finish r)) (part_by_row row r))

-- one that is over, and wasn't refused, has made all of it
abbrev pub EachAddedIsWhole : Type 0
EachAddedIsWhole = EachAdd (λ ipam row r. (given : List Addr) → end_from AtBegin r ≡ Over Added given
    → (has_begun r.entries ≡ true) × (share_of (own_att r) (finish r) ≡ part_by_row row r))

-- without pools it leases nothing
abbrev pub EachUnpooledAddLeasesNothing : Type 0
EachUnpooledAddLeasesNothing = EachAdd (λ ipam row r. ipam ≡ None → leases_in (replies r.entries) ≡ [])

-- One entry refused it. Nothing is left then, but where it was the first, or a later entry was a fault.
pub record IsUndone (es : List Made) (left : Share) : Type 0 where
  pub past : List Made
  pub by : Made
  pub later : List Made
  pub are : es ≡ past ++ by ∷ later
  pub granted : list_all (λ (e : Made). is_granted e.reply) past ≡ true
  pub refuses : is_granted by.reply ≡ false
  pub undone : (past ≡ []) ⊎ ((left ≡ no_objects) ⊎ (list_any (λ (e : Made). is_fault e.reply) later ≡ true))

abbrev pub IsUndoneBy : Run → Type 0
IsUndoneBy r = IsUndone r.entries (share_of (own_att r) (finish r))

-- a refused one is undone
abbrev pub EachRefusedAddIsUndone : Type 0
EachRefusedAddIsUndone =
    EachAdd (λ ipam row r. (cause : Cause) → IsOver (end_from AtBegin r) (Refused cause) → IsUndoneBy r)

abbrev pub EachAddStaysReady : Type 0
EachAddStaysReady = EachAdd (λ ipam row r. IsReady (pools_of r) (finish r))

abbrev pub EachAddLeavesOthers : Type 0
EachAddLeavesOthers = EachAdd (λ ipam row r. (other : Att) → att_eq (own_att r) other ≡ false
    → share_of other (finish r) ≡ share_of other r.start)

-- one whose Begin wasn't granted, by whichever course, leaves the host
abbrev pub EachUnbegunAddLeavesTheHost : Type 0
EachUnbegunAddLeavesTheHost =
    (r : Run) → BeginsAt AtBegin r → has_begun r.entries ≡ false → finish r ≡ r.start

abbrev pub EachUnbegunAddIsUndone : Type 0
EachUnbegunAddIsUndone = (r : Run) (cause : Cause) → BeginsAt AtBegin r → has_begun r.entries ≡ false
    → IsOver (end_from AtBegin r) (Refused cause) → IsUndoneBy r

-- ---- DEL

-- a DEL on a sound host, whose attachment has objects of its course's kinds alone
pub record IsDel (r : Run) : Type 0 where
  pub run : BeginsAt (ReadingCache Yes) r
  pub sound : IsSound r.start
  pub kinds : HasKindsAlone r.course.kinds (share_of (own_att r) r.start)

abbrev pub EachDel : (Run → Type 0) → Type 0
EachDel Is = (r : Run) → IsDel r → Is r

-- one that met no fault leaves nothing of its attachment
abbrev pub EachDeletedIsGone : Type 0
EachDeletedIsGone = EachDel (λ r. (given : List Addr) → end_from (ReadingCache Yes) r ≡ Over Yes given
    → share_of (own_att r) (finish r) ≡ no_objects)

-- one that finds nothing leaves the host
abbrev pub EachIdleDelLeavesTheHost : Type 0
EachIdleDelLeavesTheHost = EachDel (λ r. share_of (own_att r) r.start ≡ no_objects → finish r ≡ r.start)

-- wherever it stands, objects were removed, and nothing else was changed
abbrev pub EachDelOnlyRemoves : Type 0
EachDelOnlyRemoves = EachDel (λ r. IsWithin (finish r) r.start)

-- what its attachment has is part of what it had
abbrev pub EachDelMakesParts : Type 0
EachDelMakesParts = EachDel (λ r. IsPartOf (share_of (own_att r) (finish r)) (share_of (own_att r) r.start))

abbrev pub EachDelLeavesOthers : Type 0
EachDelLeavesOthers = EachDel (λ r. (other : Att) → att_eq (own_att r) other ≡ false
    → share_of other (finish r) ≡ share_of other r.start)

abbrev pub EachDelStaysReady : Type 0
EachDelStaysReady = EachDel (λ r. (pools : Pools) → IsReady pools r.start → IsReady pools (finish r))

-- what is part of what a row says is of the kinds that a deletion by the row deletes, if nothing is leased without
-- pools
abbrev pub EachPartIsOfItsKinds : Type 0
EachPartIsOfItsKinds = (ipam : Option HostLocalConf) (att : Att) (row : Row) (leased : List Addr) (share : Share)
    → IsOwnRow att row → (ipam ≡ None → leased ≡ []) → IsPartOf share (part_of att row leased)
    → HasKindsAlone (kinds_back ipam (Some row)) share
