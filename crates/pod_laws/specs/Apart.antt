-- An entry of one attachment leaves all others alone, and what none owns.
use Rattle.std.specs.Prelude.{◌≡◌, Bool, true, false, ◌&&◌, not, List, filter, ⊤}
use Rattle.cni_errors.specs.CommandFields.{att_of}
use Rattle.cni_verbs.specs.Progress.{is_gc}
use Rattle.kernel_types.specs.{Equal.{att_eq, tag_eq}, Isolation.KeepsWhere, Touch.is_base, declared.object.Att.Att}
use Rattle.kernel_types.specs.declared.object.{Host.Host, Tag.{Tag, TheVariants.Outside}}
use Rattle.plugin_base.specs.Share.{share_of}
use Rattle.pod_file.specs.{Commands.is_of_network, declared.command.{Command.Command, Verb.Verb}}
use Rattle.pod_file.specs.declared.command.Verb.TheVariants as verbs
use Rattle.gc_sweep.specs.Keep.{stays}
use Rattle.pod_workers.specs.{Extends.Appends, declared.plan.{Entry.Entry, Plan.Plan}}
use Rattle.pod_laws.specs.Single.{EachEntry, ByVerb}

-- a GC and a change from outside may take from any attachment; each other verb changes its own at most
abbrev pub leaves_others : Verb → Bool
leaves_others verb = is_of_network verb && not (is_gc verb)

abbrev pub LeavesOthers : Command → Host → Host → Type 0
LeavesOthers c old new = (other : Att) → att_eq (att_of c) other ≡ false → share_of other new ≡ share_of other old

-- each entry of an ADD, a DEL, a CHECK, a STATUS or a VERSION leaves the objects of every other attachment
abbrev pub EachEntryLeavesOthers : Type 0
EachEntryLeavesOthers = EachEntry (ByVerb (λ v. leaves_others v ≡ true) LeavesOthers)

-- each entry of a GC leaves all that it keeps, list by list (CNI specification, section 3,
-- "Garbage-collecting unused resources")
abbrev pub EachCollectionTakesTheStaleAlone : Type 0
EachCollectionTakesTheStaleAlone = EachEntry (ByVerb (λ v. v ≡ verbs.Gc) (λ c. KeepsWhere (stays c.network c.valid)))

-- ---- what no attachment owns

abbrev pub is_outside : Tag → Bool
is_outside tag = tag_eq tag Outside

-- the second list begins with the first
abbrev pub GrowsAtEnd : {X : Type 0} → List X → List X → Type 0
GrowsAtEnd old new = Appends old new (λ more. ⊤)

-- each shared object stays, and more may stand behind them
pub record KeepsShared (old new : Host) : Type 0 where
  pub namespaces : GrowsAtEnd (filter (λ n. is_base n.tag) old.namespaces) (filter (λ n. is_base n.tag) new.namespaces)
  pub links : GrowsAtEnd (filter (λ l. is_base l.tag) old.links) (filter (λ l. is_base l.tag) new.links)
  pub addresses : GrowsAtEnd (filter (λ a. is_base a.tag) old.addresses) (filter (λ a. is_base a.tag) new.addresses)
  pub routes : GrowsAtEnd (filter (λ r. is_base r.tag) old.routes) (filter (λ r. is_base r.tag) new.routes)
  pub rules : GrowsAtEnd (filter (λ r. is_base r.tag) old.rules) (filter (λ r. is_base r.tag) new.rules)
  pub settings : GrowsAtEnd (filter (λ s. is_base s.tag) old.settings) (filter (λ s. is_base s.tag) new.settings)
  pub leases : GrowsAtEnd (filter (λ l. is_base l.tag) old.leases) (filter (λ l. is_base l.tag) new.leases)
  pub cached : GrowsAtEnd (filter (λ c. is_base c.tag) old.cached) (filter (λ c. is_base c.tag) new.cached)

-- nothing shared goes; and where the entry is of a verb of the CNI specification, what was made outside is the same,
-- list by list
pub record KeepsTheRest (p : Plan) (e : Entry) (old new : Host) : Type 0 where
  pub outside : ByVerb (λ v. is_of_network v ≡ true) (λ c. KeepsWhere is_outside) p e old new
  pub shared : KeepsShared old new

abbrev pub EachEntryKeepsTheRest : Type 0
EachEntryKeepsTheRest = EachEntry KeepsTheRest
