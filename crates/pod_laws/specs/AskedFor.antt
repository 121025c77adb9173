-- Each object that an attachment has is one that an ADD of it asked for.
use Rattle.std.specs.{List.AllByRecursion, Option.option_or, Prelude.{◌≡◌, ◌≢◌, ℕ, ◌+◌, ◌⊎◌, Bool, true, false, ◌&&◌}}
use Rattle.std.specs.Prelude.{List, [], ◌∷◌, ◌++◌, Option, Some, None, slice_get, if◌then◌else◌}
use Rattle.cni_addr.specs.{Lists.IsAmong, declared.{address.Addr.Addr, range.RangeSet.RangeSet}}
use Rattle.cni_verbs.specs.{AddCalls.is_done, Mappings.mappings_of, Script.leases_in}
use Rattle.cni_errors.specs.CommandFields.{att_of}
use Rattle.plugin_chain.specs.Wanted.{back_calls, sets_links, sets_of, links_made, wanted}
use Rattle.host_local.specs.Laws.{AreCandidates}
use Rattle.kernel_types.specs.{Equal.att_eq, Touch.DropsOnly, declared.call.Call.{Call, TheVariants.Begin}}
use Rattle.kernel_types.specs.declared.object.{Att.Att, Link.Link}
use Rattle.net_conf.specs.declared.list.NetList.{NetList}
use Rattle.plugin_base.specs.{PluginCalls.at_most_one, Share.{Share, no_objects, share_after_calls}}
use Rattle.pod_file.specs.declared.command.Command.{Command}
use Rattle.pod_file.specs.declared.command.Verb.TheVariants as verbs
use Rattle.pod_workers.specs.{Legal.Legal, Plans.{Placed, commands_of, list_for}, World.{World, replies_of}}
use Rattle.pod_workers.specs.declared.plan.{Entry.Entry, Plan.Plan}
use Rattle.pod_laws.specs.Moments.{IsGone, objects_after}

-- ---- lists

-- each of the first list is in the second
abbrev pub AreAmong : {X : Type 0} → List X → List X → Type 0
AreAmong xs all = AllByRecursion (λ x. IsAmong x all) xs

-- the first list is what is left of the second, in its order
abbrev pub IsPart : {X : Type 0} → List X → List X → Type 0
IsPart part all = DropsOnly (λ x. true) all part

-- ---- the last ADD that began

abbrev pub is_begin_of : Att → Call → Bool
is_begin_of att (Begin a netns) = att_eq a att
is_begin_of att call = false

-- a Begin for the attachment that was done
abbrev pub begins : Att → Entry → Bool
begins att e = is_begin_of att e.call && is_done e.reply

-- the number of the command of the last of them
abbrev pub last_begun : Att → List Entry → Option ℕ
last_begun att [] = None
last_begun att (e ∷ es) = option_or (last_begun att es) (if begins att e then Some e.command else None)

-- ---- what it asks for

-- the links of an ADD as a first part of its calls after the leases leaves them: as they were made, or with the values
-- that a chained plugin sets
abbrev pub links_after_part : NetList → Command → List Call → List Link
links_after_part list c made =
    (share_after_calls (record no_objects { links = links_made list (att_of c) c.netns }) made).links

pub record AreLinksOf (list : NetList) (c : Command) (given : List Addr) (links : List Link) : Type 0 where
  pub made : List Call
  pub left : List Call
  pub part : back_calls list (att_of c) c.netns (mappings_of list c) given ≡ made ++ left
  pub among : AreAmong links (links_after_part list c made)

-- each object is one that the command asks for, where these addresses were leased; but for the links they stand in the
-- order in which it asks for them
pub record AreAskedFor (list : NetList) (c : Command) (given : List Addr) (objects : Share) : Type 0 where
  pub links : AreLinksOf list c given objects.links
  pub addresses : IsPart objects.addresses (wanted list (att_of c) c.netns (mappings_of list c) given).addresses
  pub routes : IsPart objects.routes (wanted list (att_of c) c.netns (mappings_of list c) given).routes
  pub rules : IsPart objects.rules (wanted list (att_of c) c.netns (mappings_of list c) given).rules
  pub settings : IsPart objects.settings (wanted list (att_of c) c.netns (mappings_of list c) given).settings
  pub leases : IsPart objects.leases (wanted list (att_of c) c.netns (mappings_of list c) given).leases
  pub cached : IsPart objects.cached (wanted list (att_of c) c.netns (mappings_of list c) given).cached

-- the addresses are candidates of the first of these sets, one each
pub record AreCandidatesSoFar (sets : List RangeSet) (addrs : List Addr) : Type 0 where
  pub past : List RangeSet
  pub left : List RangeSet
  pub are : sets ≡ past ++ left
  pub candidates : AreCandidates past addrs

-- the last ADD of the attachment whose Begin was done asks for all that the attachment has, with the addresses leased
-- to it so far; where there is a cached result it was leased one of every set
pub record IsAskedFor (p : Plan) (h : List Entry) (att : Att) : Type 0 where
  pub place : ℕ
  pub by : Placed
  pub list : NetList
  pub there : slice_get (commands_of p) place ≡ Some by
  pub listed : list_for p by.command ≡ Some list
  pub verb : by.command.verb ≡ verbs.Add
  pub attachment : att_of by.command ≡ att
  pub last : last_begun att h ≡ Some (place + 1)
  pub so_far : AreCandidatesSoFar (sets_of list) (leases_in (replies_of place h))
  pub all_leased : (objects_after p att h).cached ≢ [] → AreCandidates (sets_of list) (leases_in (replies_of place h))
  pub objects : AreAskedFor list by.command (leases_in (replies_of place h)) (objects_after p att h)

abbrev pub HasNothingUnasked : Plan → List Entry → Att → Type 0
HasNothingUnasked p h att = IsGone p att h ⊎ IsAskedFor p h att

-- at every moment each attachment has nothing, or only what its last ADD that began asks for
abbrev pub NothingIsUnasked : Type 0
NothingIsUnasked = (w : World) → Legal w → (att : Att) → HasNothingUnasked w.plan w.history att

-- ---- links

-- all are as they were made, or all are as they are wanted: with the values that a chained plugin sets
abbrev pub AreMadeOrWanted : NetList → Command → List Addr → List Link → Type 0
AreMadeOrWanted list c given links = AreAmong links (links_made list (att_of c) c.netns) ⊎ AreAmong links
    (wanted list (att_of c) c.netns (mappings_of list c) given).links

-- so it is with the links of an ADD where at most one plugin of its list sets values of them
abbrev pub EachLinkIsWanted : Type 0
EachLinkIsWanted = (list : NetList) (c : Command) (given : List Addr) (links : List Link)
    → at_most_one sets_links list.chained ≡ true → AreLinksOf list c given links
    → AreMadeOrWanted list c given links

-- and with those of every attachment after these entries
abbrev pub EachHasLinksMadeOrWanted : Plan → List Entry → Type 0
EachHasLinksMadeOrWanted p h = (att : Att) (a : IsAskedFor p h att)
    → AreMadeOrWanted a.list a.by.command (leases_in (replies_of a.place h)) (objects_after p att h).links

-- at every moment, since `tuning` alone sets values of links, and each list of a plan has it at most once
abbrev pub LinksAreMadeOrWanted : Type 0
LinksAreMadeOrWanted = (w : World) → Legal w → EachHasLinksMadeOrWanted w.plan w.history
