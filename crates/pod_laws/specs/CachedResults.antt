-- Each cached result is the one of the ADD that asked for what its attachment has.
use Rattle.std.specs.Prelude.{◌≡◌, List, Some}
use Rattle.cni_result.specs.declared.cached.Cached.{Cached}
use Rattle.cni_verbs.specs.{Mappings.mappings_of, Script.leases_in}
use Rattle.verb_questions.specs.Questions.{addresses_of_result}
use Rattle.host_local.specs.Laws.{AreCandidates}
use Rattle.kernel_types.specs.{Terms.cached_in, declared.object.Att.Att}
use Rattle.plugin_chain.specs.Wanted.{cached_of, sets_of}
use Rattle.pod_workers.specs.{Legal.Legal, World.{World, after, replies_of}, declared.plan.{Entry.Entry, Plan.Plan}}
use Rattle.pod_laws.specs.AskedFor.{IsAskedFor}

-- The last ADD of the attachment whose Begin was done was leased one candidate a range set. By its namespace, the port
-- mappings that reach its plugins and these addresses the result is cached as it is, and its addresses are these, in
-- order.
pub record IsResultOfItsAdd (p : Plan) (h : List Entry) (att : Att) (cached : Cached) : Type 0 where
  pub add : IsAskedFor p h att
  pub leased : AreCandidates (sets_of add.list) (leases_in (replies_of add.place h))
  pub entry : cached ≡ cached_of add.list att add.by.command.netns (mappings_of add.list add.by.command)
      (leases_in (replies_of add.place h))
  pub addresses : addresses_of_result cached.result ≡ leases_in (replies_of add.place h)

-- so is what is cached of each attachment after these entries
abbrev pub EachHasResultOfItsAdd : Plan → List Entry → Type 0
EachHasResultOfItsAdd p h = (att : Att) (cached : Cached) → cached_in (after p.pods.opening h) att ≡ Some cached
    → IsResultOfItsAdd p h att cached

-- at every moment
abbrev pub EachCachedResultIsItsAdds : Type 0
EachCachedResultIsItsAdds = (w : World) → Legal w → EachHasResultOfItsAdd w.plan w.history
