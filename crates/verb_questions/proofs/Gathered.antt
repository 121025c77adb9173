-- The calls of the plugins with the addresses of a cached result make what a check asks of what it says that there is.
use Rattle.std.proofs.Common.{◌≡◌, ℕ, List, [], ◌∷◌, ◌++◌, ◌∙◌, ap, sym, map, Option, refl}
use Rattle.cni_addr.specs.declared.address.Addr.{Addr}
use Rattle.cni_result.specs.declared.{cached.{Cached.Cached, PortMapping.PortMapping}, result.Interface.Interface}
use Rattle.net_conf.specs.declared.list.NetList.{NetList}
use Rattle.kernel_types.specs.{Terms.lease_of, declared.{call.Call.{Call, TheVariants.CachePut}, object.Att.Att}}
use Rattle.plugin_base.specs.Share.{Share, no_objects, share_after_calls}
use Rattle.plugin_base.proofs.CallLists.{share_after_calls-append}
use Rattle.cni_errors.specs.declared.answer.Question.{Question}
use Rattle.verb_questions.specs.Questions.{bridge_questions, share_questions}
use Rattle.plugin_chain.specs.Wanted.{calls_before, back_calls, cached_of, wanted}
use Rattle.plugin_chain.proofs.WantedShare.{makes-wanted}

-- a cached result is none of the objects that a check asks for
asked-without_cached : (s : Share) (calls : List Call) (att : Att) (cached : Cached)
    → share_questions (share_after_calls s calls)
    ≡ share_questions (share_after_calls s (calls ++ CachePut att cached ∷ []))
asked-without_cached s calls att cached =
    sym (ap share_questions (share_after_calls-append s calls (CachePut att cached ∷ [])))

pub gathered : (list : NetList) (att : Att) (netns : List ℕ) (mappings said : List PortMapping) (addrs : List Addr)
    (before after : List Call) (none made with_leases all : Share)
    → none ≡ no_objects → before ≡ calls_before list.first att netns → made ≡ share_after_calls none before
    → with_leases ≡ record made { leases = map (lease_of att) addrs } → mappings ≡ said
    → after ++ CachePut att (cached_of list att netns mappings addrs) ∷ [] ≡ back_calls list att netns mappings addrs
    → all ≡ share_after_calls with_leases after
    → share_questions all ≡ share_questions (wanted list att netns said addrs)
gathered list att netns mappings said addrs before after none made with_leases all is_none is_before is_made is_leases
    is_mappings is_after is_all =
    ap share_questions is_all
    ∙ asked-without_cached with_leases after att (cached_of list att netns mappings addrs)
    ∙ ap (λ calls. share_questions (share_after_calls with_leases calls)) is_after
    ∙ rw (is_leases, is_made, is_before, is_none, is_mappings)
    (ap share_questions (makes-wanted list att netns said addrs))

-- the questions of the bridge and of what was gathered are all that a check asks
pub checked : (bridge named : Option (List ℕ)) (listed interfaces : List Interface) (none front all : List Question)
    (made said : Share)
    → named ≡ bridge → none ≡ [] → listed ≡ interfaces → front ≡ none ++ bridge_questions named listed
    → share_questions made ≡ share_questions said → all ≡ front ++ share_questions made
    → all ≡ bridge_questions bridge interfaces ++ share_questions said
checked bridge named listed interfaces none front all made said is_named is_none is_listed is_front is_made is_all =
    rw (is_all, is_front, is_none, is_listed, is_made, is_named) refl
