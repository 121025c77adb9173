-- What is given at an ADD is what its addresses mean, and all works of an ADD are together what it makes.
use Rattle.std.proofs.Common.{◌≡◌, ℕ, List, [], ◌∷◌, ◌++◌, refl, sym, ap, ◌∙◌, append_assoc}
use Rattle.std.specs.List.{AllZip, cons_option}
use Rattle.cni_addr.specs.declared.range.RangeSet.{RangeSet}
use Rattle.kernel_types.specs.declared.{call.{Call.{Call, TheVariants.{Begin, CachePut}}, Given.Given}, object.Att.Att}
use Rattle.net_conf.specs.declared.list.NetList.{NetList}
use Rattle.pod_file.specs.declared.command.Command.{Command}
use Rattle.host_local.specs.{Leases.{given_of, lease_calls_of}, Results.ipam_result_of}
use Rattle.cni_errors.specs.CommandFields.{att_of}
use Rattle.plugin_chain.specs.Wanted.{all_chained_calls, cached_of, calls_after, calls_before, first_plugin_result}
use Rattle.plugin_chain.specs.Wanted.{first_result, ipam_of, sets_of}
use Rattle.cni_verbs.specs.{AddCalls.calls_of_add, Mappings.mappings_of}
use Rattle.exec_protocol.specs.Work.{AreGivenFor, IsGivenBy, addresses, first_work}

-- ---- what is given

-- what is given is what its addresses mean by the sets
pub given-again : (sets : List RangeSet) (given : List Given) → AllZip IsGivenBy sets given
    → given_of sets (addresses given) ≡ given
given-again [] [] are = refl
given-again [] (g ∷ gs) are = absurd are
given-again (set ∷ sets) [] are = absurd are
given-again (set ∷ sets) (g ∷ gs) are =
    ap (λ o. cons_option o (given_of sets (addresses gs))) (are.0.given) ∙ ap (λ l. g ∷ l) (given-again sets gs are.1)

-- the result of the first plugin is that of its work
pub first_work-result : (list : NetList) (att : Att) (netns : List ℕ) (given : List Given) → AreGivenFor list given
    → (first_work list.first list.version att netns given).result ≡ first_plugin_result list att netns (addresses given)
first_work-result list att netns given are =
    ap (λ g. first_result list.first att netns (ipam_result_of (ipam_of list.first) g list.version))
    (sym (given-again (sets_of list) given are))

-- ---- calls

regroup : (a b c d : List Call) → (a ++ (b ++ c)) ++ d ≡ a ++ (b ++ (c ++ d))
regroup a b c d = append_assoc a (b ++ c) d ∙ ap (λ l. a ++ l) (append_assoc b c d)

-- the works, between the beginning and the cached result, make what the ADD makes
pub works-calls_of_add : (list : NetList) (c : Command) (given : List Given) → AreGivenFor list given
    → Begin (att_of c) c.netns
    ∷ ((first_work list.first list.version (att_of c) c.netns given).calls
    ++ (all_chained_calls list.chained (att_of c) c.netns (mappings_of list c)
    (first_plugin_result list (att_of c) c.netns (addresses given))
    ++ CachePut (att_of c) (cached_of list (att_of c) c.netns (mappings_of list c) (addresses given)) ∷ []))
    ≡ calls_of_add list c (addresses given)
works-calls_of_add list c given are =
    let before = calls_before list.first (att_of c) c.netns in
    let leases = lease_calls_of (sets_of list) (att_of c) in
    let rest : List Call =
    all_chained_calls list.chained (att_of c) c.netns (mappings_of list c)
    (first_plugin_result list (att_of c) c.netns (addresses given))
    ++ CachePut (att_of c) (cached_of list (att_of c) c.netns (mappings_of list c) (addresses given)) ∷ [] in
    ap (λ l. Begin (att_of c) c.netns ∷ l)
    (regroup before leases (calls_after list.first (att_of c) c.netns given) rest
    ∙ ap (λ g. before ++ (leases ++ (calls_after list.first (att_of c) c.netns g ++ rest)))
    (sym (given-again (sets_of list) given are)))
