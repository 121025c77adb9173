-- An ADD makes no more calls than its list has room for, whatever addresses it is leased.
use Rattle.pod_workers.proofs.Names.{◌≡◌, ℕ, ◌+◌, ◌≤◌, List, [], ◌∷◌, ◌++◌, length, Option, Some, None, sym, ◌∙◌, ap}
use Rattle.pod_workers.proofs.Names.{arith, length-append, length-map, Addr, RangeSet, PortMapping, lease_calls_from}
use Rattle.pod_workers.proofs.Names.{lease_calls_of, CachePut, LeaseNext, Att, Chained, NetList, Command, chained_laws}
use Rattle.pod_workers.proofs.Names.{first_laws, att_of, back_of, before_of, back_calls, calls_after, chained_calls}
use Rattle.pod_workers.proofs.Names.{ipam_of, sets_of}
use Rattle.std.proofs.lemmas.List.Sums.{sum_by-cons}
use Rattle.std.specs.{List.cons_option, Prelude.sum_by}
use Rattle.cni_result.specs.declared.result.{AddResult.AddResult, IpEntry.IpEntry}
use Rattle.host_local.specs.Leases.{given_by_set, given_of}
use Rattle.kernel_types.specs.declared.call.Given.{Given}
use Rattle.pod_file.proofs.CommandFacts.{length-scan}
use Rattle.plugin_chain.proofs.GivenAddresses.{chained-ips, first-addresses}
use Rattle.cni_verbs.specs.Mappings.{mappings_of}
use Rattle.plugin_chain.specs.{Plugins.plugin_of, Wanted.{add_calls, all_chained_calls, cached_of, chained_result}}
use Rattle.plugin_chain.specs.Wanted.{first_plugin_result, given_by_list}
use Rattle.pod_workers.specs.CallCounts.{AddsInAtMost, most_calls, most_of_chained}
use Rattle.pod_workers.proofs.Ends.CallsLeft.{most_after}

-- ---- lists

length-cons_option : {X : Type 0} (o : Option X) (xs : List X) → length (cons_option o xs) ≤ length xs + 1
length-cons_option None xs = omega arith
length-cons_option (Some x) xs = omega arith

-- ---- leased addresses

length-given : (sets : List RangeSet) (addrs : List Addr) → length (given_of sets addrs) ≤ length sets
length-given [] addrs = omega arith
length-given (set ∷ sets) [] = omega arith
length-given (set ∷ sets) (addr ∷ addrs) =
    let rest = length-given sets addrs in
    let one = length-cons_option (given_by_set set addr) (given_of sets addrs) in
    omega arith

length-leases : (att : Att) (number : ℕ) (sets : List RangeSet)
    → length (lease_calls_from att number sets) ≡ length sets
length-leases att number sets = length-scan (λ (n : ℕ) (set : RangeSet). n + 1) (LeaseNext att) number sets

-- ---- the chained plugins

length-all_chained : (cs : List Chained) (att : Att) (netns : List ℕ) (mappings : List PortMapping) (most : ℕ)
    (prev : AddResult)
    → length prev.ips ≤ most
    → length (all_chained_calls cs att netns mappings prev) ≤ sum_by (most_of_chained mappings most) cs
length-all_chained [] att netns mappings most prev few = omega arith
length-all_chained (c ∷ cs) att netns mappings most prev few =
    let here = (chained_laws c).few att netns mappings prev.ips most few in
    let rest =
    length-all_chained cs att netns mappings most (chained_result c prev)
    (let e = ap length (chained-ips c prev) in omega arith) in
    let both =
    length-append (chained_calls c att netns mappings prev.ips)
    (all_chained_calls cs att netns mappings (chained_result c prev)) in
    let all = sum_by-cons (most_of_chained mappings most) c cs in
    omega arith

-- ---- all calls

length-first_ips : (list : NetList) (att : Att) (netns : List ℕ) (addrs : List Addr)
    → length (first_plugin_result list att netns addrs).ips ≡ length (given_by_list list addrs)
length-first_ips list att netns addrs =
    let given = given_by_list list addrs in
    sym (length-map (first_plugin_result list att netns addrs).ips (λ (ip : IpEntry). ip.address))
    ∙ ap length (first-addresses list.first att netns (ipam_of list.first) given list.version)
    ∙ length-map given (λ (g : Given). g.address)

length-back : (list : NetList) (att : Att) (netns : List ℕ) (mappings : List PortMapping) (addrs : List Addr)
    → length (back_calls list att netns mappings addrs)
    ≤ (plugin_of list.first).most_after (length (sets_of list))
    + sum_by (most_of_chained mappings (length (sets_of list))) list.chained + 1
length-back list att netns mappings addrs =
    let gs = given_by_list list addrs in
    let few = length-given (sets_of list) addrs in
    let result = first_plugin_result list att netns addrs in
    let chain = all_chained_calls list.chained att netns mappings result in
    let put = CachePut att (cached_of list att netns mappings addrs) ∷ [] in
    let a = (first_laws list.first).few att netns gs (length (sets_of list)) few in
    let ips = length-first_ips list att netns addrs in
    let c = length-all_chained list.chained att netns mappings (length (sets_of list)) result (omega arith) in
    let d = length-append (calls_after list.first att netns gs) (chain ++ put) in
    let e = length-append chain put in
    omega arith

length-add : (list : NetList) (c : Command) (given : List Addr)
    → length (add_calls list (att_of c) c.netns (mappings_of list c) given)
    ≡ 1 + length (before_of list c) + length (sets_of list) + length (back_of list c given)
length-add list c given =
    let a = length-append (before_of list c) (lease_calls_of (sets_of list) (att_of c) ++ back_of list c given) in
    let b = length-append (lease_calls_of (sets_of list) (att_of c)) (back_of list c given) in
    let d = length-leases (att_of c) 0 (sets_of list) in
    omega arith

-- an ADD makes no more calls than `most_calls`
pub adds_in_most_calls : (list : NetList) (c : Command) → AddsInAtMost list c (most_calls list c)
adds_in_most_calls list c = λ given.
    let a = length-add list c given in
    let b = length-back list (att_of c) c.netns (mappings_of list c) given in
    omega arith

-- where so many are the most, no more than their rest come after the last lease
pub back-within : (most : ℕ) (list : NetList) (c : Command) (given : List Addr) → AddsInAtMost list c most
    → length (back_of list c given) ≤ most_after most list c
back-within most list c given in_most = let a = length-add list c given in let b = in_most given in omega arith

pub most-splits : (most : ℕ) (list : NetList) (c : Command) → AddsInAtMost list c most
    → most ≡ 1 + length (before_of list c) + length (sets_of list) + most_after most list c
most-splits most list c in_most = let a = length-add list c [] in let b = in_most [] in omega arith
