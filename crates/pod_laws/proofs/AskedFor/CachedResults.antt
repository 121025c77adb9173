-- What is cached of an attachment is the result of its last ADD that began.
use Rattle.pod_laws.proofs.Names.{◌≡◌, ℕ, List, [], ◌∷◌, map, Some, None, refl, sym, ◌∙◌, ap, inl, inr, same_Some}
use Rattle.pod_laws.proofs.Names.{none-some, option_map, Addr, Cached, IpEntry, att_of, mappings_of}
use Rattle.pod_laws.proofs.Names.{addresses_of_result, leases_in, AreCandidates, cached_in, is_own, Att, CachedObj}
use Rattle.pod_laws.proofs.Names.{Host, Own, NetList, Share, share_of, cached_of, first_plugin_result, given_by_list}
use Rattle.pod_laws.proofs.Names.{result_of_add, sets_of, after, replies_of, Entry, Plan, find-first, first_of}
use Rattle.cni_addr.specs.declared.address.Cidr.{Cidr}
use Rattle.host_local.specs.Laws.{CandidatesAreGiven}
use Rattle.kernel_types.specs.declared.call.Given.{Given}
use Rattle.plugin_chain.specs.Wanted.{ipam_of}
use Rattle.plugin_chain.proofs.GivenAddresses.{all_chained-ips, first-addresses}
use Rattle.pod_laws.specs.{AskedFor.{HasNothingUnasked, IsAskedFor, IsPart}, CachedResults.EachCachedResultIsItsAdds}
use Rattle.pod_laws.specs.CachedResults.{IsResultOfItsAdd}
use Rattle.pod_laws.proofs.AskedFor.Moments.{nothing_is_unasked}

-- ---- the addresses of a result

map-addr : {X : Type 0} (f : X → Cidr) (xs : List X) → map (λ x. (f x).addr) xs ≡ map (λ (c : Cidr). c.addr) (map f xs)
map-addr f [] = refl
map-addr f (x ∷ xs) = ap (λ l. (f x).addr ∷ l) (map-addr f xs)

-- the result has the leased addresses, where these are candidates
addresses-again : CandidatesAreGiven → (list : NetList) (att : Att) (netns : List ℕ) (addrs : List Addr)
    → AreCandidates (sets_of list) addrs → addresses_of_result (result_of_add list att netns addrs) ≡ addrs
unfolding result_of_add
addresses-again law list att netns addrs fits =
    let given = given_by_list list addrs in
    let first = first_plugin_result list att netns addrs in
    ap (map (λ (ip : IpEntry). ip.address.addr)) (all_chained-ips list.chained first)
    ∙ map-addr (λ (ip : IpEntry). ip.address) first.ips
    ∙ ap (map (λ (c : Cidr). c.addr)) (first-addresses list.first att netns (ipam_of list.first) given list.version)
    ∙ sym (map-addr (λ (g : Given). g.address) given)
    ∙ law (sets_of list) addrs fits

-- ---- the entry

pub no-entry : (att : Att) (host : Host) → (share_of att host).cached ≡ [] → cached_in host att ≡ None
no-entry att host none =
    ap (option_map (λ (c : CachedObj). c.cached)) (find-first (λ c. is_own att c.tag) host.cached ∙ ap first_of none)

-- a part of one entry is none or that one
one-entry : (objects : List CachedObj) (o : CachedObj) (cached : Cached) → IsPart objects (o ∷ [])
    → option_map (λ (c : CachedObj). c.cached) (first_of objects) ≡ Some cached → cached ≡ o.cached
one-entry [] o cached part is = absurd (none-some cached is)
one-entry (x ∷ xs) o cached part is = elim part [
  | inl same ↦ sym (same_Some x.cached cached is) ∙ ap (λ (c : CachedObj). c.cached) (sym same.0)
  | inr later ↦ (let none = later.1 in cc)
]

-- what the ADD caches with these addresses
abbrev pub cached_by : (p : Plan) (h : List Entry) (att : Att) → IsAskedFor p h att → Cached
cached_by p h att a =
    cached_of a.list att a.by.command.netns (mappings_of a.list a.by.command) (leases_in (replies_of a.place h))

-- so what is cached is what the ADD caches, and it was leased an address of every set
pub entry_of_its_add : (p : Plan) (h : List Entry) (att : Att) (cached : Cached) → HasNothingUnasked p h att
    → cached_in (after p.pods.opening h) att ≡ Some cached
    → (a : IsAskedFor p h att) × AreCandidates (sets_of a.list) (leases_in (replies_of a.place h))
    × (cached ≡ cached_by p h att a)
entry_of_its_add p h att cached (inl gone) is =
    absurd (none-some cached (sym (no-entry att (after p.pods.opening h) (ap (λ (s : Share). s.cached) gone)) ∙ is))
entry_of_its_add p h att cached (inr a) is =
    let host = after p.pods.opening h in
    let c = a.by.command in
    let given = leases_in (replies_of a.place h) in
    let mine = (share_of att host).cached in
    let found : option_map (λ (x : CachedObj). x.cached) (first_of mine) ≡ Some cached =
    ap (option_map (λ (x : CachedObj). x.cached)) (sym (find-first (λ x. is_own att x.tag) host.cached)) ∙ is in
    let kept : CachedObj =
    record { cached = cached_of a.list (att_of c) c.netns (mappings_of a.list c) given; tag = Own (att_of c) } in (
      a,
      a.all_leased (λ none.
          none-some cached (ap (λ l. option_map (λ (x : CachedObj). x.cached) (first_of l)) (sym none) ∙ found)),
      one-entry mine kept cached a.objects.cached found
          ∙ ap (λ (x : Att). cached_of a.list x c.netns (mappings_of a.list c) given) a.attachment,
    )

result_of_its_add : CandidatesAreGiven
    → (p : Plan) (h : List Entry) (att : Att) (cached : Cached) (a : IsAskedFor p h att)
    → AreCandidates (sets_of a.list) (leases_in (replies_of a.place h)) → cached ≡ cached_by p h att a
    → IsResultOfItsAdd p h att cached
result_of_its_add law p h att cached a fits entry = record {
  add = a;
  leased = fits;
  entry = entry;
  addresses =
      ap (λ (x : Cached). addresses_of_result x.result) entry
      ∙ addresses-again law a.list att a.by.command.netns (leases_in (replies_of a.place h)) fits;
}

pub each_cached_result_is_its_adds : CandidatesAreGiven → EachCachedResultIsItsAdds
each_cached_result_is_its_adds law w legal att cached is =
    let by = entry_of_its_add w.plan w.history att cached (nothing_is_unasked w legal att) is in
    result_of_its_add law w.plan w.history att cached by.0 by.1 by.2
