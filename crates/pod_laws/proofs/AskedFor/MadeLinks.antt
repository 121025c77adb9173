-- Where at most one plugin sets values of links, as in each list of a plan, the links of an attachment are all as they
-- were made, or all as they are wanted.
use Rattle.pod_laws.proofs.Names.{◌≡◌, ℕ, Bool, true, false, not, List, [], ◌∷◌, ◌++◌, map, Some, refl, sym, ◌∙◌, ap}
use Rattle.pod_laws.proofs.Names.{subst, inl, inr, ◌⊎◌, arith, and_from, both_ways, cases_Bool, not-true}
use Rattle.pod_laws.proofs.Names.{AllByRecursion, list_any, list_all, ◌||◌, if◌then◌else◌, bytes_eq, Addr, PortMapping}
use Rattle.pod_laws.proofs.Names.{AddResult, IpEntry, Chained, NetList, is_of_network, Command, list_any-append_none}
use Rattle.pod_laws.proofs.Names.{Call, VethAdd, MacvlanAdd, LinkSet, CachePut, Att, Share, no_objects}
use Rattle.pod_laws.proofs.Names.{share_after_call, share_after_calls, share_after_calls-append, att_of, mappings_of}
use Rattle.pod_laws.proofs.Names.{calls_after, chained_calls, chained_result, back_calls, given_by_list}
use Rattle.pod_laws.proofs.Names.{first_plugin_result, cached_of, links_made, wanted, chained_laws, first_laws}
use Rattle.pod_laws.proofs.Names.{makes-wanted, IsWellFormed, list_for, list_named, Plan, fine, if-listed}
use Rattle.std.proofs.lemmas.List.Elements.{All-head, All-tail}
use Rattle.std.specs.List.{All, IsDistinct}
use Rattle.net_conf.specs.{PluginTypes.{type_eq, type_of_chained}, WellFormed.IsWellFormedList}
use Rattle.kernel_types.proofs.ListLemmas.{passes-list_all}
use Rattle.plugin_base.specs.PluginCalls.{at_most_one, changes_links, set_links_once}
use Rattle.plugin_base.proofs.PluginCalls.{at_most-none}
use Rattle.plugin_chain.specs.Wanted.{all_chained_calls, sets_links}
use Rattle.plugin_chain.proofs.PluginLaws.{one_setter}
use Rattle.pod_workers.proofs.Hosts.Sound.{list_for-found}
use Rattle.pod_laws.specs.AskedFor.{AreAmong, links_after_part, EachLinkIsWanted, LinksAreMadeOrWanted}
use Rattle.pod_laws.proofs.Added.{Achieved.with_leases, Prefixes.{links-calls, links_made-leased}}

-- ---- calls that change links

abbrev NoneChange : List Call → Type 0
NoneChange calls = list_any changes_links calls ≡ false

abbrev change_once : List Call → Bool
change_once calls = at_most_one changes_links calls

links-same : (s : Share) (call : Call) → changes_links call ≡ false → (share_after_call s call).links ≡ s.links
links-same s (VethAdd h i) e = cc
links-same s (MacvlanAdd l) e = cc
links-same s (LinkSet att key mac mtu tx_qlen promisc allmulti) e = cc
links-same s _ e = refl

links-none : (s : Share) (calls : List Call) → NoneChange calls → (share_after_calls s calls).links ≡ s.links
links-none s [] h = refl
links-none s (x ∷ xs) h = links-none (share_after_call s x) xs (grind (arith, h)) ∙ links-same s x (grind (arith, h))

-- ---- at most one

none-right : (xs ys : List Call) → NoneChange (xs ++ ys) → NoneChange ys
none-right [] ys h = h
none-right (x ∷ xs) ys h = none-right xs ys (grind (arith, h))

either-side : (b : Bool) (xs ys : List Call)
    → (if b then not (list_any changes_links (xs ++ ys)) else change_once (xs ++ ys)) ≡ true
    → (change_once (xs ++ ys) ≡ true → NoneChange xs ⊎ NoneChange ys)
    → ((b || list_any changes_links xs) ≡ false) ⊎ NoneChange ys
either-side true xs ys h rest = inr (none-right xs ys (not-true (list_any changes_links (xs ++ ys)) h))
either-side false xs ys h rest = rest h

-- one of two parts of a list changes none
one-side : (xs ys : List Call) → change_once (xs ++ ys) ≡ true → NoneChange xs ⊎ NoneChange ys
one-side [] ys h = inl refl
one-side (x ∷ xs) ys h = either-side (changes_links x) xs ys h (λ g. one-side xs ys g)

once-step : (b : Bool) (xs : List Call) → b ≡ false → change_once xs ≡ true
    → (if b then not (list_any changes_links xs) else change_once xs) ≡ true
once-step b xs h g = rw h g

once-after_none : (xs ys : List Call) → NoneChange xs → change_once ys ≡ true → change_once (xs ++ ys) ≡ true
once-after_none [] ys h g = g
once-after_none (x ∷ xs) ys h g =
    once-step (changes_links x) (xs ++ ys) (grind (arith, h)) (once-after_none xs ys (grind (arith, h)) g)

once-then_step : (b : Bool) (xs ys : List Call) → (if b then not (list_any changes_links xs) else change_once xs) ≡ true
    → NoneChange ys → (change_once xs ≡ true → change_once (xs ++ ys) ≡ true)
    → (if b then not (list_any changes_links (xs ++ ys)) else change_once (xs ++ ys)) ≡ true
once-then_step true xs ys h g rest =
    let none = list_any-append_none changes_links xs ys (not-true (list_any changes_links xs) h) g in
    grind (arith, none)
once-then_step false xs ys h g rest = rest h

once-then_none : (xs ys : List Call) → change_once xs ≡ true → NoneChange ys → change_once (xs ++ ys) ≡ true
once-then_none [] ys h g = at_most-none ys g
once-then_none (x ∷ xs) ys h g = once-then_step (changes_links x) xs ys h g (λ t. once-then_none xs ys t g)

-- ---- the calls of each plugin

none-append : (xs ys : List Call) → NoneChange xs → NoneChange ys → NoneChange (xs ++ ys)
none-append xs ys h g = list_any-append_none changes_links xs ys h g

once-as : (sets : Bool) (calls : List Call) → set_links_once sets calls ≡ true → change_once calls ≡ true
once-as true calls h = h
once-as false calls h = at_most-none calls (not-true (list_any changes_links calls) h)

none-as : (sets : Bool) (calls : List Call) → sets ≡ false → set_links_once sets calls ≡ true → NoneChange calls
none-as true calls is h = cc
none-as false calls is h = not-true (list_any changes_links calls) h

once-chained : (c : Chained) (att : Att) (netns : List ℕ) (mappings : List PortMapping) (ips : List IpEntry)
    → change_once (chained_calls c att netns mappings ips) ≡ true
once-chained c att netns mappings ips =
    once-as (sets_links c) (chained_calls c att netns mappings ips)
    ((chained_laws c).calls att netns mappings ips).set_once

none-chained : (c : Chained) (att : Att) (netns : List ℕ) (mappings : List PortMapping) (ips : List IpEntry)
    → sets_links c ≡ false → NoneChange (chained_calls c att netns mappings ips)
none-chained c att netns mappings ips h =
    none-as (sets_links c) (chained_calls c att netns mappings ips) h
    ((chained_laws c).calls att netns mappings ips).set_once

none-all_chained : (cs : List Chained) (att : Att) (netns : List ℕ) (mappings : List PortMapping) (prev : AddResult)
    → list_any sets_links cs ≡ false → NoneChange (all_chained_calls cs att netns mappings prev)
none-all_chained [] att netns mappings prev h = refl
none-all_chained (c ∷ cs) att netns mappings prev h =
    none-append (chained_calls c att netns mappings prev.ips)
    (all_chained_calls cs att netns mappings (chained_result c prev))
    (none-chained c att netns mappings prev.ips (grind (arith, h)))
    (none-all_chained cs att netns mappings (chained_result c prev) (grind (arith, h)))

once-all_step : (b : Bool) (c : Chained) (cs : List Chained) (att : Att) (netns : List ℕ) (mappings : List PortMapping)
    (prev : AddResult)
    → sets_links c ≡ b → (if b then not (list_any sets_links cs) else at_most_one sets_links cs) ≡ true
    → (at_most_one sets_links cs ≡ true
    → change_once (all_chained_calls cs att netns mappings (chained_result c prev)) ≡ true)
    → change_once (all_chained_calls (c ∷ cs) att netns mappings prev) ≡ true
once-all_step true c cs att netns mappings prev is h rest =
    once-then_none (chained_calls c att netns mappings prev.ips)
    (all_chained_calls cs att netns mappings (chained_result c prev)) (once-chained c att netns mappings prev.ips)
    (none-all_chained cs att netns mappings (chained_result c prev) (not-true (list_any sets_links cs) h))
once-all_step false c cs att netns mappings prev is h rest =
    once-after_none (chained_calls c att netns mappings prev.ips)
    (all_chained_calls cs att netns mappings (chained_result c prev))
    (none-chained c att netns mappings prev.ips is) (rest h)

once-all_chained : (cs : List Chained) (att : Att) (netns : List ℕ) (mappings : List PortMapping) (prev : AddResult)
    → at_most_one sets_links cs ≡ true → change_once (all_chained_calls cs att netns mappings prev) ≡ true
once-all_chained [] att netns mappings prev h = refl
once-all_chained (c ∷ cs) att netns mappings prev h =
    once-all_step (sets_links c) c cs att netns mappings prev refl h
    (λ g. once-all_chained cs att netns mappings (chained_result c prev) g)

once-back : (list : NetList) (att : Att) (netns : List ℕ) (mappings : List PortMapping) (addrs : List Addr)
    → at_most_one sets_links list.chained ≡ true → change_once (back_calls list att netns mappings addrs) ≡ true
once-back list att netns mappings addrs h =
    let chain = all_chained_calls list.chained att netns mappings (first_plugin_result list att netns addrs) in
    let put = CachePut att (cached_of list att netns mappings addrs) ∷ [] in
    once-after_none (calls_after list.first att netns (given_by_list list addrs)) (chain ++ put)
    ((first_laws list.first).after att netns (given_by_list list addrs)).set_none
    (once-then_none chain put
    (once-all_chained list.chained att netns mappings (first_plugin_result list att netns addrs) h) refl)

-- ---- links

pub each_link_is_wanted : EachLinkIsWanted
each_link_is_wanted list c given links once a =
    let att = att_of c in
    let mappings = mappings_of list c in
    let start : Share = record no_objects { links = links_made list att c.netns } in
    let all : (share_after_calls start (back_calls list att c.netns mappings given)).links
    ≡ (wanted list att c.netns mappings given).links =
    links-calls start (with_leases list c given) (back_calls list att c.netns mappings given)
    (sym (links_made-leased list c given))
    ∙ ap (λ (s : Share). s.links) (makes-wanted list att c.netns mappings given) in
    let parts : change_once (a.made ++ a.left) ≡ true =
    ap change_once (sym a.part) ∙ once-back list att c.netns mappings given once in
    elim (one-side a.made a.left parts) [
      | inl none ↦ inl (subst (AreAmong links) (links-none start a.made none) a.among)
      | inr none ↦
          let whole : links_after_part list c a.made ≡ (wanted list att c.netns mappings given).links =
          sym (links-none (share_after_calls start a.made) a.left none)
          ∙ ap (λ (s : Share). s.links) (sym (share_after_calls-append start a.made a.left))
          ∙ ap (λ l. (share_after_calls start l).links) (sym a.part)
          ∙ all in
          inr (subst (AreAmong links) whole a.among)
    ]

-- ---- in a well-formed list at most one plugin sets links

none-more : (c : Chained) (cs : List Chained) → sets_links c ≡ true
    → AllByRecursion (λ type. type_eq (type_of_chained c) type ≡ false) (map type_of_chained cs)
    → list_any sets_links cs ≡ false
none-more c [] sets far = refl
none-more c (d ∷ ds) sets far = elim (cases_Bool (sets_links d)) [
  | inl also ↦ absurd (both_ways (type_eq (type_of_chained c) (type_of_chained d)) far.0 (one_setter c d sets also))
  | inr not ↦ grind (arith, not, none-more c ds sets far.1)
]

once-by : (sets any rest : Bool) → (sets ≡ true → any ≡ false) → rest ≡ true → (if sets then not any else rest) ≡ true
once-by true any rest none h = ap not (none refl)
once-by false any rest none h = h

types-set_once : (cs : List Chained) → IsDistinct type_eq (map type_of_chained cs) → at_most_one sets_links cs ≡ true
unfolding IsDistinct
types-set_once [] h = refl
types-set_once (c ∷ cs) h =
    once-by (sets_links c) (list_any sets_links cs) (at_most_one sets_links cs) (λ sets. none-more c cs sets h.0)
    (types-set_once cs h.1)

-- ---- so has each list of a plan

lists-set_once : (lists : List NetList) → All IsWellFormedList lists
    → list_all (λ l. at_most_one sets_links l.chained) lists ≡ true
lists-set_once [] all = refl
lists-set_once (l ∷ ls) all =
    and_from (at_most_one sets_links l.chained) (list_all (λ x. at_most_one sets_links x.chained) ls)
    (types-set_once l.chained (All-head IsWellFormedList l ls all).types_once)
    (lists-set_once ls (All-tail IsWellFormedList l ls all))

listed-sets_once : (p : Plan) (c : Command) (list : NetList) → IsWellFormed p → list_for p c ≡ Some list
    → at_most_one sets_links list.chained ≡ true
listed-sets_once p c list well listed =
    passes-list_all (λ l. at_most_one sets_links l.chained) (λ l. bytes_eq l.name c.network) p.lists list
    (lists-set_once p.lists well.lists)
    (if-listed (is_of_network c.verb) (list_named p.lists c.network) list (list_for-found p c ∙ listed))

pub links_are_made_or_wanted : LinksAreMadeOrWanted
links_are_made_or_wanted w legal att a =
    each_link_is_wanted a.list a.by.command _ _
    (listed-sets_once w.plan a.by.command a.list (fine w legal).plan a.listed) a.objects.links
