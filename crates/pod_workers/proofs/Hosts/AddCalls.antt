-- What the calls of an ADD are: its attachment's, well formed, of the kinds that its list's plugins name, and together
-- what makes the wanted objects.
use Rattle.pod_workers.proofs.Names.{◌≡◌, ℕ, ◌+◌, Bool, true, not, List, [], ◌∷◌, ◌++◌, Option, Some, None, refl, sym}
use Rattle.pod_workers.proofs.Names.{ap, ◌∙◌, and_from, and_parts, AllByRecursion, list_all, is_some, Addr, RangeSet}
use Rattle.pod_workers.proofs.Names.{PortMapping, are_apart, Chained, First, HostLocalConf, NetList, list_all-weaker}
use Rattle.pod_workers.proofs.Names.{Call, VethAdd, MacvlanAdd, AddrAdd, RouteAdd, RuleAppend, SettingSet, LeaseNext}
use Rattle.pod_workers.proofs.Names.{CachePut, Kind, Att, IsWellFormedCall, is_plugin_call_of, Share, range_sets_of}
use Rattle.pod_workers.proofs.Names.{lease_calls_from, lease_calls_of, back_calls, bridge_of, calls_after, calls_before}
use Rattle.pod_workers.proofs.Names.{chained_calls, ipam_of, kinds_of, sets_of, PassesChained, passes-back, own-back}
use Rattle.pod_workers.proofs.Names.{chained_laws, first_laws}
use Rattle.kernel_types.proofs.{Cases.att_eq-refl, ListLemmas.{list_any-append_left, list_any-append_right}}
use Rattle.kernel_types.proofs.ListLemmas.{each-append}
use Rattle.kernel_types.specs.Codes.{kind_eq}
use Rattle.kernel_types.specs.declared.call.Kind.TheVariants as kinds
use Rattle.plugin_base.specs.{Calls.{has_kind, is_beside_plugins, is_call_of, is_of_kinds}, PluginCalls.makes_interface}
use Rattle.plugin_base.specs.Share.{no_objects, share_after_calls}
use Rattle.plugin_base.proofs.{CallLists.share_after_calls-then, KeyLists.list_all-append, PluginCalls.interface-kinds}
use Rattle.plugin_chain.specs.Wanted.{chained_kinds, chained_kinds_reversed, first_kinds, wanted}
use Rattle.plugin_chain.proofs.{OwnCalls.own-before, WantedShare.{adds-links, makes-wanted, share_with_leases}}
use Rattle.pod_workers.specs.AddCalls.{AddCallsMakeTheWanted, only_leases}
use Rattle.pod_workers.proofs.Hosts.PluginCalls.{AllOfPlugins, of_plugins-back, of_plugins-before}
use Rattle.pod_workers.proofs.{Lists.Splits.split_nil, Plans.WellFormedPlans.first_apart}

-- ---- whose they are

own-plugin : (att : Att) (calls : List Call) → list_all (is_plugin_call_of att) calls ≡ true
    → list_all (is_call_of att) calls ≡ true
own-plugin att [] own = refl
own-plugin att (x ∷ xs) own =
    let both = and_parts (is_plugin_call_of att x) (list_all (is_plugin_call_of att) xs) own in
    and_from (is_call_of att x) (list_all (is_call_of att) xs)
    (and_parts (not (is_beside_plugins x)) (is_call_of att x) both.0).1 (own-plugin att xs both.1)

own-leases : (att : Att) (number : ℕ) (sets : List RangeSet)
    → list_all (is_call_of att) (lease_calls_from att number sets) ≡ true
own-leases att number [] = refl
own-leases att number (s ∷ ss) = and_from _ _ (att_eq-refl att) (own-leases att (number + 1) ss)

-- ---- they are well formed

well_formed-of_plugins : (att : Att) (calls : List Call) → AllOfPlugins att calls
    → AllByRecursion IsWellFormedCall calls
well_formed-of_plugins att [] h = tt
well_formed-of_plugins att (x ∷ xs) h = (h.0.1, well_formed-of_plugins att xs h.1)

well_formed-leases : (att : Att) (number : ℕ) (sets : List RangeSet)
    → list_all (λ set. are_apart set.ranges) sets ≡ true
    → AllByRecursion IsWellFormedCall (lease_calls_from att number sets)
well_formed-leases att number [] apart = tt
well_formed-leases att number (s ∷ ss) apart =
    let both = and_parts (are_apart s.ranges) (list_all (λ set. are_apart set.ranges) ss) apart in
    (both.0, well_formed-leases att (number + 1) ss both.1)

-- ---- they are of their list's kinds

-- each kind of the one list is in the other
abbrev Among : List Kind → List Kind → Type 0
Among some all = (k : Kind) → has_kind k some ≡ true → has_kind k all ≡ true

has-left : (k : Kind) (xs ys : List Kind) → has_kind k xs ≡ true → has_kind k (xs ++ ys) ≡ true
has-left k xs ys h = list_any-append_left (kind_eq k) xs ys h

has-right : (k : Kind) (xs ys : List Kind) → has_kind k ys ≡ true → has_kind k (xs ++ ys) ≡ true
has-right k xs ys h = list_any-append_right (kind_eq k) xs ys h

first-among : (list : NetList) → Among (first_kinds list.first) (kinds_of list)
first-among list = λ k h.
    has-right k (chained_kinds_reversed list.chained) (first_kinds list.first ++ kinds.Cached ∷ [])
    (has-left k (first_kinds list.first) (kinds.Cached ∷ []) h)

chained-among : (list : NetList) → Among (chained_kinds_reversed list.chained) (kinds_of list)
chained-among list = λ k h.
    has-left k (chained_kinds_reversed list.chained) (first_kinds list.first ++ kinds.Cached ∷ []) h

cached-among : (list : NetList) → has_kind kinds.Cached (kinds_of list) ≡ true
cached-among list =
    has-right kinds.Cached (chained_kinds_reversed list.chained) (first_kinds list.first ++ kinds.Cached ∷ [])
    (has-right kinds.Cached (first_kinds list.first) (kinds.Cached ∷ []) refl)

kinds-more : (some all : List Kind) → Among some all → (call : Call) → is_of_kinds some call ≡ true
    → is_of_kinds all call ≡ true
kinds-more some all among (VethAdd h i) is = among kinds.Links is
kinds-more some all among (MacvlanAdd l) is = among kinds.Links is
kinds-more some all among (AddrAdd obj) is = among kinds.Links is
kinds-more some all among (RouteAdd obj) is = among kinds.Links is
kinds-more some all among (RuleAppend rule) is = among kinds.Rules is
kinds-more some all among (SettingSet s) is = among kinds.Settings is
kinds-more some all among (LeaseNext att number set) is = among kinds.Leases is
kinds-more some all among (CachePut att cached) is = among kinds.Cached is
kinds-more some all among _ is = refl

kinds-all_chained : (ks : List Kind) (cs : List Chained) (att : Att) (netns : List ℕ) (mappings : List PortMapping)
    → Among (chained_kinds_reversed cs) ks → AllByRecursion (PassesChained (is_of_kinds ks) att netns mappings) cs
kinds-all_chained ks [] att netns mappings among = tt
kinds-all_chained ks (c ∷ cs) att netns mappings among = (
  λ ips. list_all-weaker (is_of_kinds (chained_kinds c)) (is_of_kinds ks)
      (kinds-more (chained_kinds c) ks (λ k h. among k (has-right k (chained_kinds_reversed cs) (chained_kinds c) h)))
      (chained_calls c att netns mappings ips) ((chained_laws c).calls att netns mappings ips).of_kinds,
  kinds-all_chained ks cs att netns mappings
      (λ k h. among k (has-left k (chained_kinds_reversed cs) (chained_kinds c) h)),
)

pub of_kinds-before : (list : NetList) (att : Att) (netns : List ℕ)
    → list_all (is_of_kinds (kinds_of list)) (calls_before list.first att netns) ≡ true
of_kinds-before list att netns =
    let laws = first_laws list.first in
    list_all-weaker (makes_interface (bridge_of list.first)) (is_of_kinds (kinds_of list))
    (interface-kinds (kinds_of list) (first-among list kinds.Links laws.takes_links) (bridge_of list.first))
    (calls_before list.first att netns) (laws.before att netns).make_interface

pub of_kinds-back : (list : NetList) (att : Att) (netns : List ℕ) (mappings : List PortMapping) (addrs : List Addr)
    → list_all (is_of_kinds (kinds_of list)) (back_calls list att netns mappings addrs) ≡ true
of_kinds-back list att netns mappings addrs =
    passes-back (is_of_kinds (kinds_of list)) list att netns mappings addrs
    (λ given. list_all-weaker (is_of_kinds (first_kinds list.first)) (is_of_kinds (kinds_of list))
    (kinds-more (first_kinds list.first) (kinds_of list) (first-among list))
    (calls_after list.first att netns given) ((first_laws list.first).after att netns given).of_kinds)
    (kinds-all_chained (kinds_of list) list.chained att netns mappings (chained-among list))
    (λ cached. cached-among list)

-- a list that leases names the kind of leases

sets-some : (o : Option HostLocalConf) (past left : List RangeSet) (next : RangeSet)
    → range_sets_of o ≡ past ++ next ∷ left → is_some o ≡ true
sets-some None past left next e = absurd (split_nil past left next e)
sets-some (Some ipam) past left next e = refl

pub leases-kinds_of : (list : NetList) (past left : List RangeSet) (next : RangeSet)
    → sets_of list ≡ past ++ next ∷ left → has_kind kinds.Leases (kinds_of list) ≡ true
leases-kinds_of list past left next e =
    first-among list kinds.Leases
    ((first_laws list.first).takes_leases (sets-some (ipam_of list.first) past left next e))

kinds-leases : (ks : List Kind) (att : Att) (number : ℕ) (sets : List RangeSet) → has_kind kinds.Leases ks ≡ true
    → list_all (is_of_kinds ks) (lease_calls_from att number sets) ≡ true
kinds-leases ks att number [] there = refl
kinds-leases ks att number (s ∷ ss) there = and_from _ _ there (kinds-leases ks att (number + 1) ss there)

of_kinds-leases : (list : NetList) (att : Att) (sets : List RangeSet) → sets_of list ≡ sets
    → list_all (is_of_kinds (kinds_of list)) (lease_calls_of sets att) ≡ true
of_kinds-leases list att [] is = refl
of_kinds-leases list att (s ∷ ss) is = kinds-leases (kinds_of list) att 0 (s ∷ ss) (leases-kinds_of list [] ss s is)

-- ---- what they add

leases-add_none : (s : Share) (att : Att) (number : ℕ) (sets : List RangeSet)
    → share_after_calls s (lease_calls_from att number sets) ≡ s
leases-add_none s att number [] = refl
leases-add_none s att number (set ∷ sets) = leases-add_none s att (number + 1) sets

adds-before : (first : First) (att : Att) (netns : List ℕ) (given : List Addr)
    → share_after_calls (only_leases att given) (calls_before first att netns)
    ≡ record (share_after_calls no_objects (calls_before first att netns)) {
      leases = (only_leases att given).leases;
    }
adds-before first att netns given =
    adds-links first att netns (only_leases att given)
    ∙ ap (λ (s : Share). record s { leases = (only_leases att given).leases })
    (sym (adds-links first att netns no_objects))

adds-all : (list : NetList) (att : Att) (netns : List ℕ) (mappings : List PortMapping) (given : List Addr)
    → share_after_calls (only_leases att given)
    (calls_before list.first att netns
    ++ (lease_calls_of (sets_of list) att ++ back_calls list att netns mappings given))
    ≡ wanted list att netns mappings given
adds-all list att netns mappings given =
    let on = share_with_leases list att netns given in
    let back = back_calls list att netns mappings given in
    share_after_calls-then (only_leases att given) on (wanted list att netns mappings given)
    (calls_before list.first att netns) (lease_calls_of (sets_of list) att ++ back)
    (adds-before list.first att netns given)
    (share_after_calls-then on on (wanted list att netns mappings given) (lease_calls_of (sets_of list) att) back
    (leases-add_none on att 0 (sets_of list)) (makes-wanted list att netns mappings given))

-- ---- all

-- the calls after a Begin pass a test where those of each part do
in-parts : (p : Call → Bool) (list : NetList) (att : Att) (netns : List ℕ) (mappings : List PortMapping)
    (given : List Addr)
    → list_all p (calls_before list.first att netns) ≡ true
    → list_all p (lease_calls_of (sets_of list) att) ≡ true
    → list_all p (back_calls list att netns mappings given) ≡ true
    → list_all p (calls_before list.first att netns
    ++ (lease_calls_of (sets_of list) att ++ back_calls list att netns mappings given))
    ≡ true
in-parts p list att netns mappings given before leases back =
    let rest = back_calls list att netns mappings given in
    list_all-append p (calls_before list.first att netns) (lease_calls_of (sets_of list) att ++ rest) before
    (list_all-append p (lease_calls_of (sets_of list) att) rest leases back)

pub make_the_wanted : AddCallsMakeTheWanted
make_the_wanted list att netns mappings given =
    let before = calls_before list.first att netns in
    let leases = lease_calls_of (sets_of list) att in
    let back = back_calls list att netns mappings given in
    let plugins_before = own-before list.first att netns in
    let plugins_back = own-back list att netns mappings given in
    record {
      own =
          and_from _ _ (att_eq-refl att)
          (in-parts (is_call_of att) list att netns mappings given (own-plugin att before plugins_before)
          (own-leases att 0 (sets_of list)) (own-plugin att back plugins_back));
      of_plugins = list_all-append (is_plugin_call_of att) before back plugins_before plugins_back;
      well_formed = λ formed place. (
        tt,
        each-append IsWellFormedCall before (leases ++ back)
            (well_formed-of_plugins att before (of_plugins-before list.first att netns place))
            (each-append IsWellFormedCall leases back
            (well_formed-leases att 0 (sets_of list) (first_apart list.first formed.first))
            (well_formed-of_plugins att back (of_plugins-back list att netns mappings given place))),
      );
      of_kinds =
          in-parts (is_of_kinds (kinds_of list)) list att netns mappings given (of_kinds-before list att netns)
          (of_kinds-leases list att (sets_of list) refl) (of_kinds-back list att netns mappings given);
      adds = adds-all list att netns mappings given;
    }
