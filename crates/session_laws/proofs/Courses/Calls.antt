-- The calls of an ADD after its leases, and what all of them make.
use Rattle.session_laws.proofs.Names.{◌≡◌, Bool, true, false, List, [], ◌∷◌, ◌++◌, map, Option, Some, None, refl, sym}
use Rattle.session_laws.proofs.Names.{◌∙◌, ap, subst, find, and_parts, AllByRecursion, list_all, list_any, option_or}
use Rattle.session_laws.proofs.Names.{option_map, Addr, by_test, Cached, leased_by, HasKindsAlone, IsAllowed, apply}
use Rattle.session_laws.proofs.Names.{has_link_of, has_master, is_same_addr, is_same_route, is_same_setting}
use Rattle.session_laws.proofs.Names.{master_is_bridge_or_none, rule_eq, has_named_ns, is_own, lease_of, link_at, Call}
use Rattle.session_laws.proofs.Names.{VethAdd, MacvlanAdd, AddrAdd, RouteAdd, RuleAppend, SettingSet, LeaseNext}
use Rattle.session_laws.proofs.Names.{CachePut, Kind, Reply, Att, Host, att_eq-refl, HostLocalConf, is_plugin_call_of}
use Rattle.session_laws.proofs.Names.{Share, no_objects, share_after_call, share_after_calls, share_after_calls-append}
use Rattle.session_laws.proofs.Names.{is_own_call}
use Rattle.plugin_base.specs.Calls.{IsWellFormedCall, has_kind, is_of_kinds}
use Rattle.cni_addr.proofs.Lists.{list_any-append_left, list_any-append_right}
use Rattle.gc_sweep.proofs.OfKinds.{HasKindsAlone-call}
use Rattle.kernel_types.specs.Codes.{kind_eq}
use Rattle.kernel_types.specs.declared.call.Kind.TheVariants as kinds
use Rattle.kernel_types.proofs.Cases.{by_way}
use Rattle.plugin_registry.specs.Own.{IsPluginCall}
use Rattle.plugin_registry.proofs.OwnCalls.{own-plugin_call}
use Rattle.session_laws.specs.{Holds.IsPartOf, Laws.{IsOwnRow, part_of}, Tasks.{forward_by, forward_of, kinds_back}}
use Rattle.session_laws.specs.{Views.cached_by, declared.row.Row.Row}
use Rattle.session_laws.proofs.Courses.Parts.{drops-more, part-kinds, part-same, part-trans}

-- ---- one call

-- it makes objects, and changes none
abbrev pub appends : Call → Bool
appends (VethAdd host_end inner_end) = true
appends (MacvlanAdd link) = true
appends (AddrAdd obj) = true
appends (RouteAdd obj) = true
appends (RuleAppend rule) = true
appends (SettingSet setting) = true
appends (CachePut att cached) = true
appends call = false

-- a call for the attachment, of these kinds, that makes objects
pub record IsForward (att : Att) (ks : List Kind) (call : Call) : Type 0 where
  pub plugin : IsPluginCall att ks call
  pub appends : appends call ≡ true

pub appends-allowed : (host : Host) (call : Call) → appends call ≡ true → IsWellFormedCall call → IsAllowed host call
appends-allowed host (VethAdd host_end inner_end) is well = well
appends-allowed host (MacvlanAdd link) is well = well
appends-allowed host (AddrAdd obj) is well = well
appends-allowed host (RouteAdd obj) is well = well
appends-allowed host (RuleAppend rule) is well = well
appends-allowed host (SettingSet setting) is well = well
appends-allowed host (CachePut att cached) is well = tt
appends-allowed host _ is well = cc

-- what it is replied is no lease
abbrev pub LeasesNone : Host × Reply → Type 0
LeasesNone step = leased_by step.1 ≡ None

pub appends-no_lease : (host : Host) (call : Call) → appends call ≡ true → LeasesNone (apply host call)
appends-no_lease host (VethAdd h i) is =
    by_test LeasesNone (has_named_ns host i.ns) _ _
    (λ _. by_test LeasesNone (master_is_bridge_or_none host h.master) _ _
    (λ _. by_way LeasesNone (option_map (λ l. l.tag) (option_or (link_at host i.ns i.name) (link_at host h.ns h.name)))
    host _ (λ t. refl) (λ _. refl))
    (λ _. refl))
    (λ _. refl)
appends-no_lease host (MacvlanAdd link) is =
    by_test LeasesNone (has_named_ns host link.ns) _ _
    (λ _. by_test LeasesNone (has_master host link.master) _ _
    (λ _. by_way LeasesNone (option_map (λ l. l.tag) (link_at host link.ns link.name)) host _ (λ t. refl) (λ _. refl))
    (λ _. refl))
    (λ _. refl)
appends-no_lease host (AddrAdd obj) is =
    by_test LeasesNone (has_link_of host obj.ns obj.link obj.tag) _ _
    (λ _. by_way LeasesNone (option_map (λ a. a.tag) (find (is_same_addr obj) host.addresses)) host _
    (λ t. refl) (λ _. refl))
    (λ _. refl)
appends-no_lease host (RouteAdd obj) is =
    by_test LeasesNone (has_link_of host obj.ns obj.link obj.tag) _ _
    (λ _. by_way LeasesNone (option_map (λ r. r.tag) (find (is_same_route obj) host.routes)) host _
    (λ t. refl) (λ _. refl))
    (λ _. refl)
appends-no_lease host (RuleAppend rule) is =
    by_test LeasesNone (list_any (λ r. rule_eq r rule) host.rules) _ _ (λ _. refl) (λ _. refl)
appends-no_lease host (SettingSet setting) is =
    by_test LeasesNone (has_named_ns host setting.ns) _ _
    (λ _. by_way LeasesNone (option_map (λ s. s.tag) (find (is_same_setting setting) host.settings)) host _
    (λ t. refl) (λ _. refl))
    (λ _. refl)
appends-no_lease host (CachePut att cached) is =
    by_test LeasesNone (list_any (λ c. is_own att c.tag) host.cached) _ _ (λ _. refl) (λ _. refl)
appends-no_lease host _ is = cc

-- ---- a share grows

part-call : (s : Share) (call : Call) → appends call ≡ true → IsPartOf s (share_after_call s call)
part-call s (VethAdd h i) is =
    let same = part-same s in
    record {
      links = drops-more s.links (h ∷ i ∷ []);
      addresses = same.addresses;
      routes = same.routes;
      rules = same.rules;
      settings = same.settings;
      leases = same.leases;
      cached = same.cached;
    }
part-call s (MacvlanAdd link) is =
    let same = part-same s in
    record {
      links = drops-more s.links (link ∷ []);
      addresses = same.addresses;
      routes = same.routes;
      rules = same.rules;
      settings = same.settings;
      leases = same.leases;
      cached = same.cached;
    }
part-call s (AddrAdd obj) is =
    let same = part-same s in
    record {
      links = same.links;
      addresses = drops-more s.addresses (obj ∷ []);
      routes = same.routes;
      rules = same.rules;
      settings = same.settings;
      leases = same.leases;
      cached = same.cached;
    }
part-call s (RouteAdd obj) is =
    let same = part-same s in
    record {
      links = same.links;
      addresses = same.addresses;
      routes = drops-more s.routes (obj ∷ []);
      rules = same.rules;
      settings = same.settings;
      leases = same.leases;
      cached = same.cached;
    }
part-call s (RuleAppend rule) is =
    let same = part-same s in
    record {
      links = same.links;
      addresses = same.addresses;
      routes = same.routes;
      rules = drops-more s.rules (rule ∷ []);
      settings = same.settings;
      leases = same.leases;
      cached = same.cached;
    }
part-call s (SettingSet setting) is =
    let same = part-same s in
    record {
      links = same.links;
      addresses = same.addresses;
      routes = same.routes;
      rules = same.rules;
      settings = drops-more s.settings (setting ∷ []);
      leases = same.leases;
      cached = same.cached;
    }
part-call s (CachePut att cached) is =
    let same = part-same s in
    record {
      links = same.links;
      addresses = same.addresses;
      routes = same.routes;
      rules = same.rules;
      settings = same.settings;
      leases = same.leases;
      cached = drops-more s.cached _;
    }
part-call s _ is = cc

part-calls : (att : Att) (ks : List Kind) (s : Share) (calls : List Call) → AllByRecursion (IsForward att ks) calls
    → IsPartOf s (share_after_calls s calls)
part-calls att ks s [] all = part-same s
part-calls att ks s (x ∷ xs) all =
    part-trans s (share_after_call s x) (share_after_calls (share_after_call s x) xs) (part-call s x all.0.appends)
    (part-calls att ks (share_after_call s x) xs all.1)

all-later : {X : Type 0} (P : X → Type 0) (xs ys : List X) → AllByRecursion P (xs ++ ys) → AllByRecursion P ys
all-later P [] ys all = all
all-later P (x ∷ xs) ys all = all-later P xs ys all.1

-- what some calls make is part of what they and the others make
pub part-first : (att : Att) (ks : List Kind) (s : Share) (calls made left : List Call)
    → AllByRecursion (IsForward att ks) calls → calls ≡ made ++ left
    → IsPartOf (share_after_calls s made) (share_after_calls s calls)
part-first att ks s calls made left all are =
    let both = subst (AllByRecursion (IsForward att ks)) are all in
    subst (IsPartOf (share_after_calls s made))
    (sym (ap (share_after_calls s) are ∙ share_after_calls-append s made left))
    (part-calls att ks (share_after_calls s made) left (all-later (IsForward att ks) made left both))

-- ---- the calls of a row

kinds-row : (ipam : Option HostLocalConf) (row : Row) (k : Kind) → has_kind k row.kinds ≡ true
    → has_kind k (kinds_back ipam (Some row)) ≡ true
kinds-row None row k is = list_any-append_left (kind_eq k) row.kinds (kinds.Cached ∷ []) is
kinds-row (Some conf) row k is = list_any-append_left (kind_eq k) row.kinds (kinds.Leases ∷ kinds.Cached ∷ []) is

kinds-cached : (ipam : Option HostLocalConf) (row : Row) → has_kind kinds.Cached (kinds_back ipam (Some row)) ≡ true
kinds-cached None row = list_any-append_right (kind_eq kinds.Cached) row.kinds (kinds.Cached ∷ []) refl
kinds-cached (Some conf) row =
    list_any-append_right (kind_eq kinds.Cached) row.kinds (kinds.Leases ∷ kinds.Cached ∷ []) refl

of_kinds-row : (ipam : Option HostLocalConf) (row : Row) (call : Call) → is_of_kinds row.kinds call ≡ true
    → is_of_kinds (kinds_back ipam (Some row)) call ≡ true
of_kinds-row ipam row (VethAdd h i) is = kinds-row ipam row kinds.Links is
of_kinds-row ipam row (MacvlanAdd link) is = kinds-row ipam row kinds.Links is
of_kinds-row ipam row (AddrAdd obj) is = kinds-row ipam row kinds.Links is
of_kinds-row ipam row (RouteAdd obj) is = kinds-row ipam row kinds.Links is
of_kinds-row ipam row (RuleAppend rule) is = kinds-row ipam row kinds.Rules is
of_kinds-row ipam row (SettingSet setting) is = kinds-row ipam row kinds.Settings is
of_kinds-row ipam row (LeaseNext att number set) is = kinds-row ipam row kinds.Leases is
of_kinds-row ipam row (CachePut att cached) is = kinds-row ipam row kinds.Cached is
of_kinds-row ipam row _ is = is

own-appends : (att : Att) (ks : List Kind) (call : Call) → is_own_call att ks call ≡ true → appends call ≡ true
own-appends att ks (VethAdd h i) is = refl
own-appends att ks (MacvlanAdd link) is = refl
own-appends att ks (AddrAdd obj) is = refl
own-appends att ks (RouteAdd obj) is = refl
own-appends att ks (RuleAppend rule) is = refl
own-appends att ks (SettingSet setting) is = refl
own-appends att ks _ is = cc

own-forward : (ipam : Option HostLocalConf) (att : Att) (row : Row) (call : Call)
    → is_own_call att row.kinds call ≡ true → IsForward att (kinds_back ipam (Some row)) call
own-forward ipam att row call is =
    let own = own-plugin_call att row.kinds call is in record {
      plugin = record {
        well_formed = own.well_formed;
        for_attachment = own.for_attachment;
        of_kinds = of_kinds-row ipam row call own.of_kinds;
      };
      appends = own-appends att row.kinds call is;
    }

put-forward : (ipam : Option HostLocalConf) (att own : Att) (row : Row) (cached : Cached) → own ≡ att
    → IsForward att (kinds_back ipam (Some row)) (CachePut own cached)
put-forward ipam att own row cached same = record {
  plugin = record {
    well_formed = tt;
    for_attachment = ap (λ a. is_plugin_call_of att (CachePut a cached)) same ∙ att_eq-refl att;
    of_kinds = kinds-cached ipam row;
  };
  appends = refl;
}

forward-by : (ipam : Option HostLocalConf) (att own : Att) (row : Row) (calls : List Call) (cached : Cached) → own ≡ att
    → list_all (is_own_call att row.kinds) calls ≡ true
    → AllByRecursion (IsForward att (kinds_back ipam (Some row))) (calls ++ CachePut own cached ∷ [])
forward-by ipam att own row [] cached same all = (put-forward ipam att own row cached same, tt)
forward-by ipam att own row (x ∷ xs) cached same all =
    let both = and_parts (is_own_call att row.kinds x) (list_all (is_own_call att row.kinds) xs) all in
    (own-forward ipam att row x both.0, forward-by ipam att own row xs cached same both.1)

forward-if : (ipam : Option HostLocalConf) (att own : Att) (row : Row) (calls : List Call) (cached : Option Cached)
    → own ≡ att → list_all (is_own_call att row.kinds) calls ≡ true
    → AllByRecursion (IsForward att (kinds_back ipam (Some row))) (forward_by own calls cached)
forward-if ipam att own row calls None same all = tt
forward-if ipam att own row calls (Some cached) same all = forward-by ipam att own row calls cached same all

pub forward-all : (ipam : Option HostLocalConf) (att : Att) (row : Row) → IsOwnRow att row
    → AllByRecursion (IsForward att (kinds_back ipam (Some row))) (forward_of (Some row))
forward-all ipam att row is = forward-if ipam att row.att row row.calls row.cached is.att is.own

-- ---- what they make

-- nothing but leases
abbrev pub with_leases : Att → List Addr → Share
with_leases att given = record no_objects { leases = map (lease_of att) given }

abbrev with_both : Share → Att → List Addr → Share
with_both s att given = record s { leases = map (lease_of att) given; cached = [] }

beside-call : (att owner : Att) (ks : List Kind) (given : List Addr) (s : Share) (call : Call)
    → is_own_call owner ks call ≡ true
    → share_after_call (with_both s att given) call ≡ with_both (share_after_call s call) att given
beside-call att owner ks given s (VethAdd h i) is = refl
beside-call att owner ks given s (MacvlanAdd link) is = refl
beside-call att owner ks given s (AddrAdd obj) is = refl
beside-call att owner ks given s (RouteAdd obj) is = refl
beside-call att owner ks given s (RuleAppend rule) is = refl
beside-call att owner ks given s (SettingSet setting) is = refl
beside-call att owner ks given s _ is = cc

-- a plugin's calls leave the leases, and cache nothing
beside-calls : (att owner : Att) (ks : List Kind) (given : List Addr) (s : Share) (calls : List Call)
    → list_all (is_own_call owner ks) calls ≡ true
    → share_after_calls (with_both s att given) calls ≡ with_both (share_after_calls s calls) att given
beside-calls att owner ks given s [] all = refl
beside-calls att owner ks given s (x ∷ xs) all =
    let both = and_parts (is_own_call owner ks x) (list_all (is_own_call owner ks) xs) all in
    ap (λ t. share_after_calls t xs) (beside-call att owner ks given s x both.0)
    ∙ beside-calls att owner ks given (share_after_call s x) xs both.1

makes-if : (att own : Att) (ks : List Kind) (calls : List Call) (cached : Option Cached) (given : List Addr) → own ≡ att
    → list_all (is_own_call att ks) calls ≡ true → (cached ≡ None → calls ≡ [])
    → share_after_calls (with_leases att given) (forward_by own calls cached)
    ≡ record (share_after_calls no_objects calls) {
      leases = map (lease_of att) given;
      cached = cached_by att cached;
    }
makes-if att own ks calls None given same all unasked =
    ap (λ cs. with_both (share_after_calls no_objects cs) att given) (sym (unasked refl))
makes-if att own ks calls (Some cached) given same all unasked =
    share_after_calls-append (with_leases att given) calls (CachePut own cached ∷ [])
    ∙ ap (λ s. share_after_call s (CachePut own cached)) (beside-calls att att ks given no_objects calls all)
    ∙ ap (λ a. share_after_call (with_both (share_after_calls no_objects calls) att given) (CachePut a cached)) same

-- beside the leases, all that a row says
pub forward-makes : (att : Att) (row : Row) (given : List Addr) → IsOwnRow att row
    → share_after_calls (with_leases att given) (forward_of (Some row)) ≡ part_of att row given
forward-makes att row given is = makes-if att row.att row.kinds row.calls row.cached given is.att is.own is.unasked

-- ---- their kinds

kinds-leases : (ipam : Option HostLocalConf) (att : Att) (row : Row) (given : List Addr) → (ipam ≡ None → given ≡ [])
    → has_kind kinds.Leases (kinds_back ipam (Some row)) ≡ false → map (lease_of att) given ≡ []
kinds-leases None att row given pooled none = ap (map (lease_of att)) (pooled refl)
kinds-leases (Some conf) att row given pooled none =
    absurd (let there =
    list_any-append_right (kind_eq kinds.Leases) row.kinds (kinds.Leases ∷ kinds.Cached ∷ []) refl in
    cc (there, none))

kinds-calls : (att : Att) (ks : List Kind) (s : Share) (calls : List Call) → AllByRecursion (IsForward att ks) calls
    → HasKindsAlone ks s → HasKindsAlone ks (share_after_calls s calls)
kinds-calls att ks s [] all has = has
kinds-calls att ks s (x ∷ xs) all has =
    kinds-calls att ks (share_after_call s x) xs all.1 (HasKindsAlone-call ks s x all.0.plugin.of_kinds has)

pub part-of_kinds : (ipam : Option HostLocalConf) (att : Att) (row : Row) (leased : List Addr) (share : Share)
    → IsOwnRow att row → (ipam ≡ None → leased ≡ []) → IsPartOf share (part_of att row leased)
    → HasKindsAlone (kinds_back ipam (Some row)) share
part-of_kinds ipam att row leased share is pooled part =
    let ks = kinds_back ipam (Some row) in
    part-kinds ks share (part_of att row leased) part
    (subst (HasKindsAlone ks) (forward-makes att row leased is)
    (kinds-calls att ks (with_leases att leased) (forward_of (Some row)) (forward-all ipam att row is)
    (record {
      links = λ _. refl;
      rules = λ _. refl;
      settings = λ _. refl;
      leases = kinds-leases ipam att row leased pooled;
      cached = λ _. refl;
    })))
