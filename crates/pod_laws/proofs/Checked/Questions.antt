-- What a CHECK asks for, and that the answers stay while other attachments change.
use Rattle.pod_laws.proofs.Names.{◌≡◌, ℕ, ◌+◌, Bool, true, List, [], ◌∷◌, ◌++◌, map, Option, Some, None, refl, sym, ◌∙◌}
use Rattle.pod_laws.proofs.Names.{ap, arith, and-true, and_parts, list_all-append, any-filter_same, AllByRecursion}
use Rattle.pod_laws.proofs.Names.{list_any, list_all, ◌&&◌, filter, option_map, Mac, Cached, Interface, NetList}
use Rattle.pod_laws.proofs.Names.{Command, addr_obj_eq, lease_eq, link_eq, route_eq, rule_eq, setting_eq, tag_eq}
use Rattle.pod_laws.proofs.Names.{cached_in, is_own, AddrObj, CachedObj, Host, Lease, Link, Setting, Tag, is_own-tag_eq}
use Rattle.pod_laws.proofs.Names.{Share, att_of, Question, addresses_of_result, share_questions, bridge_by_mac}
use Rattle.pod_laws.proofs.Names.{first_interface, bridge_questions, cached_share, check_questions, bridge_of}
use Rattle.pod_laws.proofs.Names.{each-append, find-first, first_of}
use Rattle.std.proofs.Math.Bool.{beq}
use Rattle.std.specs.{Option.option_eq, Prelude.◌==◌}
use Rattle.kernel_types.specs.Equal.{chain_eq, cidr_eq, proto_eq, table_eq, target_eq}
use Rattle.kernel_types.specs.declared.{object.RouteObj.RouteObj, rule.Rule.Rule}
use Rattle.kernel_types.proofs.ListLemmas as lists
use Rattle.cni_errors.specs.ObjectQuestions.{link_question, address_question, route_question, rule_questions}
use Rattle.cni_errors.specs.ObjectQuestions.{setting_question, lease_question}
use Rattle.cni_errors.specs.declared.answer.{Cause.TheVariants.Missing, Missed.Missed}
use Rattle.cni_errors.specs.declared.answer.Missed.TheVariants as missed
use Rattle.pod_laws.specs.Checked.{are_in, has_bridge_by, has_bridge_for, has_first_bridge, has_objects_of}
use Rattle.pod_laws.specs.{Checked.holds_cached, Granted.grants}
use Rattle.pod_laws.proofs.{Checked.OwnWanted.{AreOwn, own-wanted}, Questions.{Asking.tells, SteadyHosts.KeepsAsked}}
use Rattle.pod_workers.proofs.Lists.Each.{each-map_of}
use Rattle.kernel_types.proofs.ToldByKeys.{link_eq-tag}

-- ---- one question

-- its reply is a truth value, a denial names what is missing, and it stays granted while the host keeps what the
-- command asks
pub record IsSteadyQuestion (c : Command) (q : Question) : Type 0 where
  pub told : tells q.call ≡ true
  pub what : Missed
  pub lack : q.lack ≡ Missing what
  pub stays : (old new : Host) → KeepsAsked c old new → grants old q ≡ true → grants new q ≡ true

-- what is the attachment's is among its share
same-own : {X : Type 0} (p own : X → Bool) → ((x : X) → p x ≡ true → own x ≡ true) → (old new : List X)
    → filter own new ≡ filter own old → list_any p old ≡ true → list_any p new ≡ true
same-own p own w old new same there =
    sym (any-filter_same p own true w new) ∙ ap (list_any p) same ∙ any-filter_same p own true w old ∙ there

and-fifth : (a b d e r : Bool) → (a && (b && (d && (e && r)))) ≡ true → r ≡ true
and-fifth a b d e r h =
    (and_parts e r (and_parts d (e && r) (and_parts b (d && (e && r)) (and_parts a (b && (d && (e && r))) h).1).1).1).1

pub address-tag : (a b : AddrObj) → addr_obj_eq a b ≡ true → tag_eq a.tag b.tag ≡ true
address-tag a b h = grind (arith, h)

pub route-tag : (a b : RouteObj) → route_eq a b ≡ true → tag_eq a.tag b.tag ≡ true
route-tag a b h = grind (arith, h)

pub rule-tag : (a b : Rule) → rule_eq a b ≡ true → tag_eq a.tag b.tag ≡ true
rule-tag a b h =
    let last = target_eq a.target b.target && tag_eq a.tag b.tag in
    let ports = option_eq (λ p q. p == q) a.dport b.dport in
    let second =
    beq a.not_dst b.not_dst
    && (option_eq proto_eq a.protocol b.protocol && (ports && (beq a.established b.established && last))) in
    let is_second : second ≡ true =
    and-fifth (table_eq a.table b.table) (chain_eq a.chain b.chain) (option_eq cidr_eq a.src b.src)
    (option_eq cidr_eq a.dst b.dst) second h in
    let is_last : last ≡ true =
    and-fifth (beq a.not_dst b.not_dst) (option_eq proto_eq a.protocol b.protocol) ports
    (beq a.established b.established) last is_second in
    (and_parts (target_eq a.target b.target) (tag_eq a.tag b.tag) is_last).1

pub setting-tag : (a b : Setting) → setting_eq a b ≡ true → tag_eq a.tag b.tag ≡ true
setting-tag a b h = grind (arith, h)

pub lease-tag : (a b : Lease) → lease_eq a b ≡ true → tag_eq a.tag b.tag ≡ true
lease-tag a b h = grind (arith, h)

-- a question for an object of the attachment among the objects of one list of the host
steady-object : {X : Type 0} (c : Command) (equal : X → X → Bool) (tag : X → Tag) (listed : Host → List X)
    (q : Question) (x : X) (what : Missed)
    → ((a b : X) → equal a b ≡ true → tag_eq (tag a) (tag b) ≡ true)
    → ((old new : Host) → KeepsAsked c old new
    → filter (λ y. is_own (att_of c) (tag y)) (listed new) ≡ filter (λ y. is_own (att_of c) (tag y)) (listed old))
    → ((host : Host) → grants host q ≡ list_any (λ y. equal y x) (listed host)) → tells q.call ≡ true
    → q.lack ≡ Missing what → is_own (att_of c) (tag x) ≡ true → IsSteadyQuestion c q
steady-object c equal tag listed q x what same_tag keep asks told lack own = record {
  told = told;
  what = what;
  lack = lack;
  stays = λ old new keeps there.
      let among =
      same-own (λ y. equal y x) (λ y. is_own (att_of c) (tag y))
      (λ y h. is_own-tag_eq (att_of c) (tag y) (tag x) (same_tag y x h) ∙ own) (listed old) (listed new)
      (keep old new keeps) in
      asks new ∙ among (sym (asks old) ∙ there);
}

steady-link : (c : Command) (l : Link) → is_own (att_of c) l.tag ≡ true → IsSteadyQuestion c (link_question l)
steady-link c l own =
    steady-object c link_eq (λ y. y.tag) (λ host. host.links) (link_question l) l (missed.Link l) link_eq-tag
    (λ old new keeps. ap (λ (s : Share). s.links) keeps.share) (λ host. refl) refl refl own

steady-address : (c : Command) (a : AddrObj) → is_own (att_of c) a.tag ≡ true → IsSteadyQuestion c (address_question a)
steady-address c a own =
    steady-object c addr_obj_eq (λ y. y.tag) (λ host. host.addresses) (address_question a) a (missed.Address a)
    address-tag (λ old new keeps. ap (λ (s : Share). s.addresses) keeps.share) (λ host. refl) refl refl own

steady-route : (c : Command) (r : RouteObj) → is_own (att_of c) r.tag ≡ true → IsSteadyQuestion c (route_question r)
steady-route c r own =
    steady-object c route_eq (λ y. y.tag) (λ host. host.routes) (route_question r) r (missed.Route r) route-tag
    (λ old new keeps. ap (λ (s : Share). s.routes) keeps.share) (λ host. refl) refl refl own

steady-setting : (c : Command) (x : Setting) → is_own (att_of c) x.tag ≡ true → IsSteadyQuestion c (setting_question x)
steady-setting c x own =
    steady-object c setting_eq (λ y. y.tag) (λ host. host.settings) (setting_question x) x (missed.Setting x)
    setting-tag (λ old new keeps. ap (λ (s : Share). s.settings) keeps.share) (λ host. refl) refl refl own

steady-lease : (c : Command) (l : Lease) → is_own (att_of c) l.tag ≡ true → IsSteadyQuestion c (lease_question l)
steady-lease c l own =
    steady-object c lease_eq (λ y. y.tag) (λ host. host.leases) (lease_question l) l (missed.Lease l) lease-tag
    (λ old new keeps. ap (λ (s : Share). s.leases) keeps.share) (λ host. refl) refl refl own

steady-rules : (c : Command) (number : ℕ) (rules : List Rule) → list_all (λ r. is_own (att_of c) r.tag) rules ≡ true
    → AllByRecursion (IsSteadyQuestion c) (rule_questions number rules)
steady-rules c number [] h = tt
steady-rules c number (r ∷ rs) h =
    let own : is_own (att_of c) r.tag ≡ true = grind (arith, h) in
    let more : list_all (λ x. is_own (att_of c) x.tag) rs ≡ true = grind (arith, h) in (
      steady-object c rule_eq (λ y. y.tag) (λ host. host.rules) _ r (missed.Rule r number) rule-tag
          (λ old new keeps. ap (λ (s : Share). s.rules) keeps.share) (λ host. refl) refl refl own,
      steady-rules c (number + 1) rs more,
    )

-- ---- all of them

steady-share : (c : Command) (s : Share) → AreOwn (att_of c) s → AllByRecursion (IsSteadyQuestion c) (share_questions s)
steady-share c s own =
    let P = IsSteadyQuestion c in
    each-append P (map link_question s.links) _
    (each-map_of P link_question (λ x. is_own (att_of c) x.tag) (steady-link c) s.links own.links)
    (each-append P (map address_question s.addresses) _
    (each-map_of P address_question (λ x. is_own (att_of c) x.tag) (steady-address c) s.addresses own.addresses)
    (each-append P (map route_question s.routes) _
    (each-map_of P route_question (λ x. is_own (att_of c) x.tag) (steady-route c) s.routes own.routes)
    (each-append P (rule_questions 1 s.rules) _ (steady-rules c 1 s.rules own.rules)
    (each-append P (map setting_question s.settings) (map lease_question s.leases)
    (each-map_of P setting_question (λ x. is_own (att_of c) x.tag) (steady-setting c)
    s.settings own.settings)
    (each-map_of P lease_question (λ x. is_own (att_of c) x.tag) (steady-lease c)
    s.leases own.leases)))))

steady-mac : (c : Command) (name : List ℕ) (mac : Option Mac)
    → AllByRecursion (IsSteadyQuestion c) (bridge_by_mac name mac)
steady-mac c name None = tt
steady-mac c name (Some mac) = (
  record {
    told = refl;
    what = missed.Bridge name;
    lack = refl;
    stays = λ old new keeps there. keeps.bridges name mac there;
  },
  tt,
)

steady-interfaces : (c : Command) (interfaces : List Interface)
    → AllByRecursion (IsSteadyQuestion c) (first_interface interfaces)
steady-interfaces c [] = tt
steady-interfaces c (i ∷ is) = steady-mac c i.name i.mac

steady-bridge : (c : Command) (bridge : Option (List ℕ)) (interfaces : List Interface)
    → AllByRecursion (IsSteadyQuestion c) (bridge_questions bridge interfaces)
steady-bridge c None interfaces = tt
steady-bridge c (Some bridge) interfaces = steady-interfaces c interfaces

pub steady-questions : (list : NetList) (c : Command) (cached : Cached)
    → AllByRecursion (IsSteadyQuestion c) (check_questions list c cached)
unfolding check_questions
steady-questions list c cached =
    each-append (IsSteadyQuestion c) (bridge_questions (bridge_of list.first) cached.result.interfaces)
    (share_questions (cached_share list c cached)) (steady-bridge c (bridge_of list.first) cached.result.interfaces)
    (steady-share c (cached_share list c cached)
    (own-wanted list (att_of c) cached.netns cached.mappings (addresses_of_result cached.result)))

-- ---- all are granted where the host holds what the cached result says

-- the first list is this, and the second that
all-parts : {X : Type 0} (p : X → Bool) (xs ys : List X) (a b : Bool) → list_all p xs ≡ a → list_all p ys ≡ b
    → list_all p (xs ++ ys) ≡ (a && b)
all-parts p xs ys a b h g = list_all-append p xs ys ∙ ap (λ t. t && list_all p ys) h ∙ ap (λ t. a && t) g

granted-rules : (host : Host) (number : ℕ) (rules : List Rule)
    → list_all (grants host) (rule_questions number rules) ≡ are_in rule_eq rules host.rules
granted-rules host number [] = refl
granted-rules host number (r ∷ rs) =
    ap (λ b. list_any (λ y. rule_eq y r) host.rules && b) (granted-rules host (number + 1) rs)

granted-share : (host : Host) (s : Share) → list_all (grants host) (share_questions s) ≡ has_objects_of host s
granted-share host s =
    let p = grants host in
    all-parts p (map link_question s.links) _ (are_in link_eq s.links host.links) _
    (lists.list_all-map p link_question s.links)
    (all-parts p (map address_question s.addresses) _ (are_in addr_obj_eq s.addresses host.addresses) _
    (lists.list_all-map p address_question s.addresses)
    (all-parts p (map route_question s.routes) _ (are_in route_eq s.routes host.routes) _
    (lists.list_all-map p route_question s.routes)
    (all-parts p (rule_questions 1 s.rules) _ (are_in rule_eq s.rules host.rules) _
    (granted-rules host 1 s.rules)
    (all-parts p (map setting_question s.settings) (map lease_question s.leases)
    (are_in setting_eq s.settings host.settings) (are_in lease_eq s.leases host.leases)
    (lists.list_all-map p setting_question s.settings)
    (lists.list_all-map p lease_question s.leases)))))

granted-mac : (host : Host) (name : List ℕ) (mac : Option Mac)
    → list_all (grants host) (bridge_by_mac name mac) ≡ has_bridge_by host name mac
granted-mac host name None = refl
granted-mac host name (Some mac) = and-true _

granted-interfaces : (host : Host) (interfaces : List Interface)
    → list_all (grants host) (first_interface interfaces) ≡ has_first_bridge host interfaces
granted-interfaces host [] = refl
granted-interfaces host (i ∷ is) = granted-mac host i.name i.mac

granted-bridge : (host : Host) (bridge : Option (List ℕ)) (interfaces : List Interface)
    → list_all (grants host) (bridge_questions bridge interfaces) ≡ has_bridge_for host bridge interfaces
granted-bridge host None interfaces = refl
granted-bridge host (Some bridge) interfaces = granted-interfaces host interfaces

pub granted-check : (list : NetList) (c : Command) (cached : Cached) (host : Host)
    → list_all (grants host) (check_questions list c cached) ≡ holds_cached list c cached host
unfolding check_questions
granted-check list c cached host =
    all-parts (grants host) (bridge_questions (bridge_of list.first) cached.result.interfaces)
    (share_questions (cached_share list c cached)) _ _
    (granted-bridge host (bridge_of list.first) cached.result.interfaces)
    (granted-share host (cached_share list c cached))

-- ---- what stays

pub granted-stay : (c : Command) (old new : Host) (qs : List Question) → KeepsAsked c old new
    → AllByRecursion (IsSteadyQuestion c) qs → list_all (grants old) qs ≡ true → list_all (grants new) qs ≡ true
granted-stay c old new [] keeps each h = refl
granted-stay c old new (q ∷ qs) keeps each h =
    let now : grants new q ≡ true = each.0.stays old new keeps (grind (arith, h)) in
    let rest : list_all (grants new) qs ≡ true = granted-stay c old new qs keeps each.1 (grind (arith, h)) in
    grind (arith, now, rest)

-- the cached result is of the share
pub cached-stays : (c : Command) (old new : Host) → KeepsAsked c old new
    → cached_in new (att_of c) ≡ cached_in old (att_of c)
cached-stays c old new keeps =
    let own : CachedObj → Bool = λ x. is_own (att_of c) x.tag in
    ap (option_map (λ x. x.cached))
    (find-first own new.cached
    ∙ ap (λ (s : Share). first_of s.cached) keeps.share
    ∙ sym (find-first own old.cached))
