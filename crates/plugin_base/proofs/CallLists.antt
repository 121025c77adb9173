-- What lists of calls add to a share.
use Rattle.std.proofs.Common.{◌≡◌, Bool, true, false, ap, List, [], ◌∷◌, ◌++◌, map, refl, sym, ◌∙◌, append_assoc}
use Rattle.std.proofs.lemmas.List.{append-nil, Sums.fold-append}
use Rattle.std.specs.Prelude.{if◌then◌else◌}
use Rattle.cni_addr.specs.declared.address.Family.TheVariants.{V4, V6}
use Rattle.kernel_types.specs.declared.call.Call.{Call, TheVariants.{ForwardEnsure, AddrAdd, RouteAdd, RuleAppend}}
use Rattle.kernel_types.specs.declared.{call.{Call.TheVariants.SettingSet, Given.Given}, object.AddrObj.AddrObj}
use Rattle.kernel_types.specs.declared.{object.{Link.Link, RouteObj.RouteObj, Setting.Setting}, rule.Rule.Rule}
use Rattle.plugin_base.specs.{Families.has_family, Shapes.{forward_for, forward_calls}, Share.{Share, no_objects}}
use Rattle.plugin_base.specs.Share.{share_plus, share_after_call, share_after_calls}

pub share_after_calls-append : (s : Share) (xs ys : List Call)
    → share_after_calls s (xs ++ ys) ≡ share_after_calls (share_after_calls s xs) ys
share_after_calls-append s xs ys = fold-append share_after_call s xs ys

-- what the first calls make of it, and then the others
pub share_after_calls-then : (s t u : Share) (xs ys : List Call) → share_after_calls s xs ≡ t
    → share_after_calls t ys ≡ u → share_after_calls s (xs ++ ys) ≡ u
share_after_calls-then s t u xs ys first rest =
    share_after_calls-append s xs ys ∙ ap (λ v. share_after_calls v ys) first ∙ rest

-- calls that each put their object at the end of one list put all there
share_after_calls-each : {X : Type 0} (call_for : X → Call) (with_list : List X → Share)
    → ((old : List X) (x : X) → share_after_call (with_list old) (call_for x) ≡ with_list (old ++ x ∷ []))
    → (old xs : List X) → share_after_calls (with_list old) (map call_for xs) ≡ with_list (old ++ xs)
share_after_calls-each call_for with_list w old [] = ap with_list (sym (append-nil old))
share_after_calls-each call_for with_list w old (x ∷ xs) =
    ap (λ t. share_after_calls t (map call_for xs)) (w old x)
    ∙ share_after_calls-each call_for with_list w (old ++ x ∷ []) xs ∙ ap with_list (append_assoc old (x ∷ []) xs)

pub share_after_calls-addresses : (s : Share) (xs : List AddrObj)
    → share_after_calls s (map AddrAdd xs) ≡ record s { addresses = s.addresses ++ xs }
share_after_calls-addresses s xs =
    share_after_calls-each AddrAdd (λ l. record s { addresses = l }) (λ old x. refl) s.addresses xs

pub share_after_calls-routes : (s : Share) (xs : List RouteObj)
    → share_after_calls s (map RouteAdd xs) ≡ record s { routes = s.routes ++ xs }
share_after_calls-routes s xs =
    share_after_calls-each RouteAdd (λ l. record s { routes = l }) (λ old x. refl) s.routes xs

pub share_after_calls-rules : (s : Share) (xs : List Rule)
    → share_after_calls s (map RuleAppend xs) ≡ record s { rules = s.rules ++ xs }
share_after_calls-rules s xs =
    share_after_calls-each RuleAppend (λ l. record s { rules = l }) (λ old x. refl) s.rules xs

pub share_after_calls-settings : (s : Share) (xs : List Setting)
    → share_after_calls s (map SettingSet xs) ≡ record s { settings = s.settings ++ xs }
share_after_calls-settings s xs =
    share_after_calls-each SettingSet (λ l. record s { settings = l }) (λ old x. refl) s.settings xs

pub share_after_calls-if : (s : Share) (b : Bool) (xs : List Call) → share_after_calls s xs ≡ s
    → share_after_calls s (if b then xs else []) ≡ s
share_after_calls-if s true xs h = h
share_after_calls-if s false xs h = refl

pub share_after_calls-forward : (s : Share) (given : List Given) → share_after_calls s (forward_calls given) ≡ s
share_after_calls-forward s given =
    share_after_calls-then s s s (forward_for V4 given) (forward_for V6 given)
    (share_after_calls-if s (has_family V4 given) (ForwardEnsure V4 ∷ []) refl)
    (share_after_calls-if s (has_family V6 given) (ForwardEnsure V6 ∷ []) refl)

-- calls that add nothing, and rules
pub share_after_calls-shared_rules : (s : Share) (shared : List Call) (rules : List Rule)
    → ((t : Share) → share_after_calls t shared ≡ t)
    → share_after_calls s (shared ++ map RuleAppend rules) ≡ record s { rules = s.rules ++ rules }
share_after_calls-shared_rules s shared rules adds_none =
    share_after_calls-then s s (record s { rules = s.rules ++ rules }) shared (map RuleAppend rules) (adds_none s)
    (share_after_calls-rules s rules)

-- ---- shares

pub share_plus-laid_on : (s : Share) (addresses : List AddrObj) (routes : List RouteObj) (rules : List Rule)
    → share_plus s (record no_objects { addresses = addresses; routes = routes; rules = rules })
    ≡ record s { addresses = s.addresses ++ addresses; routes = s.routes ++ routes; rules = s.rules ++ rules }
share_plus-laid_on s addresses routes rules =
    rw (append-nil s.links, append-nil s.settings, append-nil s.leases, append-nil s.cached) refl

pub share_plus-links : (s : Share) (links : List Link)
    → share_plus s (record no_objects { links = links }) ≡ record s { links = s.links ++ links }
share_plus-links s links =
    rw (
      append-nil s.addresses,
      append-nil s.routes,
      append-nil s.rules,
      append-nil s.settings,
      append-nil s.leases,
      append-nil s.cached,
    )
    refl
