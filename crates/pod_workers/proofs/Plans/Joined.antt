-- A plan that was joined is well formed.
use Rattle.pod_workers.proofs.Names.{◌≡◌, ℕ, ◌+◌, ◌<◌, Bool, true, false, not, cond, List, [], ◌∷◌, ◌++◌, length, take}
use Rattle.pod_workers.proofs.Names.{drop, get_or, Option, Some, None, Ok, refl, sym, ◌∙◌, ap, subst, arith}
use Rattle.pod_workers.proofs.Names.{if◌then◌else◌, option_map, position_from-zero, drop_more, take_more, none-some}
use Rattle.pod_workers.proofs.Names.{list_any, list_all, position_from, ◌&&◌, position, bytes_eq, NetList}
use Rattle.std.specs.Option.{option_or}
use Rattle.cni_addr.proofs.Lists.{is_some-find}
use Rattle.cni_addr.specs.Lists.{distinct}
use Rattle.pod_workers.specs.Join.{joined, plan_unless, first_repeat_after, first_without_list}
use Rattle.pod_workers.specs.{Laws.JoinedPlansAreWellFormed, Plans.{Placed, placed_from, IsWellFormed, commands_of}}
use Rattle.pod_workers.specs.{Plans.{has_list, lacks_list}, declared.plan.{Plan.Plan, PlanError.TheVariants.SameName}}
use Rattle.pod_workers.specs.declared.plan.PlanError.TheVariants.{NoNetwork}

-- where none passes a test, all pass another one
all-from : {X : Type 0} (q p : X → Bool) → ((x : X) → q x ≡ false → p x ≡ true) → (i : ℕ) (xs : List X)
    → position_from q i xs ≡ None → list_all p xs ≡ true
all-from q p tells i [] none = refl
all-from q p tells i (x ∷ xs) none =
    elim (q x) as (λ b. q x ≡ b → cond b (Some i) (position_from q (i + 1) xs) ≡ None → (p x && list_all p xs) ≡ true) [
      | true ↦ λ is h. absurd (none-some i (sym h))
      | false ↦ λ is h.
          let here : p x ≡ true = tells x is in
          let rest : list_all p xs ≡ true = all-from q p tells (i + 1) xs h in grind (arith, here, rest)
    ] refl none

all-where_none : {X : Type 0} (q p : X → Bool) → ((x : X) → q x ≡ false → p x ≡ true) → (xs : List X)
    → position q xs ≡ None → list_all p xs ≡ true
all-where_none q p tells xs none = all-from q p tells 0 xs (sym (position_from-zero q xs) ∙ none)

-- ---- names

abbrev same_name : NetList → NetList → Bool
same_name a b = bytes_eq a.name b.name

-- no list here has the name of an earlier one
abbrev HasNoneLater : List NetList → NetList → Bool
HasNoneLater later e = not (list_any (same_name e) later)

joins-both : (l : NetList) (later earlier : List NetList) → list_all (HasNoneLater later) (earlier ++ l ∷ []) ≡ true
    → list_any (λ e. bytes_eq e.name l.name) earlier ≡ false
    → (list_all (HasNoneLater (l ∷ later)) earlier ≡ true) × (HasNoneLater later l ≡ true)
joins-both l later [] all none = (refl, grind (arith, all))
joins-both l later (e ∷ es) all none =
    let rest = joins-both l later es (grind (arith, all)) (grind (arith, none)) in
    let r = rest.0 in
    let here : HasNoneLater later e ≡ true = grind (arith, all) in
    let not_l : bytes_eq e.name l.name ≡ false = grind (arith, none) in
    (grind (arith, r, here, not_l), rest.1)

abbrev AreApart : List NetList → List NetList → Type 0
AreApart earlier ls = (list_all (HasNoneLater ls) earlier ≡ true) × (distinct (λ a b. bytes_eq a.name b.name) ls ≡ true)

none-later : (earlier : List NetList) → list_all (HasNoneLater []) earlier ≡ true
none-later [] = refl
none-later (e ∷ es) = none-later es

apart-more : (earlier : List NetList) (l : NetList) (ls : List NetList)
    → list_any (λ e. bytes_eq e.name l.name) earlier ≡ false → AreApart (earlier ++ l ∷ []) ls
    → AreApart earlier (l ∷ ls)
apart-more earlier l ls none apart =
    let both = joins-both l ls earlier apart.0 none in
    let here : not (list_any (same_name l) ls) ≡ true = both.1 in
    let rest : distinct (λ a b. bytes_eq a.name b.name) ls ≡ true = apart.1 in
    (both.0, grind (arith, here, rest))

apart : (earlier : List NetList) (place : ℕ) (ls : List NetList) → first_repeat_after earlier place ls ≡ None
    → AreApart earlier ls
apart earlier place [] none = (none-later earlier, refl)
apart earlier place (l ∷ ls) none =
    elim (has_list earlier l.name)
    as (λ b.
    has_list earlier l.name ≡ b → cond b (Some place) (first_repeat_after (earlier ++ l ∷ []) (place + 1) ls) ≡ None
    → AreApart earlier (l ∷ ls)) [
      | true ↦ λ is h. absurd (none-some place (sym h))
      | false ↦ λ is h.
          apart-more earlier l ls (sym (is_some-find (λ e. bytes_eq e.name l.name) earlier) ∙ is)
          (apart (earlier ++ l ∷ []) (place + 1) ls h)
    ] refl none

-- ---- what was joined

by_refusal : (p q : Plan) (names networks : Option ℕ)
    → plan_unless
    (option_or (option_map (λ place. SameName place) names) (option_map (λ place. NoNetwork (place + 1)) networks))
    p
    ≡ Ok q
    → (p ≡ q) × (names ≡ None) × (networks ≡ None)
by_refusal p q None None h = (cc, refl, refl)
by_refusal p q None (Some place) h = absurd cc
by_refusal p q (Some place) networks h = absurd cc

each-listed : (p : Plan) → first_without_list p.lists p.pods.rounds ≡ None
    → list_all (λ c. not (lacks_list p.lists c.command)) (commands_of p) ≡ true
unfolding commands_of
each-listed p none =
    all-where_none (λ (c : Placed). lacks_list p.lists c.command) (λ (c : Placed). not (lacks_list p.lists c.command))
    (λ c passed. ap not passed) (placed_from 0 p.pods.rounds) none

pub joined_is_well_formed : JoinedPlansAreWellFormed
unfolding joined
joined_is_well_formed p q h lists pods =
    let made = by_refusal p q (first_repeat_after [] 0 p.lists) (first_without_list p.lists p.pods.rounds) h in
    let well : IsWellFormed p = record {
      lists = lists;
      pods = pods;
      names = (apart [] 0 p.lists made.1).1;
      networks = each-listed p made.2;
    } in
    subst IsWellFormed made.0 well

-- ---- a name that is there twice, list by list

repeats-step : (lists : List NetList) (i : ℕ) (l : NetList) → i < length lists → l ≡ get_or lists i l
    → first_repeat_after (take i lists) i (drop i lists)
    ≡ (if has_list (take i lists) l.name
    then Some i
    else first_repeat_after (take (i + 1) lists) (i + 1) (drop (i + 1) lists))
repeats-step lists i l within is =
    ap (first_repeat_after (take i lists) i) (drop_more lists i l within ∙ ap (λ x. x ∷ drop (i + 1) lists) (sym is))
    ∙ ap (λ earlier.
    if has_list (take i lists) l.name then Some i else first_repeat_after earlier (i + 1) (drop (i + 1) lists))
    (ap (λ x. take i lists ++ x ∷ []) is ∙ sym (take_more lists i l within))

pub repeats-here : (lists : List NetList) (i : ℕ) (l : NetList) → i < length lists → l ≡ get_or lists i l
    → has_list (take i lists) l.name ≡ true
    → first_repeat_after (take i lists) i (drop i lists) ≡ first_repeat_after [] 0 lists
    → Some i ≡ first_repeat_after [] 0 lists
repeats-here lists i l within is has so_far =
    sym (sym so_far
    ∙ repeats-step lists i l within is
    ∙ ap (λ b. if b then Some i else first_repeat_after (take (i + 1) lists) (i + 1) (drop (i + 1) lists)) has)

pub repeats-later : (lists : List NetList) (i : ℕ) (l : NetList) → i < length lists → l ≡ get_or lists i l
    → has_list (take i lists) l.name ≡ false
    → first_repeat_after (take i lists) i (drop i lists) ≡ first_repeat_after [] 0 lists
    → first_repeat_after (take (i + 1) lists) (i + 1) (drop (i + 1) lists) ≡ first_repeat_after [] 0 lists
repeats-later lists i l within is has_none so_far =
    sym (repeats-step lists i l within is
    ∙ ap (λ b. if b then Some i else first_repeat_after (take (i + 1) lists) (i + 1) (drop (i + 1) lists)) has_none)
    ∙ so_far
