-- Who may step, by the index.
use Rattle.pod_workers.proofs.Names.{◌≡◌, ◌≢◌, ℕ, ◌+◌, ◌-◌, ◌<◌, ◌==◌, Bool, true, false, List, [], ◌∷◌, length, get_or}
use Rattle.pod_workers.proofs.Names.{Option, Some, None, slice_get, refl, sym, ◌∙◌, ap, subst, arith, inl, inr}
use Rattle.pod_workers.proofs.Names.{if◌then◌else◌, false≢true, and_parts, cases_order, eqb-true, same_Some, none-some}
use Rattle.pod_workers.proofs.Names.{slice_get-get_or, slice_get_within, option_map_or, ◌&&◌, is_some, RunView, Answer}
use Rattle.pod_workers.proofs.Names.{Host, Command}
use Rattle.std.proofs.lemmas.Bool.{eq-eqb}
use Rattle.std.specs.{Option.option_flatten, Prelude.MatchBool}
use Rattle.pod_workers.specs.Index.{IsIndex, IsLatest, IsPlaced, is_cut_after, is_cut_by, is_entry_in, is_open}
use Rattle.pod_workers.specs.{Index.{lets_through, may_step_by}, Plans.{Placed, commands_of, IsOf}, Slots.IsKept}
use Rattle.pod_workers.specs.World.{World, Blocks, IsAnswered, IsReady, IsReadyNumber, at_number, is_cut, is_cut_at}
use Rattle.pod_workers.specs.{World.{last_entry, is_of_round}, declared.{index.Place.Place, plan.Entry.Entry}}
use Rattle.pod_workers.proofs.{Books.Rounds.is_in_round, InOrder.Order.{IsInOrder, in_order, not_both}}
use Rattle.pod_workers.proofs.Lists.Elements.{at_number-is, numbered}

is-open : (o : Option (Option Answer)) → is_open o ≡ true → o ≡ Some None
is-open None h = absurd (false≢true h)
is-open (Some None) h = refl
is-open (Some (Some a)) h = absurd (false≢true h)

is-answered : (o : Option (Option Answer)) → is_some (option_flatten o) ≡ true → (a : Answer) × (o ≡ Some (Some a))
is-answered None h = absurd (false≢true h)
is-answered (Some None) h = absurd (false≢true h)
is-answered (Some (Some a)) h = (a, refl)

answered-is : (o : Option (Option Answer)) → ((x : Option Answer) → o ≡ Some x → x ≢ None) → o ≢ None
    → is_some (option_flatten o) ≡ true
answered-is None h some = absurd (some refl)
answered-is (Some None) h some = absurd (h None refl refl)
answered-is (Some (Some a)) h some = refl

-- ---- a command that the index lets through is the first of its container

clear-by : (w : World) (n : ℕ) (c : Placed) (previous : Option ℕ) → IsInOrder w → n < length w.answers
    → c.round ≡ w.round → IsLatest (commands_of w.plan) n c.round c.command.container previous
    → lets_through w.answers previous ≡ true
    → (m : ℕ) (d : Placed) (o : Option Answer) → m < n → slice_get (commands_of w.plan) m ≡ Some d
    → slice_get w.answers m ≡ Some o → ¬ Blocks d o w.round c.command.container
clear-by w n c None order within current latest through m d o less at_m answer blocks =
    latest m d (omega arith) less at_m (blocks.0.0 ∙ sym current, blocks.0.1)
clear-by w n c (Some k) order within current latest through m d o less at_m answer blocks =
    let a = is-answered (slice_get w.answers k) through in
    let of_ : IsOf d c.round c.command.container = (blocks.0.0 ∙ sym current, blocks.0.1) in
    let x = latest.1.0 in
    let open_m : slice_get w.answers m ≡ Some None = answer ∙ ap Some blocks.1 in
    elim (cases_order m k) [
      | inl same ↦ not_both w m (subst (IsAnswered w) (sym same) a) open_m
      | inr (inl before) ↦
          elim (order.first m k d x before at_m latest.1.1 (of_.0 ∙ sym latest.1.2.0, of_.1 ∙ sym latest.1.2.1)) [
            | inl untouched ↦ not_both w k a untouched.no_answer
            | inr done ↦ not_both w m done open_m
          ]
      | inr (inr after) ↦ latest.2 m d (omega arith) less at_m of_
    ]

through-by : (w : World) (n : ℕ) (c : Placed) (previous : Option ℕ) → n < length w.answers → IsReady w n c
    → IsLatest (commands_of w.plan) n c.round c.command.container previous → lets_through w.answers previous ≡ true
through-by w n c None within ready latest = refl
through-by w n c (Some k) within ready latest =
    let less = latest.0 in
    let short : k < length w.answers = omega arith in
    answered-is (slice_get w.answers k)
    (λ x is none. ready.first k latest.1.0 x less latest.1.1 is ((latest.1.2.0 ∙ ready.current, latest.1.2.1), none))
    (λ none. none-some _ (sym none ∙ slice_get-get_or w.answers k None short))

-- ---- both ways

ready-where : (w : World) (n : ℕ) (c : Placed) (p : Place) → IsInOrder w → n < length w.answers
    → slice_get (commands_of w.plan) n ≡ Some c → IsPlaced w.plan.pods.rounds (commands_of w.plan) n c p
    → may_step_by p w.answers w.round n ≡ true → IsReady w n c
ready-where w n c p order within at_n placed passes =
    let a = and_parts (p.round == w.round) _ passes in
    let b = and_parts (is_open (slice_get w.answers n)) _ a.1 in
    let current : c.round ≡ w.round = placed.round_is ∙ eqb-true p.round w.round a.0 in
    record {
      there = at_n;
      current = current;
      unanswered = is-open (slice_get w.answers n) b.0;
      first = clear-by w n c p.previous order within current placed.previous b.1;
    }

where-ready : (w : World) (n : ℕ) (c : Placed) (p : Place) → n < length w.answers
    → IsPlaced w.plan.pods.rounds (commands_of w.plan) n c p → IsReady w n c → may_step_by p w.answers w.round n ≡ true
where-ready w n c p within placed ready =
    let here : (p.round == w.round) ≡ true = eq-eqb p.round w.round (sym placed.round_is ∙ ready.current) in
    let unanswered : is_open (slice_get w.answers n) ≡ true = ap is_open ready.unanswered in
    let through = through-by w n c p.previous within ready placed.previous in
    rw (here, unanswered) through

ready-by : (b : Bool) (w : World) (n : ℕ) (c : Placed) (p : Place) (number : ℕ) → number ≡ n + 1 → IsInOrder w
    → n < length w.answers → slice_get (commands_of w.plan) n ≡ Some c
    → IsPlaced w.plan.pods.rounds (commands_of w.plan) n c p → b ≡ may_step_by p w.answers w.round n
    → MatchBool b (IsReadyNumber w number) (IsReadyNumber w number → ⊥)
ready-by true w n c p number is order within at_n placed tells =
    (n, c, is, ready-where w n c p order within at_n placed (sym tells))
ready-by false w n c p number is order within at_n placed tells = λ r.
    let same_n : r.0 ≡ n = (let e = r.2 in omega arith) in
    let ready : IsReady w n r.1 = subst (λ k. IsReady w k r.1) same_n r.3 in
    let same_c : r.1 ≡ c = same_Some r.1 c (sym ready.there ∙ at_n) in
    false≢true (tells ∙ where-ready w n c p within placed (subst (IsReady w n) same_c ready))

placed-default : (commands : List Placed) (n : ℕ) → n < length commands → Placed
placed-default [] n within = absurd (omega arith)
placed-default (c ∷ cs) n within = c

-- whether the command of this number may step
pub ready-tells : (b : Bool) (host : Host) (slots : List (Option RunView)) (places : List Place) (before : ℕ)
    (w v : World) (p : Place) (number : ℕ)
    → IsKept host slots places before w → w ≡ v
    → at_number places number ≡ Some p → b ≡ may_step_by p w.answers w.round (number - 1)
    → MatchBool b (IsReadyNumber v number) (IsReadyNumber v number → ⊥)
ready-tells b host slots places before w v p number kept same found tells =
    let at = numbered places number p found in
    let n = number - 1 in
    let within : n < length (commands_of w.plan) = rw (sym kept.index.long) (slice_get_within places n p at.1) in
    let short : n < length w.answers = rw kept.answers_long within in
    let c = get_or (commands_of w.plan) n (placed-default (commands_of w.plan) n within) in
    let at_n = slice_get-get_or (commands_of w.plan) n (placed-default (commands_of w.plan) n within) within in
    subst (λ u. MatchBool b (IsReadyNumber u number) (IsReadyNumber u number → ⊥)) same
    (ready-by b w n c p number at.0 (in_order w kept.legal) short at_n (kept.index.each n c p at_n at.1) tells)

-- a command that has a place has room for its answer
pub place-answered : (host : Host) (slots : List (Option RunView)) (places : List Place) (before : ℕ) (w : World)
    (p : Place) (number : ℕ)
    → IsKept host slots places before w → at_number places number ≡ Some p → number - 1 < length w.answers
place-answered host slots places before w p number kept found =
    let within = slice_get_within places (number - 1) p (numbered places number p found).1 in
    let a = kept.index.long in
    let b = kept.answers_long in
    omega arith

-- a number with no place is no command's
pub ready-nowhere : (host : Host) (slots : List (Option RunView)) (places : List Place) (before : ℕ)
    (w v : World) (number : ℕ)
    → IsKept host slots places before w → w ≡ v → at_number places number ≡ None → IsReadyNumber v number → ⊥
ready-nowhere host slots places before w v number kept same none ready =
    let r = subst (λ u. IsReadyNumber u number) (sym same) ready in
    let within = slice_get_within (commands_of w.plan) r.0 r.1 r.3.there in
    let short : r.0 < length places = rw kept.index.long within in
    none-some _ (sym none
    ∙ at_number-is places number r.0 r.2
    ∙ slice_get-get_or places r.0 (record { round = 0; within = 0; previous = None }) short)

-- ---- where a round is stopped

abbrev is_there : ℕ → Option Place → Bool
is_there round p = option_map_or (λ (p : Place). p.round == round) p false

place-in-round : (rounds : List (List Command)) (commands : List Placed) (places : List Place) (round k : ℕ)
    → IsIndex rounds commands places → (o : Option Placed) → slice_get commands k ≡ o → (q : Option Place)
    → slice_get places k ≡ q → is_there round q ≡ is_in_round round o
place-in-round rounds commands places round k index (Some c) at_k (Some p) place_k =
    ap (λ r. r == round) (sym (index.each k c p at_k place_k).round_is)
place-in-round rounds commands places round k index None at_k None place_k = refl
place-in-round rounds commands places round k index (Some c) at_k None place_k =
    absurd (let within = slice_get_within commands k c at_k in
    none-some _ (sym place_k
    ∙ slice_get-get_or places k (record { round = 0; within = 0; previous = None }) (rw index.long within)))
place-in-round rounds commands places round k index None at_k (Some p) place_k =
    absurd (let within = slice_get_within places k p place_k in
    let short : k < length commands = rw (sym index.long) within in
    none-some _ (sym at_k ∙ slice_get-get_or commands k (placed-default commands k short) short))

where-numbered : (b : Bool) (o : Option Placed) (q : Option Place) (round : ℕ) → is_there round q ≡ is_in_round round o
    → is_there round (if b then None else q) ≡ is_in_round round (if b then None else o)
where-numbered true o q round same = refl
where-numbered false o q round same = same

entry-in-round : (rounds : List (List Command)) (commands : List Placed) (places : List Place) (round : ℕ) (e : Entry)
    → IsIndex rounds commands places
    → is_entry_in places round e ≡ is_in_round round (at_number commands e.command)
entry-in-round rounds commands places round e index =
    where-numbered (e.command == 0) (slice_get commands (e.command - 1)) (slice_get places (e.command - 1)) round
    (place-in-round rounds commands places round (e.command - 1) index (slice_get commands (e.command - 1)) refl
    (slice_get places (e.command - 1)) refl)

-- whether an entry is of the current round
pub round-tells : (b : Bool) (host : Host) (slots : List (Option RunView)) (places : List Place) (before : ℕ)
    (w v : World) (e : Entry)
    → IsKept host slots places before w → w ≡ v
    → b ≡ is_entry_in places w.round e → b ≡ is_of_round v.plan v.round e
round-tells b host slots places before w v e kept same tells =
    subst (λ u. b ≡ is_of_round u.plan u.round e) same
    (tells ∙ entry-in-round w.plan.pods.rounds (commands_of w.plan) places w.round e kept.index)

cut-at : (w : World) (places : List Place) (stop_at : Option ℕ) (last : Option Entry)
    → IsIndex w.plan.pods.rounds (commands_of w.plan) places
    → is_cut_after stop_at w.history places w.round last ≡ is_cut_at stop_at w last
cut-at w places None last index = refl
cut-at w places (Some number) None index = refl
cut-at w places (Some number) (Some e) index =
    ap (λ b. length w.history == number && b)
    (entry-in-round w.plan.pods.rounds (commands_of w.plan) places w.round e index)

pub cut-is : (w : World) (places : List Place) (cut : Bool) → IsIndex w.plan.pods.rounds (commands_of w.plan) places
    → cut ≡ is_cut_by w.plan.stop_at w.history places w.round → cut ≡ is_cut w
cut-is w places cut index tells = tells ∙ cut-at w places w.plan.stop_at (last_entry w.history) index
