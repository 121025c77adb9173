-- A candidate of a set has a range that holds it.
use Rattle.std.proofs.Common.{◌≡◌, ℕ, ◌+◌, ◌<◌, Bool, true, false, cond, List, [], ◌∷◌, ◌++◌, length, drop, get_or, map}
use Rattle.std.proofs.{Common.{Option, Some, None, refl, sym, ◌∙◌, ap, append_assoc, arith}, lemmas.List.drop_more}
use Rattle.std.specs.{List.{cons_option, list_any}, Prelude.{find, option_map}}
use Rattle.cni_addr.specs.declared.{address.Addr.Addr, range.{Range.Range, RangeSet.RangeSet}}
use Rattle.ip_pool.specs.NextAddress.{is_between, is_in, is_candidate}
use Rattle.kernel_types.specs.declared.{call.Call.{Call, TheVariants.LeaseNext}, object.Att.Att}
use Rattle.host_local.specs.{Laws.CandidatesAreGiven, Leases.{given_by, given_by_set, given_of, lease_calls_from}}

found-step : {X : Type 0} (b : Bool) (x : X) (o : Option X) → (b ≡ false → (y : X) × (o ≡ Some y))
    → (y : X) × (cond b (Some x) o ≡ Some y)
found-step true x o h = (x, refl)
found-step false x o h = h refl

is_in-is_between : (a : Addr) (r : Range) → is_in a r ≡ true → is_between a r ≡ true
is_in-is_between a r h = grind (arith, h)

range-found : (a : Addr) (rs : List Range) → list_any (is_in a) rs ≡ true
    → (r : Range) × (find (is_between a) rs ≡ Some r)
range-found a [] h = absurd (grind (arith, h))
range-found a (r ∷ rs) h =
    found-step (is_between a r) r (find (is_between a) rs)
    (λ no_r. range-found a rs (grind (arith, h, no_r, is_in-is_between a r)))

-- candidates are all given, in order
pub given_candidates : CandidatesAreGiven
given_candidates [] [] h = refl
given_candidates [] (a ∷ more) h = absurd h
given_candidates (s ∷ ss) [] h = absurd h
given_candidates (s ∷ ss) (a ∷ more) h =
    let f = range-found a s.ranges h.0 in
    let here : given_by_set s a ≡ Some (given_by a f.0) = ap (option_map (given_by a)) f.1 in
    ap (λ o. map (λ given. given.address.addr) (cons_option o (given_of ss more))) here
    ∙ ap (λ addrs. a ∷ addrs) (given_candidates ss more h.1)

-- a candidate is given
pub candidate-given : (set : RangeSet) (addr : Addr) → is_candidate set addr ≡ true → given_by_set set addr ≡ None → ⊥
candidate-given set addr h none =
    let f = range-found addr set.ranges h in
    let here : given_by_set set addr ≡ Some (given_by addr f.0) = ap (option_map (given_by addr)) f.1 in
    cc

-- the next set has its lease
pub leases-more : (whole before after : List Call) (att : Att) (sets : List RangeSet) (i : ℕ) (set : RangeSet)
    (lease : Call)
    → i < length sets → set ≡ get_or sets i set → lease ≡ LeaseNext att i set
    → before ++ lease_calls_from att i (drop i sets) ≡ whole → after ≡ before ++ lease ∷ []
    → after ++ lease_calls_from att (i + 1) (drop (i + 1) sets) ≡ whole
leases-more whole before after att sets i set lease within at is so_far grown =
    let more : List Call = lease_calls_from att (i + 1) (drop (i + 1) sets) in
    ap (λ calls. calls ++ more) (grown ∙ ap (λ call. before ++ call ∷ []) is)
    ∙ append_assoc before (LeaseNext att i set ∷ []) more
    ∙ ap (λ rest. before ++ lease_calls_from att i rest)
    (sym (drop_more sets i set within ∙ ap (λ s. s ∷ drop (i + 1) sets) (sym at)))
    ∙ so_far
