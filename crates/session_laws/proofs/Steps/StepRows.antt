-- The rows of a session, before a task and after it.
use Rattle.session_laws.proofs.Names.{◌≡◌, ℕ, ◌+◌, true, not, ◌&&◌, List, [], Option, Some, None, refl, sym, ap, ◌∙◌}
use Rattle.session_laws.proofs.Names.{arith, IfSome, nat_tests, All-weaker, list_all-append, AllByRecursion, list_all}
use Rattle.session_laws.proofs.Names.{MatchOption, reverse, Cached, att_eq-same, list_all-weaker, passes-find}
use Rattle.session_laws.proofs.Names.{HasRangesApart, att_eq, Att, HostLocalConf, is_own_call, att_of, Made, Task}
use Rattle.std.proofs.lemmas.List.Elements.{recursion_from_All}
use Rattle.net_conf.specs.WellFormed.{IsWellFormedIpam, IsWellFormedSet}
use Rattle.session_laws.specs.{Holds.Suite, Kept.IsRowKept, Laws.IsOwnRow, LawsOfAnswers.asks_for_lease, Pools.sets_by}
use Rattle.session_laws.specs.{Ran.{Handed, IsAnswered, IsNewRow, command_for}, Steps.{IsViewKept, handed}}
use Rattle.session_laws.specs.{Tasks.{forward_by, forward_of}, Views.{SessionView, number, row_of}}
use Rattle.session_laws.specs.declared.row.Row.{Row}
use Rattle.session_laws.proofs.{Answers.Leased.own-asks_none, Steps.Numbered.last_found}

-- ---- a row

module _ (suite : Suite) (h : Handed) (es : List Made) (row : Row) where
  own-filled : (cached : Option Cached) → row.att ≡ att_of (command_for h)
      → MatchOption cached (row.calls ≡ []) (IsAnswered suite h es row)
      → list_all (is_own_call row.att row.kinds) row.calls ≡ true
  own-filled None is none = ap (list_all (is_own_call row.att row.kinds)) none
  own-filled (Some cached) is filled = ap (λ att. list_all (is_own_call att row.kinds) row.calls) is ∙ filled.own

  empty-filled : (cached : Option Cached) → MatchOption cached (row.calls ≡ []) (IsAnswered suite h es row)
      → MatchOption cached (row.calls ≡ []) (λ c. Unit {0})
  empty-filled None none = none
  empty-filled (Some cached) filled = tt

-- a row that a task makes is one that may be kept
pub kept-new : (suite : Suite) (old : SessionView) (t : Task) (es : List Made) (row : Row)
    → IsNewRow suite (handed old t) es row
    → IsRowKept (number old + 1) row
kept-new suite old t es row is =
    let its = is.task in
    record {
      numbered = grind (arith, nat_tests);
      own = own-filled suite (handed old t) es row row.cached is.att is.filled;
      empty = empty-filled suite (handed old t) es row row.cached is.filled;
    }

-- and stays one
pub kept-later : (n : ℕ) (row : Row) → IsRowKept n row → IsRowKept (n + 1) row
kept-later n row is =
    let in_range = is.numbered in record { numbered = grind (arith, nat_tests); own = is.own; empty = is.empty }

unasked : (row : Row) (cached : Option Cached) → row.cached ≡ cached
    → MatchOption cached (row.calls ≡ []) (λ c. Unit {0})
    → cached ≡ None → row.calls ≡ []
unasked row None at is none = is
unasked row (Some cached) at is none = absurd cc

pub own-kept : (n : ℕ) (att : Att) (row : Row) → IsRowKept n row → row.att ≡ att → IsOwnRow att row
own-kept n att row is its = record {
  att = its;
  own = sym (ap (λ a. list_all (is_own_call a row.kinds) row.calls) its) ∙ is.own;
  unasked = unasked row row.cached refl is.empty;
}

-- ---- the row of an attachment

pub found-kept : (old : SessionView) (att : Att) (row : Row) → IsViewKept old → row_of old att ≡ Some row
    → IsRowKept (number old) row
found-kept old att row kept is = last_found (IsRowKept (number old)) (λ r. att_eq r.att att) old.rows row kept.rows is

pub found-att : (old : SessionView) (att : Att) (row : Row) → row_of old att ≡ Some row → row.att ≡ att
found-att old att row is = att_eq-same row.att att (passes-find (λ r. att_eq r.att att) (reverse old.rows) row is)

-- ---- its calls

forward-no_lease : (att : Att) (row : Row) (cached : Option Cached)
    → list_all (is_own_call att row.kinds) row.calls ≡ true
    → list_all (λ call. not (asks_for_lease call)) (forward_by row.att row.calls cached) ≡ true
forward-no_lease att row None own = refl
forward-no_lease att row (Some cached) own =
    let none =
    list_all-weaker (is_own_call att row.kinds) (λ call. not (asks_for_lease call))
    (own-asks_none att row.kinds) row.calls own in
    list_all-append (λ call. not (asks_for_lease call)) row.calls _ ∙ ap (λ b. b && true) none

-- no call after the leases asks for one
pub row-no_lease : (n : ℕ) (row : Option Row) → IfSome row (IsRowKept n)
    → list_all (λ call. not (asks_for_lease call)) (forward_of row) ≡ true
row-no_lease n None is = refl
row-no_lease n (Some row) is = forward-no_lease row.att row row.cached is.own

-- ---- pools

pub ranges-apart : (ipam : Option HostLocalConf) → IsWellFormedIpam ipam → AllByRecursion HasRangesApart (sets_by ipam)
ranges-apart None is = tt
ranges-apart (Some conf) is =
    recursion_from_All HasRangesApart conf.sets
    (All-weaker IsWellFormedSet HasRangesApart (λ set fits. fits.apart) conf.sets is.sets)
