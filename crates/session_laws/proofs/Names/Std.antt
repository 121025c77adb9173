-- What the standard library and addresses give.
pub use Rattle.std.proofs.Common.{◌≡◌, ℕ, true, false, List, [], ◌∷◌, ◌++◌, Option, Some, None, refl, sym, ap, subst}
pub use Rattle.std.proofs.Common.{◌∙◌, arith, slice_get, length, ◌+◌, ◌<◌, Bool, inl, inr, find, not, cond}
pub use Rattle.std.proofs.{Common.{append_assoc, map, ◌&&◌, ◌⊎◌, filter, ◌==◌, IfSome, ◌≤◌}, lemmas.Bool.and_parts}
pub use Rattle.std.proofs.lemmas.{Bool.{not-true, both_ways, cases_Bool, eq-eqb, Decides.nat_tests}, List.append-nil}
pub use Rattle.std.proofs.lemmas.List.{map-append, length_push, reverse-append, Elements.{All-head, All-tail}}
pub use Rattle.std.proofs.lemmas.List.{Elements.{filter-append, All-weaker}, Folds.{list_all-append, find-append}}
pub use Rattle.std.proofs.lemmas.Option.{none-some, same_Some, IfSome_then}
pub use Rattle.std.specs.{List.{list_all, list_any, AllByRecursion, All}, Option.option_or, Prelude.MatchOption}
pub use Rattle.std.specs.Prelude.{if◌then◌else◌, MatchBool, option_map, nat_lt, reverse}
pub use Rattle.cni_addr.proofs.Cases.{by_test}
pub use Rattle.cni_addr.specs.declared.{address.Addr.Addr, range.RangeSet.RangeSet}
