-- What the standard library and addresses give.
pub use Rattle.std.proofs.Common.{◌≡◌, ℕ, ◌+◌, Bool, true, not, List, [], ◌∷◌, ◌++◌, Option, Some, None, refl, sym, ap}
pub use Rattle.std.proofs.Common.{◌∙◌, zero, suc, arith, inl, inr, slice_get, ◌≢◌, ◌≤◌, ◌==◌, false, length, slice_set}
pub use Rattle.std.proofs.Common.{subst, ◌⊎◌, append_assoc, if◌then◌else◌, ◌<◌, Result, Ok, Err, map, ◌-◌, get_or}
pub use Rattle.std.proofs.{Common.{option_map, cond, take, drop, ◌^◌}, lemmas.Bool.{and_from, and_parts, eqb-true}}
pub use Rattle.std.proofs.lemmas.Bool.{cases_lt, false≢true, cases_order, cases_Bool, Decides.{eqb_tells, nat_tests}}
pub use Rattle.std.proofs.lemmas.{Iterator.Adapters.position_from-zero, List.{length_push, append-nil, length-append}}
pub use Rattle.std.proofs.lemmas.List.{map-append, length-map, take_more, drop_more, length-set, Elements.All-drop}
pub use Rattle.std.proofs.lemmas.{List.Elements.{All-get_or, All-append, All-cons, All-nil}, Option.same_Some}
pub use Rattle.std.proofs.lemmas.{Option.{none-some, slice_get_within, slice_get-get_or}, Slice.Eq.bytes_eq-Decides}
pub use Rattle.std.specs.{Cmp.Lexicographic.slice_cmp, List.{AllByRecursion, list_all, All, list_any, position_from}}
pub use Rattle.std.specs.{Option.option_map_or, Ordering.nat_cmp, Prelude.{is_some, ◌||◌, find, filter, ◌&&◌, position}}
pub use Rattle.std.specs.{Prelude.replicate, Str.bytes_eq}
pub use Rattle.cni_addr.specs.declared.{address.Addr.Addr, memory.NoMemory.NoMemory, range.RangeSet.RangeSet}
