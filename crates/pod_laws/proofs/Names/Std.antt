-- What the standard library and addresses give.
pub use Rattle.std.proofs.Common.{◌≡◌, ℕ, ◌+◌, Bool, true, false, List, [], ◌∷◌, ◌++◌, map, length, Option, Some, None}
pub use Rattle.std.proofs.Common.{refl, sym, ◌∙◌, ap, subst, append_assoc, ◌≢◌, not, slice_get, inl, inr, ◌⊎◌, arith}
pub use Rattle.std.proofs.{Common.◌≤◌, Math.Bool.and-true, lemmas.Bool.{and_parts, both_ways, cases_Bool}}
pub use Rattle.std.proofs.lemmas.{Bool.{false_from_ne_true, not-true, and_from, Decides.eqb_tells}, List.append-nil}
pub use Rattle.std.proofs.lemmas.List.{map-append, length-append, length-map, nil_from_length, length_push}
pub use Rattle.std.proofs.lemmas.{List.{Elements.filter-append, Folds.list_all-append}, Map.Views.any-filter_same}
pub use Rattle.std.proofs.lemmas.{Option.{same_Some, none-some}, Slice.{Eq.bytes_eq-Decides, Zip.all_zipped_more}}
pub use Rattle.std.specs.{Cmp.Lexicographic.nat_list_eq_equiv, List.{list_any, list_all, AllByRecursion}}
pub use Rattle.std.specs.{Option.option_or, Prelude.{find, ◌&&◌, if◌then◌else◌, option_map, filter, ◌||◌}, Str.bytes_eq}
pub use Rattle.cni_addr.proofs.Cases.{by_test}
pub use Rattle.cni_addr.specs.{Equal.mac_eq, Lists.{IsAmong, distinct}, declared.{address.Addr.Addr, mac.Mac.Mac}}
pub use Rattle.cni_addr.specs.declared.range.RangeSet.{RangeSet}
