-- What the standard library and addresses give.
pub use Rattle.std.proofs.Common.{◌≡◌, ℕ, ◌+◌, ◌*◌, ◌<◌, ◌≤◌, Bool, true, false, not, cond, ap, List, [], ◌∷◌, ◌++◌}
pub use Rattle.std.proofs.Common.{length, Some, None, refl, sym, ◌∙◌, subst, inl, inr, arith, mul-le-mul_right, map}
pub use Rattle.std.proofs.{Common.{Option, ◌⊎◌, rules}, lemmas.Bool.{both_ways, not-true, Decides.nat_tests}}
pub use Rattle.std.proofs.lemmas.{List.{length-map, length-append}, Option.{same_Some, none-some}}
pub use Rattle.std.specs.{List.{list_any, list_all, filter_map, cons_option}, Prelude.{filter, ◌||◌, find, ◌&&◌}}
pub use Rattle.std.specs.{Prelude.{is_some, ◌==◌, nat_lt}, Str.bytes_eq}
pub use Rattle.cni_addr.proofs.Lists.{list_all-none}
pub use Rattle.cni_addr.specs.Lists.{each_key_once, without_first}
