-- What the standard library and addresses give.
pub use Rattle.std.proofs.Common.{◌≡◌, Bool, true, false, Option, Some, None, refl, sym, ◌∙◌, ap, subst, inl, inr, ◌⊎◌}
pub use Rattle.std.proofs.{Common.{ℕ, List, nat_eq, arith, [], ◌∷◌, ◌++◌, map, not, ap₂}, lemmas.Bool.and_from}
pub use Rattle.std.proofs.lemmas.{Bool.{and_parts, both_ways}, List.append-nil, Option.{same_Some, none-some}}
pub use Rattle.std.specs.{List.{list_any, list_all}, Option.{option_map_or, option_map, option_and_then}, Prelude.◌&&◌}
pub use Rattle.std.specs.Prelude.{◌||◌, if◌then◌else◌, filter, find, flat_map}
pub use Rattle.cni_addr.proofs.Networks.{family_eq-true}
pub use Rattle.cni_addr.specs.{Lists.{IsAmong, each_key_once, distinct}, Network.contains, declared.address.Addr.Addr}
pub use Rattle.cni_addr.specs.declared.address.{Cidr.Cidr, Family.{Family, TheVariants.{V4, V6}}}
