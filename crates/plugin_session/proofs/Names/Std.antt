-- What the standard library and addresses give.
pub use Rattle.std.proofs.Common.{◌≡◌, ℕ, zero, suc, true, false, List, [], ◌∷◌, ◌++◌, Option, Some, None, Result, Ok}
pub use Rattle.std.proofs.Common.{Err, refl, sym, ap, subst, ◌∙◌, arith, slice_get, get_or, length, ◌+◌, ◌<◌, Bool, inl}
pub use Rattle.std.proofs.Common.{inr, find, not, cond, IfOk, map, is_some, ◌⊎◌, take, IfSome, codes, ◌≤◌, Bor}
pub use Rattle.std.proofs.lemmas.{Bool.and_parts, List.{append-nil, length-append}, Option.{none-some, same_Some}}
pub use Rattle.std.proofs.lemmas.Slice.Eq.{bytes_eq-Decides}
pub use Rattle.std.specs.{Bool.then_some, Option.option_copied, Prelude.{MatchOption, IsErr, if◌then◌else◌, option_map}}
pub use Rattle.std.specs.{Prelude.unwrap_or, Str.bytes_eq}
pub use Rattle.cni_addr.specs.declared.{address.Addr.Addr, memory.NoMemory.NoMemory, range.RangeSet.RangeSet}
