-- What the standard library and addresses give.
pub use Rattle.std.proofs.Common.{◌≡◌, ℕ, zero, suc, true, false, List, [], ◌∷◌, ◌++◌, Option, Some, None, Result, Ok}
pub use Rattle.std.proofs.Common.{Err, refl, sym, ap, subst, ◌∙◌, arith, slice_get, get_or, drop, length, ◌+◌, ◌<◌}
pub use Rattle.std.proofs.Common.{Bool, inl, inr, find, not, IfOk, append_assoc, map, take, ◌≤◌, rules}
pub use Rattle.std.proofs.lemmas.{Bool.and_parts, List.{append-nil, length-append, map-append, drop_more, drop_all}}
pub use Rattle.std.proofs.lemmas.{Option.{none-some, same_Some}, Result.err_from_is_err_and}
pub use Rattle.std.specs.{List.list_all, Option.option_copied, Prelude.{MatchOption, IsErr, if◌then◌else◌}}
pub use Rattle.cni_addr.specs.declared.{address.Addr.Addr, memory.NoMemory.NoMemory, range.RangeSet.RangeSet}
