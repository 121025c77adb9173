-- A kernel some of whose calls are refused memory, by their numbers.
use Rattle.std.specs.{List.list_any, Prelude.{ℕ, ◌+◌, ◌-◌, ◌^◌, ◌==◌, ◌&&◌, List, Bool, nat_lt, not, if◌then◌else◌}}
use Rattle.kernel_types.specs.{Replies.needs_no_memory, declared.call.Call.Call}

-- the kernel that is asked, the numbers of the calls that are refused, and how many calls were numbered
pub record Refusing (K : Type 0) : Type 0 where
  pub inner : K
  pub refuse : List ℕ
  pub calls : ℕ

module _ {K : Type 0} where
  -- the next call has a number, since numbers end at the greatest u64
  abbrev pub is_numbered : Refusing K → Bool
  is_numbered k = nat_lt k.calls (2 ^ 64 - 1)

  -- the call is refused, as the next one: its number is named, and it may need memory
  abbrev pub refuses : Refusing K → Call → Bool
  refuses k call = (is_numbered k && list_any (λ n. n == k.calls + 1) k.refuse) && not (needs_no_memory call)

  -- the next call takes its number, where there is one
  abbrev pub with_next_call : Refusing K → Refusing K
  with_next_call k = record k { calls = (if is_numbered k then k.calls + 1 else k.calls) }
