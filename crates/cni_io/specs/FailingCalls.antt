-- Calls that are numbered from 1, some of which fail.
use Rattle.std.specs.{List.{count_by, list_any, range_with_len}, Prelude.{ℕ, ◌+◌, ◌-◌, ◌^◌, ◌==◌, ◌&&◌, List, nat_lt}}
use Rattle.std.specs.Prelude.{Bool, if◌then◌else◌}

-- the numbers of the calls that fail, and how many calls were numbered
pub record CallsState : Type 0 where
  pub failing : List ℕ
  pub calls : ℕ

-- the call of this number fails
abbrev pub is_failing : List ℕ → ℕ → Bool
is_failing failing number = list_any (λ k. k == number) failing

-- the next call has a number, since numbers end at the greatest u64
abbrev pub is_numbered : CallsState → Bool
is_numbered s = nat_lt s.calls (2 ^ 64 - 1)

-- the next call has a number, and fails
abbrev pub fails_next : CallsState → Bool
fails_next s = is_numbered s && is_failing s.failing (s.calls + 1)

-- the next call takes its number, if there is one
abbrev pub with_next_call : CallsState → CallsState
with_next_call s = record s { calls = (if is_numbered s then s.calls + 1 else s.calls) }

-- how many of the calls so far failed
abbrev pub failures : CallsState → ℕ
failures s = count_by (is_failing s.failing) (range_with_len 1 s.calls)
