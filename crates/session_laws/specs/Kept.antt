-- What a session keeps from task to task.
use Rattle.std.specs.{List.list_all, Prelude.{◌≡◌, ◌<◌, ◌==◌, ℕ, ◌&&◌, Bool, true, nat_le, nat_lt, List, [], length}}
use Rattle.std.specs.Prelude.{slice_get, Option, Some, MatchOption, option_map, find, reverse}
use Rattle.kernel_types.specs.{Equal.att_eq, declared.object.Att.Att}
use Rattle.plugin_registry.specs.Own.{is_own_call}
use Rattle.session_laws.specs.{Pools.{Pools, sets_by}, Views.{SessionView, att_by}, declared.row.Row.Row}
use Rattle.session_file.specs.declared.session.{SessionConf.SessionConf, Task.Task}

abbrev pub pools_of : SessionConf → Pools
pools_of conf = record { network = conf.network; sets = sets_by conf.ipam }

-- ---- where the row of a task's attachment is

-- the attachment that a task of the network speaks of
abbrev pub att_in : List ℕ → Task → Att
att_in network t = record { network = network; container = t.container; ifname = t.ifname }

-- each task has the number of its attachment, below so many: two have one number exactly where they speak of one
pub record AreNumbered (network : List ℕ) (tasks : List Task) (numbers : List ℕ) (count : ℕ) : Type 0 where
  pub long : length numbers ≡ length tasks
  pub below : (n k : ℕ) → slice_get numbers n ≡ Some k → k < count
  pub apart : (n m : ℕ) (t u : Task) (k l : ℕ) → slice_get tasks n ≡ Some t → slice_get tasks m ≡ Some u
      → slice_get numbers n ≡ Some k → slice_get numbers m ≡ Some l
      → (k == l) ≡ att_eq (att_in network t) (att_in network u)

-- the last row of the attachment stands at this place, and no place is given where it has none
abbrev pub IsLastRow : List Row → Att → Option ℕ → Type 0
IsLastRow rows att place =
    option_map (slice_get rows) place ≡ option_map Some (find (λ r. att_eq r.att att) (reverse rows))

abbrev pub AreLastRows : SessionView → List ℕ → List (Option ℕ) → Type 0
AreLastRows s numbers last_rows = (n : ℕ) (t : Task) (k : ℕ) (place : Option ℕ)
    → slice_get s.conf.tasks n ≡ Some t → slice_get numbers n ≡ Some k → slice_get last_rows k ≡ Some place
    → IsLastRow s.rows (att_by s t) place

-- ---- rows and entries

abbrev pub is_numbered : ℕ → ℕ → Bool
is_numbered count task = nat_lt 0 task && nat_le task count

-- what the row's plugin gave is the attachment's own, and of the row's kinds; without a result it gave nothing
pub record IsRowKept (count : ℕ) (row : Row) : Type 0 where
  pub numbered : is_numbered count row.task ≡ true
  pub own : list_all (is_own_call row.att row.kinds) row.calls ≡ true
  pub empty : MatchOption row.cached (row.calls ≡ []) (λ cached. Unit {0})
