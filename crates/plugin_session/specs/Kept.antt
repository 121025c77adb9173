-- What a session keeps from task to task.
use Rattle.std.specs.{List.list_all, Prelude.{◌≡◌, ◌≤◌, ℕ, true, List, [], length, map, Option, None, All}}
use Rattle.cni_addr.specs.declared.address.Addr.{Addr}
use Rattle.kernel_types.specs.declared.object.Att.{Att}
use Rattle.session_file.specs.WellFormed.{IsSessionConf}
use Rattle.session_laws.specs.{Holds.HasByRow, Kept.{AreLastRows, AreNumbered, IsRowKept, is_numbered, pools_of}}
use Rattle.session_laws.specs.{Pools.IsReady, Steps.IsViewKept, Views.{SessionView, finish, leased_to, number}}
use Rattle.session_laws.specs.declared.entry.Entry.{Entry}
use Rattle.session_verbs.specs.Journal.{JournalView}

pub record IsKept (j : JournalView) (given : List (List Addr)) (numbers : List ℕ) (places : List (Option ℕ))
    (s : SessionView) : Type 0 where
  pub conf : IsSessionConf s.conf
  pub count : number s ≤ length s.conf.tasks
  pub history : j.history ≡ s.history
  pub host : j.host ≡ finish s
  pub ready : IsReady (pools_of s.conf) j.host
  pub entries : list_all (λ (e : Entry). is_numbered (number s) e.task) s.history ≡ true
  pub rows : All (IsRowKept (number s)) s.rows
  pub few : length s.rows ≤ number s
  pub leased : given ≡ map (leased_to s) s.rows
  pub numbered : AreNumbered s.conf.network s.conf.tasks numbers (length places)
  pub last_rows : AreLastRows s numbers places
  pub objects : (att : Att) → HasByRow s att
  -- without pools no row's task was leased anything
  pub unleased : s.conf.ipam ≡ None → All (λ row. leased_to s row ≡ []) s.rows

-- what the view tells of it
abbrev pub TheViewIsKept : Type 0
TheViewIsKept = (j : JournalView) (given : List (List Addr)) (numbers : List ℕ) (places : List (Option ℕ))
    (s : SessionView) → IsKept j given numbers places s → IsViewKept s
