-- The moments of the first and the last entry of one command, and of the start of a round, and what an attachment has
-- at a moment.
use Rattle.std.specs.{List.list_any, Option.option_map_or, Prelude.{◌≡◌, ◌≢◌, ℕ, Bool, false, List, [], ◌∷◌, nat_lt}}
use Rattle.std.specs.Prelude.{Option, Some, slice_get, if◌then◌else◌}
use Rattle.cni_errors.specs.CommandFields.{att_of}
use Rattle.kernel_types.specs.{Replies.is_fault, declared.object.{Att.Att, Host.Host}}
use Rattle.plugin_base.specs.Share.{Share, share_of, no_objects}
use Rattle.pod_file.specs.declared.command.{Command.Command, Verb.Verb}
use Rattle.pod_workers.specs.{Plans.{Placed, commands_of}, World.{World, after, at_number}}
pub use Rattle.pod_workers.specs.World.{is_of, own_entries}
use Rattle.pod_workers.specs.declared.plan.Entry.{Entry}
use Rattle.pod_workers.specs.declared.plan.Plan.{Plan}

-- the history up to and including the last entry of the command at place n
abbrev pub until_last : ℕ → List Entry → List Entry
until_last n [] = []
until_last n (e ∷ es) = if list_any (is_of n) (e ∷ es) then e ∷ until_last n es else []

-- the host right after the last entry of the command at place n
abbrev pub host_at_end : World → ℕ → Host
host_at_end w n = after w.plan.pods.opening (until_last n w.history)

-- what its attachment has then
abbrev pub objects_at_end : World → ℕ → Command → Share
objects_at_end w n c = share_of (att_of c) (host_at_end w n)

-- this holds of each command of the verb that made a call, stopped or not, at place n
abbrev pub EachCalling : World → Verb → (ℕ → Placed → Type 0) → Type 0
EachCalling w verb Holds = (n : ℕ) (c : Placed) → slice_get (commands_of w.plan) n ≡ Some c → c.command.verb ≡ verb
    → own_entries n w.history ≢ [] → Holds n c

-- some entry is a fault
abbrev pub has_fault : List Entry → Bool
has_fault es = list_any (λ e. is_fault e.reply) es

-- the history before the first of its entries
abbrev pub until_first : ℕ → List Entry → List Entry
until_first n [] = []
until_first n (e ∷ es) = if is_of n e then [] else e ∷ until_first n es

-- the host right before the first entry of the command at place n
abbrev pub host_at_start : World → ℕ → Host
host_at_start w n = after w.plan.pods.opening (until_first n w.history)

-- the command is of an earlier round
abbrev pub is_before : ℕ → Option Placed → Bool
is_before round c = option_map_or (λ (c : Placed). nat_lt c.round round) c false

-- the history before the first entry of this round or of a later one
abbrev pub until_round : Plan → ℕ → List Entry → List Entry
until_round p round [] = []
until_round p round (e ∷ es) = if is_before round (at_number (commands_of p) e.command)
    then e ∷ until_round p round es else []

-- the host at the start of this round: right before that entry
abbrev pub host_at_round : World → ℕ → Host
host_at_round w round = after w.plan.pods.opening (until_round w.plan round w.history)

-- what the attachment has after these entries
abbrev pub objects_after : Plan → Att → List Entry → Share
objects_after p att h = share_of att (after p.pods.opening h)

-- it has nothing
abbrev pub IsGone : Plan → Att → List Entry → Type 0
IsGone p att h = objects_after p att h ≡ no_objects
