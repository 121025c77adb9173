-- Where each command stands, and the command before it of its container in its round. It serves proofs of private
-- functions.
use Rattle.std.specs.{Option.{option_flatten, option_map_or}, Prelude.{◌≡◌, ℕ, ◌+◌, ◌<◌, ◌≤◌, ◌==◌, ◌&&◌, Bool, true}}
use Rattle.std.specs.Prelude.{false, List, Option, Some, None, is_some, length, option_and_then, slice_get}
use Rattle.cni_errors.specs.declared.answer.Answer.{Answer}
use Rattle.pod_file.specs.declared.command.Command.{Command}
use Rattle.pod_workers.specs.{Plans.{Placed, IsOf}, World.{at_number, last_entry}, declared.index.Place.Place}
use Rattle.pod_workers.specs.declared.plan.Entry.{Entry}

-- no command at a place from `start` on and before `end` is of this round and container
abbrev pub NoneOf : List Placed → ℕ → ℕ → ℕ → List ℕ → Type 0
NoneOf commands start end round container =
    (k : ℕ) (d : Placed) → start ≤ k → k < end → slice_get commands k ≡ Some d → ¬ IsOf d round container

-- the last place before `end` whose command is of this round and container, if there is one
abbrev pub IsLatest : List Placed → ℕ → ℕ → List ℕ → Option ℕ → Type 0
IsLatest commands end round container None = NoneOf commands 0 end round container
IsLatest commands end round container (Some m) =
    (m < end) × ((d : Placed) × (slice_get commands m ≡ Some d) × IsOf d round container)
    × NoneOf commands (m + 1) end round container

-- all are of earlier rounds
abbrev pub AreBefore : ℕ → List Placed → Type 0
AreBefore round commands = (k : ℕ) (d : Placed) → slice_get commands k ≡ Some d → d.round < round

-- the command that stands at this place of the rounds
abbrev pub command_at_place : List (List Command) → Place → Option Command
command_at_place rounds p = option_and_then (λ commands. slice_get commands p.within) (slice_get rounds p.round)

-- the index is right about the command at place n
pub record IsPlaced (rounds : List (List Command)) (commands : List Placed) (n : ℕ) (c : Placed) (p : Place)
    : Type 0 where
  pub command : command_at_place rounds p ≡ Some c.command
  pub round_is : c.round ≡ p.round
  pub previous : IsLatest commands n c.round c.command.container p.previous

pub record IsIndex (rounds : List (List Command)) (commands : List Placed) (places : List Place) : Type 0 where
  pub long : length places ≡ length commands
  pub each : (n : ℕ) (c : Placed) (p : Place) → slice_get commands n ≡ Some c → slice_get places n ≡ Some p
      → IsPlaced rounds commands n c p

-- ---- who may step, by the index

abbrev pub is_open : Option (Option Answer) → Bool
is_open None = false
is_open (Some None) = true
is_open (Some (Some a)) = false

abbrev pub lets_through : List (Option Answer) → Option ℕ → Bool
lets_through answers previous = option_map_or (λ m. is_some (option_flatten (slice_get answers m))) previous true

-- of this round, not answered, and the command before it of its container is
abbrev pub may_step_by : Place → List (Option Answer) → ℕ → ℕ → Bool
may_step_by p answers round n = p.round == round && (is_open (slice_get answers n) && lets_through answers p.previous)

-- ---- where the plan stops a round, by the index

-- the entry is of this round, by its command's place
abbrev pub is_entry_in : List Place → ℕ → Entry → Bool
is_entry_in places round e = option_map_or (λ (p : Place). p.round == round) (at_number places e.command) false

-- the last entry is the one that `stop_at` names, and it is of this round
abbrev pub is_cut_after : Option ℕ → List Entry → List Place → ℕ → Option Entry → Bool
is_cut_after None h places round last = false
is_cut_after (Some number) h places round None = false
is_cut_after (Some number) h places round (Some e) = length h == number && is_entry_in places round e

abbrev pub is_cut_by : Option ℕ → List Entry → List Place → ℕ → Bool
is_cut_by stop_at h places round = is_cut_after stop_at h places round (last_entry h)
