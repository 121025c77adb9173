-- The commands of a plan stand in the order of their rounds.
use Rattle.pod_workers.proofs.Names.{◌≡◌, ℕ, ◌+◌, ◌<◌, ◌≤◌, List, [], ◌∷◌, length, Some, slice_get, inl, inr, arith}
use Rattle.pod_workers.proofs.Names.{none-some, slice_get_within, Command}
use Rattle.std.proofs.lemmas.Option.{slice_get_cases}
use Rattle.pod_workers.specs.{Plans.{Placed, commands_of, placed_from}, World.{World, IsAnswered}}
use Rattle.pod_workers.specs.declared.plan.Plan.{Plan}
use Rattle.pod_workers.proofs.{Books.Rounds.{here_or_later, round-of}, InOrder.Order.IsInOrder}

rounds_ascend_from : (round : ℕ) (rounds : List (List Command)) (m n : ℕ) (d c : Placed) → m < n
    → slice_get (placed_from round rounds) m ≡ Some d → slice_get (placed_from round rounds) n ≡ Some c
    → d.round ≤ c.round
rounds_ascend_from round [] m n d c less at_m at_n = absurd (none-some d at_m)
rounds_ascend_from round (cs ∷ rounds) m n d c less at_m at_n =
    elim (here_or_later round cs (placed_from (round + 1) rounds) m d at_m) [
      | inl first ↦ let same = first.0 in let low = (round-of round (cs ∷ rounds) n c at_n).0 in omega arith
      | inr first ↦ elim (here_or_later round cs (placed_from (round + 1) rounds) n c at_n) [
        | inl second ↦
            absurd (let place = first.1 in let within = slice_get_within cs n c.command second.1 in omega arith)
        | inr second ↦
            rounds_ascend_from (round + 1) rounds first.0 second.0 d c
            (let one = first.1 in let two = second.1 in omega arith) first.2 second.2
      ]
    ]

pub rounds_ascend : (p : Plan) (m n : ℕ) (d c : Placed) → m < n → slice_get (commands_of p) m ≡ Some d
    → slice_get (commands_of p) n ≡ Some c → d.round ≤ c.round
unfolding commands_of
rounds_ascend p m n d c less at_m at_n = rounds_ascend_from 0 p.pods.rounds m n d c less at_m at_n

pub round_is_of_plan : (p : Plan) (n : ℕ) (c : Placed) → slice_get (commands_of p) n ≡ Some c
    → c.round < length p.pods.rounds
unfolding commands_of
round_is_of_plan p n c at = let within = (round-of 0 p.pods.rounds n c at).1 in omega arith

-- once every round is over, every command is answered
pub all_answered : (w : World) → IsInOrder w → length w.plan.pods.rounds ≤ w.round → (n : ℕ) (c : Placed)
    → slice_get (commands_of w.plan) n ≡ Some c → IsAnswered w n
all_answered w order ended n c at = order.past n c at (let less = round_is_of_plan w.plan n c at in omega arith)

pub command_at : (p : Plan) (n : ℕ) → n < length (commands_of p) → (c : Placed) × (slice_get (commands_of p) n ≡ Some c)
command_at p n less =
    elim (slice_get_cases (commands_of p) n).1 [ inl t ↦ (t.0, t.2) | inr t ↦ absurd (let past = t.0 in omega arith) ]
