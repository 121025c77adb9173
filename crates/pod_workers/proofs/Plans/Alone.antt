-- Exclusive commands of well-formed pods have their rounds for themselves.
use Rattle.pod_workers.proofs.Names.{◌≡◌, ◌+◌, ℕ, true, List, [], ◌∷◌, arith, inl, inr, Some, slice_get, All-drop}
use Rattle.pod_workers.proofs.Names.{All-get_or, none-some, slice_get_within, All, is_exclusive, IsWellFormedPods}
use Rattle.pod_workers.proofs.Names.{Command}
use Rattle.pod_file.proofs.CommandFacts.{one_alone}
use Rattle.pod_file.specs.WellFormed.{IsWellFormedRound}
use Rattle.pod_workers.specs.{Plans.{Placed, commands_of, placed_from}, declared.plan.Plan.Plan}
use Rattle.pod_workers.proofs.Books.Rounds.{here_or_later, round-of}
use Rattle.std.proofs.lemmas.Map.Keys.{any_passes_from_place}

-- an exclusive command has its round for itself
abbrev pub AreAlone : Plan → Type 0
AreAlone p =
    (m n : ℕ) (d c : Placed) → slice_get (commands_of p) m ≡ Some d → slice_get (commands_of p) n ≡ Some c
    → d.round ≡ c.round → is_exclusive c.command ≡ true → m ≡ n

alone_from : (round : ℕ) (rounds : List (List Command)) → All IsWellFormedRound rounds → (m n : ℕ) (d c : Placed)
    → slice_get (placed_from round rounds) m ≡ Some d → slice_get (placed_from round rounds) n ≡ Some c
    → d.round ≡ c.round → is_exclusive c.command ≡ true → m ≡ n
alone_from round [] all m n d c at_m at_n same exclusive = absurd (none-some d at_m)
alone_from round (commands ∷ rounds) all m n d c at_m at_n same exclusive =
    let rest = placed_from (round + 1) rounds in
    elim (here_or_later round commands rest m d at_m) [
      | inl f ↦ elim (here_or_later round commands rest n c at_n) [
        | inl g ↦
            let one =
            one_alone commands (All-get_or IsWellFormedRound (commands ∷ rounds) 0 commands (omega arith) all).alone
            (any_passes_from_place is_exclusive commands n c.command g.1 exclusive) in
            let a = slice_get_within commands m d.command f.1 in
            let b = slice_get_within commands n c.command g.1 in
            omega arith
        | inr l ↦ absurd (let later = (round-of (round + 1) rounds l.0 c l.2).0 in let is = f.0 in omega arith)
      ]
      | inr l ↦ elim (here_or_later round commands rest n c at_n) [
        | inl g ↦
            absurd (let later = (round-of (round + 1) rounds l.0 d l.2).0 in let is = g.0 in omega arith)
        | inr k ↦
            let equal =
            alone_from (round + 1) rounds (All-drop IsWellFormedRound 1 (commands ∷ rounds) all) l.0
            k.0 d c l.2 k.2 same exclusive in
            let a = l.1 in
            let b = k.1 in
            omega arith
      ]
    ]

pub are_alone : (p : Plan) → IsWellFormedPods p.pods → AreAlone p
unfolding commands_of
are_alone p formed m n d c at_m at_n same exclusive =
    alone_from 0 p.pods.rounds formed.rounds.each m n d c at_m at_n same exclusive
