use Rattle.pod_threads.proofs.round.round_threads.Given as goal

abbrev pub ghosts-round_as-J-Origin : goal.ghosts-round_as-J-Origin
ghosts-round_as-J-Origin g a = record { from = a.book }

abbrev pub ghosts-round_as-L-Ledger : goal.ghosts-round_as-L-Ledger
ghosts-round_as-L-Ledger g a = record { name = a.blank.name; parts = a.blank.parts }
