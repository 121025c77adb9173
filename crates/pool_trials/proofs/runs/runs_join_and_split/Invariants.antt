use Rattle.pool_trials.proofs.runs.runs_join_and_split.Given as goal

-- the ledger is that of the blank
abbrev pub ghosts-join_and_split : goal.ghosts-join_and_split
ghosts-join_and_split g a = record { name = a.blank.name; parts = a.blank.parts }
