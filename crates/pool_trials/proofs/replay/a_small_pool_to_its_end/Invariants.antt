use Rattle.pool_trials.proofs.replay.a_small_pool_to_its_end.Given as goal

-- the ledger is that of the blank
abbrev pub ghosts-replay_all : goal.ghosts-replay_all
ghosts-replay_all g a = record { name = a.blank.name; parts = a.blank.parts }
