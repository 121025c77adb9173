use Rattle.pool_trials.proofs.ends.pools_at_the_ends.Given as goal

-- the ledger is that of the blank
abbrev pub ghosts-lease_all : goal.ghosts-lease_all
ghosts-lease_all g a = record { name = a.blank.name; parts = a.blank.parts }
