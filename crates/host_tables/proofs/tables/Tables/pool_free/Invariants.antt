use Rattle.host_tables.proofs.tables.Tables.pool_free.Given as goal

-- the ledger is that of the blank
abbrev pub ghosts-has_free : goal.ghosts-has_free
ghosts-has_free a = record { name = a.blank.name; parts = a.blank.parts }
