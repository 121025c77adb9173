use Rattle.host_tables.proofs.tables.Tables.next_address.Given as goal

-- the ledger is that of the blank
abbrev pub ghosts-pick : goal.ghosts-pick
ghosts-pick a = record { name = a.blank.name; parts = a.blank.parts }
