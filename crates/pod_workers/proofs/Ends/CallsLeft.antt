-- The most calls that a run still makes, by what is left to do and by what its attachment has.
use Rattle.pod_workers.proofs.Names.{ℕ, ◌+◌, ◌-◌, List, [], ◌∷◌, length, CachedObj, NetList, Command, Share}
use Rattle.pod_workers.proofs.Names.{check_questions, State, AtBegin, BeforeLeases, Leasing, AfterLeases, ReadingCache}
use Rattle.pod_workers.proofs.Names.{Deleting, FindingEntry, Asking, Changing, Collecting, Over, before_of, kinds_of}
use Rattle.pod_workers.proofs.Names.{sets_of, deletions_of}
use Rattle.std.specs.Prelude.{◌*◌}

-- of so many calls of an ADD, those after its last lease
abbrev pub most_after : ℕ → NetList → Command → ℕ
most_after most list c = most - (1 + length (before_of list c) + length (sets_of list))

-- so many calls that make objects, each of which may have to be taken back, and then the deletions of what is there
abbrev pub making : ℕ → NetList → Share → ℕ
making calls list s = 2 * calls + deletions_of s + length (kinds_of list) + 1

-- the questions of a CHECK, by the attachment's cached result
abbrev pub questions_by : NetList → Command → List CachedObj → ℕ
questions_by list c [] = 0
questions_by list c (x ∷ xs) = length (check_questions list c x.cached)

-- The most calls of a run in this state, whose attachment has this share. An ADD has at most so many, where none is
-- refused. A GC is counted by `collection_left` alone.
abbrev pub calls_left : ℕ → NetList → Command → State → Share → ℕ
calls_left most list c AtBegin s = 2 * most + length (kinds_of list) + 1
calls_left most list c (BeforeLeases next left) s =
    making (1 + length left + length (sets_of list) + most_after most list c) list s
calls_left most list c (Leasing next left given) s = making (1 + length left + most_after most list c) list s
calls_left most list c (AfterLeases next left given) s = making (1 + length left) list s
calls_left most list c (ReadingCache ending) s = 1 + length (kinds_of list) + deletions_of s
calls_left most list c (Deleting next left ending) s = 1 + length left + deletions_of s
calls_left most list c FindingEntry s = 1 + questions_by list c s.cached
calls_left most list c (Asking next left) s = 1 + length left
calls_left most list c (Changing change) s = 1
calls_left most list c (Collecting work faults) s = 0
calls_left most list c (Over ending given) s = 0
