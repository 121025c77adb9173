use Rattle.session_verbs.proofs.Names.{◌≡◌, ◌++◌, map, take, lease_question, lease_of}
use Rattle.session_verbs.proofs.check.ask_for_leases.Given as goal

-- the questions of the addresses so far
abbrev pub invariant-loop-addr : goal.invariant-loop-addr
invariant-loop-addr l =
    l.questions.items
    ≡ l.initial.questions.items ++ map (λ addr. lease_question (lease_of l.att addr)) (take l.addr-index l.leased)
