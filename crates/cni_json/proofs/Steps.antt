-- How a refusal passes through the steps of a reader's definitions, for the readers' contracts, and what a list is read
-- as by functions that are given less than all that stands before a member.
use Rattle.cni_json.proofs.{EachLemmas.{each_after-each, each_after-placed}, OutcomeLemmas.RefusesAs-told}
use Rattle.cni_json.proofs.OutcomeLemmas.{RefusesAs-then}

pub ruleset steps = (RefusesAs-told, RefusesAs-then)

pub ruleset lists = (each_after-each, each_after-placed)
