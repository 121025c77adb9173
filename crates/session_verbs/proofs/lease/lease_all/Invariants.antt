use Rattle.session_verbs.proofs.Names.{◌≡◌, ◌≤◌, drop, length}
use Rattle.std.proofs.Common.{vec_capacity}
use Rattle.session_verbs.proofs.Adds.AddLeases.{LeasesFirst}
use Rattle.session_verbs.proofs.lease.lease_all.Given as goal

abbrev pub invariant-loop-set : goal.invariant-loop-set
invariant-loop-set g l = record {
  first : LeasesFirst l.att l.sets (drop l.set-index l.sets) l.given.items l.initial.journal l.journal;
  count : length l.given.items ≡ l.set-index;
  room : length l.sets ≤ vec_capacity l.given;
}
