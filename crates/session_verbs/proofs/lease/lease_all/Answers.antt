use Rattle.session_verbs.proofs.Names.{◌≡◌, ◌+◌, true, drop, length, slice_get, Some, Ok, rules, ap, subst, ◌∙◌}
use Rattle.session_verbs.proofs.Names.{drop_all, err_from_is_err_and, are_apart, ranges_of}
use Rattle.session_verbs.specs.{Adds.LeaseEndsAs, declared.step.StepEnd.StepEnd}
use Rattle.session_verbs.proofs.Adds.AddLeases.{leases-allowed, leases-at, leases-done, leases-end, leases-more}
use Rattle.session_verbs.proofs.Adds.AddLeases.{leases-ready, leases-refused, lease-count, set-apart}
use Rattle.session_verbs.proofs.Adds.AddSteps.{left-of, other-is_short}
use Rattle.session_verbs.proofs.lease.lease_all.Goals as goal

pub lease_next-requires-clause-allowed : goal.lease_next-requires-clause-allowed
lease_next-requires-clause-allowed g c =
    let sets = c.args.sets.now in
    let place = c.loop-set.set-index in
    let set = c.set-item.result in
    let given = c.loop-set.given.items in
    let apart : are_apart (ranges_of sets) ≡ true = search rules in
    let at =
    left-of c.as_slice-set-items.result.now sets place set c.as_slice-set-items.ensures.all
    c.loop-set-test.true c.set-item.is in
    let here : slice_get sets (length given) ≡ Some set = ap (slice_get sets) c.loop-set.invariant.count ∙ at.1 in
    leases-allowed c.args.att.now sets (drop place sets) set given c.args.journal.now c.loop-set.journal
    c.loop-set.invariant.first
    here (set-apart sets place set apart at.1)

pub returns-in_err-end-clause-ends : goal.returns-in_err-end-clause-ends
returns-in_err-end-clause-ends g c =
    let sets = c.args.sets.now in
    let place = c.loop-set.set-index in
    let set = c.set-item.result in
    let given = c.loop-set.given.items in
    let at =
    left-of c.as_slice-set-items.result.now sets place set c.as_slice-set-items.ensures.all
    c.loop-set-test.true c.set-item.is in
    let first =
    leases-at c.args.att.now sets (drop place sets) (drop (place + 1) sets) set given c.args.journal.now
    c.loop-set.journal c.loop-set.invariant.first at.0 in
    let p = err_from_is_err_and c.from_residual.result c.from_residual.ensures.1 in
    leases-refused c.args.att.now sets (drop (place + 1) sets) set given c.lease_next.new.given.items c.args.journal.now
    c.loop-set.journal
    c.lease_next.new.journal c.from_residual.result p.0 first p.1 c.in_err-end.ensures.ends

pub returns-in_err-end-clause-ready : goal.returns-in_err-end-clause-ready
returns-in_err-end-clause-ready g c =
    let sets = c.args.sets.now in
    let place = c.loop-set.set-index in
    let set = c.set-item.result in
    let given = c.loop-set.given.items in
    let apart : are_apart (ranges_of sets) ≡ true = search rules in
    let at =
    left-of c.as_slice-set-items.result.now sets place set c.as_slice-set-items.ensures.all
    c.loop-set-test.true c.set-item.is in
    let here : slice_get sets (length given) ≡ Some set = ap (slice_get sets) c.loop-set.invariant.count ∙ at.1 in
    let first =
    leases-at c.args.att.now sets (drop place sets) (drop (place + 1) sets) set given c.args.journal.now
    c.loop-set.journal c.loop-set.invariant.first at.0 in
    leases-ready c.args.att.now sets (drop (place + 1) sets) set given c.lease_next.new.given.items c.args.journal.now
    c.loop-set.journal
    c.lease_next.new.journal c.lease_next.result first here (set-apart sets place set apart at.1)
    c.lease_next.ensures.ends

pub returns-in_default : goal.returns-in_default
returns-in_default g c =
    let sets = c.args.sets.now in
    let place = c.loop-set.set-index in
    let set = c.set-item.result in
    let given = c.loop-set.given.items in
    let apart : are_apart (ranges_of sets) ≡ true = search rules in
    let at =
    left-of c.as_slice-set-items.result.now sets place set c.as_slice-set-items.ensures.all
    c.loop-set-test.true c.set-item.is in
    let here : slice_get sets (length given) ≡ Some set = ap (slice_get sets) c.loop-set.invariant.count ∙ at.1 in
    let first =
    leases-at c.args.att.now sets (drop place sets) (drop (place + 1) sets) set given c.args.journal.now
    c.loop-set.journal c.loop-set.invariant.first at.0 in
    record {
      ends =
          leases-end c.args.att.now sets (drop (place + 1) sets) set given c.lease_next.new.given.items
          c.args.journal.now c.loop-set.journal
          c.lease_next.new.journal c.in_ok-end.end first
          (other-is_short c.in_ok-end.end c.in_default.not-Granted) c.in_ok-end.ensures.ends;
      whole = λ is. absurd (c.in_default.not-Granted cc);
      ready =
          leases-ready c.args.att.now sets (drop (place + 1) sets) set given c.lease_next.new.given.items
          c.args.journal.now c.loop-set.journal
          c.lease_next.new.journal c.lease_next.result first here (set-apart sets place set apart at.1)
          c.lease_next.ensures.ends;
    }

pub loop-set-preserved : goal.loop-set-preserved
loop-set-preserved g c =
    let sets = c.args.sets.now in
    let place = c.loop-set.set-index in
    let set = c.set-item.result in
    let given = c.loop-set.given.items in
    let apart : are_apart (ranges_of sets) ≡ true = search rules in
    let at =
    left-of c.as_slice-set-items.result.now sets place set c.as_slice-set-items.ensures.all
    c.loop-set-test.true c.set-item.is in
    let here : slice_get sets (length given) ≡ Some set = ap (slice_get sets) c.loop-set.invariant.count ∙ at.1 in
    let first =
    leases-at c.args.att.now sets (drop place sets) (drop (place + 1) sets) set given c.args.journal.now
    c.loop-set.journal c.loop-set.invariant.first at.0 in
    let P : StepEnd → Type 0 = λ end.
    LeaseEndsAs c.args.att.now set c.loop-set.journal c.lease_next.new.journal given
    c.lease_next.new.given.items (Ok end) in
    let granted = subst P c.in-Granted.is c.in_ok-end.ensures.ends in
    let count =
    lease-count c.args.att.now set given c.lease_next.new.given.items c.loop-set.journal
    c.lease_next.new.journal granted in
    record {
      first =
          leases-more c.args.att.now sets (drop (place + 1) sets) set given c.lease_next.new.given.items
          c.args.journal.now c.loop-set.journal
          c.lease_next.new.journal first here (set-apart sets place set apart at.1) granted;
      count = count ∙ ap (λ n. n + 1) c.loop-set.invariant.count;
      room = search rules;
    }

pub returns-clause-ends : goal.returns-clause-ends
returns-clause-ends g c =
    let sets = c.args.sets.now in
    leases-done c.args.att.now sets (drop c.loop-set.set-index sets) c.loop-set.given.items c.args.journal.now
    c.loop-set.journal
    c.loop-set.invariant.first (drop_all c.loop-set.set-index sets (search rules))
