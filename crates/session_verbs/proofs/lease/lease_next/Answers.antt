use Rattle.session_verbs.proofs.Names.{◌≡◌, length, rules, LeaseNext}
use Rattle.session_verbs.specs.{Adds.IsMade, Journal.made_next}
use Rattle.session_verbs.proofs.Adds.AddLeases.{lease-ends}
use Rattle.session_verbs.proofs.lease.lease_next.Goals as goal

pub returns-clause-ends : goal.returns-clause-ends
returns-clause-ends g c =
    let same : c.in_ok-of.field-0 ≡ LeaseNext c.args.att.now (length c.args.given.now.items) c.args.set.now =
    search rules in
    let made : IsMade c.in_ok-of.field-0 c.args.journal.now c.make.new.self = search rules in
    let replied : (made_next c.args.journal.now c.in_ok-of.field-0).reply ≡ c.in-Some.reply.now = search rules in
    lease-ends c.args.att.now c.args.set.now c.args.journal.now c.make.new.self c.args.given.now.items
    c.take_lease.new.given.items
    c.in_ok-of.field-0 c.len-number.result c.made.result c.in-Some.reply.now c.take_lease.result same (search rules)
    c.made.ensures.made made replied
    c.take_lease.ensures.ok c.take_lease.ensures.given
