use Rattle.std.proofs.Common.{◌≡◌, ◌+◌, length, rules}
use Rattle.cni_verbs.proofs.PhaseSteps.{leased_goes}
use Rattle.cni_verbs.proofs.advance.after_lease.Goals as goal

pub returns-in-Leased-clause-ok : goal.returns-in-Leased-clause-ok
returns-in-Leased-clause-ok c = λ list command sets.
    let old = c.args.given.now.items in
    let new = c.push_reserved.new.self.items in
    let one_more : c.len.result ≡ length old + 1 = search rules in
    let all : length new ≡ c.len.result = search rules in
    leased_goes list command c.args.number c.len.result old new c.in-Leased.addr c.args.reply.now c.leasing.result
    c.push_reserved.ensures.items one_more c.in-Leased.is (c.leasing.ensures list command c.args.number new sets all)
