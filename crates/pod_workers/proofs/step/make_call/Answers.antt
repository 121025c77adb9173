use Rattle.pod_workers.proofs.Names.{false≢true}
use Rattle.pod_workers.proofs.Hosts.Turns.{refused-reply}
use Rattle.pod_workers.proofs.step.make_call.Goals as goal

pub returns-in-Err-take-clause-err : goal.returns-in-Err-take-clause-err
returns-in-Err-take-clause-err g c =
    let host = g.K.Kernel.host c.args.kernel.now in (
      refused-reply host (g.K.Kernel.host c.reply_to.new.kernel) c.get.result.now c.args.faulty c.in-Ok.reply
          c.in-Ok.ensures.host c.in-Ok.ensures.reply
          (λ fault holds. false≢true (c.in-Err-take.ensures.frees fault holds)),
      c.reserve.ensures.items,
    )
