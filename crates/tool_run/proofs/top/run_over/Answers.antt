use Rattle.tool_plan.specs.Seen.{files_seen}
use Rattle.tool_run.specs.Seen.{sink_seen}
use Rattle.tool_run.proofs.Endings.{ends, held, is_run, ordered}
use Rattle.tool_run.proofs.top.run_over.Goals as goal

pub returns : goal.returns
returns g c =
    let words = c.args.words.now in
    let files = files_seen g.F.Files.files g.F.Files.failure_count c.args.files.now c.settle-settled.new.files in
    let sink = sink_seen g.S.Sink.written g.S.Sink.failure_count c.args.sink.now c.report.new.sink in
    let settled = c.settle-settled in
    let outcome = c.report.result in
    let how = ends words files sink settled.result outcome settled.ensures.settles c.report.ensures in
    record {
      run =
          is_run words files sink _ _ outcome.status (record { book = outcome.book; session = outcome.session })
          c.every_legal_history_is_guaranteed.ensures c.every_packet_goes_as_cached.ensures c.one_outcome.ensures
          (λ asked. ordered sink settled.result outcome c.report.ensures (settled.ensures.order asked))
          (held _ sink settled.result outcome c.report.ensures settled.ensures.tasks) how;
      keeps = settled.ensures.keeps;
      untouched = settled.ensures.untouched;
    }
