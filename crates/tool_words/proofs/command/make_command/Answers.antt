use Rattle.tool_words.proofs.App.{with_arg}
use Rattle.tool_words.proofs.command.make_command.Goals as goal

pub returns : goal.returns
returns c =
    let threads = with_arg _ _ _ _ _ c.in_ok-with_threads.ensures c.bare.ensures c.threads.ensures in
    let stop = with_arg _ _ _ _ _ c.in_ok-with_stop.ensures threads c.stop_at.ensures in
    let trace = with_arg _ _ _ _ _ c.in_ok-with_trace.ensures stop c.flag.ensures in
    let dump = with_arg _ _ _ _ _ c.in_ok-with_dump.ensures trace c.flag-2.ensures in
    let requests = with_arg _ _ _ _ _ c.in_ok-with_requests.ensures dump c.flag-3.ensures in
    let probe = with_arg _ _ _ _ _ c.in_ok-with_probe.ensures requests c.probe.ensures in
    let pods = with_arg _ _ _ _ _ c.in_ok-with_pods.ensures probe c.pods.ensures in
    with_arg _ _ _ _ _ c.in_ok-with_list.ensures pods c.list.ensures
