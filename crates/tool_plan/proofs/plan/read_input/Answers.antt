use Rattle.std.proofs.{Common.{◌≡◌, ◌∙◌, List, Ok, Err, ap, arith, subst, sym}, lemmas.Result.err_from_is_err_and}
use Rattle.net_conf.specs.declared.list.NetList.{NetList}
use Rattle.pod_workers.specs.declared.plan.Plan.{Plan}
use Rattle.tool_plan.specs.{Causes.GivesJudged, Verdict.{judged_plan, lists_of}}
use Rattle.tool_plan.proofs.Inputs.{input-made, lists-stop, packets-stop, plan-stops, pods-stop, requests-are}
use Rattle.tool_plan.proofs.Inputs.{taken_lists, taken_packets, taken_pods}
use Rattle.tool_plan.proofs.plan.read_input.Goals as goal

pub returns-in_err-pods-clause-gives : goal.returns-in_err-pods-clause-gives
returns-in_err-pods-clause-gives g c =
    let p = err_from_is_err_and c.from_residual.result c.from_residual.ensures.1 in
    let stops =
    pods-stop (g.F.Files.files c.args.files.now) (g.F.Files.failure_count c.args.files.now)
    (g.F.Files.failure_count c.read_pods.new.files) c.args.named.now c.as_str.result.now
    c.in_err-pods.field-0.0 c.as_str.ensures c.in_err-pods.ensures.gives in
    rw (p.1, p.2) stops

pub returns-in_err-raws-clause-gives : goal.returns-in_err-raws-clause-gives
returns-in_err-raws-clause-gives g c =
    let p = err_from_is_err_and c.from_residual-in_err-raws.result c.from_residual-in_err-raws.ensures.1 in
    let files = g.F.Files.files c.args.files.now in
    let pods =
    taken_pods files c.args.named.now c.as_str.result.now c.in_ok-pods.pods c.as_str.ensures
    c.in_ok-pods.ensures.gives in
    let stops =
    lists-stop files (g.F.Files.files c.read_pods.new.files) (g.F.Files.failure_count c.args.files.now)
    (g.F.Files.failure_count c.read_pods.new.files)
    (g.F.Files.failure_count c.read_lists.new.files) c.args.named.now c.as_slice.result.now c.in_ok-pods.pods
    c.in_err-raws.field-0.0 c.as_slice.ensures c.in_ok-pods.ensures.keeps
    c.in_ok-pods.ensures.later pods c.in_err-raws.ensures.gives in
    rw (p.1, p.2) stops

pub returns-in_err-packets-clause-gives : goal.returns-in_err-packets-clause-gives
returns-in_err-packets-clause-gives g c =
    let p = err_from_is_err_and c.from_residual-in_err-packets.result c.from_residual-in_err-packets.ensures.1 in
    let files = g.F.Files.files c.args.files.now in
    let named = c.args.named.now in
    let pods =
    taken_pods files named c.as_str.result.now c.in_ok-pods.pods c.as_str.ensures c.in_ok-pods.ensures.gives in
    let lists =
    taken_lists files (g.F.Files.files c.read_pods.new.files) named c.as_slice.result.now c.in_ok-raws.raws
    c.as_slice.ensures c.in_ok-pods.ensures.keeps c.in_ok-raws.ensures.gives in
    let stops =
    packets-stop files (g.F.Files.files c.read_lists.new.files) (g.F.Files.failure_count c.args.files.now)
    (g.F.Files.failure_count c.read_lists.new.files)
    (g.F.Files.failure_count c.read_packets.new.files) named c.in_ok-pods.pods c.in_ok-raws.raws
    c.in_err-packets.field-0.0 (c.in_ok-raws.ensures.keeps ∙ c.in_ok-pods.ensures.keeps)
    (omega (arith, c.in_ok-pods.ensures.later, c.in_ok-raws.ensures.later)) pods lists
    c.in_err-packets.ensures.gives in
    rw (p.1, p.2) stops

pub returns-in_err-plan-clause-gives : goal.returns-in_err-plan-clause-gives
returns-in_err-plan-clause-gives g c =
    let p = err_from_is_err_and c.from_residual-in_err-plan.result c.from_residual-in_err-plan.ensures.1 in
    let files = g.F.Files.files c.args.files.now in
    let named = c.args.named.now in
    let raws = c.in_ok-raws.raws in
    let pods =
    taken_pods files named c.as_str.result.now c.in_ok-pods.pods c.as_str.ensures c.in_ok-pods.ensures.gives in
    let lists =
    taken_lists files (g.F.Files.files c.read_pods.new.files) named c.as_slice.result.now raws c.as_slice.ensures
    c.in_ok-pods.ensures.keeps c.in_ok-raws.ensures.gives in
    let packets =
    taken_packets files (g.F.Files.files c.read_lists.new.files) named c.in_ok-packets.packets
    (c.in_ok-raws.ensures.keeps ∙ c.in_ok-pods.ensures.keeps) c.in_ok-packets.ensures.gives in
    let shared : c.in_ok-lists.lists ≡ lists_of raws = c.in_ok-lists.ensures.lists ∙ ap lists_of c.as_slice-2.ensures in
    let none = c.in_err-plan.field-0.0 in
    let joins =
    subst (λ (ls : List NetList). GivesJudged {X = Plan} (Err none) (judged_plan named c.in_ok-pods.pods ls)) shared
    c.in_err-plan.ensures.gives in
    let stops =
    plan-stops files (g.F.Files.failure_count c.args.files.now) (g.F.Files.failure_count c.read_packets.new.files)
    named c.in_ok-pods.pods raws c.in_ok-packets.packets none pods lists
    packets joins in
    rw (p.1, p.2) stops

pub returns-clause-gives : goal.returns-clause-gives
returns-clause-gives g c =
    let files = g.F.Files.files c.args.files.now in
    let named = c.args.named.now in
    let raws = c.in_ok-raws.raws in
    let pods =
    taken_pods files named c.as_str.result.now c.in_ok-pods.pods c.as_str.ensures c.in_ok-pods.ensures.gives in
    let lists =
    taken_lists files (g.F.Files.files c.read_pods.new.files) named c.as_slice.result.now raws c.as_slice.ensures
    c.in_ok-pods.ensures.keeps c.in_ok-raws.ensures.gives in
    let packets =
    taken_packets files (g.F.Files.files c.read_lists.new.files) named c.in_ok-packets.packets
    (c.in_ok-raws.ensures.keeps ∙ c.in_ok-pods.ensures.keeps) c.in_ok-packets.ensures.gives in
    let shared : c.in_ok-lists.lists ≡ lists_of raws = c.in_ok-lists.ensures.lists ∙ ap lists_of c.as_slice-2.ensures in
    let joins : judged_plan named c.in_ok-pods.pods (lists_of raws) ≡ Ok c.in_ok-plan.plan =
    ap (judged_plan named c.in_ok-pods.pods) (sym shared) ∙ c.in_ok-plan.ensures.gives in
    input-made files named c.in_ok-pods.pods raws c.in_ok-packets.packets c.in_ok-plan.plan c.then_some.result
    c.then_some.ensures pods lists packets joins

pub returns-clause-by : goal.returns-clause-by
returns-clause-by g c =
    let raws = c.in_ok-raws.raws in
    let shared : c.in_ok-lists.lists ≡ lists_of raws = c.in_ok-lists.ensures.lists ∙ ap lists_of c.as_slice-2.ensures in
    record {
      requests =
          requests-are c.args.named.now raws c.in_ok-plan.plan c.then_some.result c.then_some.ensures
          (c.in_ok-plan.ensures.lists ∙ shared);
      packets = c.in_ok-packets.ensures.none;
    }
