use Rattle.session_verbs.proofs.Names.{ap, subst, sym, List, [], Some, ◌≡◌, rules, Cached, Kind, OwnCalls, Ask}
use Rattle.session_verbs.specs.Adds.{IsAnswer, ask_for}
use Rattle.session_verbs.proofs.Adds.AddEnds.{askable}
use Rattle.session_verbs.proofs.ask.fill.Goals as goal

pub ask_calls-requires-clause-askable : goal.ask_calls-requires-clause-askable
ask_calls-requires-clause-askable g c =
    let ask = ask_for c.args.conf.now c.args.task.now c.args.row.now.att c.args.given.now in
    let same : c.in_ok-ask.ask ≡ ask = search rules in
    askable c.args.plugin.now.needs ask c.in_ok-ask.ask same c.requires.container c.requires.options

pub ask_result-requires-clause-askable : goal.ask_result-requires-clause-askable
ask_result-requires-clause-askable g c =
    let ask = ask_for c.args.conf.now c.args.task.now c.args.row.now.att c.args.given.now in
    let same : c.in_ok-ask.ask ≡ ask = search rules in
    askable c.args.plugin.now.needs ask c.in_ok-ask.ask same c.requires.container c.requires.options

pub returns-clause-ok : goal.returns-clause-ok
returns-clause-ok g c =
    let ask = ask_for c.args.conf.now c.args.task.now c.args.row.now.att c.args.given.now in
    let same : c.in_ok-ask.ask ≡ ask = search rules in
    let may_call = g.P.Promise.may_call c.args.plugin.now.name in
    let may_result = g.P.Promise.may_result c.args.plugin.now.name in
    let row = record c.args.row.now { calls = c.in_ok-calls.calls; cached = Some c.in_ok-cached.cached } in
    let own_by : List Kind → Type 0 = λ ks. OwnCalls c.in_ok-ask.ask ks c.in_ok-calls.calls in
    let cached : c.in_ok-cached.cached
    ≡ record { netns = c.in_ok-ask.ask.netns; mappings = []; result = c.in_ok-result.result } =
    search rules in
    let P : Ask → Type 0 = λ a. IsAnswer may_call may_result a row c.in_ok-cached.cached in
    subst P same (record {
      calls = c.in_ok-calls.ensures.may;
      own = subst own_by (sym c.requires.kinds) c.in_ok-calls.ensures.own;
      netns = ap (λ (k : Cached). k.netns) cached;
      mappings = ap (λ (k : Cached). k.mappings) cached;
      result =
          subst (may_result c.in_ok-ask.ask) (sym (ap (λ (k : Cached). k.result) cached))
          c.in_ok-result.ensures.may;
    })
