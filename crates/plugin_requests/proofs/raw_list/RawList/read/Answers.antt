use Rattle.std.proofs.Common.{sym, ap, ◌∙◌, Ok, map}
use Rattle.serde_json.specs.View.{view}
use Rattle.plugin_requests.proofs.RawFacts.{raw_is, raw_of-ok}
use Rattle.plugin_requests.proofs.raw_list.RawList.read.Goals as goal

pub invariant_of-result : goal.invariant_of-result
invariant_of-result c =
    rw c.in_ok-of.ensures
    (raw_is c.args.bytes.now (view c.in_ok-top.top) c.in_ok-list.list (map view c.objects_out_of.result.items)
    c.network_list_laws.ensures.well_formed c.in_ok-top.ensures.outcome
    c.in_ok-list.ensures c.objects_out_of.ensures c.in_ok-top.ensures.numbers c.in_ok-top.ensures.nests)

pub returns : goal.returns
returns c =
    raw_of-ok c.args.bytes.now (view c.in_ok-top.top) c.in_ok-list.list (map view c.objects_out_of.result.items)
    c.in_ok-top.ensures.outcome c.in_ok-list.ensures c.objects_out_of.ensures
    ∙ ap (λ list. Ok (record { list = list; objects = map view c.objects_out_of.result.items }))
    (sym c.in_ok-of.ensures)
