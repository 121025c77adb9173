use Rattle.std.proofs.Common.{sym, subst}
use Rattle.std.specs.Prelude.{All}
use Rattle.serde_json.specs.View.{view}
use Rattle.plugin_requests.proofs.RawFacts.{All-viewed}
use Rattle.plugin_requests.proofs.raw_list.RawList.objects.Goals as goal
use Rattle.plugin_requests.specs.Raw.{IsPluginObject}

pub returns-clause-kept : goal.returns-clause-kept
returns-clause-kept c =
    subst (All (λ v. IsPluginObject (view v))) (sym c.as_slice.ensures.value)
    (All-viewed view IsPluginObject c.self.inside.objects.items c.self.invariant.objects)
