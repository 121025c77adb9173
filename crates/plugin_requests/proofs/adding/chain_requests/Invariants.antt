use Rattle.std.proofs.Common.{◌≡◌, ◌++◌, false, map}
use Rattle.std.specs.{Iterator.Adapters.{zip_first, zip_second}, Prelude.All, Slice.Iter.iter_rest}
use Rattle.serde_json.specs.{View.view, Written.has_float}
use Rattle.plugin_requests.proofs.Placed.{requests_left}
use Rattle.plugin_requests.proofs.adding.chain_requests.Given as goal
use Rattle.plugin_requests.specs.{Adding.chain_requests, Raw.IsPluginObject}

-- the requests so far and those to the plugins that are left are all
abbrev pub invariant-loop-plugin : goal.invariant-loop-plugin
invariant-loop-plugin l = record {
  requests : map view l.requests.items
      ++ requests_left l.list l.mappings (iter_rest (zip_first l.plugin-iterator))
      (map view (iter_rest (zip_second l.plugin-iterator))) l.prev
      ≡ chain_requests l.raw l.mappings l.initial.prev;
  numbers : All (λ v. has_float (view v) ≡ false) l.requests.items;
  objects : All (λ v. IsPluginObject (view v)) (iter_rest (zip_second l.plugin-iterator));
}
