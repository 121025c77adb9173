use Rattle.std.proofs.Common.{◌≡◌, false, length, [], ◌∷◌, ◌++◌, slice_range, ap, sym, ◌∙◌}
use Rattle.std.proofs.lemmas.List.Elements.{All-head, All-nil, All-push, All-rest, All-same}
use Rattle.std.specs.{Iterator.Adapters.{zip_first, zip_second}, Slice.Iter.iter_rest}
use Rattle.serde_json.specs.{View.view, Written.has_float}
use Rattle.plugin_requests.proofs.Placed.{first-and-rest, requests_left-begin, requests_left-next, requests_left-end}
use Rattle.plugin_requests.specs.Adding as defined
use Rattle.plugin_requests.specs.Raw.{IsPluginObject}
use Rattle.plugin_requests.proofs.adding.chain_requests.Goals as goal

pub loop-plugin-init : goal.loop-plugin-init
loop-plugin-init c =
    let it = c.into_iter-plugin-iterator.result in
    let plugins : iter_rest (zip_first it) ≡ c.get-list.result.now.chained =
    ap (λ z. iter_rest (zip_first z)) c.into_iter-plugin-iterator.ensures.into_iter_gives
    ∙ ap iter_rest c.zip-plugin-items.ensures.first ∙ c.iter.ensures.rest ∙ c.as_slice.ensures in
    let others : iter_rest (zip_second it) ≡ slice_range c.objects.result.now 1 (length c.objects.result.now) =
    ap (λ z. iter_rest (zip_second z)) c.into_iter-plugin-iterator.ensures.into_iter_gives
    ∙ c.zip-plugin-items.ensures.second.0 in
    let objects : c.objects.result.now ≡ c.object-item.result ∷ iter_rest (zip_second it) =
    first-and-rest c.objects.result.now c.object-item.result (iter_rest (zip_second it)) c.in-len1-up.len_at_least
    c.object-item.is others in
    let pushed : c.push.new.self.items ≡ c.in_ok-request_to.field-0 ∷ [] =
    c.in_ok-push.ensures.items ∙ ap (λ l. l ++ c.in_ok-request_to.field-0 ∷ []) c.new-requests.ensures.items in
    record {
      requests =
          requests_left-begin view c.args.raw.now c.args.mappings.now c.args.first c.objects.result.now
          c.object-item.result (iter_rest (zip_second it))
          c.push.new.self.items c.in_ok-request_to.field-0 c.get-list.result.now (iter_rest (zip_first it))
          c.is_raw.ensures (c.get-list.ensures ∙ c.list.ensures) c.objects.ensures.all objects pushed
          c.in_ok-request_to.ensures.json plugins;
      numbers =
          All-same (λ v. has_float (view v) ≡ false) c.push.new.self.items (c.in_ok-request_to.field-0 ∷ []) pushed
          (All-push (λ v. has_float (view v) ≡ false) [] c.in_ok-request_to.field-0
          (All-nil (λ v. has_float (view v) ≡ false)) c.in_ok-request_to.ensures.numbers);
      objects =
          All-rest (λ v. IsPluginObject (view v)) c.object-item.result (iter_rest (zip_second it))
          c.objects.result.now objects c.objects.ensures.kept;
    }

pub request_to-requires-in-loop-plugin : goal.request_to-requires-in-loop-plugin
request_to-requires-in-loop-plugin c =
    let left =
    All-same (λ v. IsPluginObject (view v)) (c.in-Some.object.now ∷ iter_rest (zip_second c.next.new.self))
    (iter_rest (zip_second c.loop-plugin.plugin-iterator)) (sym c.in-Some.ensures.steps.1)
    c.loop-plugin.invariant.objects in
    All-head (λ v. IsPluginObject (view v)) c.in-Some.object.now (iter_rest (zip_second c.next.new.self)) left

pub loop-plugin-preserved : goal.loop-plugin-preserved
loop-plugin-preserved c = record {
  requests =
      requests_left-next view c.get-list.result.now c.args.mappings.now
      (defined.chain_requests c.args.raw.now c.args.mappings.now c.args.first)
      c.loop-plugin.requests.items c.push-in-loop-plugin.new.self.items c.in_ok-request_to-2.field-0
      (iter_rest (zip_first c.loop-plugin.plugin-iterator)) (iter_rest (zip_first c.next.new.self)) c.in-Some.plugin.now
      (iter_rest (zip_second c.loop-plugin.plugin-iterator)) (iter_rest (zip_second c.next.new.self))
      c.in-Some.object.now
      c.loop-plugin.prev c.in_ok-prev.prev
      c.loop-plugin.invariant.requests c.in-Some.ensures.steps.0 c.in-Some.ensures.steps.1
      c.in_ok-push-2.ensures.items c.in_ok-request_to-2.ensures.json c.in_ok-prev.ensures;
  numbers =
      All-same (λ v. has_float (view v) ≡ false) c.push-in-loop-plugin.new.self.items
      (c.loop-plugin.requests.items ++ c.in_ok-request_to-2.field-0 ∷ [])
      c.in_ok-push-2.ensures.items
      (All-push (λ v. has_float (view v) ≡ false) c.loop-plugin.requests.items c.in_ok-request_to-2.field-0
      c.loop-plugin.invariant.numbers c.in_ok-request_to-2.ensures.numbers);
  objects =
      All-rest (λ v. IsPluginObject (view v)) c.in-Some.object.now (iter_rest (zip_second c.next.new.self))
      (iter_rest (zip_second c.loop-plugin.plugin-iterator))
      c.in-Some.ensures.steps.1 c.loop-plugin.invariant.objects;
}

pub returns-clause-requests : goal.returns-clause-requests
returns-clause-requests c =
    requests_left-end view c.get-list.result.now c.args.mappings.now
    (defined.chain_requests c.args.raw.now c.args.mappings.now c.args.first)
    c.loop-plugin.requests.items (iter_rest (zip_first c.loop-plugin.plugin-iterator))
    (iter_rest (zip_second c.loop-plugin.plugin-iterator)) c.loop-plugin.prev
    (zip_first c.loop-plugin.plugin-iterator) (zip_second c.loop-plugin.plugin-iterator)
    c.loop-plugin.invariant.requests c.in-None.ensures.steps
