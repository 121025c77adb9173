use Rattle.pod_workers.proofs.Names.{◌≡◌, ℕ, List, Some, cond, length, ◌∙◌, ap, arith, slice_cmp, nat_cmp, bytes_eq}
use Rattle.std.proofs.lemmas.Map.Text.{btree_map_updates_str}
use Rattle.std.specs.{BTreeMap.is_at, Map.lookup}
use Rattle.pod_workers.specs.declared.index.Place.{Place}
use Rattle.pod_workers.proofs.Books.Indexed.{all-indexed, at_text, count-more, indexed-more, nothing-indexed}
use Rattle.pod_workers.proofs.index.index_round.Goals as goal

pub loop-within-init : goal.loop-within-init
loop-within-init c = record {
  count = omega arith;
  indexed = λ rounds before is earlier index.
      nothing-indexed rounds before c.args.round c.args.places.now.items _ earlier index
      (λ q. ap (λ es. lookup (is_at (λ k. slice_cmp nat_cmp q k.now)) es) c.new-latest.ensures.empty);
}

pub loop-within-preserved : goal.loop-within-preserved
loop-within-preserved c =
    let container = c.index-commands-within.result.container in
    let number : c.len-number.result ≡ length c.loop-within.places.items =
    omega (arith, c.len-number.ensures, c.loop-within.places.ok.0) in
    let before_it = at_text c.loop-within.latest in
    let grown :
    (q : List ℕ)
    → at_text c.insert.new.self q
    ≡ cond (bytes_eq container q) (Some (length c.loop-within.places.items)) (before_it q) =
    λ q. btree_map_updates_str _ c.loop-within.latest c.insert.new.self _ c.in_ok-previous.ensures.updates q
    ∙ ap (λ k. cond (bytes_eq k q) (Some c.len-number.result) (before_it q)) c.as_str.ensures
    ∙ ap (λ v. cond (bytes_eq container q) (Some v) (before_it q)) number in
    let previous : c.in_ok-previous.previous ≡ before_it container =
    c.in_ok-previous.ensures.old ∙ ap before_it c.as_str.ensures in
    let place : Place =
    record { round = c.args.round; within = c.loop-within.within; previous = c.in_ok-previous.previous } in
    record {
      count = count-more _ _ place _ _ c.in_ok-push.ensures.items c.loop-within.invariant.count;
      indexed = λ rounds before is earlier index.
          rw c.in_ok-push.ensures.items
          (indexed-more rounds before c.args.round c.args.commands.now c.loop-within.within
          c.index-commands-within.result place c.loop-within.places.items before_it _ is c.loop-within-test.true
          c.index-commands-within.is
          (ap (λ o. record { round = c.args.round; within = c.loop-within.within; previous = o }) previous)
          grown
          (c.loop-within.invariant.indexed rounds before is earlier index));
    }

pub returns : goal.returns
returns c = λ rounds before is earlier index.
    all-indexed rounds before c.args.round c.args.commands.now c.loop-within.within c.loop-within.places.items _
    c.loop-within-test.false (c.loop-within.invariant.indexed rounds before is earlier index)
