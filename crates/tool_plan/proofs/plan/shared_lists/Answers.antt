use Rattle.std.proofs.{Common.{◌≡◌, ◌∙◌, ◌++◌, [], ◌∷◌, List, ap, subst, sym}, lemmas.List.Elements.All-push}
use Rattle.std.specs.List.{All}
use Rattle.net_conf.specs.{WellFormed.IsWellFormedList, declared.list.NetList.NetList}
use Rattle.tool_plan.proofs.Inputs.{lists-one_more}
use Rattle.tool_plan.proofs.plan.shared_lists.Goals as goal

pub loop-raw-preserved : goal.loop-raw-preserved
loop-raw-preserved c =
    let raw = c.raw-item.result in
    let before = c.loop-raw.invariant in
    let grown : c.push.new.self ≡ c.loop-raw.lists ++ raw.list ∷ [] =
    c.in_ok-push.ensures.ok
    ∙ ap (λ (l : NetList). c.loop-raw.lists ++ l ∷ []) (c.in_ok-copy.ensures ∙ c.list.ensures) in
    record {
      lists =
          grown
          ∙ ap (λ (ls : List NetList). ls ++ raw.list ∷ []) before.lists
          ∙ sym (lists-one_more c.args.raws.now c.loop-raw.raw-index raw c.loop-raw-test.true c.raw-item.is);
      formed =
          subst (All IsWellFormedList) (sym grown)
          (All-push IsWellFormedList c.loop-raw.lists raw.list before.formed c.is_raw.ensures.list);
    }
