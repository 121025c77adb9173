use Rattle.std.proofs.Common.{◌≡◌, ◌∙◌, List, [], ◌∷◌, ◌++◌, ap, sym, subst}
use Rattle.net_conf.specs.declared.list.NetList.{NetList}
use Rattle.pod_workers.specs.Plans.{IsWellFormed}
use Rattle.tool_plan.proofs.GeneratedPlans.{is_generated}
use Rattle.tool_plan.proofs.generated.generated_plan.Goals as goal

pub returns-clause-well_formed : goal.returns-clause-well_formed
returns-clause-well_formed c =
    let made = c.in_ok-list.field-0 in
    let alone : c.push.new.self ≡ made.list ∷ [] =
    c.in_ok-push.ensures.ok ∙ ap (λ (ls : List NetList). ls ++ c.in_ok-of.field-0 ∷ []) c.new-lists.ensures
    ∙ ap (λ (l : NetList). l ∷ []) c.in_ok-of.ensures in
    let is = is_generated made c.push.new.self c.args.stop_at c.args.count c.in_ok-list.ensures alone in
    subst IsWellFormed (sym is) (c.generated_plans_are_well_formed.ensures c.args.stop_at c.args.count c.requires.few)
