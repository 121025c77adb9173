-- When lists and a pod file make a plan, and why they make none.
use Rattle.std.specs.{Option.option_or, Prelude.{ℕ, ◌+◌, List, [], ◌∷◌, ◌++◌, position, Option, Some, None, option_map}}
use Rattle.std.specs.Prelude.{Result, Ok, Err, if◌then◌else◌}
use Rattle.net_conf.specs.declared.list.NetList.{NetList}
use Rattle.pod_file.specs.declared.command.Command.{Command}
use Rattle.pod_workers.specs.{Plans.{has_list, lacks_list, placed_from}, declared.plan.{Plan.Plan, PlanError.PlanError}}
use Rattle.pod_workers.specs.declared.plan.PlanError.TheVariants.{SameName, NoNetwork}

-- the place, from 0, of the first list that has the name of an earlier one
abbrev pub first_repeat_after : List NetList → ℕ → List NetList → Option ℕ
first_repeat_after earlier place [] = None
first_repeat_after earlier place (l ∷ ls) =
    if has_list earlier l.name then Some place else first_repeat_after (earlier ++ l ∷ []) (place + 1) ls

-- the place of the first command of a network that no list has
abbrev pub first_without_list : List NetList → List (List Command) → Option ℕ
first_without_list lists rounds = position (λ c. lacks_list lists c.command) (placed_from 0 rounds)

-- why these make no plan: the first list that has the name of an earlier one, or else the first command of a network
-- that no list has
abbrev pub refusal_of : List NetList → List (List Command) → Option PlanError
refusal_of lists rounds =
    option_or (option_map (λ place. SameName place) (first_repeat_after [] 0 lists))
    (option_map (λ place. NoNetwork (place + 1)) (first_without_list lists rounds))

-- the plan, unless it is refused
abbrev pub plan_unless : Option PlanError → Plan → Result Plan PlanError
plan_unless None p = Ok p
plan_unless (Some refusal) p = Err refusal

unfoldable pub joined : Plan → Result Plan PlanError
joined p = plan_unless (refusal_of p.lists p.pods.rounds) p
