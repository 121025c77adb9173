use Rattle.std.proofs.{Common.{◌≡◌, true, rules}, lemmas.Result.IfOk-weaker}
use Rattle.std.specs.{Option.option_map, Prelude.find}
use Rattle.kernel_types.specs.Apply.Calls.{has_link_of, is_same_route}
use Rattle.kernel_model.proofs.list_kernel.HostLists.route_add.Goals as goal

pub returns-clause-ok : goal.returns-clause-ok
returns-clause-ok c =
    IfOk-weaker c.append_unless_taken.result _ _ (λ reply step.
    let there : has_link_of c.args.self.now c.args.obj.now.ns c.args.obj.now.link c.args.obj.now.tag ≡ true =
    search rules in
    let stands : c.in_ok-taken.taken
    ≡ option_map (λ x. x.tag) (find (is_same_route c.args.obj.now) c.args.self.now.routes) = search rules in
    rw (there, ← stands, ← c.self.view_is)
    (rw (← c.self.view_is) at (step (λ l. record c.args.self.now { routes = l }))))
    c.append_unless_taken.ensures.ok
