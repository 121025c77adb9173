use Rattle.std.proofs.{Common.{◌≡◌, true, rules}, lemmas.Result.IfOk-weaker}
use Rattle.std.specs.Option.{option_map}
use Rattle.kernel_types.specs.{Apply.Calls.has_master, Terms.{has_named_ns, link_at}}
use Rattle.kernel_model.proofs.list_kernel.HostLists.macvlan_add.Goals as goal

pub returns-clause-ok : goal.returns-clause-ok
returns-clause-ok c =
    IfOk-weaker c.append_unless_taken.result _ _ (λ reply step.
    let named : has_named_ns c.args.self.now c.args.link.now.ns ≡ true = search rules in
    let over : has_master c.args.self.now c.args.link.now.master ≡ true = search rules in
    let stands : c.in_ok-taken.taken
    ≡ option_map (λ x. x.tag) (link_at c.args.self.now c.args.link.now.ns c.args.link.now.name) = search rules in
    rw (named, over, ← stands, ← c.self.view_is)
    (rw (← c.self.view_is) at (step (λ l. record c.args.self.now { links = l }))))
    c.append_unless_taken.ensures.ok
