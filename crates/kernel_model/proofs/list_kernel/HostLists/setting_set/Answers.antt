use Rattle.std.proofs.{Common.{◌≡◌, true, rules}, lemmas.Result.IfOk-weaker}
use Rattle.std.specs.{Option.option_map, Prelude.find}
use Rattle.kernel_types.specs.{Apply.Calls.is_same_setting, Terms.has_named_ns}
use Rattle.kernel_model.proofs.list_kernel.HostLists.setting_set.Goals as goal

pub returns-clause-ok : goal.returns-clause-ok
returns-clause-ok c =
    IfOk-weaker c.append_unless_taken.result _ _ (λ reply step.
    let named : has_named_ns c.args.self.now c.args.setting.now.ns ≡ true = search rules in
    let stands : c.in_ok-taken.taken
    ≡ option_map (λ x. x.tag) (find (is_same_setting c.args.setting.now) c.args.self.now.settings) = search rules in
    rw (named, ← stands, ← c.self.view_is)
    (rw (← c.self.view_is) at (step (λ l. record c.args.self.now { settings = l }))))
    c.append_unless_taken.ensures.ok
