use Rattle.std.proofs.Common.{◌≡◌, List, ap, ◌∙◌}
use Rattle.cni_result.specs.declared.cached.PortMapping.{PortMapping}
use Rattle.kernel_types.specs.declared.object.Att.{Att}
use Rattle.cni_errors.specs.CommandFields.{att_of}
use Rattle.cni_verbs.specs.Mappings.{mappings_of}
use Rattle.exec_protocol.proofs.AddWork.{plugins_calls_of_add, plugins_result, work_of_add}
use Rattle.exec_protocol.proofs.chaining.work_of_add.Goals as goal
use Rattle.exec_protocol.specs.{Work.{add_work, plugins_work}, declared.types.Work.Work}

pub returns-clause-calls : goal.returns-clause-calls
returns-clause-calls c =
    let list = c.args.list.now in
    let command = c.args.command.now in
    let given = c.args.given.now in
    let all = c.in_ok-plugins.ensures
    ∙ ap (λ (a : Att). plugins_work list a command.netns c.as_slice.result.now given) c.in_ok-att.ensures
    ∙ ap (λ (m : List PortMapping). plugins_work list (att_of command) command.netns m given)
    (c.as_slice.ensures ∙ c.in_ok-mappings.ensures) in
    let whole : c.in_ok-work.work ≡ work_of_add list command given =
    c.in_ok-work.ensures
    ∙ ap (λ (a : Att). add_work a command.netns c.in_ok-mappings.mappings c.in_ok-plugins.plugins)
    (c.att-owner.ensures ∙ c.in_ok-att.ensures)
    ∙ ap (λ (m : List PortMapping). add_work (att_of command) command.netns m c.in_ok-plugins.plugins)
    c.in_ok-mappings.ensures
    ∙ ap (λ (w : Work). add_work (att_of command) command.netns (mappings_of list command) w) all in
    ap (λ (w : Work). w.calls) whole ∙ plugins_calls_of_add list command given c.requires

pub returns-clause-last : goal.returns-clause-last
returns-clause-last c =
    let list = c.args.list.now in
    let command = c.args.command.now in
    let given = c.args.given.now in
    let all = c.in_ok-plugins.ensures
    ∙ ap (λ (a : Att). plugins_work list a command.netns c.as_slice.result.now given) c.in_ok-att.ensures
    ∙ ap (λ (m : List PortMapping). plugins_work list (att_of command) command.netns m given)
    (c.as_slice.ensures ∙ c.in_ok-mappings.ensures) in
    let whole : c.in_ok-work.work ≡ work_of_add list command given =
    c.in_ok-work.ensures
    ∙ ap (λ (a : Att). add_work a command.netns c.in_ok-mappings.mappings c.in_ok-plugins.plugins)
    (c.att-owner.ensures ∙ c.in_ok-att.ensures)
    ∙ ap (λ (m : List PortMapping). add_work (att_of command) command.netns m c.in_ok-plugins.plugins)
    c.in_ok-mappings.ensures
    ∙ ap (λ (w : Work). add_work (att_of command) command.netns (mappings_of list command) w) all in
    ap (λ (w : Work). w.result) whole ∙ plugins_result list command given c.requires
