-- What all plugins of a list make is what their ADD makes.
use Rattle.std.proofs.Common.{◌≡◌, List, [], ◌∷◌, ◌++◌, ap, ◌∙◌, append_assoc}
use Rattle.kernel_types.specs.declared.call.{Call.{Call, TheVariants.{Begin, CachePut}}, Given.Given}
use Rattle.net_conf.specs.declared.list.NetList.{NetList}
use Rattle.pod_file.specs.declared.command.Command.{Command}
use Rattle.cni_errors.specs.CommandFields.{att_of}
use Rattle.plugin_chain.specs.Wanted.{all_chained_calls, all_chained_results, result_of_add}
use Rattle.cni_verbs.specs.{AddCalls.calls_of_add, Mappings.mappings_of}
use Rattle.exec_protocol.proofs.Chained.{first_work-result, works-calls_of_add}
use Rattle.exec_protocol.specs.Work.{AreGivenFor, add_work, addresses, first_work, plugins_work}
use Rattle.exec_protocol.specs.declared.types.Work.{Work}

-- the whole work of an ADD of the list
abbrev pub work_of_add : NetList → Command → List Given → Work
work_of_add list c given =
    add_work (att_of c) c.netns (mappings_of list c) (plugins_work list (att_of c) c.netns (mappings_of list c) given)

pub plugins_result : (list : NetList) (c : Command) (given : List Given) → AreGivenFor list given
    → (work_of_add list c given).result ≡ result_of_add list (att_of c) c.netns (addresses given)
unfolding result_of_add plugins_work add_work
plugins_result list c given are =
    ap (all_chained_results list.chained) (first_work-result list (att_of c) c.netns given are)

pub plugins_calls_of_add : (list : NetList) (c : Command) (given : List Given) → AreGivenFor list given
    → (work_of_add list c given).calls ≡ calls_of_add list c (addresses given)
unfolding result_of_add plugins_work add_work
plugins_calls_of_add list c given are =
    let att = att_of c in
    let mappings = mappings_of list c in
    let first = first_work list.first list.version att c.netns given in
    let put : List Call =
    CachePut att
    (record { netns = c.netns; mappings = mappings; result = all_chained_results list.chained first.result })
    ∷ [] in
    ap (λ l. Begin att c.netns ∷ l)
    (append_assoc first.calls (all_chained_calls list.chained att c.netns mappings first.result) put
    ∙ ap (λ r. first.calls
    ++ (all_chained_calls list.chained att c.netns mappings r
    ++ CachePut att (record { netns = c.netns; mappings = mappings; result = all_chained_results list.chained r })
    ∷ []))
    (first_work-result list att c.netns given are))
    ∙ works-calls_of_add list c given are
