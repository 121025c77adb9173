use Rattle.std.proofs.Common.{◌≡◌, map, IfOk, ap, ap₂, ◌∙◌, subst}
use Rattle.serde_json.specs.View.{view}
use Rattle.cni_errors.specs.CommandFields.{att_of}
use Rattle.cni_verbs.specs.Mappings.{mappings_of}
use Rattle.plugin_chain.specs.Wanted as wanted
use Rattle.plugin_requests.specs.Adding as defined
use Rattle.plugin_requests.proofs.adding.requests_of_add.Goals as goal

pub returns-clause-requests : goal.returns-clause-requests
returns-clause-requests c =
    let list = c.args.raw.now.list in
    let is : c.get-list.result.now ≡ list = c.get-list.ensures ∙ c.list.ensures in
    let mappings : c.as_slice.result.now ≡ mappings_of list c.args.command.now =
    c.as_slice.ensures ∙ c.in_ok-mappings.ensures ∙ ap (λ l. mappings_of l c.args.command.now) is in
    let first : c.in_ok-first.first
    ≡ wanted.first_plugin_result list (att_of c.args.command.now) c.args.command.now.netns c.args.addrs.now =
    c.in_ok-first.ensures
    ∙ ap₂ (λ l a. wanted.first_plugin_result l a c.args.command.now.netns c.args.addrs.now) is c.in_ok-att.ensures in
    subst (λ l. IfOk c.chain_requests.result (λ made. map view made.items ≡ l))
    (ap₂ (λ m f. defined.chain_requests c.args.raw.now m f) mappings first)
    c.chain_requests.ensures.requests
