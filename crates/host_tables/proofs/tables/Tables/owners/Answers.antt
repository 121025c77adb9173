use Rattle.std.proofs.{Common.{◌≡◌, ◌∙◌, ap, sym, rules}, lemmas.Result.IfOk-weaker}
use Rattle.std.specs.List.{filter_map}
use Rattle.cni_addr.specs.Lists.{each_key_once}
use Rattle.kernel_types.specs.{Apply.Calls.tags_of, Equal.att_eq, Terms.owner_in, declared.object.CachedObj.CachedObj}
use Rattle.kernel_types.specs.declared.{object.{Lease.Lease, Link.Link, Setting.Setting}, rule.Rule.Rule}
use Rattle.kernel_types.specs.declared.call.Kind.TheVariants as kinds
use Rattle.host_tables.proofs.Questions.{owners-once}
use Rattle.host_tables.proofs.tables.Tables.owners.Goals as goal

pub returns-in-Links-clause-ok : goal.returns-in-Links-clause-ok
returns-in-Links-clause-ok c =
    let network = c.args.network.now in
    let kind : c.args.kind ≡ kinds.Links = search rules in
    IfOk-weaker c.owners.result _ _
    (λ owners h.
    h
    ∙ owners-once (λ (x : Link). x.tag) network c.self.inside.links
    ∙ ap (λ t. each_key_once att_eq (filter_map (owner_in network) (tags_of t kinds.Links))) c.self.view_is
    ∙ ap (λ k. each_key_once att_eq (filter_map (owner_in network) (tags_of c.args.self.now k))) (sym kind))
    c.owners.ensures.ok

pub returns-in-Rules-clause-ok : goal.returns-in-Rules-clause-ok
returns-in-Rules-clause-ok c =
    let network = c.args.network.now in
    let kind : c.args.kind ≡ kinds.Rules = search rules in
    IfOk-weaker c.owners-in-Rules.result _ _
    (λ owners h.
    h
    ∙ owners-once (λ (x : Rule). x.tag) network c.self.inside.rules
    ∙ ap (λ t. each_key_once att_eq (filter_map (owner_in network) (tags_of t kinds.Rules))) c.self.view_is
    ∙ ap (λ k. each_key_once att_eq (filter_map (owner_in network) (tags_of c.args.self.now k))) (sym kind))
    c.owners-in-Rules.ensures.ok

pub returns-in-Settings-clause-ok : goal.returns-in-Settings-clause-ok
returns-in-Settings-clause-ok c =
    let network = c.args.network.now in
    let kind : c.args.kind ≡ kinds.Settings = search rules in
    IfOk-weaker c.owners-in-Settings.result _ _
    (λ owners h.
    h
    ∙ owners-once (λ (x : Setting). x.tag) network c.self.inside.settings
    ∙ ap (λ t. each_key_once att_eq (filter_map (owner_in network) (tags_of t kinds.Settings))) c.self.view_is
    ∙ ap (λ k. each_key_once att_eq (filter_map (owner_in network) (tags_of c.args.self.now k))) (sym kind))
    c.owners-in-Settings.ensures.ok

pub returns-in-Leases-clause-ok : goal.returns-in-Leases-clause-ok
returns-in-Leases-clause-ok c =
    let network = c.args.network.now in
    let kind : c.args.kind ≡ kinds.Leases = search rules in
    IfOk-weaker c.owners-in-Leases.result _ _
    (λ owners h.
    h
    ∙ owners-once (λ (x : Lease). x.tag) network c.self.inside.leases
    ∙ ap (λ t. each_key_once att_eq (filter_map (owner_in network) (tags_of t kinds.Leases))) c.self.view_is
    ∙ ap (λ k. each_key_once att_eq (filter_map (owner_in network) (tags_of c.args.self.now k))) (sym kind))
    c.owners-in-Leases.ensures.ok

pub returns-in-Cached-clause-ok : goal.returns-in-Cached-clause-ok
returns-in-Cached-clause-ok c =
    let network = c.args.network.now in
    let kind : c.args.kind ≡ kinds.Cached = search rules in
    IfOk-weaker c.owners-in-Cached.result _ _
    (λ owners h.
    h
    ∙ owners-once (λ (x : CachedObj). x.tag) network c.self.inside.cached
    ∙ ap (λ t. each_key_once att_eq (filter_map (owner_in network) (tags_of t kinds.Cached))) c.self.view_is
    ∙ ap (λ k. each_key_once att_eq (filter_map (owner_in network) (tags_of c.args.self.now k))) (sym kind))
    c.owners-in-Cached.ensures.ok
