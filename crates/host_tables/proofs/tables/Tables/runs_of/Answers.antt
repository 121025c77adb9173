use Rattle.std.proofs.Common.{◌≡◌, ◌∙◌, ap, []}
use Rattle.std.specs.Option.{option_map_or}
use Rattle.ip_pool.specs.NextAddress.{is_taken}
use Rattle.kernel_types.specs.Terms.{leased_addresses}
use Rattle.object_tables.specs.Leased.{kept_for}
use Rattle.object_tables.proofs.Kept.{kept-chosen}
use Rattle.host_tables.proofs.tables.Tables.runs_of.Goals as goal

pub returns : goal.returns
returns c =
    let network = c.args.network.now in
    let kept : c.unwrap_or.result.now.addresses ≡ kept_for c.self.inside.leased network =
    ap (λ r. r.now.addresses) c.unwrap_or.ensures ∙ kept-chosen c.get.result _ c.requires
    ∙ ap (λ o. option_map_or (λ set. set.addresses) o []) c.get.ensures.value in
    λ a.
    ap (λ l. is_taken l a) kept
    ∙ c.self.invariant network a
    ∙ ap (λ h. is_taken (leased_addresses h network) a) c.self.view_is
