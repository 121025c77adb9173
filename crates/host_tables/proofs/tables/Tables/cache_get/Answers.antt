use Rattle.std.proofs.Common.{◌≡◌, ◌∙◌, Some, None, sym, refl}
use Rattle.std.specs.Prelude.{find}
use Rattle.kernel_types.specs.{Terms.is_own, declared.object.CachedObj.CachedObj}
use Rattle.host_tables.proofs.Owned.{find-own}
use Rattle.host_tables.proofs.tables.Tables.cache_get.Goals as goal

pub returns-in_ok-cached-in-Some : goal.returns-in_ok-cached-in-Some
returns-in_ok-cached-in-Some c =
    let found : find (λ (x : CachedObj). is_own c.args.att.now x.tag) c.args.self.now.cached
    ≡ Some c.in-Some.entry.now =
    rw (← c.self.view_is)
    (sym (find-own (λ (x : CachedObj). x.tag) c.args.att.now c.self.inside.cached) ∙ sym c.in-Some.ensures) in
    rw (found, c.in_ok-cached-in-Some.ensures) refl

pub returns-in-None : goal.returns-in-None
returns-in-None c =
    let none : find (λ (x : CachedObj). is_own c.args.att.now x.tag) c.args.self.now.cached ≡ None =
    rw (← c.self.view_is)
    (sym (find-own (λ (x : CachedObj). x.tag) c.args.att.now c.self.inside.cached) ∙ sym c.in-None.ensures) in
    rw none refl
