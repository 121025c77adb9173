use Rattle.std.proofs.Common.{◌≡◌, ◌∙◌, ap, sym, refl, true, false}
use Rattle.std.specs.{List.list_any, Prelude.is_some}
use Rattle.cni_addr.proofs.{Lists.is_some-find, Options.is_some-option_copied}
use Rattle.kernel_types.specs.{Terms.is_own, contracts.object.AttPartialEq.TheImpl.eq-value}
use Rattle.kernel_types.specs.declared.object.CachedObj.{CachedObj}
use Rattle.object_tables.specs.Rows.{owner_named}
use Rattle.host_tables.proofs.{Added.free-key, Owned.any-own}
use Rattle.host_tables.proofs.tables.Tables.cache_put.Goals as goal

pub returns-then-is_some-clause-ok : goal.returns-then-is_some-clause-ok
returns-then-is_some-clause-ok c =
    let any : c.is_some.result ≡ list_any (λ (x : CachedObj). is_own c.args.att.now x.tag) c.self.inside.cached =
    c.is_some.ensures
    ∙ is_some-option_copied c.find.result
    ∙ ap is_some c.find.ensures
    ∙ is_some-find _ c.self.inside.cached
    ∙ any-own (λ (x : CachedObj). x.tag) c.args.att.now c.self.inside.cached in
    let there : list_any (λ (x : CachedObj). is_own c.args.att.now x.tag) c.args.self.now.cached ≡ true =
    rw (← c.self.view_is) (sym any ∙ c.if-is_some.true) in
    rw (there, c.in_ok-copy.ensures) refl

pub push-requires-clause-key : goal.push-requires-clause-key
push-requires-clause-key c =
    let none =
    sym (is_some-find _ c.self.inside.cached)
    ∙ sym (ap is_some c.find.ensures)
    ∙ sym (is_some-option_copied c.find.result)
    ∙ sym c.is_some.ensures
    ∙ c.if-is_some.false in
    free-key eq-value.it (λ (x : CachedObj). owner_named x.tag) c.self.inside.cached c.args.att.now c.in_ok-copy.field-0
    none c.in_ok-copy.ensures

pub returns-clause-ok : goal.returns-clause-ok
returns-clause-ok c =
    let any : c.is_some.result ≡ list_any (λ (x : CachedObj). is_own c.args.att.now x.tag) c.self.inside.cached =
    c.is_some.ensures
    ∙ is_some-option_copied c.find.result
    ∙ ap is_some c.find.ensures
    ∙ is_some-find _ c.self.inside.cached
    ∙ any-own (λ (x : CachedObj). x.tag) c.args.att.now c.self.inside.cached in
    let none : list_any (λ (x : CachedObj). is_own c.args.att.now x.tag) c.args.self.now.cached ≡ false =
    rw (← c.self.view_is) (sym any ∙ c.if-is_some.false) in
    rw (none, ← c.self.view_is) (rw (c.in_ok-push.ensures.ok, c.in_ok-cached.ensures, c.in_ok-copy.ensures) refl)
