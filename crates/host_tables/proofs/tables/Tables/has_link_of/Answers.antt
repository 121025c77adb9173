use Rattle.std.proofs.Common.{◌≡◌, ◌∙◌, sym, Some, None}
use Rattle.std.specs.Prelude.{find}
use Rattle.kernel_types.specs.Terms.{is_at}
use Rattle.host_tables.proofs.Added.{tag-same, link-found, link-missed}
use Rattle.host_tables.proofs.tables.Tables.has_link_of.Goals as goal

pub returns-in-Some : goal.returns-in-Some
returns-in-Some c =
    let found : Some c.in-Some.link.now ≡ find (is_at c.args.ns.now c.args.name.now) c.args.self.now.links =
    rw (← c.in_ok-copy.ensures, ← c.in_ok-copy-2.ensures, ← c.self.view_is) c.in-Some.ensures in
    c.eq.ensures
    ∙ tag-same c.in-Some.link.now.tag c.args.tag.now
    ∙ link-found c.args.ns.now c.args.name.now c.args.tag.now c.args.self.now.links c.in-Some.link.now
    c.requires.sound.links.keys found

pub returns : goal.returns
returns c =
    let none : find (is_at c.args.ns.now c.args.name.now) c.args.self.now.links ≡ None =
    rw (← c.in_ok-copy.ensures, ← c.in_ok-copy-2.ensures, ← c.self.view_is) (sym c.in-None.ensures) in
    link-missed c.args.ns.now c.args.name.now c.args.tag.now c.args.self.now.links none
