use Rattle.std.proofs.Common.{◌≡◌, ◌∙◌, ap, sym, Some, None, false, rules}
use Rattle.std.specs.{Option.option_map_or, Prelude.find}
use Rattle.kernel_types.specs.{Keys.is_same_link, Terms.{is_at, is_own}, declared.object.Link.Link}
use Rattle.kernel_types.proofs.TouchRemoval.{one_place}
use Rattle.host_tables.proofs.Free.{any-both}
use Rattle.host_tables.proofs.tables.Tables.has_own_at.Goals as goal

pub returns-in-Some : goal.returns-in-Some
returns-in-Some c =
    let key = c.args.key.now in
    let found : find (is_at key.ns key.name) c.args.self.now.links ≡ Some c.in-Some.link.now = search rules in
    c.is_own.ensures
    ∙ sym (any-both (λ a b. is_same_link b a) (is_at key.ns key.name) (λ (l : Link). is_own c.args.att.now l.tag)
    (one_place key.ns key.name) c.args.self.now.links c.requires.links.keys
    ∙ ap (λ o. option_map_or (λ (l : Link). is_own c.args.att.now l.tag) o false) found)

pub returns-in-None : goal.returns-in-None
returns-in-None c =
    let key = c.args.key.now in
    let found : find (is_at key.ns key.name) c.args.self.now.links ≡ None = search rules in
    sym (any-both (λ a b. is_same_link b a) (is_at key.ns key.name) (λ (l : Link). is_own c.args.att.now l.tag)
    (one_place key.ns key.name) c.args.self.now.links c.requires.links.keys
    ∙ ap (λ o. option_map_or (λ (l : Link). is_own c.args.att.now l.tag) o false) found)
