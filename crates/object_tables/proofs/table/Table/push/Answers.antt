use Rattle.std.proofs.Common.{◌++◌, ◌∷◌, [], ◌∙◌, ap, not, if◌then◌else◌}
use Rattle.object_tables.proofs.Noted.{none-same}
use Rattle.object_tables.proofs.table.Table.push.Goals as goal

pub returns-clause-ok : goal.returns-clause-ok
returns-clause-ok g c =
    c.in_ok-push_unless_there.ensures.ok
    ∙ ap (λ b. if b then c.args.self.now ++ c.args.row ∷ [] else c.args.self.now)
    (c.in_ok-push_unless_there.ensures.new
    ∙ ap not (none-same g.K.PartialEq.eq g.T.Row.key_of c.args.self.now c.args.row c.requires.key))
