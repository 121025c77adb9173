use Rattle.pod_workers.proofs.Names.{sym, ◌∙◌}
use Rattle.pod_workers.proofs.Books.Positions.{scanned-found, scanned-more, scanned-none}
use Rattle.pod_workers.proofs.join.first_without_list.Goals as goal

pub returns-in-Some : goal.returns-in-Some
returns-in-Some c =
    scanned-found _ _ _ _ _ _ _ c.loop-commands.invariant c.loop-commands-test.true
    (c.as_slice-commands.ensures ∙ c.commands-item.is) (sym c.in-Some.ensures)

pub loop-commands-preserved : goal.loop-commands-preserved
loop-commands-preserved c =
    scanned-more _ _ _ _ _ _ c.loop-commands.invariant c.loop-commands-test.true
    (c.as_slice-commands.ensures ∙ c.commands-item.is) (sym c.without_list_in.ensures ∙ c.in_default.is)

pub returns : goal.returns
returns c = scanned-none _ _ _ _ c.loop-commands.invariant c.loop-commands-test.false
