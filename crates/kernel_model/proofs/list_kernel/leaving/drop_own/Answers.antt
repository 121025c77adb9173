use Rattle.std.proofs.Common.{not, sym, ap, ◌∙◌}
use Rattle.std.specs.Prelude.{filter}
use Rattle.kernel_types.specs.{Apply.Calls.goes_with, Terms.is_own}
use Rattle.kernel_types.proofs.{ListLemmas.filter-without_first_of, Removal.goes_with-itself}
use Rattle.kernel_model.proofs.list_kernel.leaving.drop_own.Goals as goal

pub returns-in-Some : goal.returns-in-Some
returns-in-Some c = λ link found.
    c.drop_links.ensures
    ∙ ap (λ ls. filter (λ l. not (goes_with c.in-Some.link.ns c.in-Some.link.name l)) ls) c.take_own.ensures.left
    ∙ filter-without_first_of (λ l. is_own c.args.att.now l.tag) (λ v l. goes_with v.ns v.name l) goes_with-itself
    c.args.links.now.items c.in-Some.link link (sym c.in-Some.ensures.found) found
