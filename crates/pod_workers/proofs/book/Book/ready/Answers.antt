use Rattle.pod_workers.proofs.Names.{◌≡◌, ◌+◌, ◌-◌, sym, ◌∙◌, ap, arith}
use Rattle.std.specs.Option.{option_copied}
use Rattle.pod_workers.specs.{Index.may_step_by, World.at_number}
use Rattle.pod_workers.proofs.{Books.ReadyByIndex.{place-answered, ready-nowhere, ready-tells}, Lists.Elements.numbered}
use Rattle.pod_workers.proofs.book.Book.ready.Goals as goal

pub overflow_sub-n : goal.overflow_sub-n
overflow_sub-n g c =
    let is : c.args.number ≡ (c.args.number - 1) + 1 =
    (numbered _ _ _ (sym c.at_number.ensures ∙ ap option_copied c.in-Some.is)).0 in
    omega arith

pub may_step-requires : goal.may_step-requires
may_step-requires g c =
    rw c.as_slice-in-Some.ensures.value
    (place-answered _ _ _ _ _ _ c.args.number c.self.invariant
    (ap (λ ps. at_number ps c.args.number) (sym c.as_slice.ensures.value)
    ∙ sym c.at_number.ensures
    ∙ ap option_copied c.in-Some.is))

pub returns-in-None : goal.returns-in-None
returns-in-None g c =
    ready-nowhere _ _ _ _ _ _ c.args.number c.self.invariant c.self.view_is
    (ap (λ ps. at_number ps c.args.number) (sym c.as_slice.ensures.value)
    ∙ sym c.at_number.ensures
    ∙ ap option_copied c.in-None.is)

pub returns-in-Some : goal.returns-in-Some
returns-in-Some g c =
    ready-tells c.may_step.result _ _ _ _ _ _ c.in-Some.place.now c.args.number c.self.invariant c.self.view_is
    (ap (λ ps. at_number ps c.args.number) (sym c.as_slice.ensures.value)
    ∙ sym c.at_number.ensures
    ∙ ap option_copied c.in-Some.is)
    (c.may_step.ensures
    ∙ ap (λ xs. may_step_by c.in-Some.place.now xs c.self.inside.round (c.args.number - 1))
    c.as_slice-in-Some.ensures.value)
