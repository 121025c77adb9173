use Rattle.std.proofs.{Common.{◌≡◌, ◌∙◌, List, [], sym, ap, rules, Some, None}, lemmas.List.Sums.fold_push}
use Rattle.std.specs.List.{filter_map}
use Rattle.cni_addr.specs.Lists.{each_key_once, push_unless_there}
use Rattle.kernel_types.specs.{Apply.Calls.owner_in, Equal.att_eq, declared.object.Att.Att}
use Rattle.kernel_model.proofs.TaggedOwners.{owners-more, owners-same}
use Rattle.kernel_model.proofs.owners.add_owner_in.Goals as goal

pub returns-in_ok-add_owner : goal.returns-in_ok-add_owner
returns-in_ok-add_owner c = λ tags were.
    let owner : owner_in c.args.network.now c.args.tag.now ≡ Some c.in-Some.att.now = search rules in
    let so_far : List Att = filter_map (owner_in c.args.network.now) tags in
    c.in_ok-add_owner.ensures
    ∙ ap (λ owners. push_unless_there att_eq owners c.in-Some.att.now) were
    ∙ sym (fold_push (push_unless_there att_eq) [] so_far c.in-Some.att.now)
    ∙ ap (each_key_once att_eq) (sym (owners-more c.args.network.now tags c.args.tag.now c.in-Some.att.now owner))

pub returns-in_default : goal.returns-in_default
returns-in_default c = λ tags were.
    let none : owner_in c.args.network.now c.args.tag.now ≡ None = search rules in
    were ∙ ap (each_key_once att_eq) (sym (owners-same c.args.network.now tags c.args.tag.now none))
