use Rattle.std.proofs.Common.{List, sym, ap, ap₂, ◌∙◌}
use Rattle.serde_json.specs.{Data.array, View.{view, items_view}, declared.value.Value.Value}
use Rattle.serde_json.proofs.Views.{view-Array}
use Rattle.net_conf.specs.Accepted.{accepts, is_empty_list}
use Rattle.net_conf.proofs.ValueLemmas.{empty_items}
use Rattle.net_conf.proofs.accepted.is_accepted.Goals as goal

pub returns-in-EmptyList-Array : goal.returns-in-EmptyList-Array
returns-in-EmptyList-Array c =
    let list = c.in-EmptyList-Array.list in
    c.is_empty.ensures ∙ sym (empty_items c.as_slice.result.now)
    ∙ ap (λ (xs : List Value). is_empty_list (array (items_view xs))) c.as_slice.ensures.value
    ∙ sym (ap₂ accepts c.in-EmptyList-Array.is-0 (ap view c.in-EmptyList-Array.is-1 ∙ view-Array list))
