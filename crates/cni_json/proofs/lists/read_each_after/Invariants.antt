use Rattle.std.proofs.Common.{◌≡◌, List, drop, Result}
use Rattle.serde_json.specs.{Data.Data, View.items_view}
use Rattle.cni_json.specs.{Each.each_after, Readers.IsReaderAfter}
use Rattle.cni_json.proofs.lists.read_each_after.Given as goal

-- those that were found, and all after them
abbrev pub invariant-loop-member : goal.invariant-loop-member
invariant-loop-member g l =
    (wanted : List _ → Data → Result _ _) → IsReaderAfter g.E.Refusal.is_out_of_memory g.R.Fn l.read wanted
    → each_after wanted l.found (items_view (drop l.member-index l.list))
    ≡ each_after wanted l.initial.found (items_view l.list)
