use Rattle.plugin_session.proofs.Names.{◌≡◌, ℕ, Option, None, Some, length, slice_get, take}
use Rattle.plugin_session.proofs.Numbers.{AreNumberedTo, at_names}
use Rattle.plugin_session.proofs.attachments.number_attachments.Given as goal

abbrev pub invariant-loop-task : goal.invariant-loop-task
invariant-loop-task l = record {
  numbered : AreNumberedTo (take l.task-index l.tasks) l.numbers.items (length l.last_rows.items) (at_names l.known);
  none : (k : ℕ) (place : Option ℕ) → slice_get l.last_rows.items k ≡ Some place → place ≡ None;
}
