use Rattle.pod_workers.proofs.InOrder.FileOrder.{file_order_stepped}
use Rattle.pod_workers.proofs.laws.file_order_is_kept.Goals as goal

pub returns : goal.returns
returns c = file_order_stepped
