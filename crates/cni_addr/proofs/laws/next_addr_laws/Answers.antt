use Rattle.cni_addr.proofs.Networks.{none_just_at_end, next_is_higher}
use Rattle.cni_addr.proofs.laws.next_addr_laws.Goals as goal

pub returns : goal.returns
returns c = record { none = none_just_at_end; higher = next_is_higher }
