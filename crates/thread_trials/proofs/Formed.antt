-- One well-formed list alone.
use Rattle.std.proofs.{Common.{[], ◌∷◌}, lemmas.List.Elements.{All-cons, All-nil}}
use Rattle.std.specs.List.{All}
use Rattle.net_conf.specs.{WellFormed.IsWellFormedList, declared.list.NetList.NetList}

pub one_is_formed : (list : NetList) → IsWellFormedList list → All IsWellFormedList (list ∷ [])
one_is_formed list formed = All-cons IsWellFormedList list [] formed (All-nil IsWellFormedList)
