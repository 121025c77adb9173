-- What a candidate of the only set means is given for that set.
use Rattle.std.proofs.{Common.{◌≡◌, true, Option, Some, None, ap, ◌∙◌, arith}, lemmas.Option.none-some}
use Rattle.std.specs.Prelude.{find, option_map}
use Rattle.cni_addr.specs.declared.{address.Addr.Addr, range.{Range.Range, RangeSet.RangeSet}}
use Rattle.ip_pool.specs.NextAddress.{is_between, is_candidate}
use Rattle.kernel_types.specs.declared.call.Given.{Given}
use Rattle.host_local.specs.Leases.{given_by, given_by_set}
use Rattle.exec_protocol.specs.Work.{IsGivenBy}

-- what an address means by a range has that address
same_address : (addr : Addr) (g : Given) (found : Option Range) → option_map (given_by addr) found ≡ Some g
    → g.address.addr ≡ addr
same_address addr g None h = absurd (none-some g h)
same_address addr g (Some r) h = grind (arith, h)

pub is_given : (set : RangeSet) (addr : Addr) (g : Given) → is_candidate set addr ≡ true
    → given_by_set set addr ≡ Some g → IsGivenBy set g
is_given set addr g candidate given =
    let same = same_address addr g (find (is_between addr) set.ranges) given in
    record {
      candidate = ap (λ a. is_candidate set a) same ∙ candidate;
      given = ap (λ a. given_by_set set a) same ∙ given;
    }
