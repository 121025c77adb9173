use Rattle.std.proofs.Common.{◌≡◌, ◌+◌, ◌-◌, ◌<◌, false, ◌||◌, ap, sym, ◌∙◌, arith}
use Rattle.std.specs.Vec.{vec_capacity}
use Rattle.cni_addr.specs.Equal.{addr_eq}
use Rattle.ip_pool.specs.Runs.{addresses_of, are_runs, is_in_runs, size_of}
use Rattle.ip_pool.proofs.{RunMembers.{taken-runs, addresses-ascend}, RunPlaces.{length-le-size, each-is_run}}
use Rattle.ip_pool.proofs.RunsJoined.{with_addr-members, with_addr-size, with_addr-runs}
use Rattle.ip_pool.proofs.addr_runs.AddrRuns.add.Goals as goal

pub add_addr-requires-clause-room : goal.add_addr-requires-clause-room
add_addr-requires-clause-room c =
    let room : 0 < vec_capacity c.self.inside.runs - c.self.inside.count = rw (← c.self.view_is) at c.requires.room in
    let places = length-le-size c.self.inside.runs.items (each-is_run c.self.inside.runs.items c.self.invariant.runs) in
    omega (arith, c.self.invariant.counted)

pub invariant_of-self : goal.invariant_of-self
invariant_of-self c =
    let rs = c.self.inside.runs.items in
    let a = c.args.addr.now in
    let room : 0 < vec_capacity c.self.inside.runs - c.self.inside.count = rw (← c.self.view_is) at c.requires.room in
    let absent : is_in_runs a rs ≡ false = sym (taken-runs a rs) ∙ (rw (← c.self.view_is) at c.requires.absent) in
    let size : size_of c.add_addr.new.runs.items ≡ size_of rs + 1 =
    ap size_of c.add_addr.ensures.items ∙ with_addr-size a rs (each-is_run rs c.self.invariant.runs) in
    record {
      runs = ap are_runs c.add_addr.ensures.items ∙ with_addr-runs a rs c.self.invariant.runs absent;
      counted = omega (arith, c.self.invariant.counted);
      placed = omega (arith, c.add_addr.ensures.capacity);
    }

pub returns-clause-members : goal.returns-clause-members
returns-clause-members c =
    let rs = c.self.inside.runs.items in
    let added = c.args.addr.now in
    let taken : c.args.self.now.addresses ≡ addresses_of rs = ap (λ s. s.addresses) (sym c.self.view_is) in
    λ a. taken-runs a c.add_addr.new.runs.items ∙ ap (is_in_runs a) c.add_addr.ensures.items
    ∙ with_addr-members a added rs (each-is_run rs c.self.invariant.runs)
    ∙ rw taken (ap (λ b. addr_eq a added || b) (sym (taken-runs a rs)))

pub returns-clause-ascends : goal.returns-clause-ascends
returns-clause-ascends c =
    let rs = c.self.inside.runs.items in
    let a = c.args.addr.now in
    let absent : is_in_runs a rs ≡ false = sym (taken-runs a rs) ∙ (rw (← c.self.view_is) at c.requires.absent) in
    addresses-ascend c.add_addr.new.runs.items
    (ap are_runs c.add_addr.ensures.items ∙ with_addr-runs a rs c.self.invariant.runs absent)
