use Rattle.std.proofs.Common.{◌≡◌, ◌+◌, ◌-◌, true, false, cond, not, ◌&&◌, List, ap, sym, ◌∙◌, arith}
use Rattle.std.specs.Vec.{vec_capacity}
use Rattle.cni_addr.specs.{Equal.addr_eq, declared.address.Addr.Addr}
use Rattle.ip_pool.specs.{AddrSets.ascends, NextAddress.is_taken, RunEdits.without_addr, Runs.{addresses_of, are_runs}}
use Rattle.ip_pool.specs.{Runs.{is_in_runs, size_of}, declared.runs.Run.Run}
use Rattle.ip_pool.proofs.{RunMembers.{taken-runs, addresses-ascend}, RunsLeft.without_addr-absent}
use Rattle.ip_pool.proofs.RunsLeft.{without_addr-members, without_addr-size, without_addr-runs}
use Rattle.ip_pool.proofs.addr_runs.AddrRuns.remove.Goals as goal

-- what the list of addresses has then
members : (rs left : List Run) (taken : List Addr) (gone : Addr) → taken ≡ addresses_of rs → are_runs rs ≡ true
    → left ≡ without_addr gone rs → (a : Addr)
    → is_taken (addresses_of left) a ≡ (is_taken taken a && not (addr_eq a gone))
members rs left taken gone same runs items a =
    taken-runs a left ∙ ap (is_in_runs a) items ∙ without_addr-members a gone rs runs
    ∙ rw same (ap (λ b. b && not (addr_eq a gone)) (sym (taken-runs a rs)))

left-ascends : (rs left : List Run) (gone : Addr) → are_runs rs ≡ true → left ≡ without_addr gone rs
    → ascends (addresses_of left) ≡ true
left-ascends rs left gone runs items = addresses-ascend left (ap are_runs items ∙ without_addr-runs gone rs runs)

pub overflow_sub-self : goal.overflow_sub-self
overflow_sub-self c =
    let rs = c.self.inside.runs.items in
    let a = c.args.addr.now in
    let size : size_of c.remove_addr-found.new.runs.items + cond (is_in_runs a rs) 1 0 ≡ size_of rs =
    ap (λ l. size_of l + cond (is_in_runs a rs) 1 0) c.remove_addr-found.ensures.items
    ∙ without_addr-size a rs c.self.invariant.runs in
    let found : is_in_runs a rs ≡ true = sym c.remove_addr-found.ensures.found ∙ c.if-found.true in
    omega (arith, rw found at size, c.self.invariant.counted)

pub invariant_of-self : goal.invariant_of-self
invariant_of-self c =
    let rs = c.self.inside.runs.items in
    let a = c.args.addr.now in
    let size : size_of c.remove_addr-found.new.runs.items + cond (is_in_runs a rs) 1 0 ≡ size_of rs =
    ap (λ l. size_of l + cond (is_in_runs a rs) 1 0) c.remove_addr-found.ensures.items
    ∙ without_addr-size a rs c.self.invariant.runs in
    let found : is_in_runs a rs ≡ true = sym c.remove_addr-found.ensures.found ∙ c.if-found.true in
    let less = rw found at size in
    record {
      runs = ap are_runs c.remove_addr-found.ensures.items ∙ without_addr-runs a rs c.self.invariant.runs;
      counted = omega (arith, c.self.invariant.counted);
      placed = omega (arith, c.remove_addr-found.ensures.capacity, c.self.invariant.placed);
    }

pub invariant_of-self-else-found : goal.invariant_of-self-else-found
invariant_of-self-else-found c =
    let rs = c.self.inside.runs.items in
    let a = c.args.addr.now in
    let size : size_of c.remove_addr-found.new.runs.items + cond (is_in_runs a rs) 1 0 ≡ size_of rs =
    ap (λ l. size_of l + cond (is_in_runs a rs) 1 0) c.remove_addr-found.ensures.items
    ∙ without_addr-size a rs c.self.invariant.runs in
    let absent : is_in_runs a rs ≡ false = sym c.remove_addr-found.ensures.found ∙ c.if-found.false in
    let same = rw absent at size in
    record {
      runs = ap are_runs c.remove_addr-found.ensures.items ∙ without_addr-runs a rs c.self.invariant.runs;
      counted = omega (arith, c.self.invariant.counted);
      placed = omega (arith, c.remove_addr-found.ensures.capacity, c.self.invariant.placed);
    }

pub returns-then-found-clause-found : goal.returns-then-found-clause-found
returns-then-found-clause-found c =
    let rs = c.self.inside.runs.items in
    let taken : c.args.self.now.addresses ≡ addresses_of rs = ap (λ s. s.addresses) (sym c.self.view_is) in
    c.remove_addr-found.ensures.found ∙ sym (taken-runs c.args.addr.now rs)
    ∙ ap (λ l. is_taken l c.args.addr.now) (sym taken)

pub returns-then-found-clause-members : goal.returns-then-found-clause-members
returns-then-found-clause-members c =
    let taken : c.args.self.now.addresses ≡ addresses_of c.self.inside.runs.items =
    ap (λ s. s.addresses) (sym c.self.view_is) in
    members c.self.inside.runs.items c.remove_addr-found.new.runs.items c.args.self.now.addresses c.args.addr.now taken
    c.self.invariant.runs c.remove_addr-found.ensures.items

pub returns-then-found-clause-ascends : goal.returns-then-found-clause-ascends
returns-then-found-clause-ascends c =
    left-ascends c.self.inside.runs.items c.remove_addr-found.new.runs.items c.args.addr.now c.self.invariant.runs
    c.remove_addr-found.ensures.items

pub returns-then-found-clause-room : goal.returns-then-found-clause-room
returns-then-found-clause-room c =
    let rs = c.self.inside.runs.items in
    let a = c.args.addr.now in
    let size : size_of c.remove_addr-found.new.runs.items + cond (is_in_runs a rs) 1 0 ≡ size_of rs =
    ap (λ l. size_of l + cond (is_in_runs a rs) 1 0) c.remove_addr-found.ensures.items
    ∙ without_addr-size a rs c.self.invariant.runs in
    let found : is_in_runs a rs ≡ true = sym c.remove_addr-found.ensures.found ∙ c.if-found.true in
    let less = rw found at size in
    let room : c.args.self.now.room ≡ vec_capacity c.self.inside.runs - c.self.inside.count =
    ap (λ s. s.room) (sym c.self.view_is) in
    rw c.if-found.true
    (omega (arith, c.self.invariant.counted, c.self.invariant.placed, c.remove_addr-found.ensures.capacity))

pub returns-else-found-clause-found : goal.returns-else-found-clause-found
returns-else-found-clause-found c =
    let rs = c.self.inside.runs.items in
    let taken : c.args.self.now.addresses ≡ addresses_of rs = ap (λ s. s.addresses) (sym c.self.view_is) in
    c.remove_addr-found.ensures.found ∙ sym (taken-runs c.args.addr.now rs)
    ∙ ap (λ l. is_taken l c.args.addr.now) (sym taken)

pub returns-else-found-clause-members : goal.returns-else-found-clause-members
returns-else-found-clause-members c =
    let taken : c.args.self.now.addresses ≡ addresses_of c.self.inside.runs.items =
    ap (λ s. s.addresses) (sym c.self.view_is) in
    members c.self.inside.runs.items c.remove_addr-found.new.runs.items c.args.self.now.addresses c.args.addr.now taken
    c.self.invariant.runs c.remove_addr-found.ensures.items

pub returns-else-found-clause-ascends : goal.returns-else-found-clause-ascends
returns-else-found-clause-ascends c =
    left-ascends c.self.inside.runs.items c.remove_addr-found.new.runs.items c.args.addr.now c.self.invariant.runs
    c.remove_addr-found.ensures.items

pub returns-else-found-clause-absent : goal.returns-else-found-clause-absent
returns-else-found-clause-absent c =
    let absent : is_in_runs c.args.addr.now c.self.inside.runs.items ≡ false =
    sym c.remove_addr-found.ensures.found ∙ c.if-found.false in
    let same =
    c.remove_addr-found.ensures.items ∙ without_addr-absent c.args.addr.now c.self.inside.runs.items absent in
    λ gone. rw (same, c.remove_addr-found.ensures.capacity) c.self.view_is
