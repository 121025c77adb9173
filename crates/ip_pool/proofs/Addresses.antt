-- Equal addresses are one address, and what holds of each member of a list holds of each address that is in it.
use Rattle.std.proofs.{Common.{◌≡◌, ℕ, true, arith}, lemmas.Bool.Decides.nat_tests}
use Rattle.cni_addr.specs.{Codes.family_eq, Equal.addr_eq, declared.address.{Addr.Addr, Family.Family}}
use Rattle.cni_addr.proofs.Networks.{family_eq-true}

same-fields : (f g : Family) (m n : ℕ) → f ≡ g → m ≡ n
    → let a : Addr = record { family = f; bits = m } in let b : Addr = record { family = g; bits = n } in a ≡ b
same-fields f g m n e d = cc

pub same-address : (a b : Addr) → addr_eq a b ≡ true → a ≡ b
same-address a b h =
    let families : family_eq a.family b.family ≡ true = grind (arith, nat_tests) in
    let f : a.family ≡ b.family = family_eq-true a.family b.family families in
    let n : a.bits ≡ b.bits = grind (arith, nat_tests) in
    same-fields a.family b.family a.bits b.bits f n

pub addr_eq-itself : (a : Addr) → addr_eq a a ≡ true
addr_eq-itself a = grind (arith, nat_tests)
