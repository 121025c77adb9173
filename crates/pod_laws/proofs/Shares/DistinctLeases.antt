-- The leases of one attachment are of distinct addresses in a sound host, which the host at a command's last entry is.
use Rattle.pod_laws.proofs.Names.{◌≡◌, ℕ, Bool, true, List, [], ◌∷◌, ◌++◌, map, refl, sym, ◌∙◌, ap, subst, inl, inr}
use Rattle.pod_laws.proofs.Names.{arith, cases_Bool, nat_list_eq_equiv, list_any, ◌&&◌, bytes_eq, distinct, Addr}
use Rattle.pod_laws.proofs.Names.{addr_eq, IsSound, is_own, lease_of, Att, Host, Lease, list_any-map}
use Rattle.pod_laws.proofs.Names.{list_any-same_test, share_of, Legal, World, after, entry_of, host_of, after_entry}
use Rattle.pod_laws.proofs.Names.{Entry, Plan, after-append}
use Rattle.kernel_types.proofs.ListLemmas.{distinct-filter}
use Rattle.pod_laws.specs.Moments.{host_at_end, is_of, until_last}
use Rattle.pod_laws.proofs.Histories.{Entries.{until_last-own, until_last-other}, Steps.{by-entries, sound-entered}}

distinct-of-map : {X Y : Type 0} (same : Y → Y → Bool) (f : X → Y) (test : X → X → Bool)
    → ((x y : X) → same (f x) (f y) ≡ test x y) → (xs : List X) → distinct same (map f xs) ≡ distinct test xs
distinct-of-map same f test e [] = refl
distinct-of-map same f test e (x ∷ xs) =
    let again : list_any (same (f x)) (map f xs) ≡ list_any (test x) xs =
    list_any-map (same (f x)) f xs ∙ list_any-same_test (λ y. same (f x) (f y)) (test x) (e x) xs in
    grind (arith, again, distinct-of-map same f test e xs)

same_lease : (att : Att) (a b : Addr) → (bytes_eq att.network att.network && addr_eq a b) ≡ addr_eq a b
same_lease att a b = grind (arith, nat_list_eq_equiv.refl att.network)

-- in a sound host the leases of one attachment are of distinct addresses
pub leases-distinct : (att : Att) (host : Host) (addrs : List Addr) → IsSound host
    → (share_of att host).leases ≡ map (lease_of att) addrs → distinct addr_eq addrs ≡ true
leases-distinct att host addrs sound is =
    let same : Lease → Lease → Bool = λ a b. bytes_eq a.network b.network && addr_eq a.addr b.addr in
    sym (distinct-of-map same (lease_of att) addr_eq (same_lease att) addrs) ∙ ap (distinct same) (sym is)
    ∙ distinct-filter same (λ l. is_own att l.tag) host.leases sound.leases.keys

-- the host at a command's last entry is sound
abbrev AllSound : Plan → List Entry → Type 0
AllSound p h = (m : ℕ) → IsSound (after p.pods.opening (until_last m h))

sound-next : (w : World) (e : Entry) → IsSound (after_entry (host_of w) e) → AllSound w.plan w.history
    → AllSound w.plan (w.history ++ e ∷ [])
sound-next w e sound was = λ m.
    let opening = w.plan.pods.opening in
    elim (cases_Bool (is_of m e)) [
      | inl own ↦
          subst IsSound
          (sym (ap (after opening) (until_last-own m w.history e own) ∙ after-append opening w.history e)) sound
      | inr other ↦ subst (λ l. IsSound (after opening l)) (sym (until_last-other m w.history e other)) (was m)
    ]

pub sound-at_end : (w : World) → Legal w → (n : ℕ) → IsSound (host_at_end w n)
sound-at_end w legal =
    by-entries AllSound (λ p well m. well.pods.opening.sound) (λ v n c list call faulty on was.
    sound-next v (entry_of (host_of v) n call faulty) (sound-entered v n call faulty on.legal on.allowed) was)
    (λ v n c call faulty on was.
    sound-next v (entry_of (host_of v) n call faulty) (sound-entered v n call faulty on.legal on.allowed) was)
    w legal
