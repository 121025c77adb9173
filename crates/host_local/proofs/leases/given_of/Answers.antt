use Rattle.std.proofs.Common.{◌≡◌, ◌∙◌, ◌++◌, inl, inr, List, [], ◌∷◌, length, refl, sym, ap, append-nil}
use Rattle.cni_addr.specs.declared.{address.Addr.Addr, range.RangeSet.RangeSet}
use Rattle.host_local.specs.Leases.{given_of}
use Rattle.host_local.proofs.leases.given_of.Goals as goal

no_set-given : (ss : List RangeSet) (addrs : List Addr) → length ss ≡ 0 → given_of ss addrs ≡ []
no_set-given [] addrs none = refl
no_set-given (s ∷ ss) addrs none = absurd cc

no_addr-given : (ss : List RangeSet) (addrs : List Addr) → length addrs ≡ 0 → given_of ss addrs ≡ []
no_addr-given [] addrs none = refl
no_addr-given (s ∷ ss) [] none = refl
no_addr-given (s ∷ ss) (a ∷ addrs) none = absurd cc

-- no set or no address is left, so nothing is given any more
pub returns : goal.returns
returns c =
    sym (append-nil _)
    ∙ ap (λ rest. c.loop-set.given.items ++ rest)
    (sym (elim c.in-None.ensures.steps [ inl e ↦ no_set-given _ _ e.1.0 | inr e ↦ no_addr-given _ _ e.1.0 ]))
    ∙ c.loop-set.invariant
