-- What every call of a GC lowers: m is the most owners that a sweep can name.
use Rattle.gc_sweep.proofs.Names.{ℕ, ◌+◌, ◌*◌, Bool, List, [], ◌∷◌, length, filter, Host, Tag, Job, Sweep, Work}

-- a sweep asks for the owners, and makes its steps for each
abbrev pub sweep_weight : ℕ → Sweep → ℕ
sweep_weight m s = 1 + m * (1 + length s.more)

abbrev pub sweeps_weight : ℕ → List Sweep → ℕ
sweeps_weight m [] = 0
sweeps_weight m (s ∷ ss) = sweep_weight m s + sweeps_weight m ss

-- a step for the owner at hand, and those that are left
abbrev pub jobs_weight : List Job → ℕ
jobs_weight [] = 0
jobs_weight (j ∷ js) = 1 + length j.more + jobs_weight js

-- how many objects of the five kinds have a tag that passes
abbrev pub total : (Tag → Bool) → Host → ℕ
total p h =
    length (filter (λ l. p l.tag) h.links)
    + length (filter (λ r. p r.tag) h.rules)
    + length (filter (λ s. p s.tag) h.settings)
    + length (filter (λ l. p l.tag) h.leases)
    + length (filter (λ c. p c.tag) h.cached)

abbrev pub weight : ℕ → (Tag → Bool) → List Job → List Sweep → Host → ℕ
weight m p js ss h = sweeps_weight m ss + jobs_weight js + total p h

-- ---- the calls that are left, by the objects of any host

-- the objects of a host that are deleted one by one
abbrev pub objects_in : Host → ℕ
objects_in host = length host.links + length host.rules + length host.settings + length host.leases + length host.cached

-- a sweep names no more owners than there are objects, and each object is deleted once
abbrev pub collection_left : Work → Host → ℕ
collection_left work host = sweeps_weight (objects_in host) work.sweeps + jobs_weight work.jobs + objects_in host
