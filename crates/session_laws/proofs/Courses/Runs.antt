-- What each entry of a run keeps holds after the run.
use Rattle.session_laws.proofs.Names.{◌≡◌, ℕ, ◌+◌, Bool, true, false, List, [], ◌∷◌, ◌++◌, Some, sym, ◌∙◌, ap, subst}
use Rattle.session_laws.proofs.Names.{append_assoc, append-nil, map-append, if◌then◌else◌, host_after, reply_to, State}
use Rattle.session_laws.proofs.Names.{leased_by, leases_in, next_call, Made, host_from, host_on, replies, apply, Call}
use Rattle.session_laws.proofs.Names.{Reply, Fault, Host, Command}
use Rattle.std.proofs.lemmas.List.Elements.{filter_map-append}
use Rattle.kernel_types.proofs.Replies.{IsReplyOf-apply}
use Rattle.session_laws.specs.Course.{Course, IsRunFrom, advance, state_from}
use Rattle.session_laws.proofs.Courses.Ready.{made_on}

-- ---- a run

-- what holds after some entries, in a state of the course and a host, holds after the next entry
abbrev pub Keeps : Course → Command → (List Made → State → Host → Type 0) → Type 0
Keeps co c P = (past : List Made) (number : ℕ) (s : State) (host : Host) (call : Call) (fault : Bool)
    → next_call c s ≡ Some call → P past s host
    → P (past ++ made_on host call fault ∷ []) (advance co number s (reply_to host call fault))
    (host_on host (made_on host call fault))

pub along : (co : Course) (c : Command) (faulty : ℕ → Bool) (P : List Made → State → Host → Type 0) → Keeps co c P
    → (past : List Made) (made : ℕ) (s : State) (host : Host) (es : List Made)
    → IsRunFrom co c faulty made s host es → P past s host
    → P (past ++ es) (state_from co made s (replies es)) (host_from host es)
along co c faulty P keeps past made s host [] run was = subst (λ l. P l s host) (sym (append-nil past)) was
along co c faulty P keeps past made s host (e ∷ es) run was =
    let Q : Reply → Type 0 = λ r.
    let next : Made = record { call = e.call; reply = r } in
    P (past ++ next ∷ []) (advance co (made + 1) s r) (host_on host next) in
    let now : Q e.reply = subst Q (sym run.1) (keeps past (made + 1) s host e.call (faulty made) run.0 was) in
    let next = advance co (made + 1) s e.reply in
    subst (λ l. P l (state_from co (made + 1) next (replies es)) (host_from (host_on host e) es))
    (append_assoc past (e ∷ []) es)
    (along co c faulty P keeps (past ++ e ∷ []) (made + 1) next (host_on host e) es run.2 now)

-- ---- one call

-- the host after a call that the kernel made
pub host-made : (host : Host) (call : Call) → host_after host call (apply host call).1 ≡ (apply host call).0
host-made host call = ap (λ b. if b then host else (apply host call).0) (IsReplyOf-apply host call).no_fault

-- what a call was that met no fault
pub replied : (host : Host) (call : Call) (fault : Bool) (r : Reply) → (r ≡ Fault → ⊥) → reply_to host call fault ≡ r
    → ((apply host call).1 ≡ r) × (host_on host (made_on host call fault) ≡ (apply host call).0)
replied host call true r not is = absurd (not (sym is))
replied host call false r not is = (is, host-made host call)

-- ---- leases

pub leases-push : (es : List Made) (e : Made)
    → leases_in (replies (es ++ e ∷ [])) ≡ leases_in (replies es) ++ leases_in (e.reply ∷ [])
leases-push es e =
    ap leases_in (map-append (λ (x : Made). x.reply) es (e ∷ []))
    ∙ filter_map-append leased_by (replies es) (e.reply ∷ [])

-- an entry that leased nothing
pub leases-same : (es : List Made) (e : Made) → leases_in (e.reply ∷ []) ≡ []
    → leases_in (replies (es ++ e ∷ [])) ≡ leases_in (replies es)
leases-same es e none =
    leases-push es e ∙ ap (λ l. leases_in (replies es) ++ l) none ∙ append-nil (leases_in (replies es))
