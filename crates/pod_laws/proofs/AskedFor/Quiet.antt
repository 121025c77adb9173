-- The calls that lease nothing.
use Rattle.pod_laws.proofs.Names.{◌≡◌, ℕ, Bool, true, false, List, [], ◌∷◌, Option, Some, None, refl, find, Addr, apply}
use Rattle.pod_laws.proofs.Names.{without_link, is_from_outside, is_own, has_named_ns, link_at, Call, HasObj, CacheGet}
use Rattle.pod_laws.proofs.Names.{OwnersOf, PoolFree, NsChange, Outside, DropLink, Flush, Kind, Reply, Done, NoNs}
use Rattle.pod_laws.proofs.Names.{NoLink, Taken, Empty, Leased, Gone, Has, Owners, Kept, Fault, Att, Host, Link}
use Rattle.pod_laws.proofs.Names.{by_test, leases_in, deletion, reply_to}
use Rattle.kernel_types.specs.declared.call.Change.{Change}
use Rattle.kernel_types.specs.declared.call.Kind.TheVariants as kinds
use Rattle.pod_laws.proofs.{Histories.States.is_question, Refused.Causes.IsPluginReply}

-- ---- calls of a run

pub plugin-no_lease : (r : Reply) → IsPluginReply r → leases_in (r ∷ []) ≡ []
plugin-no_lease Done may = refl
plugin-no_lease NoNs may = refl
plugin-no_lease NoLink may = refl
plugin-no_lease (Taken tag) may = refl
plugin-no_lease Fault may = refl
plugin-no_lease Empty may = refl
plugin-no_lease (Leased addr) may = absurd may
plugin-no_lease (Gone gone) may = refl
plugin-no_lease (Has has) may = refl
plugin-no_lease (Owners owners) may = refl
plugin-no_lease (Kept cached) may = refl

pub lease-no_lease : (r : Reply) → ((a : Addr) → r ≡ Leased a → ⊥) → leases_in (r ∷ []) ≡ []
lease-no_lease (Leased addr) not = absurd (not addr refl)
lease-no_lease _ not = refl

question-quiet : (k : Host) (call : Call) → is_question call ≡ true → leases_in ((apply k call).1 ∷ []) ≡ []
question-quiet k (HasObj probe) is = refl
question-quiet k (CacheGet att) is = refl
question-quiet k (OwnersOf network kind) is = refl
question-quiet k (PoolFree network set) is = refl
question-quiet k _ is = cc

pub question-no_lease : (k : Host) (call : Call) (faulty : Bool) → is_question call ≡ true
    → leases_in (reply_to k call faulty ∷ []) ≡ []
question-no_lease k call true is = refl
question-no_lease k call false is = question-quiet k call is

link-no_lease : (k : Host) (o : Option Link) → leases_in ((without_link k o).1 ∷ []) ≡ []
link-no_lease k None = refl
link-no_lease k (Some link) = refl

gone-no_lease : (k : Host) (att : Att) (kind : Kind) → leases_in ((apply k (deletion att kind)).1 ∷ []) ≡ []
gone-no_lease k att kinds.Links = link-no_lease k (find (λ l. is_own att l.tag) k.links)
gone-no_lease k att kinds.Rules = refl
gone-no_lease k att kinds.Settings = refl
gone-no_lease k att kinds.Leases = refl
gone-no_lease k att kinds.Cached = refl

pub deletion-no_lease : (k : Host) (att : Att) (kind : Kind) (faulty : Bool)
    → leases_in (reply_to k (deletion att kind) faulty ∷ []) ≡ []
deletion-no_lease k att kind true = refl
deletion-no_lease k att kind false = gone-no_lease k att kind

-- ---- changes from outside

namespace-quiet : (k : Host) (name : List ℕ) (add : Bool) → leases_in ((apply k (NsChange name add)).1 ∷ []) ≡ []
namespace-quiet k name true =
    by_test (λ (step : Host × Reply). leases_in (step.1 ∷ []) ≡ []) (has_named_ns k name) _ _ (λ _. refl) (λ _. refl)
namespace-quiet k name false =
    by_test (λ (step : Host × Reply). leases_in (step.1 ∷ []) ≡ []) (has_named_ns k name) _ _ (λ _. refl) (λ _. refl)

change-quiet : (k : Host) (change : Change) → leases_in ((apply k (Outside change)).1 ∷ []) ≡ []
change-quiet k (DropLink key) =
    by_test (λ (step : Host × Reply). leases_in (step.1 ∷ []) ≡ []) (has_named_ns k key.ns) _ _
    (λ _. link-no_lease k (link_at k key.ns key.name)) (λ _. refl)
change-quiet k (Flush table) = refl

outside-quiet : (k : Host) (call : Call) → is_from_outside call ≡ true → leases_in ((apply k call).1 ∷ []) ≡ []
outside-quiet k (NsChange name add) is = namespace-quiet k name add
outside-quiet k (Outside change) is = change-quiet k change
outside-quiet k _ is = cc

pub outside-no_lease : (k : Host) (call : Call) (faulty : Bool) → is_from_outside call ≡ true
    → leases_in (reply_to k call faulty ∷ []) ≡ []
outside-no_lease k call true is = refl
outside-no_lease k call false is = outside-quiet k call is
