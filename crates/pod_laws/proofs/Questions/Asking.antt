-- Questions that are asked one after another, until one is denied.
use Rattle.pod_laws.proofs.Names.{◌≡◌, ℕ, Bool, true, false, List, [], ◌∷◌, ◌++◌, refl, sym, ◌∙◌, ap, subst}
use Rattle.pod_laws.proofs.Names.{append_assoc, arith, false_from_ne_true, append-nil, list_all, apply, is_fault, Call}
use Rattle.pod_laws.proofs.Names.{HasObj, PoolFree, Has, Host, list_all-push, list_any-append_none}
use Rattle.pod_laws.proofs.Names.{list_any-append_right, State, Asking, Over, asking, at_question, Cause, Ending, Added}
use Rattle.pod_laws.proofs.Names.{Yes, Skipped, Versions, Refused, Question, Entry}
use Rattle.pod_laws.specs.{Answers.EndsByTest, Granted.{EndsByDenied, IsFirstDenied, grants, is_yes}, Moments.has_fault}
use Rattle.pod_laws.proofs.Tests.{first-fails}

-- ---- the reply to a question

-- the kernel answers with a truth value
abbrev pub tells : Call → Bool
tells (HasObj probe) = true
tells (PoolFree network set) = true
tells _ = false

pub told-reply : (host : Host) (call : Call) → tells call ≡ true
    → (apply host call).1 ≡ Has (is_yes (apply host call).1)
told-reply host (HasObj probe) is = refl
told-reply host (PoolFree network set) is = refl
told-reply host _ is = cc

-- ---- while they are asked

-- these come first of all, and are granted
pub record HasAsked (host : Host) (all : List Question) (left : List Question) : Type 0 where
  pub past : List Question
  pub are : all ≡ past ++ left
  pub granted : list_all (grants host) past ≡ true

abbrev pub EndsAsked : Host → List Question → Ending → Type 0
EndsAsked host all Yes = list_all (grants host) all ≡ true
EndsAsked host all (Refused cause) = (question : Question) × IsFirstDenied host all question × (question.lack ≡ cause)
EndsAsked host all Added = ⊥
EndsAsked host all (Skipped skip) = ⊥
EndsAsked host all Versions = ⊥

abbrev pub IsAsking : Host → List Question → State → Type 0
IsAsking host all (Asking next left) = HasAsked host all (next ∷ left)
IsAsking host all (Over ending given) = (given ≡ []) × EndsAsked host all ending
IsAsking host all _ = ⊥

pub asked-all : (host : Host) (all left : List Question) → HasAsked host all left → IsAsking host all (asking left)
asked-all host all [] a = (refl, ap (list_all (grants host)) (a.are ∙ append-nil a.past) ∙ a.granted)
asked-all host all (q ∷ qs) a = a

pub asked-none : (host : Host) (all : List Question) → HasAsked host all all
asked-none host all = record { past = []; are = refl; granted = refl }

asked-has : (host : Host) (all : List Question) (number : ℕ) (q : Question) (qs : List Question) (b : Bool)
    → grants host q ≡ b → HasAsked host all (q ∷ qs) → IsAsking host all (at_question number q qs (Has b))
asked-has host all number q qs true is a =
    asked-all host all qs (record {
      past = a.past ++ q ∷ [];
      are = a.are ∙ sym (append_assoc a.past (q ∷ []) qs);
      granted = list_all-push (grants host) a.past q a.granted is;
    })
asked-has host all number q qs false is a =
    (refl, (q, record { past = a.past; later = qs; are = a.are; pass = a.granted; fails = is }, refl))

pub asked-reply : (host : Host) (all : List Question) (number : ℕ) (q : Question) (qs : List Question)
    → tells q.call ≡ true → HasAsked host all (q ∷ qs)
    → IsAsking host all (at_question number q qs (apply host q.call).1)
asked-reply host all number q qs is a =
    subst (λ r. IsAsking host all (at_question number q qs r)) (sym (told-reply host q.call is))
    (asked-has host all number q qs (grants host q) refl a)

-- ---- all granted, or a first one denied

denied-some : (host : Host) (all : List Question) (q : Question) → IsFirstDenied host all q
    → list_all (grants host) all ≡ false
denied-some host all q d = false_from_ne_true (list_all (grants host) all) (first-fails (grants host) all q d)

-- so it ends by a test that is whether all are granted
pub by-asked : (host : Host) (questions : List Question) (IsLack : Cause → Type 0) (test : Bool) (ending : Ending)
    → list_all (grants host) questions ≡ test
    → ((question : Question) → IsFirstDenied host questions question → IsLack question.lack)
    → EndsAsked host questions ending → EndsByTest test ending (EndsByDenied host questions IsLack ending)
by-asked host questions IsLack test Yes same kind ends =
    subst (λ b. EndsByTest b Yes (EndsByDenied host questions IsLack Yes)) (sym ends ∙ same) refl
by-asked host questions IsLack test (Refused cause) same kind ends =
    let denied : EndsByDenied host questions IsLack (Refused cause) =
    record { question = ends.0; first = ends.1; lack = kind ends.0 ends.1; ending_is = ap Refused (sym ends.2) } in
    subst (λ b. EndsByTest b (Refused cause) (EndsByDenied host questions IsLack (Refused cause)))
    (sym (denied-some host questions ends.0 ends.1) ∙ same) denied
by-asked host questions IsLack test Added same kind ends = absurd ends
by-asked host questions IsLack test (Skipped skip) same kind ends = absurd ends
by-asked host questions IsLack test Versions same kind ends = absurd ends

-- ---- entries without a fault

pub no_fault-more : (es : List Entry) (e : Entry) → has_fault es ≡ false → is_fault e.reply ≡ false
    → has_fault (es ++ e ∷ []) ≡ false
no_fault-more es e no_fault h = list_any-append_none (λ x. is_fault x.reply) es (e ∷ []) no_fault (grind (arith, h))

pub fault-last : (es : List Entry) (e : Entry) → is_fault e.reply ≡ true → has_fault (es ++ e ∷ []) ≡ true
fault-last es e h = list_any-append_right (λ x. is_fault x.reply) es (e ∷ []) (grind (arith, h))
