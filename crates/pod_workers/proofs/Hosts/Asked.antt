-- Each question of a CHECK or a STATUS looks for an object, or asks for a pool of the list.
use Rattle.pod_workers.proofs.Names.{◌≡◌, ℕ, ◌+◌, List, [], ◌∷◌, ◌++◌, map, length, Option, Some, None, slice_get, refl}
use Rattle.pod_workers.proofs.Names.{sym, ◌∙◌, ap, append_assoc, AllByRecursion, RangeSet, Cached, Call, HasObj}
use Rattle.pod_workers.proofs.Names.{PoolFree, NetList, Command, Share, Question, check_questions, status_questions}
use Rattle.pod_workers.proofs.Names.{bridge_of, sets_of}
use Rattle.cni_addr.specs.declared.mac.Mac.{Mac}
use Rattle.cni_result.specs.declared.result.Interface.{Interface}
use Rattle.kernel_types.specs.declared.rule.Rule.{Rule}
use Rattle.cni_errors.specs.ObjectQuestions.{address_question, lease_question, link_question, route_question}
use Rattle.cni_errors.specs.ObjectQuestions.{rule_questions, setting_question}
use Rattle.verb_questions.specs.Questions.{bridge_by_mac, bridge_questions, cached_share, first_interface}
use Rattle.verb_questions.specs.Questions.{master_questions, pool_questions, share_questions}
use Rattle.plugin_chain.specs.Wanted.{master_of}
use Rattle.pod_workers.proofs.Lists.Each.{each-map}
use Rattle.kernel_types.proofs.ListLemmas.{slice_get-middle, each-append}

-- it looks for an object, or asks for one of the list's pools
abbrev pub IsQuestionOf : NetList → Call → Type 0
IsQuestionOf list (HasObj probe) = Unit {0}
IsQuestionOf list (PoolFree network set) = (number : ℕ) × (slice_get (sets_of list) number ≡ Some set)
IsQuestionOf list _ = ⊥

abbrev pub IsAskedOf : NetList → Question → Type 0
IsAskedOf list question = IsQuestionOf list question.call

abbrev pub AreQuestionsOf : NetList → List Question → Type 0
AreQuestionsOf list questions = AllByRecursion (IsAskedOf list) questions

-- ---- a CHECK

asked-rules : (list : NetList) (number : ℕ) (rules : List Rule) → AreQuestionsOf list (rule_questions number rules)
asked-rules list number [] = tt
asked-rules list number (r ∷ rs) = (tt, asked-rules list (number + 1) rs)

asked-share : (list : NetList) (s : Share) → AreQuestionsOf list (share_questions s)
asked-share list s =
    each-append (IsAskedOf list) (map link_question s.links) _
    (each-map (IsAskedOf list) link_question (λ x. tt) s.links)
    (each-append (IsAskedOf list) (map address_question s.addresses) _
    (each-map (IsAskedOf list) address_question (λ x. tt) s.addresses)
    (each-append (IsAskedOf list) (map route_question s.routes) _
    (each-map (IsAskedOf list) route_question (λ x. tt) s.routes)
    (each-append (IsAskedOf list) (rule_questions 1 s.rules) _ (asked-rules list 1 s.rules)
    (each-append (IsAskedOf list) (map setting_question s.settings) (map lease_question s.leases)
    (each-map (IsAskedOf list) setting_question (λ x. tt) s.settings)
    (each-map (IsAskedOf list) lease_question (λ x. tt) s.leases)))))

asked-by_mac : (list : NetList) (name : List ℕ) (mac : Option Mac) → AreQuestionsOf list (bridge_by_mac name mac)
asked-by_mac list name None = tt
asked-by_mac list name (Some mac) = (tt, tt)

asked-first : (list : NetList) (interfaces : List Interface) → AreQuestionsOf list (first_interface interfaces)
asked-first list [] = tt
asked-first list (i ∷ is) = asked-by_mac list i.name i.mac

asked-bridge : (list : NetList) (bridge : Option (List ℕ)) (interfaces : List Interface)
    → AreQuestionsOf list (bridge_questions bridge interfaces)
asked-bridge list None interfaces = tt
asked-bridge list (Some bridge) interfaces = asked-first list interfaces

pub check-asks : (list : NetList) (c : Command) (cached : Cached) → AreQuestionsOf list (check_questions list c cached)
unfolding check_questions
check-asks list c cached =
    each-append (IsAskedOf list) (bridge_questions (bridge_of list.first) cached.result.interfaces)
    (share_questions (cached_share list c cached))
    (asked-bridge list (bridge_of list.first) cached.result.interfaces)
    (asked-share list (cached_share list c cached))

-- ---- a status

asked-pools : (list : NetList) (network : List ℕ) (number : ℕ) (past sets : List RangeSet) → sets_of list ≡ past ++ sets
    → AreQuestionsOf list (pool_questions network number sets)
asked-pools list network number past [] all = tt
asked-pools list network number past (s ∷ ss) all = (
  (length past, ap (λ xs. slice_get xs (length past)) all ∙ slice_get-middle past ss s),
  asked-pools list network (number + 1) (past ++ s ∷ []) ss (all ∙ sym (append_assoc past (s ∷ []) ss)),
)

asked-master : (list : NetList) (master : Option (List ℕ)) → AreQuestionsOf list (master_questions master)
asked-master list None = tt
asked-master list (Some master) = (tt, tt)

pub status-asks : (list : NetList) (c : Command) → AreQuestionsOf list (status_questions list c)
unfolding status_questions
status-asks list c =
    each-append (IsAskedOf list) (pool_questions c.network 0 (sets_of list)) (master_questions (master_of list.first))
    (asked-pools list c.network 0 [] (sets_of list) refl) (asked-master list (master_of list.first))
