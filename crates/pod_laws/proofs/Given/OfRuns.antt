-- What answers say, from what holds of the runs that came to them.
use Rattle.pod_laws.proofs.Names.{◌≡◌, ℕ, true, false, List, [], Some, slice_get, refl, sym, ◌∙◌, ap, subst, inl, inr}
use Rattle.pod_laws.proofs.Names.{◌⊎◌, both_ways, cases_Bool, none-some, list_all, distinct, Addr, AddResult, NetList}
use Rattle.pod_laws.proofs.Names.{is_of_network, Command, Verb, addr_eq, is_fault, IsSound, Call, Reply, Host, by_test}
use Rattle.pod_laws.proofs.Names.{Share, share_of, answer_of, mappings_of, is_granted, State, Collecting, Over}
use Rattle.pod_laws.proofs.Names.{leases_in, Work, att_of, Answer, Cause, Ending, Added, Yes, Skipped, Versions}
use Rattle.pod_laws.proofs.Names.{Refused, result_of_add, sets_of, wanted, Legal, Placed, commands_of, list_for, World}
use Rattle.pod_laws.proofs.Names.{own_replies, Entry, AreCandidates, listed_network}
use Rattle.cni_result.specs.declared.error.CniError.{CniError}
use Rattle.pod_file.specs.declared.command.Verb.TheVariants as verbs
use Rattle.cni_errors.specs.Answers.{error_of}
use Rattle.cni_errors.specs.declared.answer.Answer.TheVariants as answers
use Rattle.pod_laws.specs.{Added.{WasAdded, HasMade}, Answers.{EachIsOrRefused, EachIsWhere, EachRefusal}}
use Rattle.pod_laws.specs.{Answers.{IsRefusedAnswer, is_cut_off}, Deleted.{WasDeleted, HasDeleted, IsUndeletedFor}}
use Rattle.pod_laws.specs.Deleted.{IsYes, NothingFails, WasNotDeleted, AnswersOfDel, UnfailedIsDeleted}
use Rattle.pod_laws.specs.{Moments.{has_fault, host_at_end, own_entries}, Refused.{lets_go_on, IsCause, no_namespace}}
use Rattle.pod_laws.specs.Refused.{name_taken, pool_empty, no_master, fault, IsResult, NothingRefuses, UnrefusedIsAdded}
use Rattle.pod_laws.specs.Refused.{WasRefused, IsRefusedFor, AnswersOfAdd, BeginLeavesTheHost}
use Rattle.pod_laws.proofs.Added.Achieved.{Achieved, IsAddedWith, achieved-end, achieved-start, achieved-step}
use Rattle.pod_laws.proofs.{Given.{CutOff.over-by, Due.IsSwept}, Histories.Runs.{RunFact, every-run}}
use Rattle.pod_laws.proofs.Histories.States.{IsNoResult, IsOtherVerb, swept-no_result, not-both}
use Rattle.pod_laws.proofs.{Questions.Asking.fault-last, Refused.Runs.{undone-end, undone-start, undone-step}}
use Rattle.pod_laws.proofs.{Refused.Undoing.{Undoing, Ends}, Shares.DistinctLeases.{leases-distinct, sound-at_end}}
use Rattle.pod_laws.proofs.Tests.{first-fails, middle-passes}

-- ---- answers by endings

-- what the ending of a run says of its answer
abbrev pub Says : NetList → Command → List Addr → Ending → Answer → Type 0
Says list c given Added a = a ≡ answers.Added (result_of_add list (att_of c) c.netns given)
Says list c given Yes a = a ≡ answers.Yes
Says list c given (Skipped skip) a = a ≡ answers.Skipped skip
Says list c given Versions a = a ≡ answers.Versions list.version
Says list c given (Refused cause) a = a ≡ answers.Refused (error_of list.version c cause)

pub says : (list : NetList) (c : Command) (given : List Addr) (ending : Ending) (a : Answer)
    → a ≡ answer_of list c (record { ending = ending; given = given }) → Says list c given ending a
unfolding answer_of
says list c given Added a is = is
says list c given Yes a is = is
says list c given (Skipped skip) a is = is
says list c given Versions a is = is
says list c given (Refused cause) a is = is

-- a GC ends without a result
swept-ending : (st : State) (ending : Ending) → IsSwept st ending → IsNoResult ending
swept-ending st ending is = subst IsNoResult (sym is.ends) (swept-no_result is.faults)

-- a run that is over, with all that is known of it
pub record IsEnded (w : World) (n : ℕ) (c : Command) (list : NetList) (a : Answer) : Type 0 where
  pub ending : Ending
  pub given : List Addr
  pub says : Says list c given ending a
  pub achieved : IsAddedWith list c (own_entries n w.history) ending given (share_of (att_of c) (host_at_end w n))
  pub ends : Ends c (own_entries n w.history) ending (share_of (att_of c) (host_at_end w n))

-- what a run's last state says of its ending, where a GC says as much of each ending without a result
at-over : (F : RunFact) (list : NetList) (c : Command) (es : List Entry) (st : State) (ending : Ending)
    (given : List Addr) (s : Share)
    → ((work : Work) (faults : List ℕ) → F list c es (Collecting work faults) s → IsNoResult ending
    → F list c es (Over ending given) s)
    → (st ≡ Over ending given) ⊎ IsSwept st ending → F list c es st s → F list c es (Over ending given) s
at-over F list c es st ending given s collected (inl is) h = subst (λ u. F list c es u s) is h
at-over F list c es st ending given s collected (inr swept) h =
    collected swept.work swept.faults (subst (λ u. F list c es u s) swept.collecting h) (swept-ending st ending swept)

ended : (w : World) → Legal w → (n : ℕ) (c : Placed) (list : NetList) (a : Answer)
    → slice_get (commands_of w.plan) n ≡ Some c → list_for w.plan c.command ≡ Some list
    → slice_get w.answers n ≡ Some (Some a) → is_cut_off a ≡ false
    → IsEnded w n c.command list a
ended w legal n c list a at listed is whole =
    let over = over-by w legal n c list a at listed is whole in
    let es = own_entries n w.history in
    let s = share_of (att_of c.command) (host_at_end w n) in
    let ending = over.ending in
    let given = over.given in
    record {
      ending = ending;
      given = given;
      says = says list c.command given ending a over.answer_is;
      achieved =
          at-over Achieved list c.command es _ ending given s
          (λ work faults h none. achieved-end list c.command es ending given s none) over.state_is
          (every-run Achieved achieved-start achieved-step w legal n c list at listed);
      ends =
          at-over Undoing list c.command es _ ending given s
          (λ work faults other none. undone-end c.command es ending s other none) over.state_is
          (every-run Undoing undone-start undone-step w legal n c list at listed);
    }

-- ---- answers by the verb

-- an answer is so, or a refusal, where each ending of such a run says so
each-answered : (verb : Verb) (Is : Answer → Type 0) → is_of_network verb ≡ true
    → ((c : Command) (list : NetList) (es : List Entry) (s : Share) (a : Answer) (ending : Ending) (given : List Addr)
    → c.verb ≡ verb → Says list c given ending a → Ends c es ending s → Is a ⊎ IsRefusedAnswer a)
    → EachIsOrRefused verb Is
each-answered verb Is network by w legal n c a at is_verb is = elim (cases_Bool (is_cut_off a)) [
  | inl cut ↦ inl (inr cut)
  | inr whole ↦
      let found = listed_network w legal n c at (ap is_of_network is_verb ∙ network) in
      let e = ended w legal n c found.0 a at found.1 is whole in
      elim (by c.command found.0 (own_entries n w.history) (share_of (att_of c.command) (host_at_end w n)) a e.ending
      e.given is_verb e.says e.ends) [
        | inl so ↦ inl (inl so)
        | inr refused ↦ inr refused
      ]
]

-- a run that was refused ended so
refused-ending : (list : NetList) (c : Command) (given : List Addr) (ending : Ending) (error : CniError)
    → Says list c given ending (answers.Refused error)
    → (cause : Cause) × (error ≡ error_of list.version c cause) × (ending ≡ Refused cause)
refused-ending list c given Added error says = cc
refused-ending list c given Yes error says = cc
refused-ending list c given (Skipped skip) error says = cc
refused-ending list c given Versions error says = cc
refused-ending list c given (Refused cause) error says = (cause, let e = says in cc, refl)

-- a refusal is for what the ending of such a run says
each-refused : (verb : Verb) (IsFor : Command → List Entry → Share → Cause → Type 0)
    → ((c : Command) (es : List Entry) (s : Share) (cause : Cause) → c.verb ≡ verb → Ends c es (Refused cause) s
    → IsFor c es s cause)
    → EachRefusal verb IsFor
each-refused verb IsFor why w legal n c a at is_verb is = λ list listed error refused.
    let es = own_entries n w.history in
    let s = share_of (att_of c.command) (host_at_end w n) in
    let e = ended w legal n c list a at listed is (ap is_cut_off refused) in
    let r =
    refused-ending list c.command e.given e.ending error
    (subst (Says list c.command e.given e.ending) refused e.says) in
    (r.0, r.1, why c.command es s r.0 is_verb (subst (λ x. Ends c.command es x s) r.2 e.ends))

-- what no cause goes with is answered so
each-where : (verb : Verb) (AreGood : Command → List Entry → Type 0) (Is : Answer → Type 0)
    (IsFor : Command → List Entry → Share → Cause → Type 0)
    → is_of_network verb ≡ true → EachIsOrRefused verb Is → EachRefusal verb IsFor
    → ((c : Command) (es : List Entry) (s : Share) (cause : Cause) → AreGood c es → IsFor c es s cause → ⊥)
    → EachIsWhere verb AreGood Is
each-where verb AreGood Is IsFor network answered refused never w legal n c a at is_verb is = λ good.
    elim (answered w legal n c a at is_verb is) [
      | inl so ↦ so
      | inr r ↦
          let found = listed_network w legal n c at (ap is_of_network is_verb ∙ network) in
          let why = refused w legal n c a at is_verb is found.0 found.1 r.0 r.1 in
          absurd (never c.command (own_entries n w.history) (share_of (att_of c.command) (host_at_end w n)) why.0
          good why.2)
    ]

-- ---- ADD

added-by : (w : World) (n : ℕ) (c : Command) (list : NetList) (r : AddResult) (ending : Ending) (given : List Addr)
    → Says list c given ending (answers.Added r)
    → IsAddedWith list c (own_entries n w.history) ending given (share_of (att_of c) (host_at_end w n))
    → IsSound (host_at_end w n) → Ends c (own_entries n w.history) ending (share_of (att_of c) (host_at_end w n))
    → HasMade w n c list r
added-by w n c list r Added given says was sound ends =
    let same : r ≡ result_of_add list (att_of c) c.netns given = let e = says in cc in
    let leased : leases_in (own_replies w n) ≡ given = was.0 in
    record {
      verb = ends.verb;
      unrefused = (ends.fields, ends.go_on);
      leased = subst (AreCandidates (sets_of list)) (sym leased) was.1;
      apart =
          ap (distinct addr_eq) leased
          ∙ leases-distinct (att_of c) (host_at_end w n) given sound (ap (λ (s : Share). s.leases) was.2);
      result = same ∙ ap (result_of_add list (att_of c) c.netns) (sym leased);
      objects = was.2 ∙ ap (wanted list (att_of c) c.netns (mappings_of list c)) (sym leased);
    }
added-by w n c list r Yes given says was sound ends = cc
added-by w n c list r (Skipped skip) given says was sound ends = cc
added-by w n c list r Versions given says was sound ends = cc
added-by w n c list r (Refused cause) given says was sound ends = cc

pub was_added : WasAdded
was_added w legal n c list r at listed is =
    let e = ended w legal n c list (answers.Added r) at listed is refl in
    added-by w n c.command list r e.ending e.given e.says e.achieved (sound-at_end w legal n) e.ends

answer-add : (c : Command) (list : NetList) (es : List Entry) (s : Share) (a : Answer) (ending : Ending)
    (given : List Addr)
    → c.verb ≡ verbs.Add → Says list c given ending a → Ends c es ending s → IsResult a ⊎ IsRefusedAnswer a
answer-add c list es s a Added given verb says ends = inl (_, says)
answer-add c list es s a Yes given verb says ends =
    elim ends [ inl del ↦ absurd (not-both c verb del.verb) | inr other ↦ absurd (subst IsOtherVerb verb other) ]
answer-add c list es s a (Skipped skip) given verb says ends = absurd (subst IsOtherVerb verb ends)
answer-add c list es s a Versions given verb says ends = absurd (subst IsOtherVerb verb ends)
answer-add c list es s a (Refused cause) given verb says ends = inr (_, says)

pub answers_of_add : AnswersOfAdd
answers_of_add = each-answered verbs.Add IsResult refl answer-add

why-refused : (c : Command) (es : List Entry) (s : Share) (cause : Cause) → c.verb ≡ verbs.Add
    → Ends c es (Refused cause) s → IsRefusedFor c es s cause
why-refused c es s cause verb ends = elim ends [
  | inl add ↦ add.why
  | inr (inl del) ↦ absurd (not-both c verb del.verb)
  | inr (inr other) ↦ absurd (subst IsOtherVerb verb other)
]

pub was_refused : WasRefused
was_refused = each-refused verbs.Add IsRefusedFor why-refused

pub begin_leaves_the_host : BeginLeavesTheHost
begin_leaves_the_host host att netns n reply =
    by_test (λ (k : Host). k ≡ host) (is_fault reply) host host (λ _. refl) (λ _. refl)

-- ---- DEL

deleted-by : (c : Command) (list : NetList) (es : List Entry) (s : Share) (ending : Ending) (given : List Addr)
    → c.verb ≡ verbs.Del → Says list c given ending answers.Yes → Ends c es ending s → HasDeleted c es s
deleted-by c list es s Added given verb says ends = cc
deleted-by c list es s Yes given verb says ends =
    elim ends [ inl del ↦ del.gone | inr other ↦ absurd (subst IsOtherVerb verb other) ]
deleted-by c list es s (Skipped skip) given verb says ends = cc
deleted-by c list es s Versions given verb says ends = cc
deleted-by c list es s (Refused cause) given verb says ends = cc

pub was_deleted : WasDeleted
was_deleted w legal n c a at verb is = λ yes.
    let found = listed_network w legal n c at (ap is_of_network verb) in
    let e = ended w legal n c found.0 a at found.1 is (ap is_cut_off yes) in
    deleted-by c.command found.0 (own_entries n w.history) (share_of (att_of c.command) (host_at_end w n)) e.ending
    e.given verb (subst (Says found.0 c.command e.given e.ending) yes e.says) e.ends

answer-del : (c : Command) (list : NetList) (es : List Entry) (s : Share) (a : Answer) (ending : Ending)
    (given : List Addr)
    → c.verb ≡ verbs.Del → Says list c given ending a → Ends c es ending s → IsYes a ⊎ IsRefusedAnswer a
answer-del c list es s a Added given verb says ends = absurd (not-both c ends.verb verb)
answer-del c list es s a Yes given verb says ends = inl says
answer-del c list es s a (Skipped skip) given verb says ends = absurd (subst IsOtherVerb verb ends)
answer-del c list es s a Versions given verb says ends = absurd (subst IsOtherVerb verb ends)
answer-del c list es s a (Refused cause) given verb says ends = inr (_, says)

pub answers_of_del : AnswersOfDel
answers_of_del = each-answered verbs.Del IsYes refl answer-del

why-undeleted : (c : Command) (es : List Entry) (s : Share) (cause : Cause) → c.verb ≡ verbs.Del
    → Ends c es (Refused cause) s → IsUndeletedFor c es cause
why-undeleted c es s cause verb ends = elim ends [
  | inl add ↦ absurd (not-both c add.verb verb)
  | inr (inl del) ↦ del.why
  | inr (inr other) ↦ absurd (subst IsOtherVerb verb other)
]

pub was_not_deleted : WasNotDeleted
was_not_deleted = each-refused verbs.Del (λ c es s. IsUndeletedFor c es) why-undeleted

-- ---- where nothing refuses

cause-refuses : (number : ℕ) (call : Call) (reply : Reply) (cause : Cause) → IsCause number call reply cause
    → is_granted reply ≡ false
cause-refuses _ _ _ _ (no_namespace number call) = refl
cause-refuses _ _ _ _ (name_taken number call tag) = refl
cause-refuses _ _ _ _ (pool_empty number att set ranges) = refl
cause-refuses _ _ _ _ (no_master number link) = refl
cause-refuses _ _ _ _ (fault number call) = refl

never-refused : (c : Command) (es : List Entry) (s : Share) (cause : Cause) → NothingRefuses c es
    → IsRefusedFor c es s cause → ⊥
never-refused c es s cause good (inl r) = none-some cause (sym good.0 ∙ r.fields)
never-refused c es s cause good (inr (inl r)) =
    both_ways (lets_go_on r.by) (cause-refuses 1 r.by.call r.by.reply cause r.decides)
    (middle-passes lets_go_on [] r.by [] (ap (list_all lets_go_on) (sym r.alone) ∙ good.1))
never-refused c es s cause good (inr (inr r)) = first-fails lets_go_on es r.first.by r.first.refuses good.1

pub unrefused_is_added : UnrefusedIsAdded
unrefused_is_added =
    each-where verbs.Add NothingRefuses IsResult IsRefusedFor refl answers_of_add was_refused never-refused

never-fails : (c : Command) (es : List Entry) (s : Share) (cause : Cause) → NothingFails c es
    → IsUndeletedFor c es cause → ⊥
never-fails c es s cause good (inl r) = none-some cause (sym good.0 ∙ r.fields)
never-fails c es s cause good (inr r) =
    both_ways (has_fault es) good.1 (ap has_fault r.are ∙ fault-last r.past r.by (ap is_fault r.fault))

pub unfailed_is_deleted : UnfailedIsDeleted
unfailed_is_deleted =
    each-where verbs.Del NothingFails IsYes (λ c es s. IsUndeletedFor c es) refl answers_of_del
    was_not_deleted never-fails
