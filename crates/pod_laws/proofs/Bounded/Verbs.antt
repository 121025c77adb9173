-- What is left to a run before its first call, by its verb.
use Rattle.pod_laws.proofs.Names.{◌≡◌, ◌≢◌, ℕ, ◌+◌, ◌≤◌, false, List, [], ◌∷◌, ◌++◌, length, Option, Some, None}
use Rattle.pod_laws.proofs.Names.{slice_get, refl, sym, ap, subst, arith, length-append, nil_from_length, if◌then◌else◌}
use Rattle.pod_laws.proofs.Names.{Addr, Mac, Cached, Interface, NetList, is_of_network, Command, Verb, Reply, Share}
use Rattle.pod_laws.proofs.Names.{add_refusal, att_of, del_refusal, Ending, Yes, Skipped, Refused, Question}
use Rattle.pod_laws.proofs.Names.{bridge_by_mac, bridge_questions, cached_share, check_questions, first_interface}
use Rattle.pod_laws.proofs.Names.{master_questions, pool_questions, share_questions, status_questions, State, AtBegin}
use Rattle.pod_laws.proofs.Names.{ReadingCache, FindingEntry, Over, advance, asking, at_entry, checking, start_of}
use Rattle.pod_laws.proofs.Names.{start_state, bridge_of, kinds_of, master_of, sets_of, Legal, Placed, commands_of}
use Rattle.pod_laws.proofs.Names.{list_for, World, own_replies, Entry, calls_left, by-either, by-unless, by-unless_old}
use Rattle.pod_laws.proofs.Names.{IsNoCollection}
use Rattle.std.proofs.Common.{◌*◌}
use Rattle.pod_file.specs.declared.command.Verb.TheVariants as verbs
use Rattle.verb_questions.proofs.QuestionCounts.{length-pools, length-share}
use Rattle.kernel_types.specs.declared.call.Reply.TheVariants.{Entry as Found}
use Rattle.cni_errors.specs.declared.answer.Skip.TheVariants as skips
use Rattle.gc_sweep.specs.Deletions.{deletions_of}
use Rattle.pod_workers.specs.CallCounts.{most_calls}
use Rattle.pod_workers.proofs.Ends.{Falls.left-asking, MostCalls.adds_in_most_calls, StepsLeft.none-asking}
use Rattle.pod_laws.specs.Bounded.{EachAddHasMost, EachChangeIsOneCall, EachRunIsBounded, IsFirst, asked_of}
use Rattle.pod_laws.specs.Moments.{objects_after}
use Rattle.pod_laws.proofs.{Bounded.Runs.{made-below, made-within}, Outside.Changes.one-call}

-- ---- questions

length-mac : (name : List ℕ) (mac : Option Mac) → length (bridge_by_mac name mac) ≤ 1
length-mac name None = omega arith
length-mac name (Some mac) = omega arith

length-interfaces : (interfaces : List Interface) → length (first_interface interfaces) ≤ 1
length-interfaces [] = omega arith
length-interfaces (i ∷ is) = length-mac i.name i.mac

length-bridge : (bridge : Option (List ℕ)) (interfaces : List Interface)
    → length (bridge_questions bridge interfaces) ≤ 1
length-bridge None interfaces = omega arith
length-bridge (Some bridge) interfaces = length-interfaces interfaces

length-check : (list : NetList) (c : Command) (cached : Cached)
    → length (check_questions list c cached) ≤ 1 + asked_of (cached_share list c cached)
unfolding check_questions
length-check list c cached =
    let a =
    length-append (bridge_questions (bridge_of list.first) cached.result.interfaces)
    (share_questions (cached_share list c cached)) in
    let b = length-bridge (bridge_of list.first) cached.result.interfaces in
    let d = length-share (cached_share list c cached) in
    omega arith

length-master : (master : Option (List ℕ)) → length (master_questions master) ≤ 1
length-master None = omega arith
length-master (Some master) = omega arith

length-status : (list : NetList) (c : Command) → length (status_questions list c) ≤ length (sets_of list) + 1
unfolding status_questions
length-status list c =
    let a = length-append (pool_questions c.network 0 (sets_of list)) (master_questions (master_of list.first)) in
    let b = length-pools c.network 0 (sets_of list) in
    let d = length-master (master_of list.first) in
    omega arith

-- ---- what a start leaves

-- a start that is no GC's, with no more calls than so many
pub record StartsIn (most : ℕ) (list : NetList) (c : Command) (s : State) (bound : Share → ℕ) : Type 0 where
  pub none : IsNoCollection s
  pub few : (had : Share) → calls_left most list c s had ≤ bound had

start-over : (most : ℕ) (list : NetList) (c : Command) (bound : Share → ℕ) (ending : Ending)
    → StartsIn most list c (Over ending []) bound
start-over most list c bound ending = record { none = tt; few = λ had. omega arith }

start-asking : (most : ℕ) (list : NetList) (c : Command) (questions : List Question)
    → StartsIn most list c (asking questions) (λ had. length questions)
start-asking most list c questions = record { none = none-asking questions; few = left-asking most list c questions }

-- what is left to a command of this verb before its first call
abbrev Starts : ℕ → NetList → Command → Verb → (Share → ℕ) → Type 0
Starts most list c verb bound = StartsIn most list c (start_of list verb c) bound

start-add : (most : ℕ) (list : NetList) (c : Command)
    → Starts most list c verbs.Add (λ had. 2 * most + length (kinds_of list) + 1)
start-add most list c =
    let bound : Share → ℕ = λ had. 2 * most + length (kinds_of list) + 1 in
    by-unless (λ s. StartsIn most list c s bound) (add_refusal c) AtBegin
    (λ cause. start-over most list c bound (Refused cause)) (λ none. record { none = tt; few = λ had. omega arith })

start-del : (most : ℕ) (list : NetList) (c : Command)
    → Starts most list c verbs.Del (λ had. length (kinds_of list) + 1 + deletions_of had)
start-del most list c =
    let bound : Share → ℕ = λ had. length (kinds_of list) + 1 + deletions_of had in
    by-unless (λ s. StartsIn most list c s bound) (del_refusal c) (ReadingCache Yes)
    (λ cause. start-over most list c bound (Refused cause)) (λ none. record { none = tt; few = λ had. omega arith })

start-status : (most : ℕ) (list : NetList) (c : Command)
    → Starts most list c verbs.Status (λ had. length (status_questions list c))
start-status most list c =
    let bound : Share → ℕ = λ had. length (status_questions list c) in
    by-unless_old (λ s. StartsIn most list c s bound) list.version (asking (status_questions list c))
    (λ cause. start-over most list c bound (Refused cause)) (start-asking most list c (status_questions list c))

start-outside : (most : ℕ) (list : NetList) (c : Command) (verb : Verb) → is_of_network verb ≡ false
    → Starts most list c verb (λ had. 0)
start-outside most list c verbs.NsAdd is = start-over most list c (λ had. 0) Yes
start-outside most list c verbs.NsDel is = start-over most list c (λ had. 0) Yes
start-outside most list c verbs.Drop is = start-over most list c (λ had. 0) Yes
start-outside most list c verbs.Flush is = start-over most list c (λ had. 0) Yes
start-outside most list c _ is = cc

-- ---- a command by its verb

starts-by : (most : ℕ) (list : NetList) (c : Command) (verb : Verb) (bound : Share → ℕ) → c.verb ≡ verb
    → Starts most list c verb bound → StartsIn most list c (start_state list c) bound
starts-by most list c verb bound is starts = subst (λ v. Starts most list c v bound) (sym is) starts

-- by what the attachment had before the first call
by-start : (w : World) → Legal w
    → (n : ℕ) (c : Placed) (list : NetList) (bound : Share → ℕ) (before : List Entry) (first : Entry)
    → slice_get (commands_of w.plan) n ≡ Some c → list_for w.plan c.command ≡ Some list
    → StartsIn (most_calls list c.command) list c.command (start_state list c.command) bound → IsFirst w n before first
    → length (own_replies w n) ≤ bound (objects_after w.plan (att_of c.command) before)
by-start w legal n c list bound before first at listed starts is =
    let made =
    (made-within w legal n c list (most_calls list c.command) before is.rest first at listed
    (adds_in_most_calls list c.command) starts.none is.split is.own is.none_before).0 in
    let few = starts.few (objects_after w.plan (att_of c.command) before) in
    omega arith

-- ---- a CHECK

-- what a start of a CHECK leaves after its first reply
pub record AsksIn (list : NetList) (c : Command) (s : State) (r : Reply) (bound : ℕ) : Type 0 where
  pub none : IsNoCollection s
  pub few : (had : Share) → calls_left (most_calls list c) list c (advance list c 1 s r) had ≤ bound

over-asks : (list : NetList) (c : Command) (ending : Ending) (given : List Addr) (r : Reply) (bound : ℕ)
    → AsksIn list c (Over ending given) r bound
unfolding advance
over-asks list c ending given r bound = record { none = tt; few = λ had. omega arith }

check-asks : (list : NetList) (c : Command) (r : Reply) (bound : ℕ) → AsksIn list c FindingEntry r bound
    → AsksIn list c (start_of list verbs.Check c) r bound
check-asks list c r bound h =
    let over : (ending : Ending) → AsksIn list c (Over ending []) r bound = λ ending.
    over-asks list c ending [] r bound in
    by-unless (λ s. AsksIn list c s r bound) (del_refusal c)
    (if list.disable_check then Over (Skipped skips.Check) [] else FindingEntry) (λ cause. over (Refused cause))
    (λ none. by-either (λ s. AsksIn list c s r bound) list.disable_check (Over (Skipped skips.Check) [])
    FindingEntry (over (Skipped skips.Check)) h)

found-asks : (list : NetList) (c : Command) (cached : Cached)
    → AsksIn list c FindingEntry (Found (Some cached)) (length (check_questions list c cached))
unfolding advance
found-asks list c cached =
    record { none = tt; few = left-asking (most_calls list c) list c (check_questions list c cached) }

no-entry : (list : NetList) (c : Command) (o : Option Cached) (had : Share) → ((cached : Cached) → o ≢ Some cached)
    → calls_left (most_calls list c) list c (checking list c o) had ≤ 0
no-entry list c None had not = omega arith
no-entry list c (Some cached) had not = absurd (not cached refl)

left-unknown : (list : NetList) (c : Command) (r : Reply) (had : Share) → ((cached : Cached) → r ≢ Found (Some cached))
    → calls_left (most_calls list c) list c (at_entry list c 1 r) had ≤ 0
left-unknown list c (Found o) had not = no-entry list c o had (λ cached is. not cached (ap Found is))
left-unknown list c _ had not = omega arith

unknown-asks : (list : NetList) (c : Command) (r : Reply) → ((cached : Cached) → r ≢ Found (Some cached))
    → AsksIn list c FindingEntry r 0
unfolding advance
unknown-asks list c r not = record { none = tt; few = λ had. left-unknown list c r had not }

-- by its first reply
by-first : (w : World) → Legal w
    → (n : ℕ) (c : Placed) (list : NetList) (bound : ℕ) (before : List Entry) (first : Entry)
    → slice_get (commands_of w.plan) n ≡ Some c → list_for w.plan c.command ≡ Some list → c.command.verb ≡ verbs.Check
    → AsksIn list c.command FindingEntry first.reply bound → IsFirst w n before first
    → length (own_replies w n) ≤ 1 + bound
by-first w legal n c list bound before first at listed verb asks is =
    let start : AsksIn list c.command (start_state list c.command) first.reply bound =
    subst (λ v. AsksIn list c.command (start_of list v c.command) first.reply bound) (sym verb)
    (check-asks list c.command first.reply bound asks) in
    let made =
    (made-within w legal n c list (most_calls list c.command) before is.rest first at listed
    (adds_in_most_calls list c.command) start.none is.split is.own is.none_before).1 in
    let few = start.few (objects_after w.plan (att_of c.command) (before ++ first ∷ [])) in
    omega arith

pub run_is_bounded : EachRunIsBounded
run_is_bounded w legal n c list at listed =
    let most0 = most_calls list c.command in
    let in_most0 = adds_in_most_calls list c.command in
    record {
      add = λ verb most in_most.
          let starts =
          starts-by most list c.command verbs.Add (λ had. 2 * most + length (kinds_of list) + 1) verb
          (start-add most list c.command) in
          let made =
          made-below w legal n c list most (2 * most + length (kinds_of list) + 1) at listed in_most
          starts.none starts.few in
          omega arith;
      del = λ verb before first is.
          let made = by-start w legal n c list (λ s. length (kinds_of list) + 1 + deletions_of s) before first at listed
          (starts-by most0 list c.command verbs.Del (λ s. length (kinds_of list) + 1 + deletions_of s) verb
          (start-del most0 list c.command))
          is in
          omega arith;
      check = λ verb before first cached is found.
          let asks =
          subst (λ r. AsksIn list c.command FindingEntry r (length (check_questions list c.command cached)))
          (sym found) (found-asks list c.command cached) in
          let made =
          by-first w legal n c list (length (check_questions list c.command cached)) before first at listed
          verb asks is in
          let few = length-check list c.command cached in
          omega arith;
      unknown = λ verb before first is not.
          by-first w legal n c list 0 before first at listed verb (unknown-asks list c.command first.reply not) is;
      status = λ verb.
          let starts =
          starts-by most0 list c.command verbs.Status (λ had. length (status_questions list c.command)) verb
          (start-status most0 list c.command) in
          let made =
          made-below w legal n c list most0 (length (status_questions list c.command)) at listed in_most0
          starts.none starts.few in
          let few = length-status list c.command in
          omega arith;
      version = λ verb.
          let starts =
          starts-by most0 list c.command verbs.Version (λ had. 0) verb
          (record { none = tt; few = λ had. omega arith }) in
          let made = made-below w legal n c list most0 0 at listed in_most0 starts.none starts.few in
          nil_from_length (own_replies w n) (omega arith);
    }

one-by-list : (w : World) → Legal w → (n : ℕ) (c : Placed) (o : Option NetList)
    → slice_get (commands_of w.plan) n ≡ Some c → is_of_network c.command.verb ≡ false → list_for w.plan c.command ≡ o
    → length (own_replies w n) ≤ 1
one-by-list w legal n c None at is by = one-call w legal n c at by
one-by-list w legal n c (Some list) at is by =
    let most = most_calls list c.command in
    let starts : StartsIn most list c.command (start_state list c.command) (λ had. 0) =
    start-outside most list c.command c.command.verb is in
    let made = made-below w legal n c list most 0 at by (adds_in_most_calls list c.command) starts.none starts.few in
    omega arith

pub change_is_one_call : EachChangeIsOneCall
change_is_one_call w legal n c at is = one-by-list w legal n c (list_for w.plan c.command) at is refl

pub each_add_has_most : EachAddHasMost
each_add_has_most list c = adds_in_most_calls list c
