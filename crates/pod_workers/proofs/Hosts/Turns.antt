-- What a run does next, by its state.
use Rattle.pod_workers.proofs.Names.{◌≡◌, ℕ, Bool, true, false, List, [], ◌∷◌, ◌++◌, Option, Some, None, refl, sym, ◌∙◌}
use Rattle.pod_workers.proofs.Names.{ap, subst, inl, inr, ◌⊎◌, option_map, if◌then◌else◌, false≢true, same_Some}
use Rattle.pod_workers.proofs.Names.{none-some, ◌||◌, Progress, RunView, advanced, answer_by, IsOpen, State, Turn}
use Rattle.pod_workers.proofs.Names.{Calls, Finishes, Finish, turn, next_call, finish_of, Answer, Stopped, IsAllowed}
use Rattle.pod_workers.proofs.Names.{apply, is_fault, Call, Reply, Host, IsReplyOf-apply, NetList, Command}
use Rattle.cni_verbs.proofs.CallsOrOver.{calls_or_over}
use Rattle.cni_verbs.specs.Replies.{host_after, reply_to}
use Rattle.kernel_types.specs.Replies.{holds_text_or_list}
use Rattle.pod_workers.specs.{Slots.{MayBeMade, DoesNext, next_in}, World.{after_entry, entry_by, is_faulty, is_stop}}
use Rattle.pod_workers.specs.{World.next_by, declared.plan.{Entry.Entry, Next.Next}}
use Rattle.pod_workers.specs.declared.plan.Next.TheVariants as next
use Rattle.pod_workers.specs.declared.step.Stepped.TheVariants as step

-- ---- by the state

turn-calls : (c : Command) (s : State) (call : Call) → next_call c s ≡ Some call → turn c s ≡ Calls call
turn-calls c s call is = elim (calls_or_over c s) [
  | inl k ↦ k.turn_is ∙ ap Calls (same_Some k.call call (sym k.next_is ∙ is))
  | inr o ↦ absurd (none-some call (sym o.none_next ∙ is))
]

turn-finishes : (c : Command) (s : State) (f : Finish) → finish_of s ≡ Some f → turn c s ≡ Finishes f
turn-finishes c s f is = elim (calls_or_over c s) [
  | inl k ↦ absurd (none-some f (sym k.unfinished ∙ is))
  | inr o ↦ o.turn_is ∙ ap Finishes (same_Some o.finish f (sym o.finish_is ∙ is))
]

open-where : (c : Command) (s : State) (call : Call) → turn c s ≡ Calls call → IsOpen s
open-where c s call is = elim (calls_or_over c s) [
  | inl k ↦ k.is_open
  | inr o ↦ absurd (let e : Calls call ≡ Finishes o.finish = sym is ∙ o.turn_is in cc)
]

-- ---- a run that has a call to make

call-by : (list : Option NetList) (c : Command) (made : ℕ) (call : Call) (b : Bool) → b ≡ false
    → (if b then next.Answer (Stopped made) else next.Call call (is_faulty c made)) ≡ next.Call call (is_faulty c made)
call-by list c made call true below = absurd (false≢true (sym below))
call-by list c made call false below = refl

pub next-is-call : (s : Progress) (c : Command) (cut stopped : Bool) (call : Call) → s.command ≡ c
    → stopped ≡ (is_stop c.stop s.made || cut) → stopped ≡ false → next_call s.command s.state ≡ Some call
    → next.Call call (is_faulty c s.made) ≡ next_in c cut s
unfolding next_in
next-is-call s c cut stopped call of_command stop below is =
    sym (ap (next_by s.list c s.made cut)
    (turn-calls c s.state call (ap (λ k. next_call k s.state) (sym of_command) ∙ is))
    ∙ call-by s.list c s.made call _ (sym stop ∙ below))

stop-by : (made : ℕ) (n : Next) (b : Bool) → b ≡ true
    → (if b then next.Answer (Stopped made) else n) ≡ next.Answer (Stopped made)
stop-by made n true reached = refl
stop-by made n false reached = absurd (false≢true reached)

open-calls : (c : Command) (s : State) → IsOpen s → (call : Call) × (next_call c s ≡ Some call)
open-calls c s is_open = elim (calls_or_over c s) [
  | inl k ↦ (k.call, k.next_is)
  | inr o ↦ absurd (o.not_open is_open)
]

pub next-is-stop : (s : Progress) (c : Command) (cut stopped : Bool) → s.command ≡ c
    → stopped ≡ (is_stop c.stop s.made || cut) → stopped ≡ true → IsOpen s.state
    → next.Answer (Stopped s.made) ≡ next_in c cut s
unfolding next_in
next-is-stop s c cut stopped of_command stop reached is_open =
    let u = open-calls c s.state is_open in
    sym (ap (next_by s.list c s.made cut) (turn-calls c s.state u.0 u.1)
    ∙ stop-by s.made (next.Call u.0 (is_faulty c s.made)) _ (sym stop ∙ reached))

call-open : (list : Option NetList) (c : Command) (made : ℕ) (cut : Bool) (s : State) (t : Turn)
    (call : Call) (faulty : Bool)
    → turn c s ≡ t → next_by list c made cut t ≡ next.Call call faulty → IsOpen s
call-open list c made cut s (Finishes f) call faulty t_is is = absurd cc
call-open list c made cut s (Calls k) call faulty t_is is = open-where c s k t_is

pub open-before-call : (s : Progress) (c : Command) (cut : Bool) (call : Call) (faulty : Bool)
    → next_in c cut s ≡ next.Call call faulty → IsOpen s.state
unfolding next_in
open-before-call s c cut call faulty is = call-open s.list c s.made cut s.state (turn c s.state) call faulty refl is

-- ---- a run that is over

answer-by : (list : Option NetList) (c : Command) (o : Option Finish) (s : State) (made : ℕ) (cut : Bool) (a : Answer)
    → finish_of s ≡ o → option_map (answer_by list c) o ≡ Some a → next.Answer a ≡ next_by list c made cut (turn c s)
answer-by list c None s made cut a o_is is = absurd (none-some a is)
answer-by list c (Some f) s made cut a o_is is =
    ap next.Answer (sym (same_Some _ a is)) ∙ sym (ap (next_by list c made cut) (turn-finishes c s f o_is))

pub next-is-answer : (s : Progress) (c : Command) (cut : Bool) (a : Answer) → s.command ≡ c
    → option_map (answer_by s.list s.command) (finish_of s.state) ≡ Some a → next.Answer a ≡ next_in c cut s
unfolding next_in
next-is-answer s c cut a of_command is =
    answer-by s.list c (finish_of s.state) s.state s.made cut a refl
    (ap (λ k. option_map (answer_by s.list k) (finish_of s.state)) (sym of_command) ∙ is)

-- a run that is over has an answer
pub over-answers : (s : Progress) → (IsOpen s.state → ⊥)
    → option_map (answer_by s.list s.command) (finish_of s.state) ≡ None → ⊥
over-answers s over no_answer = elim (calls_or_over s.command s.state) [
  | inl k ↦ over k.is_open
  | inr o ↦ none-some _ (sym no_answer ∙ ap (option_map (answer_by s.list s.command)) o.finish_is)
]

-- a run that isn't has a call
pub open-has-next : (s : Progress) → IsOpen s.state → next_call s.command s.state ≡ None → ⊥
open-has-next s is_open none = let u = open-calls s.command s.state is_open in none-some _ (sym none ∙ u.1)

-- ---- what was done

pub steps-answered : (host host' : Host) (h h' : List Entry) (c : Command) (s : Progress) (x : Next) (a : Answer)
    → x ≡ next.Answer a → host' ≡ host → h' ≡ h → DoesNext host host' h h' c s x (step.Answered a)
unfolding DoesNext
steps-answered host host' h h' c s x a is same_host same_history =
    subst (λ y. DoesNext host host' h h' c s y (step.Answered a)) (sym is) (refl, same_host, same_history)

pub steps-called : (host host' : Host) (h h' : List Entry) (c : Command) (s : Progress) (t : RunView) (x : Next)
    (call : Call) (faulty : Bool) (reply : Reply)
    → x ≡ next.Call call faulty → reply ≡ reply_to host call faulty
    → host' ≡ after_entry host (entry_by host c.number call faulty) → h' ≡ h ++ entry_by host c.number call faulty ∷ []
    → t.progress ≡ advanced s reply → DoesNext host host' h h' c s x (step.Called t)
unfolding DoesNext
steps-called host host' h h' c s t x call faulty reply is replied host_is history_is after =
    subst (λ y. DoesNext host host' h h' c s y (step.Called t)) (sym is)
    (after ∙ ap (advanced s) replied, host_is, history_is)

pub may-call : (host : Host) (x : Next) (call : Call) (faulty : Bool) → MayBeMade host x → x ≡ next.Call call faulty
    → faulty ≡ false → IsAllowed host call
may-call host x call faulty may is = let P : Next → Type 0 = MayBeMade host in subst P is may

-- ---- the host after a call

left-by : {host host' : Host} (b : Bool) → host' ≡ host → (if b then host else host') ≡ host
left-by true left = refl
left-by false left = left

-- a reply that a run can't take when memory runs out is a fault or holds a text or a list
why-refused : (fault holds : Bool) → (fault ≡ false → holds ≡ false → ⊥) → (holds ≡ true) ⊎ (fault ≡ true)
why-refused true holds frees = inr refl
why-refused false true frees = inl refl
why-refused false false frees = absurd (frees refl refl)

-- such a reply left the host
refused-take : (host host' : Host) (call : Call) (faulty : Bool) (reply : Reply) → host' ≡ host_after host call reply
    → reply ≡ reply_to host call faulty
    → (holds_text_or_list reply ≡ true) ⊎ (is_fault reply ≡ true) → host' ≡ host
refused-take host host' call faulty reply is replied (inr fault) =
    is ∙ ap (λ b. if b then host else (apply host call).0) fault
refused-take host host' call true reply is replied (inl holds) = is ∙ ap (host_after host call) replied
refused-take host host' call false reply is replied (inl holds) =
    is ∙ left-by (is_fault reply) ((IsReplyOf-apply host call).leaves (ap holds_text_or_list (sym replied) ∙ holds))

pub refused-reply : (host host' : Host) (call : Call) (faulty : Bool) (reply : Reply)
    → host' ≡ host_after host call reply → reply ≡ reply_to host call faulty
    → (is_fault reply ≡ false → holds_text_or_list reply ≡ false → ⊥) → host' ≡ host
refused-reply host host' call faulty reply is replied frees =
    refused-take host host' call faulty reply is replied (why-refused (is_fault reply) (holds_text_or_list reply) frees)
