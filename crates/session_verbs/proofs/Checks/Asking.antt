-- The questions of a check, asked one after another.
use Rattle.session_verbs.proofs.Names.{◌≡◌, ℕ, ◌+◌, ◌<◌, Bool, true, false, List, [], ◌∷◌, ◌++◌, length, drop, get_or}
use Rattle.session_verbs.proofs.Names.{Option, Some, None, Result, Ok, Err, refl, sym, ap, subst, ◌∙◌, arith}
use Rattle.session_verbs.proofs.Names.{if◌then◌else◌, IsErr, NoMemory, Yes, Question, State, Asking, Over, asking}
use Rattle.session_verbs.proofs.Names.{at_question, finish_of, next_call, refused, apply, is_fault, Call, Reply, Has}
use Rattle.session_verbs.proofs.Names.{Host, Command, Made}
use Rattle.std.proofs.{Math.ListN.drop_of_length-le, lemmas.{Bool.false≢true, List.Elements.All-from_recursion}}
use Rattle.cni_errors.specs.declared.answer.Cause.TheVariants as causes
use Rattle.verb_questions.proofs.Asked.{left_from}
use Rattle.session_verbs.specs.{Asking.{AreProbes, AskedAs, IsProbe, end_by}, Journal.{EndsAs, JournalView, Went}}
use Rattle.session_verbs.specs.{Journal.{after_entries, made_next}, declared.part.PartEnd.PartEnd}
use Rattle.session_laws.specs.Course.{Course, advance}
use Rattle.session_verbs.specs.declared.part.PartEnd.TheVariants as parts
use Rattle.session_verbs.proofs.Going.{ends-then, went-none, went-one, went-then}

-- ---- one question

either-same : (b : Bool) (host : Host) → (if b then host else host) ≡ host
either-same true host = refl
either-same false host = refl

-- a call that the kernel answers without a change leaves the host as it was
pub told-same : (a d : JournalView) (call : Call) → (apply a.host call).0 ≡ a.host
    → d ≡ after_entries a (made_next a call ∷ []) → d.host ≡ a.host
told-same a d call same made =
    let fault = is_fault (made_next a call).reply in
    ap (λ (j : JournalView). j.host) made
    ∙ ap (λ (k : Host). if fault then a.host else k) same
    ∙ either-same fault a.host

-- and so does a question
pub asked-same : (a d : JournalView) (call : Call) → IsProbe call → d ≡ after_entries a (made_next a call ∷ [])
    → d.host ≡ a.host
asked-same a d call is made =
    told-same a d call (subst (λ (k : Call). (apply a.host k).0 ≡ a.host) (sym is.1) refl) made

pub made-more : (a d : JournalView) (call : Call) → d ≡ after_entries a (made_next a call ∷ []) → d.made ≡ a.made + 1
made-more a d call made = ap (λ (j : JournalView). j.made) made

question-went : (co : Course) (c : Command) (q : Question) (left : List Question) (a d : JournalView)
    → d ≡ after_entries a (made_next a q.call ∷ [])
    → Went co c (made_next a q.call ∷ []) a d (Asking q left)
    (at_question (a.made + 1) q left (made_next a q.call).reply)
unfolding next_call advance
question-went co c q left a d made = went-one co c q.call a d (Asking q left) refl made

question-ends : (co : Course) (c : Command) (q : Question) (left : List Question) (a d : JournalView) (es : List Made)
    (number : ℕ) (r : Reply)
    → Went co c es a d (Asking q left) (at_question number q left r)
    → AskedAs co c a d q left (Ok (end_by (Some r) q.lack number))
unfolding finish_of
question-ends co c q left a d es number (Has true) w = (es, w)
question-ends co c q left a d es number (Has false) w = (es, refused q.lack, w, refl)
question-ends co c q left a d es number _ w = (es, refused (causes.Fault number), w, refl)

-- a question that was asked goes on as its reply says
pub question-asked : (co : Course) (c : Command) (q : Question) (left : List Question) (a d : JournalView)
    (o : Option Reply) (number : ℕ) (end : Option PartEnd)
    → d ≡ after_entries a (made_next a q.call ∷ []) → o ≡ Some (made_next a q.call).reply → number ≡ d.made
    → end ≡ end_by o q.lack number → AskedAs co c a d q left (Ok end)
question-asked co c q left a d o number end made by is ends =
    let all : end ≡ end_by (Some (made_next a q.call).reply) q.lack (a.made + 1) =
    ends
    ∙ ap (λ p. end_by p q.lack number) by
    ∙ ap (end_by (Some (made_next a q.call).reply) q.lack) (is ∙ made-more a d q.call made) in
    subst (λ (x : Option PartEnd). AskedAs co c a d q left (Ok x)) (sym all)
    (question-ends co c q left a d (made_next a q.call ∷ []) (a.made + 1) (made_next a q.call).reply
    (question-went co c q left a d made))

-- ---- one question after another

-- so many of the questions were asked, and answered with yes
abbrev pub AskedSoFar : JournalView → JournalView → List Question → ℕ → Type 0
AskedSoFar a b qs n =
    (co : Course) (c : Command) → (es : List Made) × Went co c es a b (asking qs) (asking (drop n qs))

pub asked-none : (a : JournalView) (qs : List Question) → AskedSoFar a a qs 0
asked-none a qs = λ co c. ([], went-none co c a (asking qs))

-- the next question
asked-here : (co : Course) (c : Command) (a b : JournalView) (qs : List Question) (n : ℕ) (q : Question)
    → AskedSoFar a b qs n
    → n < length qs → q ≡ get_or qs n q → (es : List Made) × Went co c es a b (asking qs) (Asking q (drop (n + 1) qs))
asked-here co c a b qs n q so_far within at =
    let here : List Question → Type 0 = λ rest. Went co c (so_far co c).0 a b (asking qs) (asking rest) in
    ((so_far co c).0, subst here (left_from qs n q within at) (so_far co c).1)

-- it is answered with yes
pub asked-more : (a b d : JournalView) (qs : List Question) (n m : ℕ) (q : Question) (o : Option PartEnd)
    → AskedSoFar a b qs n → n < length qs → q ≡ get_or qs n q → o ≡ None → m ≡ n + 1
    → ((co : Course) (c : Command) (left : List Question) → AskedAs co c b d q left (Ok o))
    → AskedSoFar a d qs m
asked-more a b d qs n m q o so_far within at none next asked = λ co c.
    let here = asked-here co c a b qs n q so_far within at in
    let went : AskedAs co c b d q (drop (n + 1) qs) (Ok None) =
    subst (λ (x : Option PartEnd). AskedAs co c b d q (drop (n + 1) qs) (Ok x)) none (asked co c (drop (n + 1) qs)) in
    subst (λ (k : ℕ). (es : List Made) × Went co c es a d (asking qs) (asking (drop k qs))) (sym next)
    (here.0 ++ went.0, went-then here.1 went.1)

-- it ends the part
pub asked-ended : (a b d : JournalView) (qs : List Question) (n : ℕ) (q : Question) (o : Option PartEnd) (end : PartEnd)
    → AskedSoFar a b qs n → n < length qs → q ≡ get_or qs n q → o ≡ Some end
    → ((co : Course) (c : Command) (left : List Question) → AskedAs co c b d q left (Ok o))
    → (co : Course) (c : Command) → EndsAs co c a d (asking qs) (Ok end)
asked-ended a b d qs n q o end so_far within at some asked = λ co c.
    let here = asked-here co c a b qs n q so_far within at in
    ends-then d (Ok end) here.1
    (subst (λ (x : Option PartEnd). AskedAs co c b d q (drop (n + 1) qs) (Ok x)) some (asked co c (drop (n + 1) qs)))

-- memory is refused
pub failed-ends : (co : Course) (c : Command) (es : List Made) (a d : JournalView) (s t : State)
    (r : Result PartEnd NoMemory)
    → IsErr r → Went co c es a d s t → EndsAs co c a d s r
failed-ends co c es a d s t (Ok x) err w = absurd (false≢true err)
failed-ends co c es a d s t (Err e) err w = (es, t, w)

pub asked-failed : (a b d : JournalView) (qs : List Question) (n : ℕ) (q : Question) (e : NoMemory)
    (r : Result PartEnd NoMemory)
    → AskedSoFar a b qs n → n < length qs → q ≡ get_or qs n q → IsErr r
    → ((co : Course) (c : Command) (left : List Question) → AskedAs co c b d q left (Err e))
    → (co : Course) (c : Command) → EndsAs co c a d (asking qs) r
asked-failed a b d qs n q e r so_far within at err asked = λ co c.
    let here = asked-here co c a b qs n q so_far within at in
    let went = asked co c (drop (n + 1) qs) in
    failed-ends co c (here.0 ++ went.0) a d (asking qs) went.1 r err (went-then here.1 went.2)

-- no question is left
pub asked-all : (a b : JournalView) (qs : List Question) (n : ℕ) → AskedSoFar a b qs n → n ≡ length qs
    → (co : Course) (c : Command) → EndsAs co c a b (asking qs) (Ok (parts.Over Yes))
unfolding finish_of
asked-all a b qs n so_far is = λ co c.
    let over : List Question → Type 0 = λ rest. Went co c (so_far co c).0 a b (asking qs) (asking rest) in
    ((so_far co c).0, Over Yes [], subst over (drop_of_length-le qs (omega arith)) (so_far co c).1, refl)

-- each of them is one that may be asked
pub probe-at : (qs : List Question) (n : ℕ) (q : Question) → AreProbes qs → n < length qs → q ≡ get_or qs n q
    → IsProbe q.call
probe-at qs n q probes within at =
    subst (λ (x : Question). IsProbe x.call) (sym at)
    (All-from_recursion (λ (x : Question). IsProbe x.call) qs probes n q within)
