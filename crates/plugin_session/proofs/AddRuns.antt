-- From an ADD of a plugin to what is said of its task.
use Rattle.plugin_session.proofs.Names.{◌≡◌, ℕ, ◌+◌, Bool, true, false, cond, List, [], ◌∷◌, Option, Some, None, refl}
use Rattle.plugin_session.proofs.Names.{sym, ap, subst, ◌∙◌, Result, Ok, Err, IfOk, none-some, same_Some, then_some}
use Rattle.plugin_session.proofs.Names.{is_some, length, MatchOption, IsErr, Addr, NoMemory, Cached, Call, Begin, Reply}
use Rattle.plugin_session.proofs.Names.{Done, Att, Host, Command, OwnCalls, Ask, att_of, Ending, Added, Yes, Refused}
use Rattle.plugin_session.proofs.Names.{State, AtBegin, finish_of, leases_in, next_call, Made, replies}
use Rattle.session_verbs.specs.{Adds.{Adds, Fills, IsAnswer, IsCourseOf, IsUnbegun}, Journal.{JournalView, Went}}
use Rattle.session_verbs.specs.{Journal.may_go, declared.{begun.Begun.Begun, part.PartEnd.PartEnd}}
use Rattle.plugin_session.specs.Runs.{IsAnswerToAdd, IsTurnedTo, RunsAdd, answered, row_if}
use Rattle.session_laws.specs.{Course.{Course, IsRunFrom, advance, at_begin, begins, state_from, IsOver}, Holds.Suite}
use Rattle.session_laws.specs.{Holds.{has_begun, is_begun}, Pools.sets_by, Ran.{Handed, IsAnswerAt, IsAnswered}}
use Rattle.session_laws.specs.Ran.{IsNewRow, ask_for, command_for, course_for, leased_after, row_after}
use Rattle.session_laws.specs.{Tasks.{course_by, forward_of, kinds_back}, Views.{PluginView, plugin_named}}
use Rattle.session_laws.specs.declared.{answer.TaskAnswer.TaskAnswer, row.Row.Row}
use Rattle.session_laws.specs.declared.answer.TaskAnswer.TheVariants as answers
use Rattle.session_verbs.specs.declared.part.PartEnd.TheVariants as parts
use Rattle.session_verbs.specs.Adds as adds
use Rattle.plugin_session.proofs.{Endings.{IsEnd, goes-ends}, Turned.{from-begin, made-all, ran-by, same-stop}}

-- ---- its course

-- what the row was leased, where Begin was granted, or what the row before was
abbrev pub leased_if : Begun → List Addr → List Addr
leased_if b leased = cond b.begun b.given.items leased

-- the course by what the ADD left
abbrev pub course_left : Handed → Begun → Course
course_left h b = course_by h.conf.network h.conf.ipam h.task (row_after h (row_if b)) (leased_if b h.leased)

pub left-course : (h : Handed) (b : Begun) → IsCourseOf h.conf.ipam b (course_left h b)
left-course h b = record {
  sets = refl;
  forward = λ is. ap (λ (begun : Bool). forward_of (row_after h (then_some begun b.row))) is;
  kinds = λ is. ap (λ (begun : Bool). kinds_back h.conf.ipam (row_after h (then_some begun b.row))) is;
}

leased-same : (h : Handed) (es : List Made) (row : Row) (given : List Addr) (begun : Bool)
    → (begun ≡ true → given ≡ leases_in (replies es))
    → cond begun given h.leased ≡ leased_after h es (then_some begun row)
leased-same h es row given true is = is refl
leased-same h es row given false is = refl

course-same : (h : Handed) (es : List Made) (b : Begun) → (b.begun ≡ true → b.given.items ≡ leases_in (replies es))
    → course_left h b ≡ course_for h es (row_if b)
course-same h es b given =
    ap (λ (leased : List Addr). course_by h.conf.network h.conf.ipam h.task (row_after h (row_if b)) leased)
    (leased-same h es b.row b.given.items b.begun given)

-- ---- its end

-- an ADD that made its attachment was begun
begun-by : (co : Course) (att : Att) (netns : List ℕ) (number made : ℕ) (r : Reply) (rs : List Reply)
    → IsOver (state_from co made (at_begin co number r) rs) Added → is_begun (Begin att netns) r ≡ true
begun-by co att netns number made Done rs over = refl
begun-by co att netns number made _ rs over = goes-ends false co made _ rs Added tt over

begun-at-call : (co : Course) (att : Att) (netns : List ℕ) (made : ℕ) (call : Call) (r : Reply) (rs : List Reply)
    → Some (Begin att netns) ≡ Some call → IsOver (state_from co (made + 1) (at_begin co (made + 1) r) rs) Added
    → is_begun call r ≡ true
begun-at-call co att netns made call r rs is over =
    subst (λ x. is_begun x r ≡ true) (same_Some (Begin att netns) call is)
    (begun-by co att netns (made + 1) (made + 1) r rs over)

added-begun : (co : Course) (c : Command) (f : ℕ → Bool) (made : ℕ) (host : Host) (es : List Made)
    → IsRunFrom co c f made AtBegin host es → IsOver (state_from co made AtBegin (replies es)) Added
    → has_begun es ≡ true
unfolding advance next_call finish_of
added-begun co c f made host [] run over = absurd (none-some Added over)
added-begun co c f made host (e ∷ es) run over =
    begun-at-call co (att_of c) c.netns made e.call e.reply (replies es) run.0 over

row-there : (b : Begun) (es : List Made) → b.begun ≡ has_begun es → has_begun es ≡ true → row_if b ≡ Some b.row
row-there b es is begun = ap (λ (x : Bool). then_some x b.row) (is ∙ begun)

-- ---- its answer

answer-added : (h : Handed) (es : List Made) (b : Begun) (t : State) (ending : Ending) (a : TaskAnswer)
    (new : JournalView)
    → IsEnd true ending → IsOver t ending → (ending ≡ Added → row_if b ≡ Some b.row)
    → IsAnswerToAdd (command_for h) new b.row (parts.Over ending) a → IsAnswerAt h es (row_if b) t a
answer-added h es b t Added a new end over there answer =
    subst (IsAnswerAt h es (row_if b) t) (sym answer.2) (over, (b.row, there refl, (answer.0, answer.1, refl)))
answer-added h es b t (Refused cause) a new end over there answer =
    subst (IsAnswerAt h es (row_if b) t) (sym answer) (cause, over, refl)
answer-added h es b t Yes a new end over there answer = cc
answer-added h es b t _ a new end over there answer = absurd end

-- what is known of an ADD's part: its entries, and the state that they came to
pub record CameTo (h : Handed) (old new : JournalView) (b : Begun) (es : List Made) (t : State) : Type 0 where
  pub went : Went (course_for h es (row_if b)) (command_for h) es old new AtBegin t
  pub begun : b.begun ≡ has_begun es
  pub given : b.begun ≡ true → b.given.items ≡ leases_in (replies es)

came-to : (h : Handed) (old new : JournalView) (b : Begun) (es : List Made) (t : State) → b.begun ≡ has_begun es
    → (b.begun ≡ true → b.given.items ≡ leases_in (replies es))
    → Went (course_left h b) (command_for h) es old new AtBegin t → CameTo h old new b es t
came-to h old new b es t begun given went = record {
  went = subst (λ co. Went co (command_for h) es old new AtBegin t) (course-same h es b given) went;
  begun = begun;
  given = given;
}

-- it is all of the task, with an answer to the state that it came to
runs-add : (suite : Suite) (h : Handed) (old new : JournalView) (b : Begun) (es : List Made)
    (t : State) (a : TaskAnswer)
    → IsTurnedTo h old → begins h.task.verb ≡ AtBegin → CameTo h old new b es t
    → (b.begun ≡ true → IsNewRow suite h es b.row) → IsAnswerAt h es (row_if b) t a → RunsAdd suite h old new b a
runs-add suite h old new b es t a turned verb came row answer = record {
  entries = es;
  journal = came.went.journal;
  begun = came.begun;
  given = came.given;
  row = row;
  ran = ran-by h es (row_if b) a old new t turned (from-begin h es (row_if b) old new AtBegin t verb came.went) answer;
}

pub add-ends : (suite : Suite) (h : Handed) (old new : JournalView) (b : Begun) (end : PartEnd)
    (r : Result TaskAnswer NoMemory) → IsTurnedTo h old → begins h.task.verb ≡ AtBegin
    → ((es : List Made) → (b.begun ≡ true → b.given.items ≡ leases_in (replies es)) → b.begun ≡ true
    → IsNewRow suite h es b.row)
    → Adds (course_left h b) (command_for h) old new b (Ok end)
    → IfOk r (IsAnswerToAdd (command_for h) new b.row end) → RunsAdd suite h old new b (answered r)
add-ends suite h old new b (parts.Over ending) (Ok a) turned verb row added answer =
    let es = added.entries in
    let t = added.ends.0 in
    let went = added.ends.1 in
    let co = course_left h b in
    let over : IsOver (state_from co old.made AtBegin (replies es)) ending =
    subst (λ u. IsOver u ending) (sym went.state) added.ends.2 in
    let end = goes-ends true co old.made AtBegin (replies es) ending refl over in
    let there : ending ≡ Added → row_if b ≡ Some b.row = λ is.
    row-there b es added.begun
    (added-begun co (command_for h) _ old.made old.host es went.run
    (subst (IsOver (state_from co old.made AtBegin (replies es))) is over)) in
    runs-add suite h old new b es t a turned verb (came-to h old new b es t added.begun added.given went)
    (row es added.given)
    (answer-added h es b t ending a new end added.ends.2 there answer)
add-ends suite h old new b parts.Stopped (Ok a) turned verb row added answer =
    let es = added.entries in
    let t = added.ends.0 in
    let went = added.ends.1 in
    let calls = answer.0 in
    let stop = same-stop (course_left h b) (command_for h) h es old new AtBegin t (Some calls) turned went answer.2 in
    let all = made-all (course_left h b) (command_for h) h es old new AtBegin t calls turned went answer.3 in
    runs-add suite h old new b es t a turned verb (came-to h old new b es t added.begun added.given went)
    (row es added.given)
    (subst (IsAnswerAt h es (row_if b) t) (sym answer.1) (added.ends.2.0, stop, all))
add-ends suite h old new b (parts.Over ending) (Err e) turned verb row added answer =
    runs-add suite h old new b added.entries added.ends.0 answers.OutOfMemory turned verb
    (came-to h old new b added.entries added.ends.0 added.begun added.given added.ends.1)
    (row added.entries added.given) tt
add-ends suite h old new b parts.Stopped (Err e) turned verb row added answer =
    runs-add suite h old new b added.entries added.ends.0 answers.OutOfMemory turned verb
    (came-to h old new b added.entries added.ends.0 added.begun added.given added.ends.1)
    (row added.entries added.given) tt

-- memory is refused on the way
pub add-cut : (suite : Suite) (h : Handed) (old new : JournalView) (b : Begun) (e : NoMemory)
    (r : Result TaskAnswer NoMemory) → IsTurnedTo h old → begins h.task.verb ≡ AtBegin
    → ((es : List Made) → (b.begun ≡ true → b.given.items ≡ leases_in (replies es)) → b.begun ≡ true
    → IsNewRow suite h es b.row)
    → Adds (course_left h b) (command_for h) old new b (Err e) → IsErr r → RunsAdd suite h old new b (answered r)
add-cut suite h old new b e (Ok a) turned verb row added err = cc
add-cut suite h old new b e (Err f) turned verb row added err =
    runs-add suite h old new b added.entries added.ends.0 answers.OutOfMemory turned verb
    (came-to h old new b added.entries added.ends.0 added.begun added.given added.ends.1)
    (row added.entries added.given) tt

-- the task's stop is reached where an ADD is stopped
pub add-stopped : (co : Course) (c : Command) (old new : JournalView) (b : Begun) (end : PartEnd)
    → Adds co c old new b (Ok end) → end ≡ parts.Stopped → may_go new ≡ false
add-stopped co c old new b parts.Stopped added is = added.ends.2.1
add-stopped co c old new b (parts.Over ending) added is = cc

-- ---- its row

match-then : {X : Type 0} (o : Option X) (P : Type 0) (Q R : X → Type 0)
    → ((x : X) → is_some o ≡ true → Q x → R x)
    → MatchOption o P Q → MatchOption o P R
match-then None P Q R f h = h
match-then (Some x) P Q R f h = f x refl h

-- the ask of the task is that of the attachment with what it was leased
ask-same : (h : Handed) (es : List Made) (att : Att) (given : List Addr) → att ≡ att_of (command_for h)
    → given ≡ leases_in (replies es) → adds.ask_for h.conf h.task att given ≡ ask_for h es
ask-same h es att given atts leases =
    ap (λ (x : Att). adds.ask_for h.conf h.task x given) atts
    ∙ ap (λ (x : List Addr). adds.ask_for h.conf h.task (att_of (command_for h)) x) leases

answered-same : (suite : Suite) (h : Handed) (es : List Made) (row : Row) (name : List ℕ) (ask : Ask) (cached : Cached)
    → name ≡ h.task.kind_name → ask ≡ ask_for h es → length (leases_in (replies es)) ≡ length (sets_by h.conf.ipam)
    → IsAnswer (suite.may_call name) (suite.may_result name) ask row cached → IsAnswered suite h es row cached
answered-same suite h es row name ask cached named asked leased is = record {
  leased = leased;
  calls =
      subst (λ (n : List ℕ). suite.may_call n (ask_for h es) row.calls) named
      (subst (λ (a : Ask). suite.may_call name a row.calls) asked is.calls);
  own = subst (λ (a : Ask). OwnCalls a row.kinds row.calls) asked is.own;
  netns = is.netns ∙ ap (λ (a : Ask). a.netns) asked;
  mappings = is.mappings;
  result =
      subst (λ (n : List ℕ). suite.may_result n (ask_for h es) cached.result) named
      (subst (λ (a : Ask). suite.may_result name a cached.result) asked is.result);
}

pub new-row : (suite : Suite) (h : Handed) (plugin : PluginView) (sets : ℕ) (before b : Begun)
    → plugin.name ≡ h.task.kind_name → plugin_named suite.plugins h.task.kind_name ≡ Some plugin
    → IsUnbegun h.number (att_of (command_for h)) plugin.kinds sets before
    → Fills (suite.may_call plugin.name) (suite.may_result plugin.name)
    (adds.ask_for h.conf h.task before.row.att b.given.items) before.row b.row
    → (is_some b.row.cached ≡ true → length b.given.items ≡ length (sets_by h.conf.ipam))
    → (es : List Made) → (b.begun ≡ true → b.given.items ≡ leases_in (replies es)) → b.begun ≡ true
    → IsNewRow suite h es b.row
new-row suite h plugin sets before b name named unbegun fills asked es given begun = record {
  task = fills.task ∙ unbegun.task;
  att = fills.att ∙ unbegun.att;
  plugin = plugin;
  named = named;
  kinds = fills.kinds ∙ unbegun.kinds;
  filled =
      match-then b.row.cached (b.row.calls ≡ [])
      (IsAnswer (suite.may_call plugin.name) (suite.may_result plugin.name)
      (adds.ask_for h.conf h.task before.row.att b.given.items) b.row)
      (IsAnswered suite h es b.row) (λ cached some.
      answered-same suite h es b.row plugin.name _ cached name
      (ask-same h es before.row.att b.given.items unbegun.att (given begun))
      (sym (ap length (given begun)) ∙ asked some))
      fills.filled;
}
