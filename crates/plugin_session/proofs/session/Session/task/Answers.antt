use Rattle.plugin_session.proofs.Names.{◌≡◌, ◌<◌, ◌≤◌, ◌+◌, length, map, refl, sym, ap, subst, arith, option_copied}
use Rattle.session_laws.specs.{Holds.{Grows, Suite}, Ran.Handed, Views.{SessionView, number}}
use Rattle.plugin_session.proofs.SessionKept.{IsAfter, after-grows, after-holds, after-kept, handed-read, read-at}
use Rattle.plugin_session.proofs.session.Session.task.{Given.Over, Goals.After-push_reserved}
use Rattle.plugin_session.proofs.session.Session.task.Goals as goal

abbrev IsLeft : SessionView → Type 0
IsLeft s = number s < length s.conf.tasks

-- the session that a task begins with
abbrev before : (g : Over) (c : After-push_reserved g) → SessionView
before g c = record {
  conf = c.self.inside.conf;
  history = c.self.inside.journal.history;
  rows = c.self.inside.rows.items;
  answers = c.self.inside.answers.items;
}

-- the plugins that are registered
abbrev suite : (g : Over) (c : After-push_reserved g) → Suite
suite g c = record {
  plugins = map (λ p. record { name = p.name; needs = p.needs; kinds = p.kinds }) c.args.registry.now.plugins.items;
  may_call = g.P.Promise.may_call;
  may_result = g.P.Promise.may_result;
}

-- the session after the task
abbrev after : (g : Over) (c : After-push_reserved g) → SessionView
after g c = record {
  conf = c.self.inside.conf;
  history = c.run_task-answer.new.journal.history;
  rows = c.keep.new.rows.items;
  answers = c.push_reserved.new.self.items;
}

ended : (g : Over) (c : After-push_reserved g)
    → IsAfter (suite g c) c.self.inside.journal c.run_task-answer.new.journal c.self.inside.leased.items
    c.keep.new.leased.items
    c.self.inside.attachments.items c.self.inside.last_rows.items c.keep.new.last_rows.items
    (before g c) (after g c)
ended g c =
    let count : c.len-number.result ≡ length c.self.inside.answers.items =
    omega (arith, c.len-number.ensures, c.self.inside.answers.ok.0) in
    let left = subst IsLeft (sym c.self.view_is) c.requires.left in
    let within : length c.self.inside.answers.items < length c.self.inside.attachments.items =
    rw c.self.invariant.0.numbered.long left in
    let at =
    read-at c.self.inside.attachments.items c.len-number.result _ c.index.result.now count within c.index.ensures in
    let there =
    read-at c.self.inside.conf.tasks c.len-number.result _ c.index-as_slice-number.result count left
    (rw c.as_slice.ensures at c.index-as_slice-number.is) in
    let place =
    read-at c.self.inside.last_rows.items c.index.result.now _ c.index-place.result.now refl
    (c.self.invariant.0.numbered.below _ _ at) c.index-place.ensures in
    let hand : Handed = record {
      conf = c.self.inside.conf;
      number = c.len-number.result + 1;
      task = c.index-as_slice-number.result;
      row = option_copied c.row_at.result;
      leased = c.leased_at.result.now;
    } in
    record {
      kept = c.self.invariant.0;
      task = c.index-as_slice-number.result;
      there = there;
      hand = hand;
      is_handed =
          handed-read _ _ _ _ _ _ _ _ hand c.self.invariant.0 there at place refl (ap (λ n. n + 1) count) refl
          (rw c.as_slice-2.ensures.value at c.row_at.ensures)
          (rw c.as_slice-3.ensures.value at c.leased_at.ensures);
      run = c.run_task-answer.result;
      ran = c.run_task-answer.ensures.ran;
      attachment = c.index.result.now;
      at = at;
      is = λ i.
          record {
            conf = c.self.inside.conf;
            history = c.run_task-answer.new.journal.history;
            rows = c.keep.ensures.rows i;
            answers = c.push_reserved.ensures.items i;
          };
      leased = c.keep.ensures.leased;
      last_rows = c.keep.ensures.last_rows;
    }

pub keep-requires-clause-attachment : goal.keep-requires-clause-attachment
keep-requires-clause-attachment g c =
    let count : c.len-number.result ≡ length c.self.inside.answers.items =
    omega (arith, c.len-number.ensures, c.self.inside.answers.ok.0) in
    let left = subst IsLeft (sym c.self.view_is) c.requires.left in
    let within : length c.self.inside.answers.items < length c.self.inside.attachments.items =
    rw c.self.invariant.0.numbered.long left in
    c.self.invariant.0.numbered.below _ _
    (read-at c.self.inside.attachments.items c.len-number.result _ c.index.result.now count within c.index.ensures)

pub invariant_of-self : goal.invariant_of-self
invariant_of-self g c = (
  after-kept _ _ _ _ _ _ _ _ _ _ (ended g c),
  subst (λ n. length c.self.inside.conf.tasks ≤ n) (sym c.keep.ensures.row_room) c.self.invariant.1,
  subst (λ n. length c.self.inside.conf.tasks ≤ n) (sym c.keep.ensures.leased_room) c.self.invariant.2,
  subst (λ n. length c.self.inside.conf.tasks ≤ n) (sym c.push_reserved.ensures.capacity) c.self.invariant.3,
)

pub returns-clause-grows : goal.returns-clause-grows
returns-clause-grows g c =
    subst (λ s. Grows s (after g c)) c.self.view_is (after-grows _ _ _ _ _ _ _ _ _ _ (ended g c))

pub returns-clause-holds : goal.returns-clause-holds
returns-clause-holds g c = after-holds _ _ _ _ _ _ _ _ _ _ (ended g c)
