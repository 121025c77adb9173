use Rattle.plugin_session.proofs.Names.{◌≡◌, ℕ, cond, List, Some, Bor, length, ◌∙◌, ap, sym, arith, length-append}
use Rattle.plugin_session.proofs.Numbers.{all-numbered, at_names, found-number, names-test, new-number, none-more}
use Rattle.plugin_session.proofs.Numbers.{same_names, task-again, task-new}
use Rattle.plugin_session.proofs.attachments.number_attachments.Goals.{then-is_none+in_ok-insert+in_ok-push}
use Rattle.plugin_session.proofs.attachments.number_attachments.Goals.{else-is_none}
use Rattle.plugin_session.proofs.attachments.number_attachments.Goals as goal

pub loop-task-preserved : goal.loop-task-preserved
loop-task-preserved c =
    let t = c.task-item.result in
    let n = c.loop-task.task-index in
    let count = length c.loop-task.last_rows.items in
    let known = at_names c.loop-task.known in
    let numbers = c.loop-task.numbers.items in
    let found : c.copied-found.result ≡ known t.container t.ifname =
    c.copied-found.ensures
    ∙ c.get.ensures.value
    ∙ ap (λ x. known x c.as_str-in-loop-task.result.now) c.as_str.ensures
    ∙ ap (known t.container) c.as_str-in-loop-task.ensures in
    let next : c.len.result ≡ count = omega (arith, c.len.ensures, c.loop-task.last_rows.ok.0) in
    elim c.if-is_none.branch [
      | then-is_none+in_ok-insert+in_ok-push w ↦ (
          let new =
          new-number c.copied-found.result c.len.result c.unwrap_or-number.result c.is_none.result
          c.unwrap_or-number.ensures c.is_none.ensures w.if-is_none.true in
          let is_next : c.unwrap_or-number.result ≡ count = new.1 ∙ next in
          let at : List ℕ → Bor (List ℕ) = λ text. record { ref_ptr = (0, 0); now = text } in
          let grown :
          (c2 i : List ℕ)
          → at_names w.insert.new.self c2 i
          ≡ cond (same_names t.container t.ifname c2 i) (Some count) (known c2 i) =
          λ c2 i. w.in_ok-insert.ensures.updates.0 (at c2, at i)
          ∙ ap (λ b. cond b (Some c.unwrap_or-number.result) (known c2 i))
          (names-test c.as_str.result.now c.as_str-in-loop-task.result.now c2 i)
          ∙ ap (λ x.
          cond (same_names x c.as_str-in-loop-task.result.now c2 i)
          (Some c.unwrap_or-number.result) (known c2 i))
          c.as_str.ensures
          ∙ ap (λ x. cond (same_names t.container x c2 i) (Some c.unwrap_or-number.result) (known c2 i))
          c.as_str-in-loop-task.ensures
          ∙ ap (λ k. cond (same_names t.container t.ifname c2 i) (Some k) (known c2 i)) is_next in
          record {
            numbered =
                rw (
                  c.in_ok-push-2.ensures.items,
                  w.last_rows-is,
                  w.in_ok-push.ensures.items,
                  w.known-is,
                  is_next,
                  length-append,
                )
                (task-new c.args.tasks.now n t numbers count known (at_names w.insert.new.self)
                c.loop-task-test.true c.task-item.is (sym found ∙ new.0) grown c.loop-task.invariant.numbered);
            none =
                rw (w.last_rows-is, w.in_ok-push.ensures.items)
                (none-more c.loop-task.last_rows.items c.loop-task.invariant.none);
          })
      | else-is_none w ↦ (
          let same =
          found-number c.copied-found.result c.len.result c.unwrap_or-number.result c.is_none.result
          c.unwrap_or-number.ensures c.is_none.ensures w.if-is_none.false in
          record {
            numbered = rw (c.in_ok-push-2.ensures.items, w.last_rows-is, w.known-is)
                (task-again c.args.tasks.now n t numbers count c.unwrap_or-number.result known
                c.loop-task-test.true c.task-item.is (sym found ∙ same) c.loop-task.invariant.numbered);
            none = rw w.last_rows-is c.loop-task.invariant.none;
          })
    ]

pub returns-clause-numbered : goal.returns-clause-numbered
returns-clause-numbered c = λ network.
    all-numbered c.args.tasks.now c.loop-task.task-index c.loop-task.numbers.items (length c.loop-task.last_rows.items)
    (at_names c.loop-task.known) network c.loop-task-test.false c.loop-task.invariant.numbered
