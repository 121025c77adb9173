-- The moments of a legal history: each prefix is the history of a legal world.
use Rattle.pod_workers.proofs.Names.{◌≡◌, ◌≢◌, ℕ, ◌+◌, ◌≤◌, Bool, List, [], ◌∷◌, ◌++◌, Some, None, slice_get, slice_set}
use Rattle.pod_workers.proofs.Names.{refl, sym, ◌∙◌, ap, subst, inl, inr, ◌⊎◌, arith, append_assoc, eqb_tells}
use Rattle.pod_workers.proofs.Names.{append-nil, same_Some, none-some, slice_get_within, Answer, OutOfMemory, Call}
use Rattle.pod_workers.specs.{Extends.KeepsAnswers, Facts.{HasPrefix, IsMadeAt, IsOpenAfter, IsAnsweredAt}, Legal.Legal}
use Rattle.pod_workers.specs.{Legal.{starts, steps, refused_memory, turns}, Plans.{Placed, commands_of}, World.World}
use Rattle.pod_workers.specs.World.{IsReady, own_replies, host_of, done, answered, with_entry, entry_of, next_of}
use Rattle.pod_workers.specs.{World.next_round, declared.plan.{Entry.Entry, Next.Next}}
use Rattle.pod_workers.specs.declared.plan.Next.TheVariants as next
use Rattle.pod_workers.proofs.{Hosts.Sound.goes_in, InOrder.Order.none_answered, Lists.Splits.{split_nil, split_snoc}}
use Rattle.pod_workers.proofs.Worlds.Histories.{slice_get-set_same, slice_get-set_other, replies_of-other}

-- ---- one world after another

-- what a step, a refusal and a new round leave
record GoesOn (v w : World) : Type 0 where
  plan_is : w.plan ≡ v.plan
  answers_stand : KeepsAnswers v.answers w.answers
  round : v.round ≤ w.round

keeps : (v : World) (n : ℕ) (b : Answer) → slice_get v.answers n ≡ Some None
    → KeepsAnswers v.answers (slice_set v.answers n (Some b))
keeps v n b is = λ m a at.
    let other : m ≢ n = λ same.
    none-some a (same_Some None (Some a) (sym is ∙ ap (slice_get v.answers) (sym same) ∙ at)) in
    slice_get-set_other v.answers n m (Some b) other ∙ at

on_answered : (v : World) (n : ℕ) (b : Answer) → slice_get v.answers n ≡ Some None → GoesOn v (answered v n b)
on_answered v n b is = record { plan_is = refl; answers_stand = keeps v n b is; round = omega arith }

on_done : (v : World) (n : ℕ) (x : Next) → slice_get v.answers n ≡ Some None → GoesOn v (done v n x)
on_done v n (next.Answer a) is = on_answered v n a is
on_done v n (next.Call call faulty) is = record { plan_is = refl; answers_stand = λ m a at. at; round = omega arith }

on_next_round : (v : World) → GoesOn v (next_round v)
on_next_round v = record { plan_is = refl; answers_stand = λ m a at. at; round = omega arith }

abbrev later_prefix : (v w : World) (before : List Entry) → GoesOn v w → HasPrefix v before → HasPrefix w before
later_prefix v w before on f = record {
  world = f.world;
  legal = f.legal;
  plan_is = f.plan_is ∙ sym on.plan_is;
  history_is = f.history_is;
  answers_stand = λ n a at. on.answers_stand n a (f.answers_stand n a at);
  round = let one = f.round in let two = on.round in omega arith;
}

-- a legal world, with its whole history
abbrev own_prefix : (w : World) → Legal w → HasPrefix w w.history
own_prefix w legal = record {
  world = w;
  legal = legal;
  plan_is = refl;
  history_is = refl;
  answers_stand = λ n a at. at;
  round = omega arith;
}

-- ---- the prefix in which an entry was made

later_made : (v w : World) (before : List Entry) (e : Entry) → GoesOn v w → IsMadeAt v before e → IsMadeAt w before e
later_made v w before e on m = record {
  at = later_prefix v w before on m.at;
  place = m.place;
  by = m.by;
  number = m.number;
  ready = m.ready;
  makes = m.makes;
  goes = m.goes;
}

made_now : (v : World) (n : ℕ) (c : Placed) (call : Call) (faulty : Bool) → Legal v → IsReady v n c
    → next_of v c.command (own_replies v n) ≡ next.Call call faulty
    → IsMadeAt (with_entry v (entry_of (host_of v) n call faulty)) v.history (entry_of (host_of v) n call faulty)
made_now v n c call faulty legal ready is = record {
  at =
      later_prefix v (with_entry v (entry_of (host_of v) n call faulty)) v.history
      (on_done v n (next.Call call faulty) ready.unanswered) (own_prefix v legal);
  place = n;
  by = c;
  number = refl;
  ready = ready;
  makes = ap (done v n) (sym is);
  goes = is ∙ ap (next.Call call) (sym (goes_in v n c.command call faulty is).fault_is);
}

made_done : (v : World) (n : ℕ) (c : Placed) (x : Next) (before rest : List Entry) (e : Entry) → Legal v → IsReady v n c
    → next_of v c.command (own_replies v n) ≡ x
    → ((more : List Entry) → v.history ≡ before ++ e ∷ more → IsMadeAt v before e)
    → (done v n x).history ≡ before ++ e ∷ rest → IsMadeAt (done v n x) before e
made_done v n c (next.Answer a) before rest e legal ready is earlier at =
    later_made v (done v n (next.Answer a)) before e (on_done v n (next.Answer a) ready.unanswered) (earlier rest at)
made_done v n c (next.Call call faulty) before rest e legal ready is earlier at =
    let x = entry_of (host_of v) n call faulty in
    elim (split_snoc v.history before rest x e at) [
      | inl t ↦
          subst (λ b. IsMadeAt (with_entry v x) b e) t.1
          (subst (IsMadeAt (with_entry v x) v.history) t.2 (made_now v n c call faulty legal ready is))
      | inr t ↦
          later_made v (with_entry v x) before e (on_done v n (next.Call call faulty) ready.unanswered)
          (earlier t.0 t.2)
    ]

pub each_made : (w : World) → Legal w → (before rest : List Entry) (e : Entry) → w.history ≡ before ++ e ∷ rest
    → IsMadeAt w before e
each_made _ (starts w begun) before rest e at =
    absurd (split_nil before rest e (sym (ap (λ (v : World). v.history) begun.is) ∙ at))
each_made _ (steps v w n c legal ready is) before rest e at =
    subst (λ u. IsMadeAt u before e) (sym is)
    (made_done v n c (next_of v c.command (own_replies v n)) before rest e legal ready refl
    (λ more at_v. each_made v legal before more e at_v) (ap (λ (u : World). u.history) (sym is) ∙ at))
each_made _ (refused_memory v w n c legal ready is) before rest e at =
    subst (λ u. IsMadeAt u before e) (sym is)
    (later_made v (answered v n OutOfMemory) before e (on_answered v n OutOfMemory ready.unanswered)
    (each_made v legal before rest e (ap (λ (u : World). u.history) (sym is) ∙ at)))
each_made _ (turns v w legal less over is) before rest e at =
    subst (λ u. IsMadeAt u before e) (sym is)
    (later_made v (next_round v) before e (on_next_round v)
    (each_made v legal before rest e (ap (λ (u : World). u.history) (sym is) ∙ at)))

pub each_prefix : (w : World) → Legal w → (before rest : List Entry) → w.history ≡ before ++ rest → HasPrefix w before
each_prefix w legal before [] at = subst (HasPrefix w) (at ∙ append-nil before) (own_prefix w legal)
each_prefix w legal before (e ∷ rest) at = (each_made w legal before rest e at).at

-- ---- right after an entry

pub each_open_after : (w : World) → Legal w → (before rest : List Entry) (e : Entry) → w.history ≡ before ++ e ∷ rest
    → IsOpenAfter w before e
each_open_after w legal before rest e at =
    let m = each_made w legal before rest e at in
    record {
      at = record {
        world = with_entry m.at.world e;
        legal = steps m.at.world (with_entry m.at.world e) m.place m.by m.at.legal m.ready m.makes;
        plan_is = m.at.plan_is;
        history_is = ap (λ h. h ++ e ∷ []) m.at.history_is;
        answers_stand = m.at.answers_stand;
        round = m.at.round;
      };
      place = m.place;
      by = m.by;
      of = record {
        number = m.number;
        there = ap (λ p. slice_get (commands_of p) m.place) (sym m.at.plan_is) ∙ m.ready.there;
      };
      unanswered = m.ready.unanswered;
    }

-- ---- the prefix in which an answer was given

later_answered : (v w : World) (n : ℕ) (a : Answer) (more : List Entry) → GoesOn v w → w.history ≡ v.history ++ more
    → own_replies w n ≡ own_replies v n → IsAnsweredAt v n a → IsAnsweredAt w n a
later_answered v w n a more on grown same g = record {
  before = g.before;
  rest = g.rest ++ more;
  split = grown ∙ ap (λ h. h ++ more) g.split ∙ append_assoc g.before g.rest more;
  at = later_prefix v w g.before on g.at;
  by = g.by;
  ready = g.ready;
  replies_are = same ∙ g.replies_are;
  due = g.due;
}

-- the answers so far, and the one that is given now
answered_now : (v : World) (n : ℕ) (c : Placed) (b : Answer) (m : ℕ) (a : Answer) → Legal v → IsReady v n c
    → (next_of v c.command (own_replies v n) ≡ next.Answer b) ⊎ (b ≡ OutOfMemory)
    → (slice_get v.answers m ≡ Some (Some a) → IsAnsweredAt v m a)
    → slice_get (slice_set v.answers n (Some b)) m ≡ Some (Some a) → IsAnsweredAt (answered v n b) m a
answered_now v n c b m a legal ready due earlier at = elim (eqb_tells m n) [
  | inl t ↦
      let within = slice_get_within v.answers n None ready.unanswered in
      let same : b ≡ a =
      same_Some b a (same_Some (Some b) (Some a)
      (sym (slice_get-set_same v.answers n (Some b) within)
      ∙ ap (slice_get (slice_set v.answers n (Some b))) (sym t.1)
      ∙ at)) in
      let now : IsAnsweredAt (answered v n b) n b = record {
        before = v.history;
        rest = [];
        split = sym (append-nil v.history);
        at =
            later_prefix v (answered v n b) v.history (on_answered v n b ready.unanswered)
            (own_prefix v legal);
        by = c;
        ready = ready;
        replies_are = refl;
        due = due;
      } in
      subst (λ j. IsAnsweredAt (answered v n b) j a) (sym t.1) (subst (IsAnsweredAt (answered v n b) n) same now)
  | inr f ↦
      later_answered v (answered v n b) m a [] (on_answered v n b ready.unanswered) (sym (append-nil v.history)) refl
      (earlier (sym (slice_get-set_other v.answers n m (Some b) f.1) ∙ at))
]

answered_done : (v : World) (n : ℕ) (c : Placed) (x : Next) (m : ℕ) (a : Answer) → Legal v → IsReady v n c
    → next_of v c.command (own_replies v n) ≡ x
    → (slice_get v.answers m ≡ Some (Some a) → IsAnsweredAt v m a) → slice_get (done v n x).answers m ≡ Some (Some a)
    → IsAnsweredAt (done v n x) m a
answered_done v n c (next.Answer b) m a legal ready is earlier at =
    answered_now v n c b m a legal ready (inl is) earlier at
answered_done v n c (next.Call call faulty) m a legal ready is earlier at =
    let e = entry_of (host_of v) n call faulty in
    let other : e.command ≢ m + 1 = λ same.
    none-some a (same_Some None (Some a)
    (sym ready.unanswered ∙ ap (slice_get v.answers) (let place : n ≡ m = omega arith in place) ∙ at)) in
    later_answered v (with_entry v e) m a (e ∷ []) (on_done v n (next.Call call faulty) ready.unanswered) refl
    (replies_of-other m v.history e other) (earlier at)

pub each_answered : (w : World) → Legal w → (n : ℕ) (a : Answer) → slice_get w.answers n ≡ Some (Some a)
    → IsAnsweredAt w n a
each_answered _ (starts w begun) n a at = absurd (none_answered w n a begun at)
each_answered _ (steps v w k c legal ready is) n a at =
    subst (λ u. IsAnsweredAt u n a) (sym is)
    (answered_done v k c (next_of v c.command (own_replies v k)) n a legal ready refl (each_answered v legal n a)
    (ap (λ (u : World). slice_get u.answers n) (sym is) ∙ at))
each_answered _ (refused_memory v w k c legal ready is) n a at =
    subst (λ u. IsAnsweredAt u n a) (sym is)
    (answered_now v k c OutOfMemory n a legal ready (inr refl) (each_answered v legal n a)
    (ap (λ (u : World). slice_get u.answers n) (sym is) ∙ at))
each_answered _ (turns v w legal less over is) n a at =
    subst (λ u. IsAnsweredAt u n a) (sym is)
    (later_answered v (next_round v) n a [] (on_next_round v) (sym (append-nil v.history)) refl
    (each_answered v legal n a (ap (λ (u : World). slice_get u.answers n) (sym is) ∙ at)))
