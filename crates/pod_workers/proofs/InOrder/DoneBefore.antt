-- Where a command made a call, each earlier one of its container is done.
use Rattle.pod_workers.proofs.Names.{◌≡◌, ◌≢◌, ℕ, ◌+◌, ◌<◌, false, Option, Some, None, slice_get, refl, sym, ◌∙◌, ap}
use Rattle.pod_workers.proofs.Names.{subst, inl, inr, arith, eqb_tells, Answer, OutOfMemory}
use Rattle.pod_workers.specs.Facts.{EntryIsInRound, IsDone, EachIsDoneBefore, AreOfOneContainer, GoesOneByOne}
use Rattle.pod_workers.specs.{Legal.{Legal, starts, steps, refused_memory, turns}, Plans.{Placed, commands_of}}
use Rattle.pod_workers.specs.World.{World, IsReady, IsAnswered, own_replies, replies_of, host_of, is_cut, done}
use Rattle.pod_workers.specs.{World.{answered, with_entry, entry_of, next_of}, declared.plan.{Entry.Entry, Next.Next}}
use Rattle.pod_workers.specs.declared.plan.Next.TheVariants as next
use Rattle.pod_workers.proofs.{Hosts.Sound.goes_in, InOrder.Order.{in_order, not_both, ready_is, before_ready}}
use Rattle.pod_workers.proofs.{InOrder.Order.other_number, Worlds.{AnswersDue.answer_is_due, Facts.two_entries}}
use Rattle.pod_workers.proofs.Worlds.{Facts.{each_follows, cut_before}, Histories.slice_get-set_other}
use Rattle.pod_workers.proofs.Worlds.Histories.{replies_of-other}

-- ---- what is done stays done

pub done-not_ready : (w : World) (m n : ℕ) (d c : Placed) → IsReady w n c → IsDone w m d → m ≢ n
done-not_ready w m n d c ready is = λ same.
    not_both w n (is.0, ap (slice_get w.answers) (sym same) ∙ is.1) ready.unanswered

pub done_answered : (w : World) (m n : ℕ) (d : Placed) (b : Answer) → m ≢ n → IsDone w m d → IsDone (answered w n b) m d
done_answered w m n d b other is = (is.0, slice_get-set_other w.answers n m (Some b) other ∙ is.1, is.2)

pub done_entered : (w : World) (m : ℕ) (d : Placed) (e : Entry) → e.command ≢ m + 1 → IsDone w m d
    → IsDone (with_entry w e) m d
done_entered w m d e other is = (
  is.0,
  is.1,
  elim is.2 [
    | inl scripts ↦ inl (rw (replies_of-other m w.history e other) scripts)
    | inr (inl stopped) ↦ inr (inl (rw (replies_of-other m w.history e other) stopped))
    | inr (inr lacking) ↦ inr (inr lacking)
  ],
)

-- ---- a step

-- where a command of the current round makes a call, no earlier one of the round was stopped with it
not_cut : (w : World) (stop : Option ℕ) (round : ℕ) → Legal w → is_cut w ≡ false → w.plan.stop_at ≡ stop
    → round ≡ w.round → EntryIsInRound w.plan w.history stop round → ⊥
not_cut w None round legal no_cut named same is = is
not_cut w (Some number) round legal no_cut named same is =
    let less =
    cut_before w is.0 is.1 is.2 is.3 is.4 (in_order w legal) (two_entries w legal) (each_follows w legal) no_cut
    is.5 is.7 (named ∙ ap Some (sym is.6)) in
    let of_round = is.8 in
    omega arith

-- an answer that isn't a stop of the round
pub done_now : (w : World) (m : ℕ) (d : Placed) → Legal w → is_cut w ≡ false → d.round ≡ w.round
    → slice_get (commands_of w.plan) m ≡ Some d → IsAnswered w m → IsDone w m d
done_now w m d legal no_cut round at a = (
  a.0,
  a.1,
  elim (answer_is_due w legal m d at a.0 a.1) [
    | inl scripts ↦ inl scripts
    | inr (inl stopped) ↦ elim stopped.1 [
      | inl own ↦ inr (inl (stopped.0.2, own))
      | inr cut ↦ absurd (not_cut w w.plan.stop_at d.round legal no_cut refl round cut)
    ]
    | inr (inr lacking) ↦ inr (inr lacking)
  ],
)

pub done_before_answered : (w : World) (n : ℕ) (c : Placed) (b : Answer) (Fit : Placed → Placed → Type 0)
    → EachIsDoneBefore w Fit → IsReady w n c → EachIsDoneBefore (answered w n b) Fit
done_before_answered w n c b Fit each ready = λ l m d x less at_l at_m fits. elim (each l m d x less at_l at_m fits) [
  | inl none ↦ inl none
  | inr is ↦ inr (done_answered w l n d b (done-not_ready w l n d c ready is) is)
]

-- each earlier command that fits this one is of the current round and has its answer
abbrev pub FittingAreAnswered : World → (Placed → Placed → Type 0) → ℕ → Placed → Type 0
FittingAreAnswered w Fit n c =
    (m : ℕ) (d : Placed) → m < n → slice_get (commands_of w.plan) m ≡ Some d → Fit d c
    → (d.round ≡ w.round) × IsAnswered w m

pub done_before_entered : (w : World) (n : ℕ) (c : Placed) (e : Entry) (Fit : Placed → Placed → Type 0) → Legal w
    → EachIsDoneBefore w Fit → IsReady w n c → FittingAreAnswered w Fit n c
    → is_cut w ≡ false → e.command ≡ n + 1 → EachIsDoneBefore (with_entry w e) Fit
done_before_entered w n c e Fit legal each ready earlier no_cut own = λ l m d x less at_l at_m fits.
    elim (eqb_tells m n) [
      | inl t ↦
          let same : x ≡ c = ready_is w n m c x ready t.1 at_m in
          let below : l < n = let place = t.1 in omega arith in
          let before = earlier l d below at_l (subst (Fit d) same fits) in
          inr (done_entered w l d e (other_number e n l own (λ eq. let place : l ≡ n = eq in omega arith))
          (done_now w l d legal no_cut before.0 at_l before.1))
      | inr f ↦ elim (each l m d x less at_l at_m fits) [
        | inl none ↦ inl (replies_of-other m w.history e (other_number e n m own f.1) ∙ none)
        | inr is ↦ inr (done_entered w l d e (other_number e n l own (done-not_ready w l n d c ready is)) is)
      ]
    ]

-- ---- every legal world

whole_done : (w : World) (n : ℕ) (c : Placed) (x : Next) → Legal w → EachIsDoneBefore w AreOfOneContainer
    → IsReady w n c → next_of w c.command (own_replies w n) ≡ x → EachIsDoneBefore (done w n x) AreOfOneContainer
whole_done w n c (next.Answer a) legal each ready is = done_before_answered w n c a AreOfOneContainer each ready
whole_done w n c (next.Call call faulty) legal each ready is =
    done_before_entered w n c (entry_of (host_of w) n call faulty) AreOfOneContainer legal each ready
    (λ m d less at besides.
    (besides.0 ∙ ready.current, before_ready w m n d c (in_order w legal) ready less at besides.0 besides.1))
    (goes_in w n c.command call faulty is).no_cut refl

pub whole : (w : World) → Legal w → EachIsDoneBefore w AreOfOneContainer
whole _ (starts w begun) = λ m n d c less at_m at_n besides.
    inl (ap (replies_of n) (ap (λ (v : World). v.history) begun.is))
whole _ (steps v w n c legal ready is) =
    subst (λ u. EachIsDoneBefore u AreOfOneContainer) (sym is)
    (whole_done v n c (next_of v c.command (own_replies v n)) legal (whole v legal) ready refl)
whole _ (refused_memory v w n c legal ready is) =
    subst (λ u. EachIsDoneBefore u AreOfOneContainer) (sym is)
    (done_before_answered v n c OutOfMemory AreOfOneContainer (whole v legal) ready)
whole _ (turns v w legal less over is) = subst (λ u. EachIsDoneBefore u AreOfOneContainer) (sym is) (whole v legal)

pub goes_one_by_one : (w : World) → Legal w → GoesOneByOne w
goes_one_by_one w legal = record {
  first = (in_order w legal).first;
  whole = whole w legal;
  entries = (two_entries w legal).containers;
}
