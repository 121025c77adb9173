-- A stopped command is answered how many calls it made, and they are no more than what stopped it allows.
use Rattle.pod_workers.proofs.Names.{◌≡◌, ℕ, ◌+◌, ◌≤◌, ◌⊎◌, List, [], ◌∷◌, ◌++◌, length, Option, Some, None, slice_get}
use Rattle.pod_workers.proofs.Names.{refl, sym, ◌∙◌, ap, subst, arith, inl, inr, append_assoc, append-nil, length_push}
use Rattle.pod_workers.proofs.Names.{Addr, answer_by, Finish, OutOfMemory, Stopped, Ending, Yes, Skipped, Versions}
use Rattle.pod_workers.proofs.Names.{Refused, NetList, Command}
use Rattle.cni_verbs.specs.Endings.{answer_of, answer_of_ending, answer_outside, outside_by}
use Rattle.cni_errors.specs.declared.answer.Ending.TheVariants.{Added}
use Rattle.pod_workers.specs.Facts.{EachStopIsCounted, EntryIsInRound, IsEntryOf, IsStopped, IsWithinStop, Stops}
use Rattle.pod_workers.specs.{Plans.{Placed, commands_of, list_for}, World.{World, own_replies, replies_of}}
use Rattle.pod_workers.specs.declared.plan.Entry.{Entry}
use Rattle.pod_workers.proofs.Worlds.{AnswersDue.answer_is_due, Facts.stops, Histories.entry_or_none}
use Rattle.pod_workers.proofs.Worlds.Histories.{length-replies_of, replies_of-append}

-- ---- no script ends with a stop

ending-never : (list : NetList) (c : Command) (ending : Ending) (given : List Addr) (made : ℕ)
    → answer_of_ending list c ending given ≡ Stopped made → ⊥
ending-never list c Added given made is = cc
ending-never list c Yes given made is = cc
ending-never list c (Skipped skip) given made is = cc
ending-never list c Versions given made is = cc
ending-never list c (Refused cause) given made is = cc

outside-never : (c : Command) (ending : Ending) (made : ℕ) → outside_by c ending ≡ Stopped made → ⊥
outside-never c Added made is = cc
outside-never c Yes made is = cc
outside-never c (Skipped skip) made is = cc
outside-never c Versions made is = cc
outside-never c (Refused cause) made is = cc

script-never : (list : Option NetList) (c : Command) (finish : Finish) (made : ℕ)
    → answer_by list c finish ≡ Stopped made → ⊥
unfolding answer_of answer_outside
script-never None c finish made is = outside-never c finish.ending made is
script-never (Some list) c finish made is = ending-never list c finish.ending finish.given made is

-- ---- a round that was stopped

-- a command with no entry behind one has no more than those up to it
few-before : (n : ℕ) (h before rest : List Entry) (e : Entry) → h ≡ before ++ e ∷ rest → replies_of n rest ≡ []
    → length (replies_of n h) ≤ length before + 1
few-before n h before rest e split none =
    let front = before ++ e ∷ [] in
    let whole : h ≡ front ++ rest = split ∙ sym (append_assoc before (e ∷ []) rest) in
    let own : replies_of n h ≡ replies_of n front =
    ap (replies_of n) whole
    ∙ replies_of-append n front rest
    ∙ ap (λ rs. replies_of n front ++ rs) none
    ∙ append-nil (replies_of n front) in
    let count = ap length own in
    let few = length-replies_of n front in
    let long = length_push before e in
    omega (arith, count, few, long)

-- behind the entry that stops a round none is of that round
none-behind : (w : World) (n m : ℕ) (c d : Placed) (before rest : List Entry) (e : Entry) → Stops w
    → w.plan.stop_at ≡ Some (length before + 1) → w.history ≡ before ++ e ∷ rest → IsEntryOf w.plan e m d
    → d.round ≡ c.round
    → slice_get (commands_of w.plan) n ≡ Some c → replies_of n rest ≡ []
none-behind w n m c d before rest e stopped stop split of_e round at = elim (entry_or_none n rest) [
  | inl none ↦ none
  | inr t ↦
      absurd (let later =
      stopped.round before t.0 t.1 e t.2 m n d c (split ∙ ap (λ l. before ++ e ∷ l) t.3) of_e
      (record { number = t.4; there = at }) stop in
      omega (arith, later, round))
]

within-stop : (w : World) (n : ℕ) (c : Placed) (stop : Option ℕ) → Stops w → slice_get (commands_of w.plan) n ≡ Some c
    → w.plan.stop_at ≡ stop → EntryIsInRound w.plan w.history stop c.round
    → IsWithinStop w.plan (length (own_replies w n))
within-stop w n c None stopped at is h = absurd h
within-stop w n c (Some number) stopped at is h =
    let none = none-behind w n h.3 c h.4 h.0 h.1 h.2 stopped (is ∙ ap Some (sym h.6)) h.5 h.7 h.8 at in
    let few = few-before n w.history h.0 h.1 h.2 h.5 none in
    let long = h.6 in
    (number, is, omega (arith, few, long))

-- ---- a stopped command

counted-stop : (w : World) (n made : ℕ) (c : Placed) → Stops w → slice_get (commands_of w.plan) n ≡ Some c
    → IsStopped w n c (Stopped made) → made ≡ length (own_replies w n)
    → (c.command.stop ≡ Some made) ⊎ IsWithinStop w.plan made
counted-stop w n made c stopped at is count = elim is.1 [
  | inl own ↦ inl (own ∙ ap Some (sym count))
  | inr round ↦ inr (subst (IsWithinStop w.plan) (sym count) (within-stop w n c w.plan.stop_at stopped at refl round))
]

pub each_stop_is_counted : EachStopIsCounted
each_stop_is_counted w legal n c at made is = elim (answer_is_due w legal n c at (Stopped made) is) [
  | inl scripts ↦ absurd (script-never (list_for w.plan c.command) c.command scripts.0 made (sym scripts.2))
  | inr (inl stopped) ↦
      let count : made ≡ length (own_replies w n) = let e = stopped.0.2 in cc in
      (count, counted-stop w n made c (stops w legal) at stopped count)
  | inr (inr memory) ↦ absurd (let e : Stopped made ≡ OutOfMemory = memory in cc)
]
