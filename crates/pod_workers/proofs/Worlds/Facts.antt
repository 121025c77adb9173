-- Each entry of a legal world follows, entries stand in their order, and stops are kept.
use Rattle.pod_workers.proofs.Names.{◌≡◌, ◌≢◌, ℕ, ◌+◌, ◌<◌, ◌≤◌, ◌==◌, Bool, false, List, [], ◌∷◌, ◌++◌, length, Option}
use Rattle.pod_workers.proofs.Names.{Some, None, slice_get, refl, sym, ◌∙◌, ap, subst, inl, inr, arith, append_assoc}
use Rattle.pod_workers.proofs.Names.{cases_lt, eqb_tells, nat_tests, length_push, same_Some, ◌&&◌, Call}
use Rattle.pod_workers.specs.Facts.{Follows, EachFollows, IsEntryOf, EachTwo, EntryIsInRound, AreInRoundOrder}
use Rattle.pod_workers.specs.Facts.{AreOfOneContainer, AreInContainerOrder, GoesByRounds, KeepsStop, IsAfterStop, Stops}
use Rattle.pod_workers.specs.{Legal.{Legal, starts, steps, refused_memory, turns}, Plans.{Placed, commands_of}}
use Rattle.pod_workers.specs.World.{World, IsReady, IsUpToStop, replies_of, own_replies, reply_to, host_of, is_stop}
use Rattle.pod_workers.specs.World.{is_cut, is_cut_at, last_entry, done, entry_of, next_of, at_number}
use Rattle.pod_workers.specs.declared.plan.{Entry.Entry, Next.Next, Plan.Plan}
use Rattle.pod_workers.specs.declared.plan.Next.TheVariants as next
use Rattle.pod_workers.proofs.{Books.Rounds.is_in_round, Hosts.Sound.{allowed_next, goes_in}, InOrder.Order.IsInOrder}
use Rattle.pod_workers.proofs.{InOrder.Order.{in_order, not_both, other_number}, Lists.Elements.at_number-is}
use Rattle.pod_workers.proofs.{Lists.Splits.{split_nil, split_snoc, two_snoc}, Worlds.Histories.replies_of-own}
use Rattle.pod_workers.proofs.Worlds.Histories.{replies_of-other, has_reply, last_entry-append}

-- ---- each entry follows

follows_ready : (v : World) (n : ℕ) (c : Placed) (call : Call) (faulty : Bool) → Legal v → IsReady v n c
    → next_of v c.command (own_replies v n) ≡ next.Call call faulty
    → Follows v.plan v.history (entry_of (host_of v) n call faulty)
follows_ready v n c call faulty legal ready is =
    let goes = goes_in v n c.command call faulty is in
    record {
      place = n;
      by = c;
      of = record { number = refl; there = ready.there };
      call = goes.call_is;
      reply = ap (reply_to (host_of v) call) (sym goes.fault_is);
      allowed = λ no_fault.
          allowed_next v n c call legal ready (is ∙ ap (next.Call call) (sym goes.fault_is ∙ no_fault));
      no_stop = goes.no_stop;
    }

each_done : (v : World) (n : ℕ) (c : Placed) (x : Next) → Legal v → EachFollows v.plan v.history → IsReady v n c
    → next_of v c.command (own_replies v n) ≡ x
    → EachFollows (done v n x).plan (done v n x).history
each_done v n c (next.Answer a) legal each ready is = each
each_done v n c (next.Call call faulty) legal each ready is = λ before rest e at.
    elim (split_snoc v.history before rest (entry_of (host_of v) n call faulty) e at) [
      | inl t ↦
          subst (λ b. Follows v.plan b e) t.1
          (subst (Follows v.plan v.history) t.2 (follows_ready v n c call faulty legal ready is))
      | inr t ↦ each before t.0 e t.2
    ]

pub each_follows : (w : World) → Legal w → EachFollows w.plan w.history
each_follows _ (starts w begun) = λ before rest e at.
    absurd (split_nil before rest e (sym (ap (λ (v : World). v.history) begun.is) ∙ at))
each_follows _ (steps v w n c legal ready is) =
    subst (λ (u : World). EachFollows u.plan u.history) (sym is)
    (each_done v n c (next_of v c.command (own_replies v n)) legal (each_follows v legal) ready refl)
each_follows _ (refused_memory v w n c legal ready is) =
    subst (λ (u : World). EachFollows u.plan u.history) (sym is) (each_follows v legal)
each_follows _ (turns v w legal less over is) =
    subst (λ (u : World). EachFollows u.plan u.history) (sym is) (each_follows v legal)

-- ---- two entries

-- an entry is of one command
pub one_command : (p : Plan) (x f : Entry) (k n : ℕ) (b c : Placed) → x ≡ f → IsEntryOf p x k b → IsEntryOf p f n c
    → (k ≡ n) × (b ≡ c)
one_command p x f k n b c same of_x of_f =
    let number : x.command ≡ f.command = ap (λ (e : Entry). e.command) same in
    let own_x = of_x.number in
    let own_f = of_f.number in
    let place : k ≡ n = omega arith in
    (place, same_Some b c (sym of_x.there ∙ ap (slice_get (commands_of p)) place ∙ of_f.there))

-- what the new entry is to each that stands
abbrev ToLatest : Plan → List Entry → ((number m : ℕ) → Placed → ℕ → Placed → Type 0) → ℕ → Placed → Type 0
ToLatest p h Fit k b =
    (before between : List Entry) (e : Entry) (m : ℕ) (d : Placed) → h ≡ before ++ e ∷ between → IsEntryOf p e m d
    → Fit (length before + 1) m d k b

pub each_two-grows : (p : Plan) (h : List Entry) (x : Entry) (k : ℕ) (b : Placed)
    (Fit : (number m : ℕ) → Placed → ℕ → Placed → Type 0)
    → IsEntryOf p x k b
    → EachTwo p h Fit → ToLatest p h Fit k b → EachTwo p (h ++ x ∷ []) Fit
each_two-grows p h x k b Fit new old latest = λ before between rest e f m n d c at of_e of_f.
    elim (two_snoc h before between rest x e f at) [
      | inl t ↦
          let same = one_command p x f k n b c t.1 new of_f in
          subst (λ (q : Placed). Fit (length before + 1) m d n q) same.1
          (subst (λ (j : ℕ). Fit (length before + 1) m d j b) same.0 (latest before between e m d t.0 of_e))
      | inr t ↦ old before between t.0 e f m n d c t.1 of_e of_f
    ]

-- an entry is of a round that was reached
pub is_reached : (w : World) (before rest : List Entry) (e : Entry) (m : ℕ) (d : Placed) → IsInOrder w
    → w.history ≡ before ++ e ∷ rest → IsEntryOf w.plan e m d → d.round ≤ w.round
is_reached w before rest e m d order at of_e =
    elim (cases_lt w.round d.round) [
      | inl later ↦
          absurd (has_reply m w.history before rest e at of_e.number (order.later m d of_e.there later).no_reply)
      | inr reached ↦ reached
    ]

-- ---- the facts on two entries, all at once

pub record TwoEntries (w : World) : Type 0 where
  pub rounds : EachTwo w.plan w.history AreInRoundOrder
  pub containers : EachTwo w.plan w.history AreInContainerOrder
  pub cut : EachTwo w.plan w.history (IsAfterStop w.plan)

-- beside an entry no earlier command of its container is ready
one_by_one : (w : World) (before rest : List Entry) (e : Entry) (m n : ℕ) (d c : Placed) → IsInOrder w → IsReady w n c
    → w.history ≡ before ++ e ∷ rest → IsEntryOf w.plan e m d
    → AreOfOneContainer d c → m ≤ n
one_by_one w before rest e m n d c order ready at of_e besides =
    elim (cases_lt n m) [
      | inl less ↦ absurd (elim (order.first n m c d less ready.there of_e.there (sym besides.0, sym besides.1)) [
        | inl u ↦ has_reply m w.history before rest e at of_e.number u.no_reply
        | inr a ↦ not_both w n a ready.unanswered
      ])
      | inr most ↦ most
    ]

in_round-false : (round number : ℕ) (d : Placed) → ((number == number) && is_in_round round (Some d)) ≡ false
    → d.round ≢ round
in_round-false round number d is same = absurd (grind (arith, nat_tests))

-- the entry that `stop_at` names, where it is the last one, isn't of the current round
cut_at_last : (w : World) (before : List Entry) (e : Entry) (m : ℕ) (d : Placed) → w.history ≡ before ++ e ∷ []
    → IsEntryOf w.plan e m d → w.plan.stop_at ≡ Some (length before + 1)
    → is_cut w ≡ false → d.round ≢ w.round
cut_at_last w before e m d at of_e stop no_cut = λ same.
    let number : length w.history ≡ length before + 1 = ap length at ∙ length_push before e in
    let last : last_entry w.history ≡ Some e = ap last_entry at ∙ last_entry-append before e in
    let there : at_number (commands_of w.plan) e.command ≡ Some d =
    at_number-is (commands_of w.plan) e.command m of_e.number ∙ of_e.there in
    let cut : is_cut w
    ≡ ((length w.history == length before + 1) && is_in_round w.round (at_number (commands_of w.plan) e.command)) =
    ap (λ (s : Option ℕ). is_cut_at s w (last_entry w.history)) stop
    ∙ ap (λ (l : Option Entry). is_cut_at (Some (length before + 1)) w l) last in
    let told : ((length before + 1 == length before + 1) && is_in_round w.round (Some d)) ≡ false =
    ap (λ (k : ℕ). (k == length before + 1) && is_in_round w.round (Some d)) (sym number)
    ∙ ap (λ (o : Option Placed). (length w.history == length before + 1) && is_in_round w.round o) (sym there)
    ∙ sym cut
    ∙ no_cut in
    in_round-false w.round (length before + 1) d told same

pub cut_before : (w : World) (before between : List Entry) (e : Entry) (m : ℕ) (d : Placed) → IsInOrder w → TwoEntries w
    → EachFollows w.plan w.history → is_cut w ≡ false
    → w.history ≡ before ++ e ∷ between → IsEntryOf w.plan e m d → w.plan.stop_at ≡ Some (length before + 1)
    → d.round < w.round
cut_before w before [] e m d order two each no_cut at of_e stop =
    let reached = is_reached w before [] e m d order at of_e in
    let other = cut_at_last w before e m d at of_e stop no_cut in
    omega arith
cut_before w before (f ∷ between) e m d order two each no_cut at of_e stop =
    let split = at ∙ sym (append_assoc before (e ∷ []) (f ∷ between)) in
    let follows = each (before ++ e ∷ []) between f split in
    let less = two.cut before [] between e f m follows.place d follows.by at of_e follows.of stop in
    let reached = is_reached w (before ++ e ∷ []) between f follows.place follows.by order split follows.of in
    omega arith

two_done : (v : World) (n : ℕ) (c : Placed) (x : Next) → IsInOrder v → EachFollows v.plan v.history → TwoEntries v
    → IsReady v n c → next_of v c.command (own_replies v n) ≡ x → TwoEntries (done v n x)
two_done v n c (next.Answer a) order each two ready is =
    record { rounds = two.rounds; containers = two.containers; cut = two.cut }
two_done v n c (next.Call call faulty) order each two ready is =
    let e = entry_of (host_of v) n call faulty in
    let new : IsEntryOf v.plan e n c = record { number = refl; there = ready.there } in
    let goes = goes_in v n c.command call faulty is in
    record {
      rounds = each_two-grows v.plan v.history e n c AreInRoundOrder new two.rounds
          (λ before between f m d at of_f.
          let reached = is_reached v before between f m d order at of_f in let here = ready.current in omega arith);
      containers = each_two-grows v.plan v.history e n c AreInContainerOrder new two.containers
          (λ before between f m d at of_f besides. one_by_one v before between f m n d c order ready at of_f besides);
      cut = each_two-grows v.plan v.history e n c (IsAfterStop v.plan) new two.cut
          (λ before between f m d at of_f stop.
          let less = cut_before v before between f m d order two each goes.no_cut at of_f stop in
          let here = ready.current in omega arith);
    }

pub none_two : (w : World) (Fit : (number m : ℕ) → Placed → ℕ → Placed → Type 0) → w.history ≡ []
    → EachTwo w.plan w.history Fit
none_two w Fit none = λ before between rest e f m n d c at of_e of_f.
    absurd (split_nil before (between ++ f ∷ rest) e (sym none ∙ at))

pub two_entries : (w : World) → Legal w → TwoEntries w
two_entries _ (starts w begun) = record {
  rounds = none_two w AreInRoundOrder (ap (λ (v : World). v.history) begun.is);
  containers = none_two w AreInContainerOrder (ap (λ (v : World). v.history) begun.is);
  cut = none_two w (IsAfterStop w.plan) (ap (λ (v : World). v.history) begun.is);
}
two_entries _ (steps v w n c legal ready is) =
    subst TwoEntries (sym is)
    (two_done v n c (next_of v c.command (own_replies v n)) (in_order v legal) (each_follows v legal)
    (two_entries v legal) ready refl)
two_entries _ (refused_memory v w n c legal ready is) =
    subst TwoEntries (sym is)
    (let t = two_entries v legal in record { rounds = t.rounds; containers = t.containers; cut = t.cut })
two_entries _ (turns v w legal less over is) =
    subst TwoEntries (sym is)
    (let t = two_entries v legal in record { rounds = t.rounds; containers = t.containers; cut = t.cut })

-- no entry of its round stands after the one that `stop_at` names
pub uncut_at : (p : Plan) (h before rest : List Entry) (e : Entry) (n : ℕ) (c : Placed) (stop : Option ℕ)
    → EachTwo p h (IsAfterStop p)
    → h ≡ before ++ e ∷ rest → IsEntryOf p e n c → p.stop_at ≡ stop → EntryIsInRound p before stop c.round → ⊥
uncut_at p h before rest e n c None cut at of_e named is = is
uncut_at p h before rest e n c (Some number) cut at of_e named is =
    let split : h ≡ is.0 ++ is.2 ∷ (is.1 ++ e ∷ rest) =
    at ∙ ap (λ l. l ++ e ∷ rest) is.5 ∙ append_assoc is.0 (is.2 ∷ is.1) (e ∷ rest) in
    let less = cut is.0 is.1 rest is.2 e is.3 n is.4 c split is.7 of_e (named ∙ ap Some (sym is.6)) in
    let of_round = is.8 in
    omega arith

-- ---- the stop of a command

pub none-made : (stop : Option ℕ) → IsUpToStop stop 0
none-made None = tt
none-made (Some most) = omega arith

-- a call is made below the stop
pub within-more : (stop : Option ℕ) (made : ℕ) → is_stop stop made ≡ false → IsUpToStop stop (made + 1)
within-more None made below = tt
within-more (Some most) made below = let less : made < most = grind (arith, nat_tests) in omega arith

stop_done : (v : World) (n : ℕ) (c : Placed) (x : Next) → KeepsStop v → IsReady v n c
    → next_of v c.command (own_replies v n) ≡ x → KeepsStop (done v n x)
stop_done v n c (next.Answer a) keeps ready is = keeps
stop_done v n c (next.Call call faulty) keeps ready is = λ m d at.
    let e = entry_of (host_of v) n call faulty in
    elim (eqb_tells m n) [
      | inl t ↦
          let same : c ≡ d = same_Some c d (sym ready.there ∙ ap (slice_get (commands_of v.plan)) (sym t.1) ∙ at) in
          let more =
          within-more c.command.stop (length (own_replies v n)) (goes_in v n c.command call faulty is).no_stop in
          let grown : length (replies_of m (v.history ++ e ∷ [])) ≡ length (own_replies v n) + 1 =
          ap (λ j. length (replies_of j (v.history ++ e ∷ []))) t.1
          ∙ ap length (replies_of-own n v.history e refl)
          ∙ length_push (own_replies v n) e.reply in
          subst (IsUpToStop d.command.stop) (sym grown)
          (subst (λ (q : Placed). IsUpToStop q.command.stop (length (own_replies v n) + 1)) same more)
      | inr f ↦ rw (replies_of-other m v.history e (other_number e n m refl f.1)) (keeps m d at)
    ]

pub keeps_stop : (w : World) → Legal w → KeepsStop w
keeps_stop _ (starts w begun) = λ n c at.
    rw (ap (replies_of n) (ap (λ (v : World). v.history) begun.is)) (none-made c.command.stop)
keeps_stop _ (steps v w n c legal ready is) =
    subst KeepsStop (sym is) (stop_done v n c (next_of v c.command (own_replies v n)) (keeps_stop v legal) ready refl)
keeps_stop _ (refused_memory v w n c legal ready is) = subst KeepsStop (sym is) (keeps_stop v legal)
keeps_stop _ (turns v w legal less over is) = subst KeepsStop (sym is) (keeps_stop v legal)

-- ---- the clauses

pub goes_by_rounds : (w : World) → Legal w → GoesByRounds w
goes_by_rounds w legal =
    let order = in_order w legal in
    record { past = order.past; later = order.later; entries = (two_entries w legal).rounds }

pub stops : (w : World) → Legal w → Stops w
stops w legal = record { own = keeps_stop w legal; round = (two_entries w legal).cut }
