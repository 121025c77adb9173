-- Of a world that meets the clauses, an answer, an entry or a round is taken back.
use Rattle.pod_workers.proofs.Names.{◌≡◌, ◌≢◌, ℕ, ◌+◌, ◌<◌, ◌≤◌, ◌==◌, Bool, true, false, List, [], ◌∷◌, ◌++◌, length}
use Rattle.pod_workers.proofs.Names.{Option, Some, None, slice_get, slice_set, refl, sym, ◌∙◌, ap, subst, inl, inr, ◌⊎◌}
use Rattle.pod_workers.proofs.Names.{arith, append_assoc, if◌then◌else◌, cases_Bool, eqb_tells, nat_tests, length-set}
use Rattle.pod_workers.proofs.Names.{length_push, same_Some, none-some, slice_get_within, ◌||◌, ◌&&◌, Answer, Stopped}
use Rattle.std.proofs.lemmas.Bool.{or_right}
use Rattle.pod_workers.specs.Facts.{Follows, IsEntryOf, EachTwo, EntryIsInRound, IsUntouched, AreInRoundOrder}
use Rattle.pod_workers.specs.Facts.{AreOfOneContainer, AreInContainerOrder, IsAfterStop, IsScripts, IsStopOf, IsDone}
use Rattle.pod_workers.specs.{Facts.{IsLegalByClauses, IsDue}, Legal.{Legal, steps, refused_memory, turns}}
use Rattle.pod_workers.specs.{Plans.{Placed, commands_of, list_for}, World.{World, IsReady, IsAnswered, IsUpToStop}}
use Rattle.pod_workers.specs.World.{own_replies, host_of, is_faulty, is_stop, is_cut, is_cut_at, last_entry, answered}
use Rattle.pod_workers.specs.World.{with_entry, entry_of, next_of, next_by, next_round, done, at_number}
use Rattle.pod_workers.specs.declared.plan.{Entry.Entry, Plan.Plan}
use Rattle.pod_workers.specs.declared.plan.Next.TheVariants as next
use Rattle.pod_workers.proofs.{Books.Rounds.is_in_round, InOrder.Order.{not_both, other_number, other_round}}
use Rattle.pod_workers.proofs.{Lists.{Elements.at_number-is, Splits.split_snoc}, Worlds.AnswersDue.cut_stands}
use Rattle.pod_workers.proofs.Worlds.{AnswersDue.at_own_stop, Facts.{one_command, uncut_at}}
use Rattle.pod_workers.proofs.Worlds.Histories.{slice_get-set_same, slice_get-set_other, replies_of-own}
use Rattle.pod_workers.proofs.Worlds.Histories.{replies_of-other, has_reply, last_entry-append, same_entry}

-- ---- an answer

-- the command at place n is open here, and is the last of its container that is touched after this answer
pub record MayAnswer (v : World) (n : ℕ) (c : Placed) : Type 0 where
  pub there : slice_get (commands_of v.plan) n ≡ Some c
  pub current : c.round ≡ v.round
  pub is_open : slice_get v.answers n ≡ Some None
  pub last : (m : ℕ) (d : Placed) → n < m → slice_get (commands_of v.plan) m ≡ Some d → AreOfOneContainer c d
      → IsUntouched v m

has_answer : (v : World) (n : ℕ) (a : Answer) → slice_get v.answers n ≡ Some None
    → slice_get (answered v n a).answers n ≡ Some (Some a)
has_answer v n a is = slice_get-set_same v.answers n (Some a) (slice_get_within v.answers n None is)

answered-back : (v : World) (n m : ℕ) (a : Answer) → m ≢ n → IsAnswered (answered v n a) m → IsAnswered v m
answered-back v n m a other is = (is.0, sym (slice_get-set_other v.answers n m (Some a) other) ∙ is.1)

untouched-other : (v : World) (n m : ℕ) (a : Answer) → slice_get v.answers n ≡ Some None
    → IsUntouched (answered v n a) m → m ≢ n
untouched-other v n m a is u = λ same.
    none-some a (same_Some None (Some a)
    (sym u.no_answer ∙ ap (slice_get (slice_set v.answers n (Some a))) same ∙ has_answer v n a is))

untouched-back : (v : World) (n m : ℕ) (a : Answer) → m ≢ n → IsUntouched (answered v n a) m → IsUntouched v m
untouched-back v n m a other u = record {
  no_reply = u.no_reply;
  no_answer = sym (slice_get-set_other v.answers n m (Some a) other) ∙ u.no_answer;
}

last_besides : (v : World) (n l m : ℕ) (c d x : Placed) → MayAnswer v n c → l ≡ n → l < m
    → slice_get (commands_of v.plan) l ≡ Some d → slice_get (commands_of v.plan) m ≡ Some x → AreOfOneContainer d x
    → IsUntouched v m
last_besides v n l m c d x may same less at_l at_m besides =
    let is : d ≡ c = same_Some d c (sym at_l ∙ ap (slice_get (commands_of v.plan)) same ∙ may.there) in
    may.last m x (omega arith) at_m (subst (λ q. AreOfOneContainer q x) is besides)

pub clauses_before_answer : (v : World) (n : ℕ) (c : Placed) (a : Answer) → IsLegalByClauses (answered v n a)
    → MayAnswer v n c → IsLegalByClauses v
clauses_before_answer v n c a k may = record {
  plan = k.plan;
  long = sym (length-set v.answers n (Some a)) ∙ k.long;
  round = k.round;
  entries = k.entries;
  rounds = record {
    past = λ m d at less.
        answered-back v n m a (other_round v n m c d may.there at (λ same. let here = may.current in omega arith))
        (k.rounds.past m d at less);
    later = λ m d at more.
        untouched-back v n m a (other_round v n m c d may.there at (λ same. let here = may.current in omega arith))
        (k.rounds.later m d at more);
    entries = k.rounds.entries;
  };
  containers = record {
    first = λ l m d x less at_l at_m besides. elim (eqb_tells l n) [
      | inl t ↦ inl (last_besides v n l m c d x may t.1 less at_l at_m besides)
      | inr f ↦ elim (k.containers.first l m d x less at_l at_m besides) [
        | inl u ↦ inl (untouched-back v n m a (untouched-other v n m a may.is_open u) u)
        | inr is ↦ inr (answered-back v n l a f.1 is)
      ]
    ];
    whole = λ l m d x less at_l at_m besides. elim (eqb_tells l n) [
      | inl t ↦ inl (last_besides v n l m c d x may t.1 less at_l at_m besides).no_reply
      | inr f ↦ elim (k.containers.whole l m d x less at_l at_m besides) [
        | inl none ↦ inl none
        | inr is ↦ inr (is.0, sym (slice_get-set_other v.answers n l (Some a) f.1) ∙ is.1, is.2)
      ]
    ];
    entries = k.containers.entries;
  };
  stops = record { own = k.stops.own; round = k.stops.round };
  answers = λ m d there b at.
      let other : m ≢ n = λ same.
      none-some b (same_Some None (Some b) (sym may.is_open ∙ ap (slice_get v.answers) (sym same) ∙ at)) in
      k.answers m d there b (slice_get-set_other v.answers n m (Some a) other ∙ at);
}

ready_before_answer : (v : World) (n : ℕ) (c : Placed) (a : Answer) → IsLegalByClauses (answered v n a)
    → MayAnswer v n c → IsReady v n c
ready_before_answer v n c a k may = record {
  there = may.there;
  current = may.current;
  unanswered = may.is_open;
  first = λ m d o less at is blocks.
      elim (k.containers.first m n d c less at may.there (blocks.0.0 ∙ sym may.current, blocks.0.1)) [
        | inl u ↦ untouched-other v n n a may.is_open u refl
        | inr given ↦ not_both v m (answered-back v n m a (λ same. omega arith) given) (is ∙ ap Some blocks.1)
      ];
}

-- where the entry that `stop_at` names is of the current round, it is the last one
is_cut_now : (w : World) (stop : Option ℕ) → IsLegalByClauses w → w.plan.stop_at ≡ stop
    → EntryIsInRound w.plan w.history stop w.round → is_cut_at stop w (last_entry w.history) ≡ true
is_cut_now w None k named is = absurd is
is_cut_now w (Some number) k named (before, [], e, n, c, split, long, of_e, round) =
    let last : last_entry w.history ≡ Some e = ap last_entry split ∙ last_entry-append before e in
    let numbered : length w.history ≡ number = ap length split ∙ length_push before e ∙ long in
    let there : at_number (commands_of w.plan) e.command ≡ Some c =
    at_number-is (commands_of w.plan) e.command n of_e.number ∙ of_e.there in
    ap (λ (l : Option Entry). is_cut_at (Some number) w l) last
    ∙ ap (λ (j : ℕ). (j == number) && is_in_round w.round (at_number (commands_of w.plan) e.command)) numbered
    ∙ ap (λ (o : Option Placed). (number == number) && is_in_round w.round o) there
    ∙ ap (λ (j : ℕ). (number == number) && (j == w.round)) round
    ∙ grind (arith, nat_tests)
is_cut_now w (Some number) k named (before, f ∷ rest, e, n, c, split, long, of_e, round) =
    let at : w.history ≡ (before ++ e ∷ []) ++ f ∷ rest = split ∙ sym (append_assoc before (e ∷ []) (f ∷ rest)) in
    let follows = k.entries (before ++ e ∷ []) rest f at in
    let less =
    k.stops.round before [] rest e f n follows.place c follows.by split of_e follows.of
    (named ∙ ap Some (sym long)) in
    absurd (has_reply follows.place w.history (before ++ e ∷ []) rest f at follows.of.number
    (k.rounds.later follows.place follows.by follows.of.there
    (let later : w.round < follows.by.round = omega arith in later)).no_reply)

stops_now : (v : World) (n : ℕ) (c : Placed) (a : Answer) → IsStopOf v n c a
    → (is_stop c.command.stop (length (own_replies v n)) || is_cut v) ≡ true
    → next_of v c.command (own_replies v n) ≡ next.Answer a
stops_now v n c a is stops =
    let made = length (own_replies v n) in
    ap (next_by (list_for v.plan c.command) c.command made (is_cut v)) is.1
    ∙ ap (λ (b : Bool). if b then next.Answer (Stopped made) else next.Call is.0 (is_faulty c.command made)) stops
    ∙ ap next.Answer (sym is.2)

legal_by_step : (v : World) (n : ℕ) (c : Placed) (a : Answer) → Legal v → IsReady v n c
    → next_of v c.command (own_replies v n) ≡ next.Answer a → Legal (answered v n a)
legal_by_step v n c a legal ready is = steps v (answered v n a) n c legal ready (ap (done v n) (sym is))

pub legal_answered : (v : World) (n : ℕ) (c : Placed) (a : Answer) → IsLegalByClauses (answered v n a) → MayAnswer v n c
    → Legal v → Legal (answered v n a)
legal_answered v n c a k may legal =
    let ready = ready_before_answer v n c a k may in
    let made = length (own_replies v n) in
    elim (k.answers n c may.there a (has_answer v n a may.is_open)) [
      | inl scripts ↦
          legal_by_step v n c a legal ready
          (ap (next_by (list_for v.plan c.command) c.command made (is_cut v)) scripts.1
          ∙ ap next.Answer (sym scripts.2))
      | inr (inl stopped) ↦ legal_by_step v n c a legal ready
          (stops_now v n c a stopped.0 (elim stopped.1 [
            | inl own ↦ ap (λ (b : Bool). b || is_cut v) (at_own_stop c.command.stop made own)
            | inr cut ↦ or_right (is_stop c.command.stop made) (is_cut v)
                (is_cut_now v v.plan.stop_at (clauses_before_answer v n c a k may) refl
                (subst (EntryIsInRound v.plan v.history v.plan.stop_at) may.current cut))
          ]))
      | inr (inr lacking) ↦ refused_memory v (answered v n a) n c legal ready (ap (answered v n) lacking)
    ]

-- ---- an entry

-- the last entry's command is open, and the others of the round that have answers aren't stopped with it
pub record MayEnter (v : World) (e : Entry) (n : ℕ) (c : Placed) : Type 0 where
  pub of_entry : IsEntryOf v.plan e n c
  pub current : c.round ≡ v.round
  pub is_open : slice_get v.answers n ≡ Some None
  pub others : (m : ℕ) (d : Placed) → slice_get (commands_of v.plan) m ≡ Some d → d.round ≡ v.round → IsAnswered v m
      → IsDone (with_entry v e) m d

each_two-shrinks : (p : Plan) (h : List Entry) (x : Entry) (Fit : (number m : ℕ) → Placed → ℕ → Placed → Type 0)
    → EachTwo p (h ++ x ∷ []) Fit → EachTwo p h Fit
each_two-shrinks p h x Fit all = λ before between rest e f m n d c at of_e of_f.
    all before between (rest ++ x ∷ []) e f m n d c
    (ap (λ l. l ++ x ∷ []) at
    ∙ append_assoc before (e ∷ (between ++ f ∷ rest)) (x ∷ [])
    ∙ ap (λ l. before ++ e ∷ l) (append_assoc between (f ∷ rest) (x ∷ [])))
    of_e of_f

entered_has_reply : (v : World) (e : Entry) (n : ℕ) → e.command ≡ n + 1 → own_replies (with_entry v e) n ≡ [] → ⊥
entered_has_reply v e n own none = has_reply n (v.history ++ e ∷ []) v.history [] e refl own none

no_reply-other : (v : World) (e : Entry) (n m : ℕ) → e.command ≡ n + 1 → own_replies (with_entry v e) m ≡ [] → m ≢ n
no_reply-other v e n m own none = λ same.
    entered_has_reply v e n own (ap (own_replies (with_entry v e)) (sym same) ∙ none)

replies-back : (v : World) (e : Entry) (n m : ℕ) → e.command ≡ n + 1 → m ≢ n
    → own_replies (with_entry v e) m ≡ own_replies v m
replies-back v e n m own other = replies_of-other m v.history e (other_number e n m own other)

untouched_before : (v : World) (e : Entry) (n m : ℕ) → e.command ≡ n + 1 → IsUntouched (with_entry v e) m
    → IsUntouched v m
untouched_before v e n m own u = record {
  no_reply = sym (replies-back v e n m own (no_reply-other v e n m own u.no_reply)) ∙ u.no_reply;
  no_answer = u.no_answer;
}

-- the entry that cut this round stands here, or is the new one
cut-back : (p : Plan) (h : List Entry) (e : Entry) (n : ℕ) (c : Placed) (stop : Option ℕ) (round : ℕ)
    → IsEntryOf p e n c → EntryIsInRound p (h ++ e ∷ []) stop round
    → EntryIsInRound p h stop round ⊎ (c.round ≡ round)
cut-back p h e n c None round of_e is = absurd is
cut-back p h e n c (Some number) round of_e is = elim (split_snoc h is.0 is.1 e is.2 is.5) [
  | inl t ↦ inr (ap (λ (q : Placed). q.round) (one_command p e is.2 n is.3 c is.4 t.2 of_e is.7).1 ∙ is.8)
  | inr t ↦ inl (is.0, t.0, is.2, is.3, is.4, t.2, is.6, is.7, is.8)
]

due-back : (v : World) (e : Entry) (n m : ℕ) (c d : Placed) (a : Answer) → MayEnter v e n c → m ≢ n
    → slice_get (commands_of v.plan) m ≡ Some d → slice_get v.answers m ≡ Some (Some a) → IsDue (with_entry v e) m d a
    → IsDue v m d a
due-back v e n m c d a may other at given (inl scripts) =
    inl (let own = replies-back v e n m may.of_entry.number other in rw (← own) scripts)
due-back v e n m c d a may other at given (inr (inr lacking)) = inr (inr lacking)
due-back v e n m c d a may other at given (inr (inl stopped)) =
    let own = replies-back v e n m may.of_entry.number other in
    let stop : IsStopOf v m d a = rw (← own) stopped.0 in
    elim stopped.1 [
      | inl most ↦ inr (inl (stop, inl (rw (← own) most)))
      | inr cut ↦ elim (cut-back v.plan v.history e n c v.plan.stop_at d.round may.of_entry cut) [
        | inl before ↦ inr (inl (stop, inr before))
        | inr now ↦
            let is = may.others m d at (sym now ∙ may.current) (a, given) in
            let same : is.0 ≡ a = same_Some is.0 a (same_Some (Some is.0) (Some a) (sym is.1 ∙ given)) in
            elim is.2 [
              | inl scripts ↦ inl (rw (← own) (subst (IsScripts (with_entry v e) m d) same scripts))
              | inr (inl most) ↦ inr (inl (stop, inl (rw (← own) most.1)))
              | inr (inr lacking) ↦ inr (inr (sym same ∙ lacking))
            ]
      ]
    ]

done-back : (v : World) (e : Entry) (n m : ℕ) (d : Placed) → e.command ≡ n + 1 → m ≢ n → IsDone (with_entry v e) m d
    → IsDone v m d
done-back v e n m d own other is =
    let same = replies-back v e n m own other in (
      is.0,
      is.1,
      elim is.2 [
        | inl scripts ↦ inl (rw (← same) scripts)
        | inr (inl most) ↦ inr (inl (rw (← same) most))
        | inr (inr lacking) ↦ inr (inr lacking)
      ],
    )

stop-back : (v : World) (e : Entry) (m : ℕ) (stop : Option ℕ)
    → IsUpToStop stop (length (own_replies (with_entry v e) m)) → IsUpToStop stop (length (own_replies v m))
stop-back v e m None within = tt
stop-back v e m (Some most) within =
    let less : length (own_replies (with_entry v e) m) ≤ most = within in elim (eqb_tells e.command (m + 1)) [
      | inl t ↦
          let longer = ap length (replies_of-own m v.history e t.1) ∙ length_push (own_replies v m) e.reply in
          omega arith
      | inr f ↦ let same = ap length (replies_of-other m v.history e f.1) in omega arith
    ]

pub clauses_before_entry : (v : World) (e : Entry) (n : ℕ) (c : Placed) → IsLegalByClauses (with_entry v e)
    → MayEnter v e n c → IsLegalByClauses v
clauses_before_entry v e n c k may = record {
  plan = k.plan;
  long = k.long;
  round = k.round;
  entries = λ before rest f at.
      k.entries before (rest ++ e ∷ []) f (ap (λ l. l ++ e ∷ []) at ∙ append_assoc before (f ∷ rest) (e ∷ []));
  rounds = record {
    past = k.rounds.past;
    later = λ m d at more. untouched_before v e n m may.of_entry.number (k.rounds.later m d at more);
    entries = each_two-shrinks v.plan v.history e AreInRoundOrder k.rounds.entries;
  };
  containers = record {
    first = λ l m d x less at_l at_m besides.
        elim (k.containers.first l m d x less at_l at_m besides) [
          | inl u ↦ inl (untouched_before v e n m may.of_entry.number u)
          | inr is ↦ inr is
        ];
    whole = λ l m d x less at_l at_m besides. elim (k.containers.whole l m d x less at_l at_m besides) [
      | inl none ↦
          inl (sym (replies-back v e n m may.of_entry.number (no_reply-other v e n m may.of_entry.number none))
          ∙ none)
      | inr is ↦
          inr (done-back v e n l d may.of_entry.number
          (λ same. not_both v n (is.0, ap (slice_get v.answers) (sym same) ∙ is.1) may.is_open) is)
    ];
    entries = each_two-shrinks v.plan v.history e AreInContainerOrder k.containers.entries;
  };
  stops = record {
    own = λ m d at. stop-back v e m d.command.stop (k.stops.own m d at);
    round = each_two-shrinks v.plan v.history e (IsAfterStop v.plan) k.stops.round;
  };
  answers = λ m d there a at.
      let other : m ≢ n = λ same. not_both v n (a, ap (slice_get v.answers) (sym same) ∙ at) may.is_open in
      due-back v e n m c d a may other there at (k.answers m d there a at);
}

pub legal_entered : (v : World) (e : Entry) (n : ℕ) (c : Placed) → IsLegalByClauses (with_entry v e) → MayEnter v e n c
    → Legal v → Legal (with_entry v e)
legal_entered v e n c k may legal =
    let follows : Follows v.plan v.history e = k.entries v.history [] e refl in
    let of_e = follows.of in
    let same = one_command v.plan e e n follows.place c follows.by refl may.of_entry of_e in
    let round : follows.by.round ≡ v.round = ap (λ (q : Placed). q.round) (sym same.1) ∙ may.current in
    let made = length (own_replies v follows.place) in
    let ready : IsReady v follows.place follows.by = record {
      there = of_e.there;
      current = round;
      unanswered = ap (slice_get v.answers) (sym same.0) ∙ may.is_open;
      first = λ m d o less at is blocks.
          elim (k.containers.first m follows.place d follows.by less at of_e.there
          (blocks.0.0 ∙ sym round, blocks.0.1)) [
            | inl u ↦ entered_has_reply v e follows.place of_e.number u.no_reply
            | inr given ↦ not_both v m given (is ∙ ap Some blocks.1)
          ];
    } in
    let no_cut : is_cut v ≡ false = elim (cases_Bool (is_cut v)) [
      | inl cut ↦
          absurd (uncut_at v.plan (v.history ++ e ∷ []) v.history [] e follows.place follows.by v.plan.stop_at
          k.stops.round refl of_e refl
          (subst (EntryIsInRound v.plan v.history v.plan.stop_at) (sym round)
          (cut_stands v v.plan.stop_at (last_entry v.history)
          (clauses_before_entry v e n c k may).entries refl cut)))
      | inr going ↦ going
    ] in
    let goes : (is_stop follows.by.command.stop made || is_cut v) ≡ false =
    ap (λ (b : Bool). b || is_cut v) follows.no_stop ∙ no_cut in
    let next_is : next_of v follows.by.command (own_replies v follows.place)
    ≡ next.Call e.call (is_faulty follows.by.command made) =
    ap (next_by (list_for v.plan follows.by.command) follows.by.command made (is_cut v)) follows.call
    ∙ ap (λ (b : Bool). if b then next.Answer (Stopped made) else next.Call e.call (is_faulty follows.by.command made))
    goes in
    steps v (with_entry v e) follows.place follows.by legal ready
    (ap (with_entry v) (same_entry e (entry_of (host_of v) follows.place e.call (is_faulty follows.by.command made))
    of_e.number refl follows.reply)
    ∙ ap (done v follows.place) (sym next_is))

-- ---- a round

pub clauses_before_round : (v : World) → IsLegalByClauses (next_round v)
    → ((n : ℕ) (c : Placed) → slice_get (commands_of v.plan) n ≡ Some c → c.round ≡ v.round + 1 → IsUntouched v n)
    → IsLegalByClauses v
clauses_before_round v k fresh = record {
  plan = k.plan;
  long = k.long;
  round = let more = k.round in omega arith;
  entries = k.entries;
  rounds = record {
    past = λ n c at less. k.rounds.past n c at (omega arith);
    later = λ n c at more. elim (eqb_tells c.round (v.round + 1)) [
      | inl t ↦ fresh n c at t.1
      | inr f ↦
          let u = k.rounds.later n c at (let other = f.1 in omega arith) in
          record { no_reply = u.no_reply; no_answer = u.no_answer }
    ];
    entries = k.rounds.entries;
  };
  containers = record {
    first = λ m n d c less at_m at_n besides.
        elim (k.containers.first m n d c less at_m at_n besides) [
          | inl u ↦ inl (record { no_reply = u.no_reply; no_answer = u.no_answer })
          | inr is ↦ inr is
        ];
    whole = k.containers.whole;
    entries = k.containers.entries;
  };
  stops = record { own = k.stops.own; round = k.stops.round };
  answers = k.answers;
}

pub legal_turned : (v : World) → IsLegalByClauses (next_round v) → Legal v → Legal (next_round v)
legal_turned v k legal =
    turns v (next_round v) legal (let more = k.round in omega arith)
    (λ n c at same. k.rounds.past n c at (omega arith)) refl
