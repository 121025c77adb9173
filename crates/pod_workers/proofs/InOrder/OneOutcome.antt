-- A plan that is carried out in file order has one history and one list of answers.
use Rattle.pod_workers.proofs.Names.{◌≡◌, ℕ, zero, suc, ◌+◌, ◌<◌, ◌≤◌, true, List, [], ◌∷◌, ◌++◌, length, Option, Some}
use Rattle.pod_workers.proofs.Names.{None, slice_get, refl, sym, ◌∙◌, ap, subst, inl, inr, ◌⊎◌, arith, append_assoc}
use Rattle.pod_workers.proofs.Names.{cases_lt, cases_order, eqb_tells, append-nil, same_Some, slice_get_within, turn_by}
use Rattle.pod_workers.proofs.Names.{answer_by, Turn, Calls, Finishes, Finish, Answer, Stopped, Call, Reply}
use Rattle.pod_workers.specs.{Facts.{Follows, IsEntryOf, EntryIsInRound}, Legal.Legal, Order.IsInFileOrder}
use Rattle.pod_workers.specs.{Order.{IsDoneInFileOrder, OneOutcome}, Plans.{Placed, commands_of, list_for}, World.World}
use Rattle.pod_workers.specs.World.{replies_of, own_replies, reply_to, after, is_faulty, is_stop}
use Rattle.pod_workers.specs.declared.plan.{Entry.Entry, Plan.Plan}
use Rattle.pod_workers.proofs.{Books.RoundsAscend.{rounds_ascend, all_answered, command_at}, InOrder.Order.in_order}
use Rattle.pod_workers.proofs.{Lists.Splits.cons_parts, Worlds.AnswersDue.{answer_is_due, at_own_stop}}
use Rattle.pod_workers.proofs.Worlds.Facts.{each_follows, two_entries, one_command, uncut_at}
use Rattle.pod_workers.proofs.Worlds.Histories.{replies_of-append, has_reply, same_entry}

-- ---- the next entry is a function of the history so far

abbrev turn_at : Plan → List Entry → ℕ → Placed → Turn
turn_at p h n c = turn_by (list_for p c.command) c.command (replies_of n h)

-- the command makes no call after this history
abbrev IsFinished : Plan → List Entry → ℕ → Placed → Type 0
IsFinished p h n c =
    ((finish : Finish) × (turn_at p h n c ≡ Finishes finish))
    ⊎ ((is_stop c.command.stop (length (replies_of n h)) ≡ true) ⊎ EntryIsInRound p h p.stop_at c.round)

-- the entry of the first command that makes a call
record IsNext (p : Plan) (h : List Entry) (e : Entry) : Type 0 where
  follows : Follows p h e
  uncut : EntryIsInRound p h p.stop_at follows.by.round → ⊥
  before : (m : ℕ) (d : Placed) → m < follows.place → slice_get (commands_of p) m ≡ Some d → IsFinished p h m d

goes_on : (p : Plan) (h : List Entry) (e : Entry) (f : Follows p h e) → (EntryIsInRound p h p.stop_at f.by.round → ⊥)
    → IsFinished p h f.place f.by → ⊥
goes_on p h e f uncut (inl over) = let call = f.call in let finish = over.1 in cc
goes_on p h e f uncut (inr (inl stop)) = let going = f.no_stop in cc
goes_on p h e f uncut (inr (inr cut)) = uncut cut

same_call : (x y : Call) (t : Turn) → t ≡ Calls x → t ≡ Calls y → x ≡ y
same_call x y t one two = cc

-- two entries that follow, of one command
one_call : (p : Plan) (h : List Entry) (e g : Entry) (f : Follows p h e) (o : Follows p h g) → f.place ≡ o.place → e ≡ g
one_call p h e g f o place =
    let by : f.by ≡ o.by = same_Some f.by o.by (sym f.of.there ∙ ap (slice_get (commands_of p)) place ∙ o.of.there) in
    let turn : turn_at p h f.place f.by ≡ turn_at p h o.place o.by =
    ap (λ (n : ℕ). turn_at p h n f.by) place ∙ ap (λ (c : Placed). turn_at p h o.place c) by in
    let call : e.call ≡ g.call = same_call e.call g.call (turn_at p h f.place f.by) f.call (turn ∙ o.call) in
    let faulty : is_faulty f.by.command (length (replies_of f.place h))
    ≡ is_faulty o.by.command (length (replies_of o.place h)) =
    ap (λ (n : ℕ). is_faulty f.by.command (length (replies_of n h))) place
    ∙ ap (λ (c : Placed). is_faulty c.command (length (replies_of o.place h))) by in
    let reply : e.reply ≡ g.reply =
    f.reply
    ∙ ap (λ (k : Call). reply_to (after p.pods.opening h) k (is_faulty f.by.command (length (replies_of f.place h))))
    call
    ∙ ap (reply_to (after p.pods.opening h) g.call) faulty ∙ sym o.reply in
    same_entry e g (f.of.number ∙ ap (λ (n : ℕ). n + 1) place ∙ sym o.of.number) call reply

one_next : (p : Plan) (h : List Entry) (e g : Entry) → IsNext p h e → IsNext p h g → e ≡ g
one_next p h e g x y = elim (cases_order x.follows.place y.follows.place) [
  | inl same ↦ one_call p h e g x.follows y.follows same
  | inr (inl less) ↦
      absurd (goes_on p h e x.follows x.uncut (y.before x.follows.place x.follows.by less x.follows.of.there))
  | inr (inr more) ↦
      absurd (goes_on p h g y.follows y.uncut (x.before y.follows.place y.follows.by more y.follows.of.there))
]

-- ---- one trace

-- each entry is the next one, and at the end there is none
abbrev IsTrace : Plan → List Entry → List Entry → Type 0
IsTrace p before [] = (n : ℕ) (c : Placed) → slice_get (commands_of p) n ≡ Some c → IsFinished p before n c
IsTrace p before (e ∷ es) = IsNext p before e × IsTrace p (before ++ e ∷ []) es

one_trace : (p : Plan) (before xs ys : List Entry) → IsTrace p before xs → IsTrace p before ys → xs ≡ ys
one_trace p before [] [] over also = refl
one_trace p before [] (y ∷ ys) over also =
    absurd (goes_on p before y also.0.follows also.0.uncut
    (over also.0.follows.place also.0.follows.by also.0.follows.of.there))
one_trace p before (x ∷ xs) [] also over =
    absurd (goes_on p before x also.0.follows also.0.uncut
    (over also.0.follows.place also.0.follows.by also.0.follows.of.there))
one_trace p before (x ∷ xs) (y ∷ ys) one two =
    let same : x ≡ y = one_next p before x y one.0 two.0 in
    let rest : IsTrace p (before ++ y ∷ []) xs = subst (λ (z : Entry). IsTrace p (before ++ z ∷ []) xs) same one.1 in
    ap (λ (z : Entry). z ∷ xs) same ∙ ap (λ l. y ∷ l) (one_trace p (before ++ y ∷ []) xs ys rest two.1)

-- ---- the history of a run in file order is that trace

-- two entries of one list: either stands first, or they are one
split_either : (xs ys before rest : List Entry) (x e : Entry) → xs ++ x ∷ ys ≡ before ++ e ∷ rest
    → ((between : List Entry) × (before ≡ xs ++ x ∷ between))
    ⊎ ((x ≡ e) ⊎ ((between : List Entry) × (xs ≡ before ++ e ∷ between) × (rest ≡ between ++ x ∷ ys)))
split_either [] ys [] rest x e is = inr (inl (cons_parts x e ys rest is).0)
split_either [] ys (b ∷ bs) rest x e is =
    inl (bs, ap (λ (z : Entry). z ∷ bs) (sym (cons_parts x b ys (bs ++ e ∷ rest) is).0))
split_either (z ∷ zs) ys [] rest x e is =
    let p = cons_parts z e (zs ++ x ∷ ys) rest is in inr (inr (zs, ap (λ (y : Entry). y ∷ zs) p.0, sym p.1))
split_either (z ∷ zs) ys (b ∷ bs) rest x e is =
    let p = cons_parts z b (zs ++ x ∷ ys) (bs ++ e ∷ rest) is in
    elim (split_either zs ys bs rest x e p.1) [
      | inl t ↦ inl (t.0, ap (λ (y : Entry). y ∷ bs) (sym p.0) ∙ ap (λ l. z ∷ l) t.1)
      | inr (inl same) ↦ inr (inl same)
      | inr (inr t) ↦ inr (inr (t.0, ap (λ (y : Entry). y ∷ zs) p.0 ∙ ap (λ l. b ∷ l) t.1, t.2))
    ]

-- from this entry on no earlier command has one
no_reply_after : (w : World) → Legal w → IsInFileOrder w
    → (before between rest : List Entry) (e : Entry) (n m : ℕ) (c : Placed) → IsEntryOf w.plan e n c → m < n
    → w.history ≡ before ++ e ∷ (between ++ rest) → replies_of m rest ≡ []
no_reply_after w legal order before between [] e n m c of_e less at = refl
no_reply_after w legal order before between (f ∷ rest) e n m c of_e less at =
    let split : w.history ≡ (before ++ e ∷ between) ++ f ∷ rest =
    at ∙ sym (append_assoc before (e ∷ between) (f ∷ rest)) in
    let follows = each_follows w legal (before ++ e ∷ between) rest f split in
    let up : n ≤ follows.place =
    order.entries before between rest e f n follows.place c follows.by at of_e follows.of in
    let number = follows.of.number in
    let later =
    no_reply_after w legal order before (between ++ f ∷ []) rest e n m c of_e less
    (at ∙ ap (λ l. before ++ e ∷ l) (sym (append_assoc between (f ∷ []) rest))) in
    elim (eqb_tells f.command (m + 1)) [ inl t ↦ absurd (let same = t.1 in omega arith) | inr other ↦ rw other.0 later ]

replies_before : (w : World) → Legal w → IsInFileOrder w → (before rest : List Entry) (e : Entry) (n m : ℕ) (c : Placed)
    → IsEntryOf w.plan e n c → m < n → w.history ≡ before ++ e ∷ rest
    → own_replies w m ≡ replies_of m before
replies_before w legal order before rest e n m c of_e less at =
    let none = no_reply_after w legal order before [] rest e n m c of_e less at in
    let own = of_e.number in
    let here : replies_of m (e ∷ rest) ≡ [] = elim (eqb_tells e.command (m + 1)) [
      | inl t ↦ absurd (let same = t.1 in omega arith)
      | inr other ↦ rw other.0 none
    ] in
    ap (replies_of m) at
    ∙ replies_of-append m before (e ∷ rest)
    ∙ ap (λ l. replies_of m before ++ l) here
    ∙ append-nil (replies_of m before)

finished_at_end : (w : World) → IsDoneInFileOrder w → (n : ℕ) (c : Placed) → slice_get (commands_of w.plan) n ≡ Some c
    → IsFinished w.plan w.history n c
finished_at_end w is n c at =
    let a = all_answered w (in_order w is.legal) is.ended n c at in
    elim (answer_is_due w is.legal n c at a.0 a.1) [
      | inl scripts ↦ inl (scripts.0, scripts.1)
      | inr (inl stopped) ↦ elim stopped.1 [
        | inl own ↦ inr (inl (at_own_stop c.command.stop (length (own_replies w n)) own))
        | inr cut ↦ inr (inr cut)
      ]
      | inr (inr lacking) ↦ absurd (is.had_memory n (a.1 ∙ ap (λ (x : Answer). Some (Some x)) lacking))
    ]

-- the entry that cut an earlier round stands before each entry of a later one
cut_stands_before : (w : World) (before rest : List Entry) (e : Entry) (n : ℕ) (c : Placed)
    (stop : Option ℕ) (round : ℕ)
    → Legal w → w.history ≡ before ++ e ∷ rest → IsEntryOf w.plan e n c → round < c.round
    → EntryIsInRound w.plan w.history stop round → EntryIsInRound w.plan before stop round
cut_stands_before w before rest e n c None round legal at of_e less is = is
cut_stands_before w before rest e n c (Some number) round legal at of_e less is =
    let of_round = is.8 in
    elim (split_either is.0 is.1 before rest is.2 e (sym is.5 ∙ at)) [
      | inl t ↦ (is.0, t.0, is.2, is.3, is.4, t.1, is.6, is.7, is.8)
      | inr (inl same) ↦
          absurd (let round_is : is.4.round ≡ c.round =
          ap (λ (q : Placed). q.round) (one_command w.plan is.2 e is.3 n is.4 c same is.7 of_e).1 in
          omega arith)
      | inr (inr t) ↦ absurd (
          let up =
          (two_entries w legal).rounds before t.0 is.1 e is.2 n is.3 c is.4
          (at ∙ ap (λ l. before ++ e ∷ l) t.2) of_e is.7 in
          omega arith)
    ]

finished_before : (w : World) → IsDoneInFileOrder w → (before rest : List Entry) (e : Entry) (n m : ℕ) (c d : Placed)
    → w.history ≡ before ++ e ∷ rest → IsEntryOf w.plan e n c → m < n
    → slice_get (commands_of w.plan) m ≡ Some d → IsFinished w.plan before m d
finished_before w is before rest e n m c d at of_e less at_m =
    let own : own_replies w m ≡ replies_of m before =
    replies_before w is.legal is.in_file_order before rest e n m c of_e less at in
    let up = rounds_ascend w.plan m n d c less at_m of_e.there in
    elim (cases_lt d.round c.round) [
      | inl earlier ↦ elim (finished_at_end w is m d at_m) [
        | inl over ↦ inl (over.0, ap (turn_by (list_for w.plan d.command) d.command) (sym own) ∙ over.1)
        | inr (inl stop) ↦ inr (inl (ap (λ (rs : List Reply). is_stop d.command.stop (length rs)) (sym own) ∙ stop))
        | inr (inr cut) ↦
            inr (inr (cut_stands_before w before rest e n c w.plan.stop_at d.round is.legal at of_e earlier cut))
      ]
      | inr most ↦
          elim (is.in_file_order.before m n d c less at_m of_e.there
          (let same : d.round ≡ c.round = omega arith in same)) [
            | inl none ↦ absurd (has_reply n w.history before rest e at of_e.number none)
            | inr over ↦ elim over.2 [
              | inl scripts ↦
                  inl (scripts.0, ap (turn_by (list_for w.plan d.command) d.command) (sym own) ∙ scripts.1)
              | inr (inl stopped) ↦
                  inr (inl (ap (λ (rs : List Reply). is_stop d.command.stop (length rs)) (sym own)
                  ∙ at_own_stop d.command.stop (length (own_replies w m)) stopped.1))
              | inr (inr lacking) ↦ absurd (is.had_memory m (over.1 ∙ ap (λ (x : Answer). Some (Some x)) lacking))
            ]
          ]
    ]

traces : (w : World) → IsDoneInFileOrder w → (before rest : List Entry) → w.history ≡ before ++ rest
    → IsTrace w.plan before rest
traces w is before [] at = λ n c there.
    subst (λ (h : List Entry). IsFinished w.plan h n c) (at ∙ append-nil before) (finished_at_end w is n c there)
traces w is before (e ∷ rest) at =
    let follows = each_follows w is.legal before rest e at in
    let of_e = follows.of in (
      record {
        follows = follows;
        uncut =
            uncut_at w.plan w.history before rest e follows.place follows.by w.plan.stop_at
            (two_entries w is.legal).cut at of_e refl;
        before = λ m d less at_m. finished_before w is before rest e follows.place m follows.by d at of_e less at_m;
      },
      traces w is (before ++ e ∷ []) rest (at ∙ sym (append_assoc before (e ∷ []) rest)),
    )

one_history : (v w : World) → v.plan ≡ w.plan → IsDoneInFileOrder v → IsDoneInFileOrder w → v.history ≡ w.history
one_history v w same dv dw =
    one_trace w.plan [] v.history w.history
    (subst (λ (p : Plan). IsTrace p [] v.history) same (traces v dv [] v.history refl))
    (traces w dw [] w.history refl)

-- ---- and one list of answers

abbrev AnswersWith : Plan → List Entry → ℕ → Placed → Answer → Type 0
AnswersWith p h n c a =
    ((finish : Finish) × (turn_at p h n c ≡ Finishes finish) × (a ≡ answer_by (list_for p c.command) c.command finish))
    ⊎ ((call : Call) × (turn_at p h n c ≡ Calls call) × (a ≡ Stopped (length (replies_of n h))))

answers_with : (w : World) → IsDoneInFileOrder w → (n : ℕ) (a : Answer) (c : Placed)
    → slice_get w.answers n ≡ Some (Some a) → slice_get (commands_of w.plan) n ≡ Some c
    → AnswersWith w.plan w.history n c a
answers_with w is n a c at there = elim (answer_is_due w is.legal n c there a at) [
  | inl scripts ↦ inl scripts
  | inr (inl stopped) ↦ inr stopped.0
  | inr (inr lacking) ↦ absurd (is.had_memory n (at ∙ ap (λ (x : Answer). Some (Some x)) lacking))
]

same_finish : (x y : Finish) (t : Turn) → t ≡ Finishes x → t ≡ Finishes y → x ≡ y
same_finish x y t one two = cc

never_both : (x : Finish) (y : Call) (t : Turn) → t ≡ Finishes x → t ≡ Calls y → ⊥
never_both x y t one two = cc

one_answer : (p : Plan) (h : List Entry) (n : ℕ) (c : Placed) (a b : Answer) → AnswersWith p h n c a
    → AnswersWith p h n c b → a ≡ b
one_answer p h n c a b (inl x) (inl y) =
    x.2 ∙ ap (answer_by (list_for p c.command) c.command) (same_finish x.0 y.0 (turn_at p h n c) x.1 y.1) ∙ sym y.2
one_answer p h n c a b (inl x) (inr y) = absurd (never_both x.0 y.0 (turn_at p h n c) x.1 y.1)
one_answer p h n c a b (inr x) (inl y) = absurd (never_both y.0 x.0 (turn_at p h n c) y.1 x.1)
one_answer p h n c a b (inr x) (inr y) = x.2 ∙ sym y.2

same_lists : {X : Type 0} (xs ys : List X) → length xs ≡ length ys
    → ((n : ℕ) (x y : X) → slice_get xs n ≡ Some x → slice_get ys n ≡ Some y → x ≡ y) → xs ≡ ys
same_lists [] [] long each = refl
same_lists [] (y ∷ ys) long each = absurd (omega arith)
same_lists (x ∷ xs) [] long each = absurd (omega arith)
same_lists (x ∷ xs) (y ∷ ys) long each =
    ap (λ z. z ∷ xs) (each zero x y refl refl)
    ∙ ap (λ l. y ∷ l) (same_lists xs ys (omega arith) (λ n a b at_a at_b. each (suc n) a b at_a at_b))

one_answer_at : (v w : World) → v.plan ≡ w.plan → IsDoneInFileOrder v → IsDoneInFileOrder w
    → (n : ℕ) (x y : Option Answer) → slice_get v.answers n ≡ Some x → slice_get w.answers n ≡ Some y → x ≡ y
one_answer_at v w same dv dw n x y at_v at_w =
    let c =
    command_at w.plan n
    (let within = slice_get_within w.answers n y at_w in
    let long = (in_order w dw.legal).long in omega arith) in
    let there : slice_get (commands_of v.plan) n ≡ Some c.0 =
    ap (λ (p : Plan). slice_get (commands_of p) n) same ∙ c.1 in
    let a = all_answered v (in_order v dv.legal) dv.ended n c.0 there in
    let b = all_answered w (in_order w dw.legal) dw.ended n c.0 c.1 in
    let of_v : AnswersWith w.plan v.history n c.0 a.0 =
    subst (λ (p : Plan). AnswersWith p v.history n c.0 a.0) same (answers_with v dv n a.0 c.0 a.1 there) in
    let both : a.0 ≡ b.0 =
    one_answer w.plan w.history n c.0 a.0 b.0
    (subst (λ (h : List Entry). AnswersWith w.plan h n c.0 a.0) (one_history v w same dv dw) of_v)
    (answers_with w dw n b.0 c.0 b.1 c.1) in
    same_Some x (Some a.0) (sym at_v ∙ a.1) ∙ ap Some both ∙ same_Some (Some b.0) y (sym b.1 ∙ at_w)

pub one_outcome : OneOutcome
one_outcome v w same dv dw = (
  one_history v w same dv dw,
  same_lists v.answers w.answers
      ((in_order v dv.legal).long ∙ ap (λ (p : Plan). length (commands_of p)) same ∙ sym (in_order w dw.legal).long)
      (one_answer_at v w same dv dw),
)
