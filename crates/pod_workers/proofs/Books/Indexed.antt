-- What the index of a plan says of one more command, and of who may step.
use Rattle.pod_workers.proofs.Names.{◌≡◌, ℕ, suc, ◌+◌, ◌<◌, ◌≤◌, Bool, true, false, cond, List, [], ◌∷◌, ◌++◌, length}
use Rattle.pod_workers.proofs.Names.{get_or, map, take, Option, Some, None, slice_get, refl, sym, ◌∙◌, ap, subst, arith}
use Rattle.pod_workers.proofs.Names.{inl, inr, append_assoc, false≢true, append-nil, length-append, map-append}
use Rattle.pod_workers.proofs.Names.{take_more, none-some, slice_get-get_or, bytes_eq-Decides, slice_cmp, nat_cmp}
use Rattle.pod_workers.proofs.Names.{bytes_eq, Command}
use Rattle.std.proofs.{Common.{option_and_then, Bor}, lemmas.{List.{length-take-le, take_all}, Option.slice_get_read}}
use Rattle.std.specs.BTreeMap as tree
use Rattle.std.specs.BTreeMap.{BTreeMap}
use Rattle.pod_workers.specs.{Index.{AreBefore, IsIndex, IsLatest, IsPlaced, NoneOf}, Plans.{Placed, in_round}}
use Rattle.pod_workers.specs.{Plans.{placed_from, IsOf}, declared.index.Place.Place}
use Rattle.pod_workers.proofs.Books.Rounds.{placed-fits, placed_from-more, rounds-before}
use Rattle.pod_workers.proofs.Lists.Elements.{slice_get-before}
use Rattle.kernel_types.proofs.ListLemmas.{at_snoc, slice_get-middle}

-- ---- one more command

none-snoc : (commands : List Placed) (c : Placed) (start end round : ℕ) (container : List ℕ) → end ≤ length commands
    → NoneOf commands start end round container → NoneOf (commands ++ c ∷ []) start end round container
none-snoc commands c start end round container within none k d low high is =
    none k d low high (sym (slice_get-before commands (c ∷ []) k (omega arith)) ∙ is)

latest-snoc : (commands : List Placed) (c : Placed) (end round : ℕ) (container : List ℕ) (o : Option ℕ)
    → end ≤ length commands → IsLatest commands end round container o
    → IsLatest (commands ++ c ∷ []) end round container o
latest-snoc commands c end round container None within h = none-snoc commands c 0 end round container within h
latest-snoc commands c end round container (Some m) within h =
    let less = h.0 in (
      h.0,
      (h.1.0, slice_get-before commands (c ∷ []) m (omega arith) ∙ h.1.1, h.1.2),
      none-snoc commands c (m + 1) end round container within h.2,
    )

-- the last of the new command's round and container is now the new command
pub latest-own : (commands : List Placed) (c : Placed)
    → IsLatest (commands ++ c ∷ []) (length commands + 1) c.round c.command.container (Some (length commands))
latest-own commands c =
    (omega arith, (c, slice_get-middle commands [] c, (refl, refl)), λ k d low high is. absurd (omega arith))

none-other : (commands : List Placed) (c : Placed) (start round : ℕ) (container : List ℕ) → ¬ IsOf c round container
    → NoneOf commands start (length commands) round container
    → NoneOf (commands ++ c ∷ []) start (length commands + 1) round container
none-other commands c start round container not none k d low high is =
    elim (at_snoc commands c d k is) [
      | inl t ↦ none k d low t.0 t.1
      | inr t ↦ λ of_. not (subst (λ x. IsOf x round container) t.1 of_)
    ]

-- of another round or container, the last is what it was
pub latest-other : (commands : List Placed) (c : Placed) (round : ℕ) (container : List ℕ) (o : Option ℕ)
    → ¬ IsOf c round container → IsLatest commands (length commands) round container o
    → IsLatest (commands ++ c ∷ []) (length commands + 1) round container o
latest-other commands c round container None not h = none-other commands c 0 round container not h
latest-other commands c round container (Some m) not h =
    let less = h.0 in (
      omega arith,
      (h.1.0, slice_get-before commands (c ∷ []) m h.0 ∙ h.1.1, h.1.2),
      none-other commands c (m + 1) round container not h.2,
    )

placed-snoc : (rounds : List (List Command)) (commands : List Placed) (x : Placed) (n : ℕ) (c : Placed) (p : Place)
    → n ≤ length commands → IsPlaced rounds commands n c p → IsPlaced rounds (commands ++ x ∷ []) n c p
placed-snoc rounds commands x n c p within h = record {
  command = h.command;
  round_is = h.round_is;
  previous = latest-snoc commands x n c.round c.command.container p.previous within h.previous;
}

pub index-more : (rounds : List (List Command)) (commands : List Placed) (places : List Place) (c : Placed) (p : Place)
    → IsIndex rounds commands places → IsPlaced rounds commands (length commands) c p
    → IsIndex rounds (commands ++ c ∷ []) (places ++ p ∷ [])
index-more rounds commands places c p index here =
    record {
      long = length-append places (p ∷ []) ∙ ap (λ n. n + 1) index.long ∙ sym (length-append commands (c ∷ []));
      each = λ n d q at_n place_n. elim (at_snoc commands c d n at_n) [
        | inl t ↦ elim (at_snoc places p q n place_n) [
          | inl u ↦ (let less = t.0 in placed-snoc rounds commands c n d q (omega arith) (index.each n d q t.1 u.1))
          | inr u ↦ absurd (let less = t.0 in let end = u.0 in let long = index.long in omega arith)
        ]
        | inr t ↦ elim (at_snoc places p q n place_n) [
          | inl u ↦ absurd (let end = t.0 in let less = u.0 in let long = index.long in omega arith)
          | inr u ↦
              (let end = t.0 in
              rw (t.0, t.1, u.1) (placed-snoc rounds commands c (length commands) c p (omega arith) here))
        ]
      ];
    }

pub index-nothing : (rounds : List (List Command)) → IsIndex rounds [] []
index-nothing rounds = record { long = refl; each = λ n c p at_n place_n. absurd (none-some c at_n) }

-- ---- the commands of one round

-- the number that the map has for this text
abbrev pub at_text : BTreeMap (Bor (List ℕ)) ℕ → List ℕ → Option ℕ
at_text numbers text = tree.get_by (λ k. slice_cmp nat_cmp text k.now) numbers

-- these commands of a round, and all before the round, are in the index, and the last of each container is known
pub record IsIndexedTo (rounds : List (List Command)) (before : List Placed) (round : ℕ) (some : List Command)
    (places : List Place) (latest : List ℕ → Option ℕ) : Type 0 where
  pub index : IsIndex rounds (before ++ map (in_round round) some) places
  pub last_of : (q : List ℕ)
      → IsLatest (before ++ map (in_round round) some) (length (before ++ map (in_round round) some)) round q (latest q)

pub nothing-indexed : (rounds : List (List Command)) (before : List Placed) (round : ℕ) (places : List Place)
    (latest : List ℕ → Option ℕ)
    → AreBefore round before → IsIndex rounds before places
    → ((q : List ℕ) → latest q ≡ None) → IsIndexedTo rounds before round [] places latest
nothing-indexed rounds before round places latest earlier index none =
    let same = append-nil before in
    record {
      index = rw same index;
      last_of = λ q.
          rw (same, none q) (λ k d low high is of_. let less = earlier k d is in let e = of_.0 in omega arith);
    }

last-by : (commands : List Placed) (round : ℕ) (c : Command) (latest : List ℕ → Option ℕ) (q : List ℕ) (b : Bool)
    → bytes_eq c.container q ≡ b
    → IsLatest commands (length commands) round q (latest q)
    → IsLatest (commands ++ in_round round c ∷ []) (length commands + 1) round q
    (cond b (Some (length commands)) (latest q))
last-by commands round c latest q true is h =
    subst (λ k. IsLatest (commands ++ in_round round c ∷ []) (length commands + 1) round k (Some (length commands)))
    ((bytes_eq-Decides c.container q).0 is) (latest-own commands (in_round round c))
last-by commands round c latest q false is h =
    latest-other commands (in_round round c) round q (latest q)
    (λ of_. false≢true (sym is ∙ (bytes_eq-Decides c.container q).1 of_.1)) h

pub one-indexed : (rounds : List (List Command)) (before : List Placed) (round : ℕ) (commands some : List Command)
    (c : Command) (p : Place) (places : List Place) (latest latest' : List ℕ → Option ℕ)
    → slice_get rounds round ≡ Some commands → slice_get commands (length some) ≡ Some c
    → p ≡ record { round = round; within = length some; previous = latest c.container }
    → ((q : List ℕ) → latest' q ≡ cond (bytes_eq c.container q) (Some (length places)) (latest q))
    → IsIndexedTo rounds before round some places latest
    → IsIndexedTo rounds before round (some ++ c ∷ []) (places ++ p ∷ []) latest'
one-indexed rounds before round commands some c p places latest latest' in_rounds at_c p_is updated h =
    let old = before ++ map (in_round round) some in
    let grown : before ++ map (in_round round) (some ++ c ∷ []) ≡ old ++ in_round round c ∷ [] =
    ap (λ m. before ++ m) (map-append (in_round round) some (c ∷ []))
    ∙ sym (append_assoc before (map (in_round round) some) (in_round round c ∷ [])) in
    let there : option_and_then (λ cs. slice_get cs (length some)) (slice_get rounds round) ≡ Some c =
    ap (option_and_then (λ cs. slice_get cs (length some))) in_rounds ∙ at_c in
    let here : IsPlaced rounds old (length old) (in_round round c)
    (record { round = round; within = length some; previous = latest c.container }) =
    record { command = there; round_is = refl; previous = h.last_of c.container } in
    let size : length (old ++ in_round round c ∷ []) ≡ length old + 1 = length-append old (in_round round c ∷ []) in
    record {
      index = rw (grown, p_is) (index-more rounds old places (in_round round c) _ h.index here);
      last_of = λ q.
          rw (grown, size, updated q, h.index.long)
          (last-by old round c latest q (bytes_eq c.container q) refl (h.last_of q));
    }

-- one more command of the round
pub indexed-more : (rounds : List (List Command)) (before : List Placed) (round : ℕ) (commands : List Command) (i : ℕ)
    (c : Command) (p : Place) (places : List Place) (latest latest' : List ℕ → Option ℕ)
    → slice_get rounds round ≡ Some commands → i < length commands → c ≡ get_or commands i c
    → p ≡ record { round = round; within = i; previous = latest c.container }
    → ((q : List ℕ) → latest' q ≡ cond (bytes_eq c.container q) (Some (length places)) (latest q))
    → IsIndexedTo rounds before round (take i commands) places latest
    → IsIndexedTo rounds before round (take (i + 1) commands) (places ++ p ∷ []) latest'
indexed-more rounds before round commands i c p places latest latest' in_rounds within c_is p_is updated h =
    let short : length (take i commands) ≡ i = length-take-le i commands (omega arith) in
    let at_c : slice_get commands (length (take i commands)) ≡ Some c =
    ap (slice_get commands) short ∙ slice_get_read commands (length commands) i c refl within c_is in
    let grown : take (i + 1) commands ≡ take i commands ++ c ∷ [] =
    take_more commands i c within ∙ ap (λ x. take i commands ++ x ∷ []) (sym c_is) in
    subst (λ cs. IsIndexedTo rounds before round cs (places ++ p ∷ []) latest') (sym grown)
    (one-indexed rounds before round commands (take i commands) c p places latest latest' in_rounds at_c
    (p_is ∙ ap (λ k. record { round = round; within = k; previous = latest c.container }) (sym short)) updated h)

pub all-indexed : (rounds : List (List Command)) (before : List Placed) (round : ℕ) (commands : List Command) (i : ℕ)
    (places : List Place) (latest : List ℕ → Option ℕ)
    → length commands ≤ i
    → IsIndexedTo rounds before round (take i commands) places latest
    → IsIndex rounds (before ++ map (in_round round) commands) places
all-indexed rounds before round commands i places latest past h =
    subst (λ cs. IsIndex rounds (before ++ map (in_round round) cs) places) (take_all i commands past) h.index

-- ---- round after round

pub index-fits : (rounds : List (List Command)) (i : ℕ) (cs d : List Command) (places : List Place) (most : ℕ)
    → IsIndex rounds (placed_from 0 (take i rounds)) places → i < length rounds → cs ≡ get_or rounds i d
    → length (placed_from 0 rounds) ≤ most → length places + length cs ≤ most
index-fits rounds i cs d places most index within is few =
    let fits = placed-fits rounds i (get_or rounds i d) (slice_get-get_or rounds i d within) in
    let long = index.long in
    let same = ap length is in
    omega (arith, fits, long, same, few)

pub index-round-more : (rounds : List (List Command)) (i : ℕ) (cs d : List Command) (places more : List Place)
    → IsIndex rounds (placed_from 0 (take i rounds)) places → i < length rounds → cs ≡ get_or rounds i d
    → ((rs : List (List Command)) (before : List Placed) → slice_get rs i ≡ Some cs → AreBefore i before
    → IsIndex rs before places → IsIndex rs (before ++ map (in_round i) cs) more)
    → IsIndex rounds (placed_from 0 (take (i + 1) rounds)) more
index-round-more rounds i cs d places more index within is grows =
    let at_i : slice_get rounds i ≡ Some cs = slice_get-get_or rounds i d within ∙ ap Some (sym is) in
    let zero_is : 0 + i ≡ i = omega arith in
    let next_is : suc i ≡ i + 1 = omega arith in
    let all : placed_from 0 (take (i + 1) rounds) ≡ placed_from 0 (take i rounds) ++ map (in_round i) cs =
    ap (λ k. placed_from 0 (take k rounds)) (sym next_is)
    ∙ placed_from-more 0 i rounds cs at_i
    ∙ ap (λ k. placed_from 0 (take i rounds) ++ map (in_round k) cs) zero_is in
    subst (λ xs. IsIndex rounds xs more) (sym all)
    (grows rounds (placed_from 0 (take i rounds)) at_i (rounds-before i rounds) index)

pub index-is-whole : (rounds : List (List Command)) (i : ℕ) (places : List Place) → length rounds ≤ i
    → IsIndex rounds (placed_from 0 (take i rounds)) places → IsIndex rounds (placed_from 0 rounds) places
index-is-whole rounds i places past index =
    subst (λ rs. IsIndex rounds (placed_from 0 rs) places) (take_all i rounds past) index

pub count-more : {X : Type 0} (xs ys : List X) (y : X) (base i : ℕ) → ys ≡ xs ++ y ∷ [] → length xs ≡ base + i
    → length ys ≡ base + (i + 1)
count-more xs ys y base i ys_is long =
    let e = ap length ys_is in let l = length-append xs (y ∷ []) in omega (arith, e, l, long)
