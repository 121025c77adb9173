-- How the attachments of tasks are numbered, one task after another.
use Rattle.plugin_session.proofs.Names.{◌≡◌, ℕ, zero, suc, ◌+◌, ◌<◌, ◌≤◌, ◌⊎◌, Bool, true, false, cond, List, [], ◌∷◌}
use Rattle.plugin_session.proofs.Names.{◌++◌, length, take, get_or, Option, Some, None, slice_get, refl, sym, ap, subst}
use Rattle.plugin_session.proofs.Names.{◌∙◌, arith, inl, inr, Bor, is_some, not, and_parts, length-append, none-some}
use Rattle.plugin_session.proofs.Names.{same_Some, bytes_eq-Decides, unwrap_or, bytes_eq, Att, Task}
use Rattle.std.proofs.{Common.{◌&&◌, ◌==◌, Decides}, lemmas.Bool.{and_from, Decides.{Decides-eqb, same_from_decides}}}
use Rattle.std.proofs.lemmas.{List.{take_all, take_more}, Map.Text.is_eq-slice_cmp, Option.slice_get_within}
use Rattle.kernel_types.specs.Equal.{att_eq}
use Rattle.kernel_types.proofs.{Cases.att_eq-refl, Isolation.att_eq-same, ListLemmas.at_snoc}
use Rattle.std.specs.{BTreeMap.BTreeMap, Cmp.{tied_then, Lexicographic.slice_cmp}, Ordering.{is_eq, nat_cmp}}
use Rattle.std.specs.Ordering.{ordering_then}
use Rattle.std.specs.BTreeMap as tree
use Rattle.session_laws.specs.Kept.{AreNumbered, att_in}

-- the number that the map has for these names
abbrev pub at_names : BTreeMap (Bor (List ℕ) × Bor (List ℕ)) ℕ → List ℕ → List ℕ → Option ℕ
at_names known container ifname =
    tree.get_by (λ k. ordering_then (slice_cmp nat_cmp container k.0.now) (slice_cmp nat_cmp ifname k.1.now)) known

abbrev pub same_names : List ℕ → List ℕ → List ℕ → List ℕ → Bool
same_names container ifname c i = bytes_eq container c && bytes_eq ifname i

-- what the map's order tells of two pairs of names
pub names-test : (container ifname c i : List ℕ)
    → is_eq (ordering_then (slice_cmp nat_cmp container c) (slice_cmp nat_cmp ifname i))
    ≡ same_names container ifname c i
names-test container ifname c i =
    sym (tied_then (slice_cmp nat_cmp container c) (slice_cmp nat_cmp ifname i))
    ∙ ap (λ b. b && is_eq (slice_cmp nat_cmp ifname i)) (is_eq-slice_cmp container c)
    ∙ ap (λ b. bytes_eq container c && b) (is_eq-slice_cmp ifname i)

-- these tasks have the numbers of their names, below the count, and no two names have one number
pub record AreNumberedTo (tasks : List Task) (numbers : List ℕ) (count : ℕ) (known : List ℕ → List ℕ → Option ℕ)
    : Type 0 where
  pub long : length numbers ≡ length tasks
  pub few : count ≤ length numbers
  pub each : (n k : ℕ) (t : Task) → slice_get tasks n ≡ Some t → slice_get numbers n ≡ Some k
      → known t.container t.ifname ≡ Some k
  pub below : (c i : List ℕ) (k : ℕ) → known c i ≡ Some k → k < count
  pub apart : (c i d j : List ℕ) (k : ℕ) → known c i ≡ Some k → known d j ≡ Some k → (c ≡ d) × (i ≡ j)

pub none-numbered : (known : List ℕ → List ℕ → Option ℕ) → ((c i : List ℕ) → known c i ≡ None)
    → AreNumberedTo [] [] 0 known
none-numbered known none = record {
  long = refl;
  few = omega arith;
  each = λ n k t at_t at_k. absurd (none-some t at_t);
  below = λ c i k is. absurd (none-some k (sym (none c i) ∙ is));
  apart = λ c i d j k is also. absurd (none-some k (sym (none c i) ∙ is));
}

-- each task has the number of its names, with one task more
each-snoc : (tasks : List Task) (numbers : List ℕ) (known : List ℕ → List ℕ → Option ℕ) (t : Task) (k : ℕ)
    → length numbers ≡ length tasks
    → ((n l : ℕ) (u : Task) → slice_get tasks n ≡ Some u → slice_get numbers n ≡ Some l
    → known u.container u.ifname ≡ Some l)
    → known t.container t.ifname ≡ Some k
    → (n l : ℕ) (u : Task) → slice_get (tasks ++ t ∷ []) n ≡ Some u → slice_get (numbers ++ k ∷ []) n ≡ Some l
    → known u.container u.ifname ≡ Some l
each-snoc tasks numbers known t k long each is n l u at_u at_l = elim (at_snoc tasks t u n at_u) [
  | inl a ↦ elim (at_snoc numbers k l n at_l) [
    | inl b ↦ each n l u a.1 b.1
    | inr b ↦ absurd (let less = a.0 in let end = b.0 in omega arith)
  ]
  | inr a ↦ elim (at_snoc numbers k l n at_l) [
    | inl b ↦ absurd (let end = a.0 in let less = b.0 in omega arith)
    | inr b ↦ ap (λ (v : Task). known v.container v.ifname) a.1 ∙ is ∙ ap (λ (m : ℕ). Some m) (sym b.1)
  ]
]

long-snoc : (tasks : List Task) (numbers : List ℕ) (t : Task) (k : ℕ) → length numbers ≡ length tasks
    → length (numbers ++ k ∷ []) ≡ length (tasks ++ t ∷ [])
long-snoc tasks numbers t k long =
    length-append numbers (k ∷ []) ∙ ap (λ n. n + 1) long ∙ sym (length-append tasks (t ∷ []))

-- one more task of known names
numbered-again : (tasks : List Task) (numbers : List ℕ) (count : ℕ) (known : List ℕ → List ℕ → Option ℕ)
    (t : Task) (k : ℕ)
    → known t.container t.ifname ≡ Some k → AreNumberedTo tasks numbers count known
    → AreNumberedTo (tasks ++ t ∷ []) (numbers ++ k ∷ []) count known
numbered-again tasks numbers count known t k is h = record {
  long = long-snoc tasks numbers t k h.long;
  few = (let few = h.few in let more = length-append numbers (k ∷ []) in omega arith);
  each = each-snoc tasks numbers known t k h.long h.each is;
  below = h.below;
  apart = h.apart;
}

-- ---- new names

-- names that have a number are the new ones, or had it before
new_or_known : (a b c i : List ℕ) (count k : ℕ) (o : Option ℕ) (test : Bool) → same_names a b c i ≡ test
    → cond test (Some count) o ≡ Some k → ((c ≡ a) × (i ≡ b) × (k ≡ count)) ⊎ (o ≡ Some k)
new_or_known a b c i count k o true e is =
    let both = and_parts (bytes_eq a c) (bytes_eq b i) e in
    inl (sym ((bytes_eq-Decides a c).0 both.0), sym ((bytes_eq-Decides b i).0 both.1), same_Some k count (sym is))
new_or_known a b c i count k o false e is = inr is

-- names that had a number keep it
still-known : (known : List ℕ → List ℕ → Option ℕ) (a b c i : List ℕ) (count k : ℕ) (test : Bool)
    → same_names a b c i ≡ test → known a b ≡ None → known c i ≡ Some k → cond test (Some count) (known c i) ≡ Some k
still-known known a b c i count k true e none is =
    let both = and_parts (bytes_eq a c) (bytes_eq b i) e in
    absurd (none-some k
    (sym none
    ∙ ap (λ x. known x b) ((bytes_eq-Decides a c).0 both.0)
    ∙ ap (known c) ((bytes_eq-Decides b i).0 both.1)
    ∙ is))
still-known known a b c i count k false e none is = is

same_names-refl : (a b : List ℕ) → same_names a b a b ≡ true
same_names-refl a b =
    and_from (bytes_eq a a) (bytes_eq b b) ((bytes_eq-Decides a a).1 refl) ((bytes_eq-Decides b b).1 refl)

-- one more task, of new names
numbered-new : (tasks : List Task) (numbers : List ℕ) (count : ℕ) (known grown : List ℕ → List ℕ → Option ℕ) (t : Task)
    → known t.container t.ifname ≡ None
    → ((c i : List ℕ) → grown c i ≡ cond (same_names t.container t.ifname c i) (Some count) (known c i))
    → AreNumberedTo tasks numbers count known
    → AreNumberedTo (tasks ++ t ∷ []) (numbers ++ count ∷ []) (count + 1) grown
numbered-new tasks numbers count known grown t none grows h =
    let a = t.container in
    let b = t.ifname in
    let cases : (c i : List ℕ) (k : ℕ) → grown c i ≡ Some k → ((c ≡ a) × (i ≡ b) × (k ≡ count)) ⊎ (known c i ≡ Some k) =
    λ c i k is. new_or_known a b c i count k (known c i) (same_names a b c i) refl (sym (grows c i) ∙ is) in
    let own : grown a b ≡ Some count = grows a b ∙ ap (λ x. cond x (Some count) (known a b)) (same_names-refl a b) in
    record {
      long = long-snoc tasks numbers t count h.long;
      few = (let few = h.few in let more = length-append numbers (count ∷ []) in omega arith);
      each =
          each-snoc tasks numbers grown t count h.long
          (λ n l u at_u at_l.
          grows u.container u.ifname
          ∙ still-known known a b u.container u.ifname count l (same_names a b u.container u.ifname) refl none
          (h.each n l u at_u at_l))
          own;
      below = λ c i k is. elim (cases c i k is) [
        | inl x ↦ (let same = x.2 in omega arith)
        | inr x ↦ (let less = h.below c i k x in omega arith)
      ];
      apart = λ c i d j k is also. elim (cases c i k is) [
        | inl x ↦ elim (cases d j k also) [
          | inl y ↦ (x.0 ∙ sym y.0, x.1 ∙ sym y.1)
          | inr y ↦ absurd (let same = x.2 in let less = h.below d j k y in omega arith)
        ]
        | inr x ↦ elim (cases d j k also) [
          | inl y ↦ absurd (let same = y.2 in let less = h.below c i k x in omega arith)
          | inr y ↦ h.apart c i d j k x y
        ]
      ];
    }

-- ---- turn by turn

-- the next task's names are known, or are new and have the next number
pub task-again : (tasks : List Task) (n : ℕ) (t : Task) (numbers : List ℕ) (count k : ℕ)
    (known : List ℕ → List ℕ → Option ℕ)
    → n < length tasks → t ≡ get_or tasks n t → known t.container t.ifname ≡ Some k
    → AreNumberedTo (take n tasks) numbers count known
    → AreNumberedTo (take (n + 1) tasks) (numbers ++ k ∷ []) count known
task-again tasks n t numbers count k known within t_is is h =
    subst (λ ts. AreNumberedTo ts (numbers ++ k ∷ []) count known)
    (sym (take_more tasks n t within ∙ ap (λ x. take n tasks ++ x ∷ []) (sym t_is)))
    (numbered-again (take n tasks) numbers count known t k is h)

pub task-new : (tasks : List Task) (n : ℕ) (t : Task) (numbers : List ℕ) (count : ℕ)
    (known grown : List ℕ → List ℕ → Option ℕ)
    → n < length tasks → t ≡ get_or tasks n t → known t.container t.ifname ≡ None
    → ((c i : List ℕ) → grown c i ≡ cond (same_names t.container t.ifname c i) (Some count) (known c i))
    → AreNumberedTo (take n tasks) numbers count known
    → AreNumberedTo (take (n + 1) tasks) (numbers ++ count ∷ []) (count + 1) grown
task-new tasks n t numbers count known grown within t_is none grows h =
    subst (λ ts. AreNumberedTo ts (numbers ++ count ∷ []) (count + 1) grown)
    (sym (take_more tasks n t within ∙ ap (λ x. take n tasks ++ x ∷ []) (sym t_is)))
    (numbered-new (take n tasks) numbers count known grown t none grows h)

-- a number that was found, or else a new one
pub found-number : (o : Option ℕ) (next number : ℕ) (none : Bool) → number ≡ unwrap_or o next → is_some o ≡ not none
    → none ≡ false → o ≡ Some number
found-number None next number none is tests found = cc
found-number (Some k) next number none is tests found = cc

pub new-number : (o : Option ℕ) (next number : ℕ) (none : Bool) → number ≡ unwrap_or o next → is_some o ≡ not none
    → none ≡ true → (o ≡ None) × (number ≡ next)
new-number None next number none is tests new = (refl, is)
new-number (Some k) next number none is tests new = cc

-- one place more without a row
pub none-more : (places : List (Option ℕ))
    → ((k : ℕ) (place : Option ℕ) → slice_get places k ≡ Some place → place ≡ None)
    → (k : ℕ) (place : Option ℕ) → slice_get (places ++ None ∷ []) k ≡ Some place → place ≡ None
none-more places none k place is = elim (at_snoc places None place k is) [
  | inl t ↦ none k place t.1
  | inr t ↦ t.1
]

-- ---- all tasks

same-names : (network : List ℕ) (t u : Task) → t.container ≡ u.container → t.ifname ≡ u.ifname
    → att_in network t ≡ att_in network u
same-names network t u containers ifnames =
    let of : List ℕ → List ℕ → Att = λ c i. record { network = network; container = c; ifname = i } in
    ap (λ (c : List ℕ). of c t.ifname) containers ∙ ap (of u.container) ifnames

slice_get_some : (tasks : List Task) (n : ℕ) → n < length tasks → (t : Task) × (slice_get tasks n ≡ Some t)
slice_get_some [] n within = absurd (omega arith)
slice_get_some (t ∷ ts) zero within = (t, refl)
slice_get_some (t ∷ ts) (suc n) within = slice_get_some ts n (omega arith)

below-known : (tasks : List Task) (numbers : List ℕ) (count : ℕ) (known : List ℕ → List ℕ → Option ℕ) (n k : ℕ)
    → (t : Task) × (slice_get tasks n ≡ Some t) → slice_get numbers n ≡ Some k → AreNumberedTo tasks numbers count known
    → k < count
below-known tasks numbers count known n k there is h =
    h.below there.0.container there.0.ifname k (h.each n k there.0 there.1 is)

-- two tasks have one number exactly where they speak of one attachment
number-Decides : (network : List ℕ) (count k l : ℕ) (known : List ℕ → List ℕ → Option ℕ) (t u : Task)
    → ((c i d j : List ℕ) (m : ℕ) → known c i ≡ Some m → known d j ≡ Some m → (c ≡ d) × (i ≡ j))
    → known t.container t.ifname ≡ Some k → known u.container u.ifname ≡ Some l
    → Decides (att_eq (att_in network t) (att_in network u)) (k ≡ l)
number-Decides network count k l known t u apart of_t of_u = (
  λ e. let same = att_eq-same (att_in network t) (att_in network u) e in
      let names : known t.container t.ifname ≡ known u.container u.ifname =
      ap (λ (a : Att). known a.container a.ifname) same in
      same_Some k l (sym of_t ∙ names ∙ of_u),
  λ e. let names = apart t.container t.ifname u.container u.ifname k of_t (of_u ∙ ap (λ (m : ℕ). Some m) (sym e)) in
      ap (λ a. att_eq (att_in network t) a) (sym (same-names network t u names.0 names.1))
      ∙ att_eq-refl (att_in network t),
)

pub all-numbered : (tasks : List Task) (n : ℕ) (numbers : List ℕ) (count : ℕ) (known : List ℕ → List ℕ → Option ℕ)
    (network : List ℕ) → length tasks ≤ n → AreNumberedTo (take n tasks) numbers count known
    → AreNumbered network tasks numbers count
all-numbered tasks n numbers count known network past part =
    let h : AreNumberedTo tasks numbers count known =
    subst (λ ts. AreNumberedTo ts numbers count known) (take_all n tasks past) part in
    record {
      long = h.long;
      below = λ m k is.
          (let within : m < length tasks =
          (let less = slice_get_within numbers m k is in let long = h.long in omega arith) in
          below-known tasks numbers count known m k (slice_get_some tasks m within) is h);
      apart = λ m o t u k l at_t at_u at_k at_l.
          same_from_decides (k == l) (att_eq (att_in network t) (att_in network u)) (Decides-eqb k l)
          (number-Decides network count k l known t u h.apart (h.each m k t at_t at_k) (h.each o l u at_u at_l));
    }
