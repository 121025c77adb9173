-- The entries of one command in a history that is one entry longer.
use Rattle.pod_laws.proofs.Names.{◌≡◌, ◌≢◌, ℕ, ◌+◌, Bool, true, false, List, [], ◌∷◌, ◌++◌, refl, sym, ◌∙◌, ap, arith}
use Rattle.pod_laws.proofs.Names.{list_any, if◌then◌else◌, Call, list_any-append_right}
pub use Rattle.pod_workers.proofs.Worlds.Histories.{is_of-own, is_of-other, own_entries-own, own_entries-other}
use Rattle.pod_workers.proofs.InOrder.Order.{other_number}
use Rattle.pod_workers.proofs.Lists.Splits.{split_nil}
use Rattle.pod_workers.specs.World.{World, entry_of, host_of}
pub use Rattle.pod_workers.specs.World.{replies_in}
use Rattle.pod_workers.specs.declared.plan.Entry.{Entry}
use Rattle.pod_laws.specs.Moments.{is_of, until_last}
use Rattle.gc_sweep.proofs.Lists.{list_any-snoc}

-- ---- own entries

pub no-entries : (es : List Entry) → replies_in es ≡ [] → es ≡ []
no-entries [] h = refl
no-entries (x ∷ xs) h = cc

-- with one more there is some
pub pushed : (es : List Entry) (e : Entry) → es ++ e ∷ [] ≢ []
pushed es e = λ none. split_nil es [] e (sym none)

-- the entry of another command is not its own
pub apart-entry : (w : World) (n m : ℕ) (call : Call) (faulty : Bool) → m ≢ n
    → is_of m (entry_of (host_of w) n call faulty) ≡ false
apart-entry w n m call faulty differs =
    let e = entry_of (host_of w) n call faulty in is_of-other m e (other_number e n m refl differs)

-- ---- until the last entry

until-own : (b : Bool) (x : Entry) (t u : List Entry) → b ≡ true → t ≡ u → (if b then x ∷ t else []) ≡ x ∷ u
until-own true x t u h e = ap (λ l. x ∷ l) e
until-own false x t u h e = cc

pub until_last-own : (n : ℕ) (h : List Entry) (e : Entry) → is_of n e ≡ true → until_last n (h ++ e ∷ []) ≡ h ++ e ∷ []
until_last-own n [] e is = until-own (list_any (is_of n) (e ∷ [])) e [] [] (grind (arith, is)) refl
until_last-own n (x ∷ xs) e is =
    until-own (list_any (is_of n) (x ∷ (xs ++ e ∷ []))) x (until_last n (xs ++ e ∷ [])) (xs ++ e ∷ [])
    (list_any-append_right (is_of n) (x ∷ xs) (e ∷ []) (grind (arith, is)))
    (until_last-own n xs e is)

any-other : {X : Type 0} (p : X → Bool) (xs : List X) (y : X) → p y ≡ false → list_any p (xs ++ y ∷ []) ≡ list_any p xs
any-other p xs y h = let e = list_any-snoc p xs y in grind (arith, e, h)

pub until_last-other : (n : ℕ) (h : List Entry) (e : Entry) → is_of n e ≡ false
    → until_last n (h ++ e ∷ []) ≡ until_last n h
until_last-other n [] e is = ap (λ b. if b then e ∷ [] else []) (any-other (is_of n) [] e is)
until_last-other n (x ∷ xs) e is =
    ap (λ b. if b then x ∷ until_last n (xs ++ e ∷ []) else []) (any-other (is_of n) (x ∷ xs) e is)
    ∙ ap (λ t. if list_any (is_of n) (x ∷ xs) then x ∷ t else []) (until_last-other n xs e is)

-- an entry that is another's is of the same command
pub same-place : (n m : ℕ) (e x : Entry) → e.command ≡ m + 1 → x ≡ e → x.command ≡ n + 1 → m ≡ n
same-place n m e x number same own =
    let b : x.command ≡ e.command = ap (λ (y : Entry). y.command) same in omega (arith, number, b, own)
