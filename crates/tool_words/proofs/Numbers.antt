-- What a number that passed its range is read as, and a flag.
use Rattle.std.proofs.Common.{◌≡◌, ◌<◌, ◌≤◌, ◌^◌, ◌||◌, ℕ, Bool, true, false, refl, sym, ap, subst, Option, Some, None}
use Rattle.std.proofs.{Common.{Result, option_map, IfSome, codes}, lemmas.Slice.Eq.bytes_eq-Decides}
use Rattle.std.specs.{Option.option_map_or, Prelude.pos, Str.{bytes_eq, Parse.{ParsesUnsigned, HasUnsignedDigitsIfOk}}}
use Rattle.clap.specs.{Lexer.without_minus, Matches.{ReadsOne, found_of, one_text}, Values.IsSignedIn, Walk.Text}
use Rattle.clap.specs.{Walk.rows_of, declared.parser.matches.ArgMatches.ArgMatches}
use Rattle.clap.proofs.{CallerReads.signed_reads, WalkLemmas.one_text-rows}
use Rattle.tool_words.specs.{Command.counts_to, Parse.Passes, Words.{number_at, number_of}}

abbrev IsRead : ℕ → Option Text → Option ℕ → Type 0
IsRead most o r = (r ≡ option_map number_of o) × IfSome r (λ n. (1 ≤ n) × (n ≤ most))

-- what reading an unsigned number of so many bits gives, by what its error explains
abbrev GivesUnsigned : {E : Type 0} → ℕ → (Text → Result ℕ E → Type 0) → Text → Result ℕ E → Type 0
GivesUnsigned bits Explains text r = ParsesUnsigned bits 10 text r × Explains text r × HasUnsignedDigitsIfOk text r

module _ {E : Type 0} (bits most : ℕ) (Explains : Text → Result ℕ E → Type 0) (fits : most < 2 ^ bits) where
  -- a text that passed the range
  read_of : (o : Option Text) (r : Option ℕ) → (o ≡ None → r ≡ None)
      → ((t : Text) → o ≡ Some t → ReadsOne (GivesUnsigned bits Explains) t r)
      → ((t : Text) → o ≡ Some t → (given : Text) × (t ≡ without_minus given) × IsSignedIn (pos 1) (pos most) given)
      → IsRead most o r
  read_of None r none some pass = rw (none refl) (refl, tt)
  read_of (Some t) r none some pass =
      let Gives = GivesUnsigned bits Explains in
      let given = pass t refl in
      let read = some t refl in
      let got =
      signed_reads E Gives bits 1 most given.0 r (subst (λ (u : Text). ReadsOne Gives u r) given.1 read)
      (λ u x gives. gives.0) fits given.2 in
      let spelled = rw got.1 at read in
      rw got.1 (ap (λ n. Some n) spelled.0.1, (got.2, got.3))

  -- the number of an argument that counts to the most
  pub number_read : (m : ArgMatches) (name : Text) (r : Option ℕ) → (one_text (found_of m) name ≡ None → r ≡ None)
      → ((t : Text) → one_text (found_of m) name ≡ Some t → ReadsOne (GivesUnsigned bits Explains) t r)
      → Passes m name (counts_to most)
      → (r ≡ number_at name (rows_of (found_of m))) × IfSome r (λ n. (1 ≤ n) × (n ≤ most))
  number_read m name r none some pass =
      rw (← one_text-rows (found_of m) name) (read_of (one_text (found_of m) name) r none some pass)

abbrev is_true : Text → Bool
is_true text = bytes_eq text (codes "true")

true_or_false : (t : Text) (r b : Bool) → is_true t ≡ b → (t ≡ codes "true" → r ≡ true)
    → (t ≡ codes "false" → r ≡ false)
    → (b || bytes_eq t (codes "false")) ≡ true → r ≡ b
true_or_false t r true is at_true at_false either = at_true ((bytes_eq-Decides t (codes "true")).0 is)
true_or_false t r false is at_true at_false either = at_false ((bytes_eq-Decides t (codes "false")).0 either)

-- a flag
pub flag_read : (o : Option Text) (r : Bool) → (o ≡ None → r ≡ false) → (o ≡ Some (codes "true") → r ≡ true)
    → (o ≡ Some (codes "false") → r ≡ false)
    → ((t : Text) → o ≡ Some t
    → (given : Text) × (t ≡ given) × ((is_true given || bytes_eq given (codes "false")) ≡ true))
    → r ≡ option_map_or is_true o false
flag_read None r none at_true at_false pass = none refl
flag_read (Some t) r none at_true at_false pass =
    let given = pass t refl in
    true_or_false t r (is_true t) refl (λ e. at_true (ap (λ x. Some x) e)) (λ e. at_false (ap (λ x. Some x) e))
    (subst (λ (x : Text). (is_true x || bytes_eq x (codes "false")) ≡ true) (sym given.1) given.2)
