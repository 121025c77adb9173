-- The command, an argument at a time, and what it makes of the words.
use Rattle.std.proofs.Common.{◌≡◌, List, [], ◌∷◌, true, false, refl, sym, ap, ap₂, ◌∙◌, inl, inr, arith, ne_eqb, codes}
use Rattle.std.proofs.Common.{Some}
use Rattle.clap.specs.{Built.AddsArg, Faults.{is_simple_and_free, fault_of}, Kinds.{Kinds, IsAmong, HasKind}}
use Rattle.clap.specs.{Matches.found_of, Simple.{App, app_of, with_rule, is_simple, matches_of, HasMatchesOf}}
use Rattle.clap.specs.{Values.kind_of, Walk.{Rule, Text, is_empty, rows_of, all_of, first_of}}
use Rattle.clap.specs.declared.{builder.{arg.Arg.Arg, command.Command.Command}, error.Error.Error}
use Rattle.clap.specs.declared.error.kind.ErrorKind.{ErrorKind, TheVariants.{OutOfMemory, ValueValidation}}
use Rattle.clap.specs.declared.error.kind.ErrorKind.TheVariants.{MissingRequiredArgument, ArgumentConflict}
use Rattle.clap.specs.declared.parser.matches.ArgMatches.{ArgMatches}
use Rattle.clap.proofs.OnLiterals.{clap_on_literals}
use Rattle.tool_words.specs.Command.{the_app, IsArg, clap_takes, rows}

-- one argument more
pub with_arg : (old new : Command) (a : Arg) (app : App) (rule : Rule) → AddsArg old a new → app_of old ≡ app
    → IsArg a rule → app_of new ≡ with_rule app rule
with_arg old new a app rule adds is arg = adds.shape arg.1 ∙ ap₂ with_rule is arg.0

is_simple-the_app : is_simple the_app ≡ true
unfolding clap_on_literals
is_simple-the_app = refl

is_simple_and_free-the_app : is_simple_and_free the_app ≡ true
unfolding clap_on_literals
is_simple_and_free-the_app = refl

pub taken : (app : App) (given words : List Text) → app ≡ the_app → given ≡ words
    → (is_simple_and_free app ≡ true → fault_of app given ≡ []) → clap_takes words ≡ true
unfolding clap_takes
taken app given words is same h =
    let none : fault_of the_app words ≡ [] =
    ap₂ fault_of (sym is) (sym same) ∙ h (ap is_simple_and_free is ∙ is_simple_and_free-the_app) in
    ap is_empty none

pub rows-are : (app : App) (given words : List Text) (m : ArgMatches) → app ≡ the_app → given ≡ words
    → HasMatchesOf app given m → rows_of (found_of m) ≡ rows words
unfolding rows
rows-are app given words m is same h = (h (ap is_simple is ∙ is_simple-the_app)).0 ∙ ap₂ matches_of is same

not_empty : (k : ErrorKind) (kinds : Kinds) → IsAmong k kinds → is_empty kinds ≡ false
not_empty k [] h = absurd h
not_empty k (x ∷ xs) h = ne_eqb _ _ (λ e. omega arith)

pub not_taken : (app : App) (given words : List Text) (e : Error) → app ≡ the_app → given ≡ words
    → (is_simple_and_free app ≡ true → HasKind (fault_of app given) e)
    → (kind_of e ≡ OutOfMemory → ⊥) → clap_takes words ≡ false
unfolding clap_takes
not_taken app given words e is same h other =
    elim (h (ap is_simple_and_free is ∙ is_simple_and_free-the_app)) [
      | inl memory ↦ absurd (other memory)
      | inr among ↦ ap is_empty (ap₂ fault_of (sym is) (sym same)) ∙ not_empty (kind_of e) (fault_of app given) among
    ]

-- ---- worked examples

-- What clap's definitions make of words that are written out: whole lines, a number that is too large, no word, words
-- behind `--`, a file without a name, and a flag that is given twice. Each is worked out by the check, and no other
-- proof cites it.
worked_line : fault_of the_app
    (codes "--threads" ∷ codes "4" ∷ codes "p.json" ∷ codes "a.json" ∷ codes "--dump" ∷ codes "b.json" ∷ []) ≡ []
unfolding clap_on_literals
worked_line = refl

worked_too_many : fault_of the_app (codes "--threads" ∷ codes "17" ∷ codes "p.json" ∷ []) ≡ ValueValidation ∷ []
unfolding clap_on_literals
worked_too_many = refl

worked_none : fault_of the_app [] ≡ MissingRequiredArgument ∷ []
unfolding clap_on_literals
worked_none = refl

worked_plus : fault_of the_app (codes "--threads=+04" ∷ codes "p.json" ∷ []) ≡ []
unfolding clap_on_literals
worked_plus = refl

worked_lists : all_of (codes "LIST")
    (matches_of the_app (codes "p.json" ∷ codes "a.json" ∷ codes "--dump" ∷ codes "b.json" ∷ []))
    ≡ Some (codes "a.json" ∷ codes "b.json" ∷ [])
unfolding clap_on_literals
worked_lists = refl

worked_dash : fault_of the_app (codes "--" ∷ codes "-p" ∷ codes "--dump" ∷ []) ≡ []
unfolding clap_on_literals
worked_dash = refl

worked_no_name : first_of (codes "probe") (matches_of the_app (codes "--probe=" ∷ codes "p.json" ∷ [])) ≡ Some []
unfolding clap_on_literals
worked_no_name = refl

worked_twice : fault_of the_app (codes "--dump" ∷ codes "--dump" ∷ codes "p" ∷ []) ≡ ArgumentConflict ∷ []
unfolding clap_on_literals
worked_twice = refl
