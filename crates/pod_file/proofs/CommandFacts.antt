-- What the rounds of a pod file keep that are read.
use Rattle.std.proofs.Common.{◌≡◌, ℕ, zero, suc, ◌+◌, ◌≤◌, Bool, true, false, not, List, [], ◌∷◌, ◌++◌, length, codes}
use Rattle.std.proofs.Common.{Option, Some, None, Ok, Err, refl, sym, ap, ap₂, ◌∙◌, subst, arith}
use Rattle.std.proofs.lemmas.{Bool.Decides.nat_tests, List.{length-append, Elements.{All-nil, All-cons, All-head}}}
use Rattle.std.proofs.lemmas.List.Elements.{All-tail}
use Rattle.std.specs.{List.list_any, Prelude.{◌||◌, if◌then◌else◌, nat_le, is_some, All, scan, slice_get, ok_or}}
use Rattle.std.specs.Prelude.{option_map}
use Rattle.serde_json.specs.{Data.{Data, null, boolean, number, string, array, object, Items}, Find.get}
use Rattle.cni_json.specs.{Each.list_or, Fields.{text_field, list_field, u32_field, u32_of, has_32_bits, object_or}}
use Rattle.cni_json.specs.declared.fields.Field.{Field, TheVariants.{Absent, WrongKind, Here}}
use Rattle.kernel_types.specs.{Texts.table_named, declared.rule.Table.Table}
use Rattle.cni_json.proofs.{Endings.{goes, ok_same, passed, went_on, each_all, each_from_all}, WholeNumbers.u32_of-fits}
use Rattle.pod_file.specs.Commands.{verb_at, needs_table, texts_at, table_of, table_at, stop_of, stop_at}
use Rattle.pod_file.specs.{Commands.{is_call_number, fault_of, fault_at, faults_at, command_at}, Members.list_at}
use Rattle.pod_file.specs.{Members.{mappings_at, valid_at}, Refusals.{wrong, wrong_key, command_path}}
use Rattle.pod_file.specs.Rounds.{command_in, round_at, rounds_of, rounds_at, in_file_order, is_exclusive, is_alone}
use Rattle.pod_file.specs.{Rounds.{each_alone, numbered, round_numbered, all_numbered}, WellFormed.IsCallNumber}
use Rattle.pod_file.specs.WellFormed.{IsStop, IsWellFormedCommand, IsWellFormedRound}
use Rattle.pod_file.specs.declared.{command.{Command.Command, Verb.Verb}, error.PodError.PodError, place.Place.Place}
use Rattle.pod_file.specs.declared.place.Place.TheVariants.{InRound}

-- ---- one command

-- a verb that needs a table has one
abbrev HasTable : Verb → Option Table → Type 0
HasTable verb table = needs_table verb ≡ true → is_some table ≡ true

table_or-ok : (named : Option Table) (e : PodError) (verb : Verb) (table : Option Table)
    → ok_or (option_map Some named) e ≡ Ok table → HasTable verb table
table_or-ok None e verb table is = cc
table_or-ok (Some named) e verb table is = subst (HasTable verb) (ok_same is) (λ flush. refl)

no_table-ok : (needed : Bool) (e : PodError) (table : Option Table) → (if needed then Err e else Ok None) ≡ Ok table
    → needed ≡ true → is_some table ≡ true
no_table-ok true e table is holds = cc
no_table-ok false e table is holds = cc

table_of-ok : (place : Place) (verb : Verb) (f : Field (List ℕ)) (table : Option Table)
    → table_of place verb f ≡ Ok table → HasTable verb table
table_of-ok place verb Absent table is = no_table-ok (needs_table verb) _ table is
table_of-ok place verb WrongKind table is = cc
table_of-ok place verb (Here text) table is = table_or-ok (table_named text) _ verb table is

table_at-ok : (place : Place) (verb : Verb) (d : Data) (table : Option Table) → table_at place verb d ≡ Ok table
    → HasTable verb table
unfolding table_at
table_at-ok place verb d table is = table_of-ok place verb (text_field (codes "table") d) table is

stop_of-ok : (place : Place) (f : Field ℕ) (stop : Option ℕ) → ((n : ℕ) → f ≡ Here n → has_32_bits n ≡ true)
    → stop_of place f ≡ Ok stop → IsStop stop
stop_of-ok place Absent stop fits is = subst IsStop (ok_same is) tt
stop_of-ok place WrongKind stop fits is = cc
stop_of-ok place (Here n) stop fits is = subst IsStop (ok_same is) (fits n refl)

pub stop_at-ok : (place : Place) (d : Data) (stop : Option ℕ) → stop_at place d ≡ Ok stop → IsStop stop
unfolding stop_at
stop_at-ok place d stop is = stop_of-ok place (u32_field (codes "stop") d) stop (u32_of-fits (get (codes "stop") d)) is

fault_of-ok : (place : Place) (o : Option ℕ) (n : ℕ) → fault_of place o ≡ Ok n → IsCallNumber n
fault_of-ok place None n is = cc
fault_of-ok place (Some m) n is = let test = passed (is_call_number m) m n _ is in subst IsCallNumber test.1 test.0

faults_of-ok : (place : Place) (f : Field Items) (faults : List ℕ)
    → list_or (wrong_key place (codes "faults")) (fault_at place) f ≡ Ok faults → All IsCallNumber faults
faults_of-ok place Absent faults is = subst (All IsCallNumber) (ok_same is) (All-nil IsCallNumber)
faults_of-ok place WrongKind faults is = cc
faults_of-ok place (Here ds) faults is =
    each_all (fault_at place) IsCallNumber (λ d n read. fault_of-ok place (u32_of d) n read) ds faults is

pub faults_at-ok : (place : Place) (d : Data) (faults : List ℕ) → faults_at place d ≡ Ok faults
    → All IsCallNumber faults
unfolding faults_at list_at
faults_at-ok place d faults is = faults_of-ok place (list_field (codes "faults") d) faults is

command_at-ok : (place : Place) (d : Data) (command : Command) → command_at place d ≡ Ok command
    → IsWellFormedCommand command
unfolding command_at
command_at-ok place d command is =
    let form = goes (object_or (wrong (command_path place)) d) _ command is in
    let verb = goes (verb_at place d) _ command form.rest in
    let texts = goes (texts_at place verb.value d) _ command verb.rest in
    let mappings = goes (mappings_at place d) _ command texts.rest in
    let valid = goes (valid_at place d) _ command mappings.rest in
    let table = goes (table_at place verb.value d) _ command valid.rest in
    let stop = goes (stop_at place d) _ command table.rest in
    let faults = goes (faults_at place d) _ command stop.rest in
    subst IsWellFormedCommand (ok_same faults.rest) (record {
      table = table_at-ok place verb.value d table.value table.first;
      stop = stop_at-ok place d stop.value stop.first;
      faults = faults_at-ok place d faults.value faults.first;
    })

-- ---- rounds as they are read

-- each command is well formed
abbrev pub AreCommands : List Command → Type 0
AreCommands commands = All IsWellFormedCommand commands

round_at-ok : (round : ℕ) (d : Data) (commands : List Command) → round_at round d ≡ Ok commands → AreCommands commands
round_at-ok round null commands is = cc
round_at-ok round (boolean b) commands is = cc
round_at-ok round (number n) commands is = cc
round_at-ok round (string s) commands is = cc
round_at-ok round (array ds) commands is =
    each_from_all (command_in round) IsWellFormedCommand
    (λ place d command read. command_at-ok (InRound round place) d command read) 0 ds commands is
round_at-ok round (object ms) commands is = cc

rounds_of-ok : (f : Field Items) (rounds : List (List Command)) → rounds_of f ≡ Ok rounds → All AreCommands rounds
rounds_of-ok Absent rounds is = cc
rounds_of-ok WrongKind rounds is = cc
rounds_of-ok (Here ds) rounds is = each_from_all round_at AreCommands round_at-ok 0 ds rounds is

pub rounds_at-ok : (d : Data) (rounds : List (List Command)) → rounds_at d ≡ Ok rounds → All AreCommands rounds
unfolding rounds_at
rounds_at-ok d rounds is = rounds_of-ok (list_field (codes "rounds") d) rounds is

-- ---- numbers change nothing else

pub length-scan : {S X Y : Type 0} (next : S → X → S) (out : S → X → Y) (s : S) (xs : List X)
    → length (scan next out s xs) ≡ length xs
length-scan next out s [] = refl
length-scan next out s (x ∷ xs) = ap suc (length-scan next out (next s x) xs)

length-round_numbered : (first : ℕ) (commands : List Command) → length (round_numbered first commands) ≡ length commands
length-round_numbered first commands = length-scan (λ (n : ℕ) (c : Command). n + 1) numbered first commands

exclusive-round_numbered : (first : ℕ) (commands : List Command)
    → list_any is_exclusive (round_numbered first commands) ≡ list_any is_exclusive commands
exclusive-round_numbered first [] = refl
exclusive-round_numbered first (c ∷ cs) = ap (λ more. is_exclusive c || more) (exclusive-round_numbered (first + 1) cs)

commands-round_numbered : (first : ℕ) (commands : List Command) → AreCommands commands
    → AreCommands (round_numbered first commands)
commands-round_numbered first [] good = All-nil IsWellFormedCommand
commands-round_numbered first (c ∷ cs) good =
    let one = All-head IsWellFormedCommand c cs good in
    All-cons IsWellFormedCommand (numbered first c) (round_numbered (first + 1) cs)
    (record { table = one.table; stop = one.stop; faults = one.faults })
    (commands-round_numbered (first + 1) cs (All-tail IsWellFormedCommand c cs good))

short_by : (short some : Bool) → (short || not some) ≡ true → some ≡ true → short ≡ true
short_by true some either is = refl
short_by false true either is = cc
short_by false false either is = cc

-- an exclusive command that is alone is the only one
pub one_alone : (commands : List Command) → is_alone commands ≡ true → list_any is_exclusive commands ≡ true
    → length commands ≡ 1
one_alone [] alone some = cc
one_alone (c ∷ cs) alone some =
    let short : suc (length cs) ≤ 1 =
    grind (arith, nat_tests, short_by (nat_le (suc (length cs)) 1) (list_any is_exclusive (c ∷ cs)) alone some) in
    omega arith

pub round_numbered-ok : (first : ℕ) (commands : List Command) → AreCommands commands → is_alone commands ≡ true
    → IsWellFormedRound (round_numbered first commands)
round_numbered-ok first commands good alone = record {
  each = commands-round_numbered first commands good;
  alone =
      ap₂ (λ n some. nat_le n 1 || not some) (length-round_numbered first commands)
      (exclusive-round_numbered first commands) ∙ alone;
}

pub all_numbered-ok : (first place : ℕ) (rounds : List (List Command)) → All AreCommands rounds
    → each_alone place rounds ≡ Ok tt → All IsWellFormedRound (all_numbered first rounds)
all_numbered-ok first place [] good alone = All-nil IsWellFormedRound
all_numbered-ok first place (r ∷ rs) good alone =
    let here = went_on (is_alone r) (each_alone (place + 1) rs) tt _ alone in
    All-cons IsWellFormedRound (round_numbered first r) (all_numbered (first + length r) rs)
    (round_numbered-ok first r (All-head AreCommands r rs good) here.0)
    (all_numbered-ok (first + length r) (place + 1) rs (All-tail AreCommands r rs good) here.1)

pub length-all_numbered : (first : ℕ) (rounds : List (List Command))
    → length (all_numbered first rounds) ≡ length rounds
length-all_numbered first rounds =
    length-scan (λ (n : ℕ) (commands : List Command). n + length commands) round_numbered first rounds

pub count-all_numbered : (first : ℕ) (rounds : List (List Command))
    → length (in_file_order (all_numbered first rounds)) ≡ length (in_file_order rounds)
count-all_numbered first [] = refl
count-all_numbered first (r ∷ rs) =
    length-append (round_numbered first r) (in_file_order (all_numbered (first + length r) rs))
    ∙ ap₂ (λ m n. m + n) (length-round_numbered first r) (count-all_numbered (first + length r) rs)
    ∙ sym (length-append r (in_file_order rs))

-- ---- each command has its number

-- the commands are numbered from this number
abbrev pub AreFrom : ℕ → List Command → Type 0
AreFrom first commands = (n : ℕ) (command : Command) → slice_get commands n ≡ Some command → command.number ≡ first + n

round-from : (first : ℕ) (commands more : List Command) → AreFrom (first + length commands) more
    → AreFrom first (round_numbered first commands ++ more)
round-from first [] more rest n command is = let here = rest n command is in omega arith
round-from first (c ∷ cs) more rest zero command is =
    let same : numbered first c ≡ command = cc in
    let number = ap (λ (d : Command). d.number) same in
    omega arith
round-from first (c ∷ cs) more rest (suc n) command is =
    let there = round-from (first + 1) cs more (λ m d at. let number = rest m d at in omega arith) n command is in
    omega arith

pub all-from : (first : ℕ) (rounds : List (List Command)) → AreFrom first (in_file_order (all_numbered first rounds))
all-from first [] n command is = cc
all-from first (r ∷ rs) n command is =
    round-from first r (in_file_order (all_numbered (first + length r) rs))
    (all-from (first + length r) rs) n command is
