-- The values that a parse gives have passed the parsers of their arguments.
use Rattle.std.proofs.Common.{◌≡◌, ◌∙◌, ◌<◌, ◌&&◌, ℕ, Bool, true, false, not, true≢false, zero, suc, refl, sym, ap}
use Rattle.std.proofs.Common.{subst, arith, inl, inr, List, [], ◌∷◌, length, map, Option, Some, None, option_map}
use Rattle.std.proofs.{Common.{option_and_then, slice_get, codes}, Math.ListN.get_or-map}
use Rattle.std.proofs.lemmas.{Bool.Decides.not_from_Decides, List.{length-map, Elements.All-get_or, Folds.list_all_at}}
use Rattle.std.proofs.lemmas.{List.Folds.list_any_at, Option.{get_or_from_slice_get, slice_get_within}}
use Rattle.std.proofs.lemmas.Slice.Eq.{bytes_eq-Decides}
use Rattle.std.specs.{Borrow.Bor, List.{All, list_all, list_any, slice_index_or}, Str.bytes_eq}
use Rattle.cni_addr.specs.Lists.{distinct}
use Rattle.clap.specs.{Built.{IsParsedFrom, IsPlain, IsPlainArg, SameRules}, Facts.{Entry, EntryPasses, PassesArg}}
use Rattle.clap.specs.{Facts.{args_of, parser_of, parser_of_value}, Matches.{found_of, matched_of}, Simple.app_of}
use Rattle.clap.specs.{Values.{Accepts, read_as, reading_of}, Walk.{Rule, Text, is_free_arg, is_simple_arg, rule_of}}
use Rattle.clap.specs.declared.builder.{arg.Arg.Arg, command.Command.{Command, TheViews.out-Command}}
use Rattle.clap.specs.declared.builder.value_parser.{Reading.Reading, ValueParser.ValueParser}
use Rattle.clap.specs.declared.parser.matches.{ArgMatches.ArgMatches, MatchedArg.MatchedArg}
use Rattle.clap.proofs.{CallerLemmas.{entry_by_id, same_rules_by_id}, SimpleLemmas.{is_false, is_nil}, WalkLemmas.both}
use Rattle.tool_words.specs.{Command.{the_app, the_rules}, Parse.Passes}

-- ---- the arguments of the command, by their rules

rule_at : (c : Command) → app_of c ≡ the_app → (k : ℕ) (d : Arg)
    → slice_index_or the_rules k (rule_of d) ≡ rule_of (slice_index_or (args_of c) k d)
rule_at c is k d =
    ap (λ (rs : List Rule). slice_index_or rs k (rule_of d)) (sym (ap (λ a. a.top.rules) is))
    ∙ get_or-map rule_of (args_of c) k d

arg_count : (c : Command) → app_of c ≡ the_app → length (args_of c) ≡ length the_rules
arg_count c is = sym (length-map (args_of c) rule_of) ∙ ap (λ a. length a.top.rules) is

-- the rule says nothing of another argument, of case or of how words are read, and has a name that clap gives nothing
abbrev is_own : Rule → Bool
is_own rule = rule.is_simple && (rule.is_free && (not rule.ignore_case
    && (not (bytes_eq rule.id [])
    && (not (bytes_eq rule.id (codes "help")) && not (bytes_eq rule.id (codes "version"))))))

each_is_own : list_all is_own the_rules ≡ true
each_is_own = refl

-- no two arguments have one name
names_differ : distinct bytes_eq (map (λ (rule : Rule). rule.id) the_rules) ≡ true
names_differ = refl

passes_test : (b : Bool) → (b ≡ false → ⊥) → b ≡ true
passes_test true not_false = refl
passes_test false not_false = absurd (not_false refl)

-- what holds of each element holds of the one at a place
at_place : {X : Type 0} (p : X → Bool) (xs : List X) (k : ℕ) (d : X) → list_all p xs ≡ true → k < length xs
    → p (slice_index_or xs k d) ≡ true
at_place p xs k d all lt =
    passes_test (p (slice_index_or xs k d)) (λ fails. true≢false (sym all ∙ list_all_at p xs k d lt fails))

-- a name stands at one place
one_place : (names : List Text) (d e : Text) (j k : ℕ) → distinct bytes_eq names ≡ true → j < length names
    → k < length names
    → bytes_eq (slice_index_or names j d) (slice_index_or names k e) ≡ true → j ≡ k
one_place [] d e j k differ low high same = absurd (omega arith)
one_place (n ∷ ns) d e zero zero differ low high same = refl
one_place (n ∷ ns) d e zero (suc k) differ low high same =
    let later : list_any (bytes_eq n) ns ≡ true = list_any_at (bytes_eq n) ns k e (omega arith) same in
    grind (arith, differ, later)
one_place (n ∷ ns) d e (suc j) zero differ low high same =
    let back : bytes_eq n (slice_index_or ns j d) ≡ true =
    (bytes_eq-Decides n (slice_index_or ns j d)).1 (sym ((bytes_eq-Decides (slice_index_or ns j d) n).0 same)) in
    let later : list_any (bytes_eq n) ns ≡ true = list_any_at (bytes_eq n) ns j d (omega arith) back in
    grind (arith, differ, later)
one_place (n ∷ ns) d e (suc j) (suc k) differ low high same =
    let parts = both (not (list_any (bytes_eq n) ns)) (distinct bytes_eq ns) differ in
    ap suc (one_place ns d e j k parts.1 (omega arith) (omega arith) same)

-- ---- nothing in the command excludes anything

plain_at : (a : Arg) → is_simple_arg a ≡ true → is_free_arg a ≡ true → IsPlainArg a
plain_at a simple free =
    let overrides = both _ _ simple in
    let ifs = both _ _ overrides.1 in
    let groups = both _ _ ifs.1 in
    let exclusive = both _ _ free in
    let conflicts = both _ _ exclusive.1 in
    (is_false _ exclusive.0, is_nil _ conflicts.0, is_nil _ overrides.0, is_nil _ groups.0)

is_plain-command : (c : Command) → app_of c ≡ the_app → IsPlain c
is_plain-command c is = (
  λ k d lt.
      let own = at_place is_own the_rules k (rule_of d) each_is_own (subst (λ n. k < n) (arg_count c is) lt) in
      let parts = both _ _ (subst (λ (r : Rule). is_own r ≡ true) (rule_at c is k d) own) in
      plain_at (slice_index_or (args_of c) k d) parts.0 (both _ _ parts.1).0,
  is_nil _ (both _ _ (ap (λ a. a.top.is_plain) is)).0,
)

no_globals : (c : Command) → app_of c ≡ the_app → (out-Command c).has_globals ≡ false
no_globals c is =
    let groups = both _ _ (ap (λ a. a.top.is_plain) is) in
    let external = both _ _ groups.1 in
    is_false _ (both _ _ external.1).0

-- ---- an argument by its name

-- the argument at this place has this name, which no other has and no flag of clap's own, and this parser
pub record IsAt (c : Command) (k : ℕ) (name : Text) (q : ValueParser) : Type 0 where
  pub inside : k < length (args_of c)
  pub id : (d : Arg) → (slice_index_or (args_of c) k d).id.now ≡ name
  pub parser : (d : Arg) → (slice_index_or (args_of c) k d).value_parser ≡ Some q
  pub exact : (d : Arg) → (slice_index_or (args_of c) k d).ignore_case ≡ false
  pub only : (j : ℕ) (e : Arg) → j < length (args_of c) → bytes_eq (slice_index_or (args_of c) j e).id.now name ≡ true
      → j ≡ k
  pub no_help : name ≡ codes "help" → ⊥
  pub no_version : name ≡ codes "version" → ⊥

same_rules : (c : Command) (m : ArgMatches) (p : IsParsedFrom c m) (k : ℕ) (name : Text) (q : ValueParser)
    → IsAt c k name q
    → (j : ℕ) (x : Arg) → j < length (args_of p.built) → slice_index_or (args_of p.built) j x ≡ x
    → bytes_eq x.id.now name ≡ true
    → SameRules (slice_index_or (args_of c) k x) x
same_rules c m p k name q at j x high here same =
    same_rules_by_id c m p k x at.inside
    (λ i e lt hit.
    at.only i e lt (subst (λ (w : Text). bytes_eq (slice_index_or (args_of c) i e).id.now w ≡ true) (at.id x) hit))
    (λ auto. elim auto [ inl h ↦ at.no_help (sym (at.id x) ∙ h) | inr h ↦ at.no_version (sym (at.id x) ∙ h) ])
    j x high here (subst (λ (w : Text). bytes_eq x.id.now w ≡ true) (sym (at.id x)) same)

parser_is : (c : Command) (m : ArgMatches) (p : IsParsedFrom c m) (k : ℕ) (name : Text) (q : ValueParser)
    → IsAt c k name q
    → (j : ℕ) (x : Arg) → j < length (args_of p.built) → slice_index_or (args_of p.built) j x ≡ x
    → bytes_eq x.id.now name ≡ true
    → parser_of x ≡ q
parser_is c m p k name q at j x high here same =
    ap parser_of_value ((same_rules c m p k name q at j x high here same).parser q (at.parser x))

passed : (c : Command) (m : ArgMatches) (p : IsParsedFrom c m) (k : ℕ) (name : Text) (q : ValueParser) → IsAt c k name q
    → (v : Text) → PassesArg p.built name v → Accepts false q v
passed c m p k name q at v pass =
    let is_q = parser_is c m p k name q at pass.0 pass.1 pass.2 pass.3 pass.4.0 in
    let exact : pass.1.ignore_case ≡ false =
    (same_rules c m p k name q at pass.0 pass.1 pass.2 pass.3 pass.4.0).ignore_case ∙ at.exact pass.1 in
    subst (λ (w : ValueParser). Accepts false w v) is_q
    (subst (λ (b : Bool). Accepts b (parser_of pass.1) v) exact pass.4.1)

-- ---- the text that is read

head : (vs : List (Bor Text)) (how : Reading) (Q : Text → Type 0) (text : Text) → All (λ v. Q v.now) vs
    → option_map (λ s. read_as how s.now) (slice_get vs 0) ≡ Some text
    → (given : Text) × (text ≡ read_as how given) × Q given
head [] how Q text all is = cc
head (v ∷ vs) how Q text all is = (v.now, cc, All-get_or (λ w. Q w.now) (v ∷ vs) 0 v (omega arith) all)

finish : (how : Reading) (q : ValueParser) (text : Text) (Q : Text → Type 0) → how ≡ reading_of q
    → ((given : Text) × (text ≡ read_as how given) × Q given)
    → ((v : Text) → Q v → Accepts false q v)
    → (given : Text) × (text ≡ read_as (reading_of q) given) × Accepts false q given
finish how q text Q is first pass =
    (first.0, first.1 ∙ ap (λ (r : Reading). read_as r first.0) is, pass first.0 first.2)

of_entry : (c : Command) (m : ArgMatches) (p : IsParsedFrom c m) (k : ℕ) (name : Text) (q : ValueParser)
    → IsAt c k name q → IsPlain c → (name ≡ [] → ⊥)
    → (x : MatchedArg) (text : Text) → option_map (λ s. read_as x.reading s.now) (slice_get x.vals.items 0) ≡ Some text
    → ((e : Entry) × (e.1 ≡ x) × (bytes_eq e.0.now name ≡ true) × EntryPasses p.built e)
    → (given : Text) × (text ≡ read_as (reading_of q) given) × Accepts false q given
of_entry c m p k name q at plain named x text is got =
    let e = got.0 in
    let key : e.0.now ≡ name = (bytes_eq-Decides e.0.now name).0 got.2 in
    let pass = got.3 in
    let no_group : e.1.is_group ≡ true → ⊥ = λ g. elim (pass.3 g) [
      | inl empty ↦ named (sym key ∙ empty)
      | inr lots ↦
          let bad : 0 < 0 = rw (p.from.plain plain).1 at lots in
          absurd (omega arith)
    ] in
    let all : All (λ (v : Bor Text). PassesArg p.built name v.now) x.vals.items = elim pass.0 [
      | inl g ↦ absurd (no_group g)
      | inr vals ↦
          subst (λ (w : Text). All (λ (v : Bor Text). PassesArg p.built w v.now) x.vals.items) key (rw got.1 at vals)
    ] in
    let how : x.reading ≡ reading_of q = elim pass.4 [
      | inl g ↦ absurd (no_group g)
      | inr h ↦
          let same : bytes_eq h.1.id.now name ≡ true = subst (λ (w : Text). bytes_eq h.1.id.now w ≡ true) key h.4.0 in
          ap (λ (y : MatchedArg). y.reading) (sym got.1) ∙ sym h.4.1
          ∙ ap reading_of (parser_is c m p k name q at h.0 h.1 h.2 h.3 same)
    ] in
    finish x.reading q text (λ (v : Text). PassesArg p.built name v) how
    (head x.vals.items x.reading (λ (v : Text). PassesArg p.built name v) text all is)
    (λ v pass_v. passed c m p k name q at v pass_v)

passes : (c : Command) (m : ArgMatches) → IsParsedFrom c m → app_of c ≡ the_app
    → (k : ℕ) (name : Text) (q : ValueParser) → IsAt c k name q → (name ≡ [] → ⊥) → Passes m name q
passes c m p is k name q at named text = go (matched_of (found_of m) name) refl
  where
    go : (o : Option MatchedArg) → matched_of (found_of m) name ≡ o
        → option_and_then (λ (a : MatchedArg). option_map (λ s. read_as a.reading s.now) (slice_get a.vals.items 0))
        (matched_of (found_of m) name) ≡ Some text
        → (given : Text) × (text ≡ read_as (reading_of q) given) × Accepts false q given
    go None e one =
        let bad : None ≡ Some text = rw e at one in
        cc
    go (Some x) e one =
        let plain = is_plain-command c is in
        let values = (p.parsed (p.from.globals ∙ no_globals c is)).values in
        of_entry c m p k name q at plain named x text (rw e at one)
        (entry_by_id (EntryPasses p.built) (found_of m).entries.items name x values e)

-- ---- an argument by its place

-- no other argument has its name
only_at : (c : Command) → app_of c ≡ the_app → (k : ℕ) (rule : Rule) → slice_get the_rules k ≡ Some rule
    → (j : ℕ) (e : Arg) → j < length (args_of c) → bytes_eq (slice_index_or (args_of c) j e).id.now rule.id ≡ true
    → j ≡ k
only_at c is k rule at j e lt hit =
    let id : Rule → Text = λ (r : Rule). r.id in
    let names = map id the_rules in
    let mine : slice_index_or names k rule.id ≡ rule.id =
    get_or-map id the_rules k rule ∙ ap id (get_or_from_slice_get the_rules k rule rule at) in
    let other : slice_index_or names j e.id.now ≡ (slice_index_or (args_of c) j e).id.now =
    get_or-map id the_rules j (rule_of e) ∙ ap id (rule_at c is j e) in
    one_place names e.id.now rule.id j k names_differ (subst (λ n. j < n) (arg_count c is) lt)
    (slice_get_within the_rules k rule at)
    (subst (λ (w : Text). bytes_eq w (slice_index_or names k rule.id) ≡ true) (sym other)
    (subst (λ (w : Text). bytes_eq (slice_index_or (args_of c) j e).id.now w ≡ true) (sym mine) hit))

-- the values of an argument with a parser have passed it
pub passes_parser : (c : Command) (m : ArgMatches) → IsParsedFrom c m → app_of c ≡ the_app
    → (k : ℕ) (rule : Rule) (q : ValueParser) → slice_get the_rules k ≡ Some rule → rule.parser ≡ Some q
    → Passes m rule.id q
passes_parser c m p is k rule q at parses =
    let inside : k < length the_rules = slice_get_within the_rules k rule at in
    let there : (d : Arg) → rule_of (slice_index_or (args_of c) k d) ≡ rule =
    λ d. sym (rule_at c is k d) ∙ get_or_from_slice_get the_rules k rule (rule_of d) at in
    let own : is_own rule ≡ true =
    subst (λ (r : Rule). is_own r ≡ true) (get_or_from_slice_get the_rules k rule rule at)
    (at_place is_own the_rules k rule each_is_own inside) in
    let exact = both _ _ (both _ _ (both _ _ own).1).1 in
    let named = both _ _ exact.1 in
    let flags = both _ _ named.1 in
    passes c m p is k rule.id q (record {
      inside = subst (λ n. k < n) (sym (arg_count c is)) inside;
      id = λ d. ap (λ (r : Rule). r.id) (there d);
      parser = λ d. ap (λ (r : Rule). r.parser) (there d) ∙ parses;
      exact = λ d. ap (λ (r : Rule). r.ignore_case) (there d) ∙ is_false _ exact.0;
      only = only_at c is k rule at;
      no_help = not_from_Decides _ (bytes_eq-Decides rule.id (codes "help")) (is_false _ flags.0);
      no_version = not_from_Decides _ (bytes_eq-Decides rule.id (codes "version")) (is_false _ flags.1);
    }) (not_from_Decides _ (bytes_eq-Decides rule.id []) (is_false _ named.0))
