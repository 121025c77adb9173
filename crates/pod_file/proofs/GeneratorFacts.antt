-- What the generated workload keeps.
use Rattle.std.proofs.Common.{◌≡◌, ℕ, zero, suc, ◌+◌, ◌/◌, ◌%◌, ◌==◌, ◌<◌, ◌≤◌, ◌^◌, Bool, true, false, not, cond, List}
use Rattle.std.proofs.Common.{[], ◌∷◌, ◌++◌, length, map, codes, refl, sym, ap, ap₂, ◌∙◌, subst, add-one, arith, nat_le}
use Rattle.std.proofs.lemmas.{Bool.{or_right, Decides.nat_tests}, Fmt.decimal_injective, List.length-append}
use Rattle.std.proofs.lemmas.List.{length-map, Elements.{All-nil, All-cons}, FromFn.filter_of_map_range_with_len_more}
use Rattle.std.proofs.lemmas.List.FromFn.{map-range_with_len_more, length-map-range_with_len}
use Rattle.std.proofs.lemmas.Slice.Eq.{bytes_eq-Decides}
use Rattle.std.specs.{List.{list_any, list_all, range_with_len}, Prelude.{◌&&◌, if◌then◌else◌, filter, All, Result, Ok}}
use Rattle.std.specs.{Prelude.{decimal, ⊤}, Str.bytes_eq}
use Rattle.std.proofs.lemmas.List.Folds as folds
use Rattle.cni_addr.proofs.Lists.{list_all-append, length-filter_le}
use Rattle.cni_addr.specs.Lists.{distinct}
use Rattle.kernel_types.specs.{Opening.AreNamespaceNames, Terms.is_host_ns}
use Rattle.pod_file.proofs.{CommandFacts.{AreCommands, count-all_numbered}, OpeningFacts.{opening_with-ok, no_links}}
use Rattle.pod_file.proofs.PodFacts.{numbered_by-ok}
use Rattle.pod_file.specs.{Commands.{needs_table, is_exclusive_verb}, Generator.{container_of, containers}}
use Rattle.pod_file.specs.Generator.{most_containers, namespaces_of, command_of, collection_of, deleted_of, kept_of}
use Rattle.pod_file.specs.{Generator.{rounds_for, pods_for, network_name}, Rounds.{in_file_order, file_limit, are_few}}
use Rattle.pod_file.specs.Rounds.{is_exclusive, is_alone, each_alone, round_numbered, all_numbered}
use Rattle.pod_file.specs.WellFormed.{IsCallNumber, IsWellFormedCommand, AreWellFormedRounds, IsWellFormedPods}
use Rattle.pod_file.specs.declared.command.{Command.Command, Verb.{Verb, TheVariants.{Add, Check, Del}}}
use Rattle.pod_file.specs.declared.{error.PodError.PodError, generator.Container.Container}

-- ---- containers

-- one more container
pub containers-more : (n : ℕ)
    → map container_of (range_with_len 1 (n + 1)) ≡ map container_of (range_with_len 1 n) ++ container_of (n + 1) ∷ []
containers-more n = map-range_with_len_more container_of 1 n (n + 1) (omega arith)

pub length-containers : (n : ℕ) → length (containers n) ≡ n
unfolding containers
length-containers n = length-map-range_with_len container_of 1 n

-- ---- few commands

count_of_five : (a b d g k : List Command)
    → length (in_file_order (a ∷ b ∷ d ∷ g ∷ k ∷ [])) ≡ length a + length b + length d + length g + length k
count_of_five a b d g k =
    omega (
      arith,
      length-append a (in_file_order (b ∷ d ∷ g ∷ k ∷ [])),
      length-append b (in_file_order (d ∷ g ∷ k ∷ [])),
      length-append d (in_file_order (g ∷ k ∷ [])),
      length-append g (in_file_order (k ∷ [])),
      length-append k [],
    )

pub count-rounds_for : (cs : List Container)
    → length (in_file_order (rounds_for cs)) ≡ length cs + length cs + length (deleted_of cs) + 1 + length (kept_of cs)
count-rounds_for cs =
    let all =
    count_of_five (map (command_of Add) cs) (map (command_of Check) cs) (map (command_of Del) (deleted_of cs))
    (collection_of (kept_of cs) ∷ []) (map (command_of Check) (kept_of cs)) in
    omega (
      arith,
      all,
      length-map cs (command_of Add),
      length-map cs (command_of Check),
      length-map (deleted_of cs) (command_of Del),
      length-map (kept_of cs) (command_of Check),
    )

pub rounds_for-few : (cs : List Container) → length cs ≤ most_containers → are_few (rounds_for cs) ≡ true
unfolding are_few
rounds_for-few cs few =
    let within : length (in_file_order (rounds_for cs)) ≤ file_limit =
    omega (
      arith,
      count-rounds_for cs,
      length-filter_le (λ (c : Container). c.number % 2 == 0) cs,
      length-filter_le (λ (c : Container). c.number % 4 == 1) cs,
    ) in
    grind (arith, nat_tests, within)

-- ---- each command is well formed

command_of-ok : (verb : Verb) (c : Container) → needs_table verb ≡ false → IsWellFormedCommand (command_of verb c)
command_of-ok verb c none = record { table = λ needs. cc; stop = tt; faults = All-nil IsCallNumber }

commands_of-ok : (verb : Verb) (cs : List Container) → needs_table verb ≡ false → AreCommands (map (command_of verb) cs)
commands_of-ok verb [] none = All-nil IsWellFormedCommand
commands_of-ok verb (c ∷ cs) none =
    All-cons IsWellFormedCommand (command_of verb c) (map (command_of verb) cs) (command_of-ok verb c none)
    (commands_of-ok verb cs none)

collection_of-ok : (kept : List Container) → AreCommands (collection_of kept ∷ [])
collection_of-ok kept =
    All-cons IsWellFormedCommand (collection_of kept) []
    (record { table = λ needs. cc; stop = tt; faults = All-nil IsCallNumber }) (All-nil IsWellFormedCommand)

five-ok : (a b d g k : List Command) → AreCommands a → AreCommands b → AreCommands d → AreCommands g → AreCommands k
    → All AreCommands (a ∷ b ∷ d ∷ g ∷ k ∷ [])
five-ok a b d g k first second third fourth fifth =
    All-cons AreCommands a (b ∷ d ∷ g ∷ k ∷ []) first
    (All-cons AreCommands b (d ∷ g ∷ k ∷ []) second
    (All-cons AreCommands d (g ∷ k ∷ []) third
    (All-cons AreCommands g (k ∷ []) fourth
    (All-cons AreCommands k [] fifth (All-nil AreCommands)))))

rounds_for-commands : (cs : List Container) → All AreCommands (rounds_for cs)
rounds_for-commands cs =
    five-ok (map (command_of Add) cs) (map (command_of Check) cs) (map (command_of Del) (deleted_of cs))
    (collection_of (kept_of cs) ∷ []) (map (command_of Check) (kept_of cs))
    (commands_of-ok Add cs refl) (commands_of-ok Check cs refl) (commands_of-ok Del (deleted_of cs) refl)
    (collection_of-ok (kept_of cs)) (commands_of-ok Check (kept_of cs) refl)

-- ---- the collection stands alone

none_exclusive : (verb : Verb) (cs : List Container) → is_exclusive_verb verb ≡ false
    → list_any is_exclusive (map (command_of verb) cs) ≡ false
none_exclusive verb [] shares = refl
none_exclusive verb (c ∷ cs) shares = rw shares (none_exclusive verb cs shares)

alone_by : (commands : List Command) → list_any is_exclusive commands ≡ false → is_alone commands ≡ true
alone_by commands none = or_right (nat_le (length commands) 1) (not (list_any is_exclusive commands)) (rw none refl)

commands_of-alone : (verb : Verb) (cs : List Container) → is_exclusive_verb verb ≡ false
    → is_alone (map (command_of verb) cs) ≡ true
commands_of-alone verb cs shares = alone_by (map (command_of verb) cs) (none_exclusive verb cs shares)

goes_on : (alone : Bool) (more wrong : Result ⊤ PodError) → alone ≡ true → (if alone then more else wrong) ≡ more
goes_on true more wrong h = refl
goes_on false more wrong h = cc

five_alone : (a b d g k : List Command) → is_alone a ≡ true → is_alone b ≡ true → is_alone d ≡ true → is_alone g ≡ true
    → is_alone k ≡ true → each_alone 0 (a ∷ b ∷ d ∷ g ∷ k ∷ []) ≡ Ok tt
five_alone a b d g k first second third fourth fifth =
    goes_on (is_alone a) _ _ first ∙ goes_on (is_alone b) _ _ second ∙ goes_on (is_alone d) _ _ third
    ∙ goes_on (is_alone g) _ _ fourth ∙ goes_on (is_alone k) _ _ fifth

rounds_for-alone : (cs : List Container) → each_alone 0 (rounds_for cs) ≡ Ok tt
rounds_for-alone cs =
    five_alone (map (command_of Add) cs) (map (command_of Check) cs) (map (command_of Del) (deleted_of cs))
    (collection_of (kept_of cs) ∷ []) (map (command_of Check) (kept_of cs))
    (commands_of-alone Add cs refl) (commands_of-alone Check cs refl) (commands_of-alone Del (deleted_of cs) refl) refl
    (commands_of-alone Check (kept_of cs) refl)

pub rounds_for-ok : (cs : List Container) → length cs ≤ most_containers
    → AreWellFormedRounds (all_numbered 1 (rounds_for cs))
rounds_for-ok cs few =
    numbered_by-ok (rounds_for cs) (rounds_for-commands cs) (rounds_for-few cs few) (rounds_for-alone cs)

-- ---- the namespaces have names, each of its own

abbrev netns_of : ℕ → List ℕ
netns_of number = codes "/ns/p" ++ decimal number

false_unless : (b : Bool) → (b ≡ true → ⊥) → b ≡ false
false_unless true never = absurd (never refl)
false_unless false never = refl

netns_of-differ : (m k : ℕ) → m < k → k < 2 ^ 64 → bytes_eq (netns_of m) (netns_of k) ≡ false
netns_of-differ m k below small =
    false_unless (bytes_eq (netns_of m) (netns_of k)) (λ same.
    let texts : netns_of m ≡ netns_of k = (bytes_eq-Decides (netns_of m) (netns_of k)).0 same in
    let decimals : decimal m ≡ decimal k = cc in
    let numbers : m ≡ k = decimal_injective m k (omega arith) small decimals in
    omega arith)

none_later : (m a n : ℕ) → m < a → a + n ≤ 2 ^ 64
    → list_any (bytes_eq (netns_of m)) (map netns_of (range_with_len a n)) ≡ false
none_later m a zero below small = refl
none_later m a (suc n) below small =
    rw (netns_of-differ m a below (omega arith)) (none_later m (a + 1) n (omega arith) (omega arith))

netns_of-distinct : (a n : ℕ) → a + n ≤ 2 ^ 64 → distinct bytes_eq (map netns_of (range_with_len a n)) ≡ true
netns_of-distinct a zero small = refl
netns_of-distinct a (suc n) small =
    rw (none_later a (a + 1) n (omega arith) (omega arith)) (netns_of-distinct (a + 1) n (omega arith))

netns_of-named : (a n : ℕ) → list_all (λ name. not (is_host_ns name)) (map netns_of (range_with_len a n)) ≡ true
netns_of-named a zero = refl
netns_of-named a (suc n) = grind (arith, nat_tests, netns_of-named (a + 1) n)

namespaces_of-containers : (a n : ℕ)
    → namespaces_of (map container_of (range_with_len a n)) ≡ map netns_of (range_with_len a n)
namespaces_of-containers a zero = refl
namespaces_of-containers a (suc n) = ap (λ more. netns_of a ∷ more) (namespaces_of-containers (a + 1) n)

names-ok : (n : ℕ) → n ≤ most_containers → AreNamespaceNames (namespaces_of (containers n))
unfolding containers
names-ok n few =
    let names = namespaces_of-containers 1 n in
    record {
      named = ap (list_all (λ name. not (is_host_ns name))) names ∙ netns_of-named 1 n;
      distinct = ap (distinct bytes_eq) names ∙ netns_of-distinct 1 n (omega arith);
    }

pub generated_pods-ok : (n : ℕ) → n ≤ most_containers → IsWellFormedPods (pods_for (containers n))
generated_pods-ok n few =
    let length = length-containers n in
    record {
      opening =
          opening_with-ok (namespaces_of (containers n)) [] (names-ok n few) (no_links (namespaces_of (containers n)));
      rounds = rounds_for-ok (containers n) (omega arith);
    }

-- ---- how many commands there are

-- one more container is chosen, or isn't
leaving-more : (test : Container → Bool) (n : ℕ)
    → length (filter test (map container_of (range_with_len 1 (n + 1))))
    ≡ length (filter test (map container_of (range_with_len 1 n))) + cond (test (container_of (n + 1))) 1 0
leaving-more test n =
    let before = filter test (map container_of (range_with_len 1 n)) in
    let next = container_of (n + 1) in
    ap length (filter_of_map_range_with_len_more test container_of 1 n (n + 1) (omega arith))
    ∙ length-append before (cond (test next) (next ∷ []) [])
    ∙ ap (λ more. length before + more) (length-if (test next) next)
  where
    length-if : (chosen : Bool) (c : Container) → length (cond chosen (c ∷ []) []) ≡ cond chosen 1 0
    length-if true c = refl
    length-if false c = refl

second : (n : ℕ) (even : Bool) → ((n + 1) % 2 == 0) ≡ even → n / 2 + cond even 1 0 ≡ (n + 1) / 2
second n true is = let rest : (n + 1) % 2 ≡ 0 = grind (arith, nat_tests, is) in omega arith
second n false is = let rest : ((n + 1) % 2 ≡ 0 → ⊥) = λ h. grind (arith, nat_tests, is, h) in omega arith

length-deleted_of : (n : ℕ) → length (deleted_of (map container_of (range_with_len 1 n))) ≡ n / 2
length-deleted_of zero = refl
length-deleted_of (suc n) =
    let more = leaving-more (λ c. c.number % 2 == 0) n in
    let step = second n ((n + 1) % 2 == 0) refl in
    let before = length-deleted_of n in
    let all : length (deleted_of (map container_of (range_with_len 1 (n + 1)))) ≡ (n + 1) / 2 =
    omega (arith, more, step, before) in
    subst (λ m. length (deleted_of (map container_of (range_with_len 1 m))) ≡ m / 2) (add-one n) all

fourth : (n : ℕ) (chosen : Bool) → ((n + 1) % 4 == 1) ≡ chosen → (n + 3) / 4 + cond chosen 1 0 ≡ (n + 1 + 3) / 4
fourth n true is = let rest : (n + 1) % 4 ≡ 1 = grind (arith, nat_tests, is) in omega arith
fourth n false is = let rest : ((n + 1) % 4 ≡ 1 → ⊥) = λ h. grind (arith, nat_tests, is, h) in omega arith

length-kept_of : (n : ℕ) → length (kept_of (map container_of (range_with_len 1 n))) ≡ (n + 3) / 4
length-kept_of zero = refl
length-kept_of (suc n) =
    let more = leaving-more (λ c. c.number % 4 == 1) n in
    let step = fourth n ((n + 1) % 4 == 1) refl in
    let before = length-kept_of n in
    let all : length (kept_of (map container_of (range_with_len 1 (n + 1)))) ≡ (n + 1 + 3) / 4 =
    omega (arith, more, step, before) in
    subst (λ m. length (kept_of (map container_of (range_with_len 1 m))) ≡ (m + 3) / 4) (add-one n) all

pub generated-count : (n : ℕ)
    → length (in_file_order (pods_for (containers n)).rounds) ≡ n + n + n / 2 + 1 + (n + 3) / 4
unfolding containers
generated-count n =
    let cs = map container_of (range_with_len 1 n) in
    omega (
      arith,
      count-all_numbered 1 (rounds_for cs),
      count-rounds_for cs,
      length-containers n,
      length-deleted_of n,
      length-kept_of n,
    )

-- ---- each command is of the network

abbrev is_named : Command → Bool
is_named command = bytes_eq command.network network_name

commands_of-named : (verb : Verb) (cs : List Container) → list_all is_named (map (command_of verb) cs) ≡ true
commands_of-named verb [] = refl
commands_of-named verb (c ∷ cs) = commands_of-named verb cs

five-named : (a b d g k : List Command) → list_all is_named a ≡ true → list_all is_named b ≡ true
    → list_all is_named d ≡ true → list_all is_named g ≡ true → list_all is_named k ≡ true
    → list_all is_named (in_file_order (a ∷ b ∷ d ∷ g ∷ k ∷ [])) ≡ true
five-named a b d g k first second third fourth fifth =
    list_all-append is_named a (in_file_order (b ∷ d ∷ g ∷ k ∷ [])) first
    (list_all-append is_named b (in_file_order (d ∷ g ∷ k ∷ [])) second
    (list_all-append is_named d (in_file_order (g ∷ k ∷ [])) third
    (list_all-append is_named g (in_file_order (k ∷ [])) fourth
    (list_all-append is_named k [] fifth refl))))

named-round_numbered : (first : ℕ) (commands : List Command)
    → list_all is_named (round_numbered first commands) ≡ list_all is_named commands
named-round_numbered first [] = refl
named-round_numbered first (c ∷ cs) = ap (λ more. is_named c && more) (named-round_numbered (first + 1) cs)

named-all_numbered : (first : ℕ) (rounds : List (List Command))
    → list_all is_named (in_file_order (all_numbered first rounds)) ≡ list_all is_named (in_file_order rounds)
named-all_numbered first [] = refl
named-all_numbered first (r ∷ rs) =
    folds.list_all-append is_named (round_numbered first r) (in_file_order (all_numbered (first + length r) rs))
    ∙ ap₂ (λ here more. here && more) (named-round_numbered first r) (named-all_numbered (first + length r) rs)
    ∙ sym (folds.list_all-append is_named r (in_file_order rs))

pub generated-named : (n : ℕ) → list_all is_named (in_file_order (pods_for (containers n)).rounds) ≡ true
generated-named n =
    let cs = containers n in
    named-all_numbered 1 (rounds_for cs)
    ∙ five-named (map (command_of Add) cs) (map (command_of Check) cs) (map (command_of Del) (deleted_of cs))
    (collection_of (kept_of cs) ∷ []) (map (command_of Check) (kept_of cs))
    (commands_of-named Add cs) (commands_of-named Check cs) (commands_of-named Del (deleted_of cs)) refl
    (commands_of-named Check (kept_of cs))
