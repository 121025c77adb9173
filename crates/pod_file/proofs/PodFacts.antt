-- What a pod file keeps that is read.
use Rattle.std.proofs.{Common.{◌≡◌, ℕ, ◌≤◌, true, List, [], Ok, length, nat_le, subst, arith}, lemmas.Bool.and_parts}
use Rattle.std.proofs.lemmas.Bool.Decides.{nat_tests}
use Rattle.serde_json.specs.Data.{Data}
use Rattle.cni_json.specs.{Fields.object_or, Json.json_of}
use Rattle.std.specs.Prelude.{All}
use Rattle.pod_file.proofs.CommandFacts.{AreCommands, rounds_at-ok, all_numbered-ok, length-all_numbered}
use Rattle.pod_file.proofs.{CommandFacts.{count-all_numbered, all-from}, OpeningFacts.opening_at-ok}
use Rattle.cni_json.proofs.Endings.{goes, ok_same, passed}
use Rattle.pod_file.specs.{Opening.opening_at, PodFile.{read_or_refused, pods_at, pods_of}, Refusals.wrong}
use Rattle.pod_file.specs.Rounds.{rounds_at, all_numbered, in_file_order, file_limit, are_few, few, each_alone}
use Rattle.pod_file.specs.{WellFormed.{AreWellFormedRounds, IsWellFormedPods}, declared.command.Command.Command}
use Rattle.pod_file.specs.declared.pods.Pods.{Pods}

-- rounds of well-formed commands that pass each test are well formed once they are numbered
pub numbered_by-ok : (rounds : List (List Command)) → All AreCommands rounds → are_few rounds ≡ true
    → each_alone 0 rounds ≡ Ok tt → AreWellFormedRounds (all_numbered 1 rounds)
unfolding are_few
numbered_by-ok rounds commands are_few alone =
    let both =
    and_parts (nat_le (length rounds) file_limit) (nat_le (length (in_file_order rounds)) file_limit) are_few in
    let few_rounds : length rounds ≤ file_limit = grind (arith, nat_tests, both.0) in
    let few_commands : length (in_file_order rounds) ≤ file_limit = grind (arith, nat_tests, both.1) in
    record {
      each = all_numbered-ok 1 0 rounds commands alone;
      few_rounds = omega (arith, length-all_numbered 1 rounds, few_rounds);
      few_commands = omega (arith, count-all_numbered 1 rounds, few_commands);
      numbers = λ n command at. let number = all-from 1 rounds n command at in omega arith;
    }

pub numbered-ok : (d : Data) (rounds : List (List Command)) → rounds_at d ≡ Ok rounds → are_few rounds ≡ true
    → each_alone 0 rounds ≡ Ok tt → AreWellFormedRounds (all_numbered 1 rounds)
numbered-ok d rounds read are_few alone = numbered_by-ok rounds (rounds_at-ok d rounds read) are_few alone

pods_at-ok : (d : Data) (pods : Pods) → pods_at d ≡ Ok pods → IsWellFormedPods pods
unfolding pods_at
pods_at-ok d pods is =
    let form = goes (object_or (wrong []) d) _ pods is in
    let opening = goes (opening_at d) _ pods form.rest in
    let rounds = goes (rounds_at d) _ pods opening.rest in
    let few = goes (few rounds.value) _ pods rounds.rest in
    let alone = goes (each_alone 0 rounds.value) _ pods few.rest in
    let is_few = (passed (are_few rounds.value) tt few.value _ few.first).0 in
    subst IsWellFormedPods (ok_same alone.rest) (record {
      opening = opening_at-ok d opening.value opening.first;
      rounds = numbered-ok d rounds.value rounds.first is_few alone.first;
    })

-- every pod file that is read is well formed
pub pods_of-ok : (bytes : List ℕ) (pods : Pods) → pods_of bytes ≡ Ok pods → IsWellFormedPods pods
unfolding pods_of
pods_of-ok bytes pods is =
    let json = goes (read_or_refused (json_of bytes)) _ pods is in
    pods_at-ok json.value pods json.rest
