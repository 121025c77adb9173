-- Hardware addresses that are cut out of a digest are six bytes.
use Rattle.std.proofs.{Common.{◌<◌, ◌≤◌, ℕ, zero, suc, List, [], ◌∷◌, drop, take, arith, ap}, lemmas.List.length-drop}
use Rattle.std.proofs.lemmas.List.{length-take-le}
use Rattle.std.specs.{Int.{to_be_bytes, w32}, List.AllByRecursion, Prelude.slice_index}
use Rattle.cni_addr.specs.MacText.{IsMac}
use Rattle.hex.specs.Hex.{IsBytes}
use Rattle.kernel_types.specs.{Names.{digest_of, host_mac_of, inner_mac_of}, declared.object.Att.Att}
use Rattle.link_names.specs.Names.{link_mac_of, local_mac}
use Rattle.sha2.proofs.Facts256.{length-sha256}
use Rattle.sha2.specs.Sha256.{digest_bytes, sha256}
use Rattle.kernel_types.proofs.ListLemmas.{each-append}

abbrev AreBytes : List ℕ → Type 0
AreBytes bytes = AllByRecursion (λ b. b < 256) bytes

bytes-take : (n : ℕ) (xs : List ℕ) → AreBytes xs → AreBytes (take n xs)
bytes-take zero xs all = tt
bytes-take (suc n) [] all = tt
bytes-take (suc n) (x ∷ xs) all = (all.0, bytes-take n xs all.1)

bytes-drop : (n : ℕ) (xs : List ℕ) → AreBytes xs → AreBytes (drop n xs)
bytes-drop zero xs all = all
bytes-drop (suc n) [] all = tt
bytes-drop (suc n) (x ∷ xs) all = bytes-drop n xs all.1

each_byte : (xs : List ℕ) → AreBytes xs → IsBytes xs
each_byte [] all i = omega arith
each_byte (x ∷ xs) all zero = all.0
each_byte (x ∷ xs) all (suc i) = each_byte xs all.1 i

word-bytes : (n : ℕ) → AreBytes (to_be_bytes w32 n)
word-bytes n = (omega arith, (omega arith, (omega arith, (omega arith, tt))))

digest-bytes : (words : List ℕ) (n : ℕ) → AreBytes (digest_bytes words n)
unfolding digest_bytes
digest-bytes words zero = tt
digest-bytes words (suc n) =
    each-append (λ b. b < 256) (digest_bytes words n) (to_be_bytes w32 (slice_index words n)) (digest-bytes words n)
    (word-bytes (slice_index words n))

sha256-bytes : (message : List ℕ) → AreBytes (sha256 message)
unfolding sha256
sha256-bytes message = digest-bytes _ 8

-- an address by five bytes of a digest
local-mac : (message : List ℕ) (n : ℕ) → n ≤ 27 → IsMac (local_mac (take 5 (drop n (sha256 message))))
local-mac message n within =
    let whole = length-sha256 message in
    let behind = length-drop n (sha256 message) in
    let five = length-take-le 5 (drop n (sha256 message)) (omega (arith, whole, behind, within)) in
    record {
      six = ap suc five;
      bytes = each_byte (0x0a ∷ take 5 (drop n (sha256 message)))
          (omega arith, bytes-take 5 (drop n (sha256 message)) (bytes-drop n (sha256 message) (sha256-bytes message)));
    }

pub link_mac-is : (name : List ℕ) → IsMac (link_mac_of name)
unfolding link_mac_of
link_mac-is name = local-mac name 0 (omega arith)

pub inner_mac-is : (att : Att) → IsMac (inner_mac_of att)
unfolding digest_of
inner_mac-is att = local-mac _ 4 (omega arith)

pub host_mac-is : (att : Att) → IsMac (host_mac_of att)
unfolding digest_of
host_mac-is att = local-mac _ 9 (omega arith)
