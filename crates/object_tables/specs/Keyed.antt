-- The hasher of the tables: SipHash-1-3 over words of eight bytes.
use Rattle.std.specs.{Int.{from_le_bytes, rotate_left, w64}, List.fold, Prelude.{ℕ, ◌+◌, ◌*◌, ◌/◌, ◌%◌, ◌^◌, List}}
use Rattle.std.specs.{Prelude.{drop, length, if◌then◌else◌, nat_eq, bit_xor}, Simd.first_chunks}
use Rattle.cni_addr.specs.TextLaws.{last_word}
use Rattle.object_tables.specs.declared.keyed.KeyedHasher.{KeyedHasher}

-- the state before any write, with both keys 0
abbrev pub initial : KeyedHasher
initial = record {
  v0 = 0x736f_6d65_7073_6575;
  v1 = 0x646f_7261_6e64_6f6d;
  v2 = 0x6c79_6765_6e65_7261;
  v3 = 0x7465_6462_7974_6573;
}

abbrev pub sum : ℕ → ℕ → ℕ
sum x y = (x + y) % 2 ^ 64

-- one SipRound
unfoldable pub round : KeyedHasher → KeyedHasher
round s =
    let a0 = sum s.v0 s.v1 in
    let a2 = sum s.v2 s.v3 in
    let a1 = bit_xor (rotate_left w64 s.v1 13) a0 in
    let a3 = bit_xor (rotate_left w64 s.v3 16) a2 in
    let b2 = sum a2 a1 in
    let b0 = sum (rotate_left w64 a0 32) a3 in
    record {
      v0 = b0;
      v1 = bit_xor (rotate_left w64 a1 17) b2;
      v2 = rotate_left w64 b2 32;
      v3 = bit_xor (rotate_left w64 a3 21) b0;
    }

-- the state after one word
unfoldable pub write_word : KeyedHasher → ℕ → KeyedHasher
write_word s word =
    let t = round (record s { v3 = bit_xor s.v3 word }) in
    record t { v0 = bit_xor t.v0 word }

-- the state after these bytes as words of eight
abbrev pub write_words : KeyedHasher → List (List ℕ) → KeyedHasher
write_words s words = fold (λ t word. write_word t (from_le_bytes w64 word)) s words

-- the state after what is left of a write
abbrev pub write_rest : KeyedHasher → List ℕ → KeyedHasher
write_rest s rest = if nat_eq (length rest) 0 then s else write_word s (last_word rest)

-- the state after one write
unfoldable pub write : KeyedHasher → List ℕ → KeyedHasher
write s bytes =
    write_rest (write_words s (first_chunks 8 (length bytes / 8) bytes)) (drop (length bytes / 8 * 8) bytes)

-- what all that was written comes to
unfoldable pub finish : KeyedHasher → ℕ
finish s =
    let t = round (round (round (record s { v2 = bit_xor s.v2 0xff }))) in
    bit_xor (bit_xor (bit_xor t.v0 t.v1) t.v2) t.v3
