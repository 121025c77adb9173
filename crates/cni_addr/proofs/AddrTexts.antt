-- What is read of an address's text is its grammar, both ways, and what is written is read again.
use Rattle.std.proofs.Common.{◌≡◌, ℕ, ◌/◌, ◌%◌, ◌^◌, ◌<◌, ◌⊎◌, inl, inr, List, [], ◌∷◌, length, get_or, All, Option}
use Rattle.std.proofs.Common.{Some, None, refl, sym, ap, ◌∙◌, subst, arith, append-nil, lit≤}
use Rattle.std.proofs.NetLemmas.{Ipv4.{read_ipv4_complete, read_ipv4_sound}, Ipv6.IsDotted-not_colon_hex}
use Rattle.std.proofs.NetLemmas.{Options.map_some, Texts.{IsDotted-ipv4_text, IsColonHex-hex_groups_text}}
use Rattle.std.proofs.lemmas.Nat.{be_bytes_4, from_be_bytes-to_be_bytes_4}
use Rattle.std.specs.{Int.{w32, w128, to_be_bytes, from_be_bytes}, Net.{Addr.segments_of, Grammar.IsDotted}}
use Rattle.std.specs.{Net.{Grammar.IsColonHex, Reader.{Read, read_ipv4, read_ipv6, whole_value}}, Option.option_or}
use Rattle.std.specs.Prelude.{option_map}
use Rattle.cni_addr.specs.AddrText.{Spells, IsAddrText, address_of_octets, address_of_groups, addr_of_text, bits_text}
use Rattle.cni_addr.specs.{AddrText.addr_text, Value.{AddrValue, IsAddr, bits_below}, declared.address.Family.Family}
use Rattle.cni_addr.specs.declared.address.Family.TheVariants.{V4, V6}
use Rattle.cni_addr.proofs.GroupTexts.{octet_fits, whole_some, colon_hex_fits, whole_groups, groups_whole, IsPlain}
use Rattle.cni_addr.proofs.{GroupTexts.{dotted_plain, colon_hex_plain}, Groups.groups_of_number}
use Rattle.cni_addr.proofs.Groups.{number_of_groups_fits, number_of_groups, AllOctets-number, AllSegments-segments_of}
use Rattle.cni_addr.proofs.Options.{none_of}

-- the value of an option
pub some_same : {A : Type 0} (x y : A) → ◌≡◌ {A = Option A} (Some x) (Some y) → x ≡ y
some_same x y e = cc

-- the value of one of two options
or_some : {A : Type 0} (o p : Option A) (x : A) → option_or o p ≡ Some x → (o ≡ Some x) ⊎ (p ≡ Some x)
or_some None p x e = inr e
or_some (Some y) p x e = inl e

-- ---- what is read of each family

-- a whole text that is dotted
whole_dotted : (text octets : List ℕ) → IsDotted text octets → whole_value (read_ipv4 text) ≡ Some octets
whole_dotted text octets h =
    let read : read_ipv4 text ≡ Some (octets, []) =
    subst (λ t. read_ipv4 t ≡ Some (octets, [])) (append-nil text) (read_ipv4_complete text octets [] h (lit≤ tt)) in
    ap (λ (r : Read (List ℕ)). whole_value r) read

dotted_whole : (text octets : List ℕ) → whole_value (read_ipv4 text) ≡ Some octets → IsDotted text octets
dotted_whole text octets e =
    let (front, split, dotted) = read_ipv4_sound text octets [] (whole_some (read_ipv4 text) octets e) in
    subst (λ t. IsDotted t octets) (sym (split ∙ append-nil front)) dotted

-- a whole text that is dotted is read
pub read_dotted : (text octets : List ℕ) → IsDotted text octets → addr_of_text text ≡ Some (address_of_octets octets)
unfolding addr_of_text
read_dotted text octets h =
    ap (λ (o : Option (List ℕ)).
    option_or (option_map address_of_octets o) (option_map address_of_groups (whole_value (read_ipv6 text))))
    (whole_dotted text octets h)

-- and so is one of groups, which is not dotted
pub read_groups : (text groups : List ℕ) → IsColonHex text groups → addr_of_text text ≡ Some (address_of_groups groups)
unfolding addr_of_text
read_groups text groups h =
    let apart : whole_value (read_ipv4 text) ≡ None =
    none_of (whole_value (read_ipv4 text))
    (λ octets e. IsDotted-not_colon_hex text octets groups (dotted_whole text octets e) h) in
    ap (λ (o : Option (List ℕ)).
    option_or (option_map address_of_octets o) (option_map address_of_groups (whole_value (read_ipv6 text)))) apart
    ∙ ap (λ (o : Option (List ℕ)). option_map address_of_groups o) (whole_groups text groups h)

-- ---- the grammar, both ways

-- each of four octets makes a number of 32 bits
octets_fit : (a b c d : ℕ) → (a < 256) × (b < 256) × (c < 256) × (d < 256)
    → from_be_bytes w32 (a ∷ b ∷ c ∷ d ∷ []) < 2 ^ 32
octets_fit a b c d h = omega (arith, h.0, h.1, h.2, h.3)

-- what is dotted is spelled
pub dotted_is_spelled : (text octets : List ℕ) → IsDotted text octets → IsAddrText text (address_of_octets octets)
dotted_is_spelled text octets h =
    let small : (i : ℕ) → get_or octets i 0 < 256 = λ i. rw h.value (octet_fits h.a h.b h.c h.d i h.fit) in
    let back : to_be_bytes w32 (from_be_bytes w32 octets) ≡ octets =
    be_bytes_4 octets (from_be_bytes w32 octets) (ap length h.value) small refl in
    record {
      fits = record { within = rw h.value (octets_fit h.a h.b h.c h.d h.fit) };
      spelled = subst (IsDotted text) (sym back) h;
    }

-- and so is what are groups
pub groups_are_spelled : (text groups : List ℕ) → IsColonHex text groups → IsAddrText text (address_of_groups groups)
groups_are_spelled text groups h =
    let (eight, fit) = colon_hex_fits text groups h in
    record {
      fits = record { within = number_of_groups_fits groups eight fit };
      spelled = subst (λ g. IsColonHex text g) (sym (groups_of_number groups eight fit)) h;
    }

-- what is spelled of a family is read
spelled_of : (text : List ℕ) (family : Family) (bits : ℕ) → bits < bits_below family → Spells text family bits
    → addr_of_text text ≡ Some (record { family = family; bits = bits })
spelled_of text V4 bits within h =
    read_dotted text (to_be_bytes w32 bits) h
    ∙ ap (λ n. Some (record { family = V4; bits = n })) (from_be_bytes-to_be_bytes_4 bits within)
spelled_of text V6 bits within h =
    read_groups text (segments_of (to_be_bytes w128 bits)) h
    ∙ ap (λ n. Some (record { family = V6; bits = n })) (number_of_groups bits within)

-- what is spelled is read
pub spelled_is_read : (text : List ℕ) (a : AddrValue) → IsAddrText text a → addr_of_text text ≡ Some a
spelled_is_read text a h = spelled_of text a.family a.bits h.fits.within h.spelled

-- what is read is spelled
pub read_is_spelled : (text : List ℕ) (a : AddrValue) → addr_of_text text ≡ Some a → IsAddrText text a
unfolding addr_of_text
read_is_spelled text a e =
    elim (or_some (option_map address_of_octets (whole_value (read_ipv4 text)))
    (option_map address_of_groups (whole_value (read_ipv6 text))) a e) [
      | inl four ↦
          map_some address_of_octets (whole_value (read_ipv4 text)) a four λ octets found is.
          subst (λ b. IsAddrText text b) is (dotted_is_spelled text octets (dotted_whole text octets found))
      | inr six ↦
          map_some address_of_groups (whole_value (read_ipv6 text)) a six λ groups found is.
          subst (λ b. IsAddrText text b) is (groups_are_spelled text groups (groups_whole text groups found))
    ]

-- nothing is read where nothing is spelled
pub none_spelled : (text : List ℕ) → ((octets : List ℕ) → IsDotted text octets → ⊥)
    → ((groups : List ℕ) → IsColonHex text groups → ⊥) → addr_of_text text ≡ None
unfolding addr_of_text
none_spelled text no_octets no_groups =
    let four : whole_value (read_ipv4 text) ≡ None =
    none_of (whole_value (read_ipv4 text)) (λ octets e. no_octets octets (dotted_whole text octets e)) in
    let six : whole_value (read_ipv6 text) ≡ None =
    none_of (whole_value (read_ipv6 text)) (λ groups e. no_groups groups (groups_whole text groups e)) in
    ap (λ (o : Option (List ℕ)).
    option_or (option_map address_of_octets o) (option_map address_of_groups (whole_value (read_ipv6 text)))) four
    ∙ ap (λ (o : Option (List ℕ)). option_map address_of_groups o) six

-- ---- what is written

-- an octet that is written fits
written_small : (n k : ℕ) → get_or (to_be_bytes w32 n) k 0 < 2 ^ 8
written_small n k =
    octet_fits (n / 16777216 % 256) (n / 65536 % 256) (n / 256 % 256) (n % 256) k
    (omega arith, omega arith, omega arith, omega arith)

-- what is written of a family is spelled
written_of : (family : Family) (bits : ℕ) → Spells (bits_text family bits) family bits
written_of V4 bits = IsDotted-ipv4_text (to_be_bytes w32 bits) refl (λ k. written_small bits k)
written_of V6 bits =
    IsColonHex-hex_groups_text (segments_of (to_be_bytes w128 bits)) refl
    (AllSegments-segments_of (to_be_bytes w128 bits) (AllOctets-number 16 bits))

-- what is written is spelled
pub written_is_spelled : (a : AddrValue) → IsAddr a → IsAddrText (addr_text a) a
unfolding addr_text
written_is_spelled a kept = record { fits = kept; spelled = written_of a.family a.bits }

-- what is written of an address, whose parts are known by other names
pub written_bits : (a addr : AddrValue) (family : Family) → a ≡ addr → a.family ≡ family
    → bits_text family a.bits ≡ addr_text addr
unfolding addr_text
written_bits a addr family same is = ap (λ f. bits_text f a.bits) (sym is) ∙ ap addr_text same

-- ---- the bytes of a text

plain_of : (text : List ℕ) (family : Family) (bits : ℕ) → Spells text family bits → All IsPlain text
plain_of text V4 bits h = dotted_plain text (to_be_bytes w32 bits) h
plain_of text V6 bits h = colon_hex_plain text (segments_of (to_be_bytes w128 bits)) h

-- the text of an address has no slash
pub address_plain : (text : List ℕ) (a : AddrValue) → IsAddrText text a → All IsPlain text
address_plain text a h = plain_of text a.family a.bits h.spelled
