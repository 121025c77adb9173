use Rattle.std.proofs.{Common.{◌≡◌, ◌<◌, ℕ, List, codes, ltb-true, nat_lt, refl, true}, lemmas.List.Elements.All-weaker}
use Rattle.std.proofs.lemmas.{List.Sums.AllPass-from_list_all, Str.{IsAscii-append, IsUtf8-from_ascii}}
use Rattle.std.proofs.lemmas.Str.Ascii.{IsAscii-from_all}
use Rattle.std.specs.{List.list_all, Str.IsAscii}
use Rattle.hex.proofs.HexLemmas.{IsAscii-encode_with}
use Rattle.hex.specs.Hex.{lower_digits}
use Rattle.link_names.proofs.host_name.host_name_text.Goals as goal

IsAscii-from_test : (bs : List ℕ) → list_all (λ b. nat_lt b 128) bs ≡ true → IsAscii bs
IsAscii-from_test bs test =
    IsAscii-from_all bs (All-weaker (λ b. nat_lt b 128 ≡ true) (λ b. b < 128) (λ b. ltb-true b 128) bs
    (AllPass-from_list_all (λ b. nat_lt b 128) bs test))

-- the letters and the digits are ASCII, so the bytes are a text
pub unreachable-requires : goal.unreachable-requires
unreachable-requires c =
    let digits = IsAscii-encode_with lower_digits _ (IsAscii-from_test lower_digits refl) in
    c.in-Err.ensures.cases.0 (rw c.host_name_by-name.ensures
    (IsUtf8-from_ascii _ (IsAscii-append (codes "veth") _ (IsAscii-from_test (codes "veth") refl) digits)))
