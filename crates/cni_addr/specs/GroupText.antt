-- The text of an IPv6 address that RFC 5952, section 4, recommends.
use Rattle.std.specs.{Net.Text.groups_text, Prelude.{◌≡◌, ℕ, ◌+◌, ◌≤◌, List, ◌++◌, length, take, drop, replicate}}
use Rattle.std.specs.Prelude.{codes, nat_lt, if◌then◌else◌}

-- so many groups of zeros stand at this place
abbrev pub AreZeros : List ℕ → ℕ → ℕ → Type 0
AreZeros groups start count = (start + count ≤ length groups) × (take count (drop start groups) ≡ replicate count 0)

-- the groups stand in hex with colons between them, but the longest run of two or more groups of zeros is written
-- `::`, and of equal ones the first
pub record IsRecommended (text groups : List ℕ) : Type 0 where
  pub start : ℕ
  pub count : ℕ
  pub zeros : AreZeros groups start count
  pub longest : (other n : ℕ) → AreZeros groups other n → n ≤ count
  pub first : (other : ℕ) → AreZeros groups other count → start ≤ other
  pub written : text ≡ (if nat_lt 1 count
      then groups_text (take start groups) ++ codes "::" ++ groups_text (drop (start + count) groups)
      else groups_text groups)
