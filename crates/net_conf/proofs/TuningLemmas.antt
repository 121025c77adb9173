-- One more step through a text, and through the members of an object.
use Rattle.std.proofs.Common.{◌≡◌, ℕ, zero, suc, ◌+◌, ◌<◌, ◌||◌, false, List, [], ◌∷◌, ◌++◌, length, drop, nat_eq, Ok}
use Rattle.std.proofs.{Common.{refl, sym, arith, add-one}, lemmas.List.take_rest}
use Rattle.std.specs.List.{starts_with}
use Rattle.serde_json.specs.Data.{Data, Members, member}
use Rattle.cni_json.proofs.EachLemmas.{with_prefix-more}
use Rattle.cni_json.specs.Each.{with_prefix}
use Rattle.net_conf.specs.{Members.is_null, Tuning.{has_part, settings_of, read_setting_of}}
use Rattle.net_conf.specs.declared.chained.Sysctl.{Sysctl}

has_part-suc : (part text : List ℕ) (i : ℕ) → i < length text
    → has_part part (drop i text) ≡ (starts_with nat_eq (drop i text) part || has_part part (drop (suc i) text))
has_part-suc part [] i within = absurd (omega arith)
has_part-suc part (c ∷ cs) zero within = refl
has_part-suc part (c ∷ cs) (suc i) within = has_part-suc part cs i (omega arith)

-- the part stands here, or further on
pub has_part-drop : (part text : List ℕ) (i : ℕ) → i < length text
    → has_part part (drop i text) ≡ (starts_with nat_eq (drop i text) part || has_part part (drop (i + 1) text))
has_part-drop part text i within = rw add-one (has_part-suc part text i within)

pub ruleset parts = (has_part-drop, take_rest)

-- a setting that is read joins those that were found
pub settings-found : (front : List Sysctl) (s : Sysctl) (key : List ℕ) (d : Data) (ms : Members) → is_null d ≡ false
    → read_setting_of key d ≡ Ok s
    → with_prefix front (settings_of (member key d ms)) ≡ with_prefix (front ++ s ∷ []) (settings_of ms)
settings-found front s key d ms there read = rw (there, read) (sym (with_prefix-more front s (settings_of ms)))

pub ruleset settings = (settings-found)
