-- Ranges that lie apart, from one on.
use Rattle.std.proofs.Common.{◌≡◌, ℕ, ◌+◌, ◌-◌, ◌<◌, ◌&&◌, List, length, get_or, take, drop, ap, sym, ◌∙◌}
use Rattle.std.proofs.lemmas.List.{drop_more, take_rest}
use Rattle.std.specs.List.{list_all}
use Rattle.cni_addr.specs.declared.range.Range.{Range}
use Rattle.ip_pool.specs.Pool.{is_apart, are_apart}

-- one range is apart from the later ones, and those among themselves
pub are_apart-drop : (rs : List Range) (i : ℕ) (r : Range) → i < length rs → r ≡ get_or rs i r → are_apart (drop i rs)
    ≡ (list_all (is_apart r) (take (length rs - (i + 1)) (drop (i + 1) rs)) && are_apart (drop (i + 1) rs))
are_apart-drop rs i r below is =
    ap are_apart (drop_more rs i r below)
    ∙ rw (← is) (ap (λ l. list_all (is_apart r) l && are_apart (drop (i + 1) rs)) (sym (take_rest rs (i + 1))))
