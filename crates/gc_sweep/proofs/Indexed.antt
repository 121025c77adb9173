-- What a search in an index of a valid list tells.
use Rattle.gc_sweep.proofs.Names.{◌≡◌, ℕ, List, [], length, sym, ◌∙◌, ap, arith, Att, ValidAtt, is_named, is_valid}
use Rattle.std.proofs.{Common.{Result, Ok, Err}, lemmas.Cmp.{nat_list_cmp_total, on_total, then_total}}
use Rattle.std.proofs.lemmas.List.{Folds.{list_any_at, list_any_none}, Sorted.searchable_from_sorted}
use Rattle.std.specs.Cmp.{IsTotalOrder, both_tied, Lexicographic.{slice_cmp, texts_ties}}
use Rattle.std.specs.{List.Sorted.{IsBinarySearchResult, IsSearchInRange}, Ordering.{is_eq, nat_cmp}, Result.is_ok}
use Rattle.gc_sweep.specs.Valid.{AreInOrder, Names, names_cmp, names_of}

pub names_total : IsTotalOrder names_cmp
names_total =
    then_total (on_total (λ (n : Names). n.0) nat_list_cmp_total) (on_total (λ (n : Names). n.1) nat_list_cmp_total)

named-ties : (att : Att) (v : ValidAtt) → is_named att v ≡ is_eq (names_cmp (names_of v) (att.container, att.ifname))
named-ties att v =
    both_tied _ _ (slice_cmp nat_cmp v.container att.container) (slice_cmp nat_cmp v.ifname att.ifname)
    (texts_ties v.container att.container) (texts_ties v.ifname att.ifname)

nothing : ValidAtt
nothing = record { container = []; ifname = [] }

pub found-valid : (att : Att) (index : List ValidAtt) (r : Result ℕ ℕ) → AreInOrder index
    → IsSearchInRange r (length index)
    → IsBinarySearchResult (λ v. names_cmp (names_of v) (att.container, att.ifname)) index r
    → is_ok r ≡ is_valid index att
found-valid att index (Ok i) order within found =
    sym (list_any_at (is_named att) index i nothing within (named-ties att _ ∙ ap is_eq (found nothing)))
found-valid att index (Err i) order within found =
    let parted = found (searchable_from_sorted names_total names_of index (att.container, att.ifname) order) in
    sym (list_any_none (is_named att) index
    (λ k d inside. named-ties att _ ∙ grind (arith, parted.0 k d, parted.1 k d)))
