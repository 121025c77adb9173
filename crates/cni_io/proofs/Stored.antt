-- Stored files after one was added.
use Rattle.std.proofs.Common.{◌≡◌, ◌≢◌, ℕ, List, [], ◌∷◌, true, false, not, filter, Some, refl, sym, ◌∙◌, subst, inl}
use Rattle.std.proofs.{Common.inr, lemmas.{Bool.cases_Bool, List.map-append, Map.Keys.IsDistinct-push}}
use Rattle.std.proofs.lemmas.{Map.Made.IsDistinct-keys_filter, Slice.Eq.bytes_eq-Decides}
use Rattle.std.specs.{Cmp.Lexicographic.nat_list_eq_equiv, List.{IsDistinct, list_any}, Map.keys_of, Str.bytes_eq}
use Rattle.cni_io.specs.{Files.{StoredFiles, bytes_of}, Memory.{HasEachNameOnce, stored_with}}

-- the added file is found
pub bytes_of-stored_with : (stored : StoredFiles) (name bytes : List ℕ)
    → bytes_of (stored_with stored name bytes) name ≡ Some bytes
bytes_of-stored_with [] name bytes = rw ((bytes_eq-Decides name name).1 refl)
bytes_of-stored_with (file ∷ stored) name bytes =
    let rest = bytes_of-stored_with stored name bytes in
    elim (cases_Bool (bytes_eq file.0 name)) [ inl this ↦ simp this rest | inr other ↦ simp other rest ]

-- two different names are not equal bytes
bytes_eq-other : (other name : List ℕ) → other ≢ name → bytes_eq name other ≡ false
bytes_eq-other other name differs =
    elim (cases_Bool (bytes_eq name other)) [
      | inl same ↦ absurd (differs (sym ((bytes_eq-Decides name other).0 same)))
      | inr not_same ↦ not_same
    ]

-- a file of one name does not have another
bytes_eq-not_both : (key name other : List ℕ) → other ≢ name → bytes_eq key name ≡ true → bytes_eq key other ≡ false
bytes_eq-not_both key name other differs this =
    bytes_eq-other other key (λ same. differs (same ∙ (bytes_eq-Decides key name).0 this))

-- a file of another name is found as before
pub bytes_of-stored_with_other : (stored : StoredFiles) (name bytes other : List ℕ) → other ≢ name
    → bytes_of (stored_with stored name bytes) other ≡ bytes_of stored other
bytes_of-stored_with_other [] name bytes other differs = rw (bytes_eq-other other name differs)
bytes_of-stored_with_other (file ∷ stored) name bytes other differs =
    let rest = bytes_of-stored_with_other stored name bytes other differs in
    elim (cases_Bool (bytes_eq file.0 name)) [
      | inl this ↦ let not_found = bytes_eq-not_both file.0 name other differs this in simp (this, not_found) rest
      | inr not_this ↦
          elim (cases_Bool (bytes_eq file.0 other)) [
            | inl found ↦ simp (not_this, found)
            | inr not_found ↦ simp (not_this, not_found) rest
          ]
    ]

-- files of other names have none of this name
no_such_name : (stored : StoredFiles) (name : List ℕ)
    → list_any (bytes_eq name) (keys_of (filter (λ file. not (bytes_eq file.0 name)) stored)) ≡ false
no_such_name [] name = refl
no_such_name (file ∷ stored) name =
    let rest = no_such_name stored name in
    elim (cases_Bool (bytes_eq file.0 name)) [
      | inl this ↦ simp this rest
      | inr other ↦ let not_found : bytes_eq name file.0 ≡ false = nat_list_eq_equiv.symm name file.0 ∙ other in
          simp (other, not_found) rest
    ]

-- a file is added to files of which each name stands once
pub HasEachNameOnce-stored_with : (stored : StoredFiles) (name bytes : List ℕ) → HasEachNameOnce stored
    → HasEachNameOnce (stored_with stored name bytes)
HasEachNameOnce-stored_with stored name bytes once =
    let others = filter (λ file. not (bytes_eq file.0 name)) stored in
    let kept = IsDistinct-keys_filter bytes_eq (λ file. not (bytes_eq file.0 name)) stored once in
    subst (IsDistinct bytes_eq) (sym (map-append (λ file. file.0) others ((name, bytes) ∷ [])))
    (IsDistinct-push nat_list_eq_equiv (keys_of others) name kept (no_such_name stored name))
