-- Lists that are read one after another.
use Rattle.std.proofs.Common.{◌≡◌, ◌∙◌, ◌<◌, ◌≤◌, ℕ, List, [], ◌∷◌, ◌++◌, refl, sym, ap, subst, append-nil}
use Rattle.std.proofs.{Common.{append_assoc, Ok, Err, IsOk, length, drop, take, ◌+◌, Option}, lemmas.List.drop_more}
use Rattle.std.proofs.lemmas.List.{take-append-drop, take_all, take_more}
use Rattle.std.specs.List.{slice_index_or}
use Rattle.cni_io.specs.Files.{StoredFiles}
use Rattle.cni_json.specs.Outcome.{◌>>=◌}
use Rattle.plugin_requests.specs.Raw.{RawView}
use Rattle.tool_plan.specs.{Causes.{GivesStored, ReachesList, WhereTold}, Verdict.{Judged, stored_list, stored_lists}}
use Rattle.tool_plan.specs.declared.plan.NoPlan.{NoPlan}
use Rattle.tool_plan.proofs.Steps.{stops}

-- what is read of the rest stands behind what was read
abbrev pub behind : List RawView → Judged (List RawView) → Judged (List RawView)
behind front rest = rest >>= (λ (raws : List RawView). Ok (front ++ raws))

behind-cons : (front : List RawView) (raw : RawView) (rest : Judged (List RawView))
    → behind front (rest >>= (λ (raws : List RawView). Ok (raw ∷ raws))) ≡ behind (front ++ raw ∷ []) rest
behind-cons front raw (Ok raws) = ap (λ (xs : List RawView). Ok xs) (sym (append_assoc front (raw ∷ []) raws))
behind-cons front raw (Err line) = refl

-- the lists by the first of them
abbrev by_first : StoredFiles → List (List ℕ) → Judged RawView → Judged (List RawView)
by_first files names first =
    first >>= (λ (raw : RawView). stored_lists files names >>= (λ (raws : List RawView). Ok (raw ∷ raws)))

-- one list more
lists-one_more : (files : StoredFiles) (front : List RawView) (name : List ℕ) (names : List (List ℕ)) (raw : RawView)
    → stored_list files name ≡ Ok raw
    → behind front (stored_lists files (name ∷ names)) ≡ behind (front ++ raw ∷ []) (stored_lists files names)
lists-one_more files front name names raw is =
    ap (λ (t : Judged RawView). behind front (by_first files names t)) is
    ∙ behind-cons front raw (stored_lists files names)

-- ---- the loop over the names

-- what is read of names that begin with the first i stands behind what was read of these
abbrev pub Front : Option StoredFiles → List (List ℕ) → List RawView → ℕ → Type 0
Front files names front i =
    WhereTold files (λ stored.
    (more : List (List ℕ)) → stored_lists stored (take i names ++ more) ≡ behind front (stored_lists stored more))

behind-none : (rest : Judged (List RawView)) → rest ≡ behind [] rest
behind-none (Ok raws) = refl
behind-none (Err line) = refl

pub front-none : (files : Option StoredFiles) (names : List (List ℕ)) → Front files names [] 0
front-none files names = λ stored told more. behind-none (stored_lists stored more)

take-name : (names : List (List ℕ)) (i : ℕ) (name : List ℕ) (more : List (List ℕ)) → i < length names
    → name ≡ slice_index_or names i name
    → take (i + 1) names ++ more ≡ take i names ++ name ∷ more
take-name names i name more lt at =
    ap (λ (ns : List (List ℕ)). ns ++ more)
    (take_more names i name lt ∙ ap (λ (n : List ℕ). take i names ++ n ∷ []) (sym at))
    ∙ append_assoc (take i names) (name ∷ []) more

pub front-next : (files : Option StoredFiles) (names : List (List ℕ)) (front : List RawView) (i : ℕ)
    (name : List ℕ) (raw : RawView)
    → i < length names → name ≡ slice_index_or names i name
    → Front files names front i → WhereTold files (λ stored. stored_list stored name ≡ Ok raw)
    → Front files names (front ++ raw ∷ []) (i + 1)
front-next files names front i name raw lt at before read = λ stored told more.
    ap (stored_lists stored) (take-name names i name more lt at)
    ∙ before stored told (name ∷ more)
    ∙ lists-one_more stored front name more raw (read stored told)

pub front-whole : (files : Option StoredFiles) (names : List (List ℕ)) (front : List RawView) (i : ℕ) → length names ≤ i
    → Front files names front i → WhereTold files (λ stored. stored_lists stored names ≡ Ok front)
front-whole files names front i all before = λ stored told.
    ap (stored_lists stored)
    (sym (append-nil names) ∙ ap (λ (ns : List (List ℕ)). ns ++ []) (sym (take_all i names all)))
    ∙ before stored told [] ∙ ap (λ (raws : List RawView). Ok raws) (append-nil front)

split : (names : List (List ℕ)) (i : ℕ) (name : List ℕ) → i < length names → name ≡ slice_index_or names i name
    → names ≡ take i names ++ name ∷ drop (i + 1) names
split names i name lt at =
    sym (take-append-drop i names)
    ∙ ap (λ (ns : List (List ℕ)). take i names ++ ns)
    (drop_more names i name lt ∙ ap (λ (n : List ℕ). n ∷ drop (i + 1) names) (sym at))

reached : (files : Option StoredFiles) (names : List (List ℕ)) (front : List RawView) (i : ℕ) (name : List ℕ)
    → i < length names → name ≡ slice_index_or names i name
    → Front files names front i → ReachesList files names name
reached files names front i name lt at before = record {
  before = take i names;
  after = drop (i + 1) names;
  names_are = split names i name lt at;
  taken = λ stored told.
      subst (λ (r : Judged (List RawView)). IsOk r)
      (sym (ap (stored_lists stored) (sym (append-nil (take i names))) ∙ before stored told [])) refl;
}

-- a list that isn't taken stops the others
pub lists-stop : (files later : Option StoredFiles) (start before now : ℕ) (names : List (List ℕ))
    (front : List RawView) (i : ℕ) (name : List ℕ) (none : NoPlan)
    → later ≡ files → start ≤ before
    → i < length names → name ≡ slice_index_or names i name → Front files names front i
    → GivesStored {X = RawView} (λ raw. raw) later before now (λ file. file ≡ name)
    (λ stored. stored_list stored name) (Err none)
    → GivesStored {X = List RawView} (λ raws. raws) files start now (ReachesList files names)
    (λ stored. stored_lists stored names) (Err none)
lists-stop files later start before now names front i name none same up lt at front_is gives =
    let more = drop (i + 1) names in
    stops {X = RawView} {Y = List RawView} (λ raw. raw) (λ raws. raws) files later start before now
    (λ file. file ≡ name) (ReachesList files names) (λ stored. stored_list stored name)
    (λ stored. stored_lists stored names) none same up
    (λ file is. subst (ReachesList files names) (sym is) (reached files names front i name lt at front_is))
    (λ stored told line e.
    ap (stored_lists stored) (split names i name lt at)
    ∙ front_is stored told (name ∷ more)
    ∙ ap (λ (t : Judged RawView). behind front (by_first stored more t)) e)
    gives
