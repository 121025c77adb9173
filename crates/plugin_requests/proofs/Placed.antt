-- Plugins and their objects, place by place: what is left of the requests of an ADD are those of the places that are
-- left.
use Rattle.std.proofs.Common.{◌≡◌, ◌⊎◌, inl, inr, ℕ, suc, ◌+◌, ◌-◌, ◌≤◌, List, [], ◌∷◌, ◌++◌, length, map, take}
use Rattle.std.proofs.Common.{slice_index_or, slice_range, Some, None, Result, Ok, refl, sym, ap, ap₂, ◌∙◌}
use Rattle.std.proofs.{Common.{append_assoc, append-nil, length-append, arith}, Math.Seq.take-append_seam}
use Rattle.std.proofs.{Math.Seq.take-length, lemmas.List.{length-map, Sums.fold-append}}
use Rattle.std.specs.List.{scan}
use Rattle.serde_json.specs.{Data.Data, View.items_of}
use Rattle.cni_json.proofs.Endings.{goes, ok_same}
use Rattle.cni_json.specs.Each.{each}
use Rattle.cni_result.specs.declared.{cached.PortMapping.PortMapping, result.AddResult.AddResult}
use Rattle.net_conf.specs.{Plugin.{plugin_by_type_at, plugins_in}, declared.chained.Chained.Chained}
use Rattle.net_conf.specs.declared.list.NetList.{NetList}
use Rattle.net_conf.specs.declared.plugin.Plugin.TheVariants as plugins
use Rattle.plugin_chain.specs.Wanted.{all_chained_results, chained_result}
use Rattle.plugin_requests.specs.{Adding.{chain_request, chain_requests}, Raw.{IsRaw, RawView}, Request.request_data}

-- ---- objects

length-each : {A E : Type 0} (read : Data → Result A E) (ds : List Data) (xs : List A) → each read (items_of ds) ≡ Ok xs
    → length ds ≡ length xs
length-each read [] xs is = ap length (ok_same is)
length-each read (d ∷ ds) xs is =
    let first = goes (read d) _ xs is in
    let rest = goes (each read (items_of ds)) _ xs first.rest in
    ap suc (length-each read ds rest.value rest.first) ∙ ap length (ok_same rest.rest)

-- each plugin has its object
pub length-objects : (raw : RawView) → IsRaw raw → length raw.objects ≡ suc (length raw.list.chained)
length-objects raw is =
    length-each plugin_by_type_at raw.objects (plugins_in raw.list.first raw.list.chained) is.plugins
    ∙ ap suc (length-map raw.list.chained plugins.Chained)

-- a list with its first member apart
pub first-and-rest : {A : Type 0} (xs : List A) (x : A) (rest : List A) → 1 ≤ length xs → x ≡ slice_index_or xs 0 x
    → rest ≡ slice_range xs 1 (length xs) → xs ≡ x ∷ rest
first-and-rest [] x rest some first others = absurd (omega (arith, some))
first-and-rest (y ∷ ys) x rest some first others =
    let left : length (y ∷ ys) - 1 ≡ length ys = omega arith in
    ap₂ (λ z l. z ∷ l) (sym first) (sym (others ∙ ap (λ n. take n ys) left ∙ take-length ys))

-- ---- requests

-- those to chained plugins that are left, of the objects that are left, after this result
abbrev pub requests_left : NetList → List PortMapping → List Chained → List Data → AddResult → List Data
requests_left list mappings [] ds prev = []
requests_left list mappings (c ∷ cs) [] prev = []
requests_left list mappings (c ∷ cs) (d ∷ ds) prev =
    request_data list d (Some prev) mappings None ∷ requests_left list mappings cs ds (chained_result c prev)

-- they are those of their places
requests_left-placed : (list : NetList) (mappings : List PortMapping) (first : AddResult) (before cs : List Chained)
    (ds : List Data) (k : ℕ)
    → list.chained ≡ before ++ cs → length ds ≡ length cs → k ≡ suc (length before)
    → requests_left list mappings cs ds (all_chained_results before first)
    ≡ scan (λ n d. n + 1) (chain_request list mappings first) k ds
requests_left-placed list mappings first before [] [] k all even is = refl
requests_left-placed list mappings first before [] (d ∷ ds) k all even is = absurd (omega arith)
requests_left-placed list mappings first before (c ∷ cs) [] k all even is = absurd (omega arith)
requests_left-placed list mappings first before (c ∷ cs) (d ∷ ds) k all even is =
    let here : chain_request list mappings first k d
    ≡ request_data list d (Some (all_chained_results before first)) mappings None =
    ap (λ n. chain_request list mappings first n d) is
    ∙ ap (λ r. request_data list d (Some (all_chained_results r first)) mappings None)
    (ap (take (length before)) all ∙ take-append_seam before (c ∷ cs)) in
    let next : chained_result c (all_chained_results before first) ≡ all_chained_results (before ++ c ∷ []) first =
    sym (fold-append (λ r x. chained_result x r) first before (c ∷ [])) in
    ap (λ r.
    request_data list d (Some (all_chained_results before first)) mappings None
    ∷ requests_left list mappings cs ds r)
    next
    ∙ ap (λ l. request_data list d (Some (all_chained_results before first)) mappings None ∷ l)
    (requests_left-placed list mappings first (before ++ c ∷ []) cs ds (k + 1)
    (all ∙ sym (append_assoc before (c ∷ []) cs)) (omega arith)
    (rw (length-append before (c ∷ [])) (omega (arith, is))))
    ∙ ap (λ r. r ∷ scan (λ n x. n + 1) (chain_request list mappings first) (k + 1) ds) (sym here)

-- the first request, and those that are left
pub requests-begin : (list : NetList) (mappings : List PortMapping) (first : AddResult) (d : Data) (ds : List Data)
    → length ds ≡ length list.chained
    → request_data list d None mappings None ∷ requests_left list mappings list.chained ds first
    ≡ scan (λ n d. n + 1) (chain_request list mappings first) 0 (d ∷ ds)
requests-begin list mappings first d ds even =
    ap (λ l. request_data list d None mappings None ∷ l)
    (requests_left-placed list mappings first [] list.chained ds 1 refl even refl)

map-push : {A B : Type 0} (f : A → B) (xs : List A) (x : A) (ys : List B)
    → map f (xs ++ x ∷ []) ++ ys ≡ map f xs ++ f x ∷ ys
map-push f [] x ys = refl
map-push f (w ∷ xs) x ys = ap (λ l. f w ∷ l) (map-push f xs x ys)

-- once the first is made, the others are left
pub requests_left-begin : {V : Type 0} (shown : V → Data) (raw : RawView) (mappings : List PortMapping)
    (first : AddResult) (given : List V) (d : V) (ds made : List V) (v : V) (list : NetList) (cs : List Chained)
    → IsRaw raw → list ≡ raw.list → map shown given ≡ raw.objects → given ≡ d ∷ ds
    → made ≡ v ∷ [] → shown v ≡ request_data list (shown d) None mappings None → cs ≡ list.chained
    → map shown made ++ requests_left list mappings cs (map shown ds) first ≡ chain_requests raw mappings first
requests_left-begin shown raw mappings first given d ds made v list cs is same objects split pushed request plugins =
    let whole : raw.objects ≡ shown d ∷ map shown ds = sym objects ∙ ap (map shown) split in
    let even : length (map shown ds) ≡ length raw.list.chained =
    omega (arith, length-objects raw is, ap length whole) in
    ap (λ l. map shown l ++ requests_left list mappings cs (map shown ds) first) pushed
    ∙ ap (λ x. x ∷ requests_left list mappings cs (map shown ds) first) request
    ∙ ap (λ l. request_data list (shown d) None mappings None ∷ requests_left list mappings l (map shown ds) first)
    plugins
    ∙ ap (λ (l : NetList).
    request_data l (shown d) None mappings None ∷ requests_left l mappings l.chained (map shown ds) first)
    same
    ∙ requests-begin raw.list mappings first (shown d) (map shown ds) even
    ∙ ap (λ l. scan (λ n x. n + 1) (chain_request raw.list mappings first) 0 l) (sym whole)

-- with each that is made, one less is left
pub requests_left-next : {V : Type 0} (shown : V → Data) (list : NetList) (mappings : List PortMapping)
    (all : List Data) (made more : List V) (v : V) (cs rest : List Chained) (c : Chained) (ds others : List V) (d : V)
    (prev next : AddResult)
    → map shown made ++ requests_left list mappings cs (map shown ds) prev ≡ all
    → cs ≡ c ∷ rest → ds ≡ d ∷ others
    → more ≡ made ++ v ∷ [] → shown v ≡ request_data list (shown d) (Some prev) mappings None
    → next ≡ chained_result c prev
    → map shown more ++ requests_left list mappings rest (map shown others) next ≡ all
requests_left-next shown list mappings all made more v cs rest c ds others d prev next before plugins objects
    pushed request result =
    ap (λ l. map shown l ++ requests_left list mappings rest (map shown others) next) pushed
    ∙ map-push shown made v (requests_left list mappings rest (map shown others) next)
    ∙ ap (λ x. map shown made ++ x ∷ requests_left list mappings rest (map shown others) next) request
    ∙ ap (λ r.
    map shown made
    ++ request_data list (shown d) (Some prev) mappings None
    ∷ requests_left list mappings rest (map shown others) r)
    result
    ∙ ap₂ (λ l m. map shown made ++ requests_left list mappings l (map shown m) prev) (sym plugins) (sym objects)
    ∙ before

-- where plugins or objects have ended, none is left
pub requests_left-end : {V S R : Type 0} (shown : V → Data) (list : NetList) (mappings : List PortMapping)
    (all : List Data) (made : List V) (cs : List Chained) (ds : List V) (prev : AddResult) (s : S) (r : R)
    → map shown made ++ requests_left list mappings cs (map shown ds) prev ≡ all
    → ((x : S) × ((length cs ≡ 0) × (x ≡ s))) ⊎ ((x : R) × ((length ds ≡ 0) × (x ≡ r)))
    → map shown made ≡ all
requests_left-end shown list mappings all made [] ds prev s r is ended = sym (append-nil (map shown made)) ∙ is
requests_left-end shown list mappings all made (c ∷ cs) [] prev s r is ended = sym (append-nil (map shown made)) ∙ is
requests_left-end shown list mappings all made (c ∷ cs) (d ∷ ds) prev s r is (inl (x, (none, same))) =
    absurd (omega (arith, none))
requests_left-end shown list mappings all made (c ∷ cs) (d ∷ ds) prev s r is (inr (x, (none, same))) =
    absurd (omega (arith, none))
