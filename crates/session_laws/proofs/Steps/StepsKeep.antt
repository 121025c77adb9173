-- What a session keeps over a task.
use Rattle.session_laws.proofs.Names.{◌≡◌, ◌≤◌, ℕ, ◌+◌, true, List, [], ◌∷◌, ◌++◌, length, map, Option, Some, None}
use Rattle.session_laws.proofs.Names.{refl, sym, ap, subst, ◌∙◌, ◌&&◌, arith, slice_get, IfSome, nat_tests, append-nil}
use Rattle.session_laws.proofs.Names.{length_push, map-append, All-head, All-tail, All-weaker, list_all-append}
use Rattle.session_laws.proofs.Names.{IfSome_then, All, AllByRecursion, list_all, list_all-weaker, leases_in, Made}
use Rattle.session_laws.proofs.Names.{replies, Task}
use Rattle.std.proofs.lemmas.{List.{length-append, Elements.{All-nil, All-push}}, Option.slice_get_within}
use Rattle.std.specs.Prelude.{slice_index_or}
use Rattle.session_laws.specs.{Holds.Suite, Kept.{IsRowKept, is_numbered, pools_of}, Pools.{IsLastOf, sets_by}, Ran.Ran}
use Rattle.session_laws.specs.Steps.{IsViewKept, StepsKeep, StepsKeepLeases, TheFirstViewIsKept, after_task, handed}
use Rattle.session_laws.specs.{Steps.if_any, Views.{entry_of, SessionView, begun, finish, leased_to, number}}
use Rattle.session_laws.specs.declared.{answer.TaskAnswer.TaskAnswer, entry.Entry.Entry, row.Row.Row}
use Rattle.session_laws.proofs.{Courses.Unpooled.unpooled-leases, Steps.{Numbered.numbered-own, StepRows.kept-later}}
use Rattle.session_laws.proofs.Steps.{StepRows.kept-new, StepShapes.{begun-found, leases-alone, objects-after}}
use Rattle.session_laws.proofs.Steps.{StepShapes.{ready-after, run_of}, StepViews.{leased_to-before, leased_to-own}}
use Rattle.cni_verbs.proofs.Openings.{opening-share}

entries-kept : (old : SessionView) (es : List Made) → IsViewKept old
    → list_all (λ (e : Entry). is_numbered (number old + 1) e.task) (old.history ++ map (entry_of (number old + 1)) es)
    ≡ true
entries-kept old es kept =
    let before =
    list_all-weaker (λ (e : Entry). is_numbered (number old) e.task)
    (λ (e : Entry). is_numbered (number old + 1) e.task) (λ e in_range. grind (arith, nat_tests))
    old.history kept.entries in
    let own = numbered-own (number old) (number old + 1) es (omega arith) in
    list_all-append (λ (e : Entry). is_numbered (number old + 1) e.task) old.history
    (map (entry_of (number old + 1)) es)
    ∙ ap (λ b. b && list_all (λ (e : Entry). is_numbered (number old + 1) e.task) (map (entry_of (number old + 1)) es))
    before
    ∙ own

-- a fact of the rows, of the one that the task made too
rows-kept : (P : Row → Type 0) (rows : List Row) (more : Option Row) → All P rows → IfSome more P
    → All P (rows ++ if_any more)
rows-kept P rows None all is = subst (All P) (sym (append-nil rows)) all
rows-kept P rows (Some row) all is = All-push P rows row all is

few-kept : (n : ℕ) (rows : List Row) (more : Option Row) → length rows ≤ n → length (rows ++ if_any more) ≤ n + 1
few-kept n rows None few = let same = length-append rows [] in omega arith
few-kept n rows (Some row) few = let same = length_push rows row in omega arith

unleased-kept : (suite : Suite) (old : SessionView) (t : Task) (es : List Made) (more : Option Row) (a : TaskAnswer)
    → IsViewKept old
    → Ran suite (handed old t) (finish old) es more a → sets_by old.conf.ipam ≡ []
    → IfSome more (λ row. leased_to (after_task old es more a) row ≡ [])
unleased-kept suite old t es None a kept ran unpooled = tt
unleased-kept suite old t es (Some row) a kept ran unpooled =
    let begun = begun-found suite (handed old t) (finish old) es row a ran in
    leased_to-own old es (Some row) a kept row ran.row.task
    ∙ unpooled-leases (run_of (handed old t) (finish old) es (Some row)) begun.run unpooled
    (leases-alone suite old t es (Some row) kept ran.row)

kept-after : (suite : Suite) (old : SessionView) (t : Task) (es : List Made) (more : Option Row) (a : TaskAnswer)
    → IsViewKept old
    → slice_get old.conf.tasks (number old) ≡ Some t → Ran suite (handed old t) (finish old) es more a
    → IsViewKept (after_task old es more a)
kept-after suite old t es more a kept there ran =
    let numbers : number (after_task old es more a) ≡ number old + 1 = length_push old.answers a in
    let within = slice_get_within old.conf.tasks (number old) t there in
    record {
      conf = kept.conf;
      count = omega arith;
      ready = ready-after suite old t es more a kept ran;
      entries =
          ap (λ n. list_all (λ (e : Entry). is_numbered n e.task) (after_task old es more a).history) numbers
          ∙ entries-kept old es kept;
      rows = subst (λ n. All (IsRowKept n) (after_task old es more a).rows) (sym numbers)
          (rows-kept (IsRowKept (number old + 1)) old.rows more
          (All-weaker (IsRowKept (number old)) (IsRowKept (number old + 1)) (kept-later (number old))
          old.rows kept.rows)
          (IfSome_then more ran.row (λ row is. kept-new suite old t es row is)));
      few =
          subst (λ n. length (old.rows ++ if_any more) ≤ n) (sym numbers)
          (few-kept (number old) old.rows more kept.few);
      objects = objects-after suite old t es more a kept ran;
      unleased = λ none. rows-kept (λ row. leased_to (after_task old es more a) row ≡ []) old.rows more
          (leased-before none) (unleased-kept suite old t es more a kept ran (ap sets_by none));
    }
  where
    leased-before : old.conf.ipam ≡ None → All (λ row. leased_to (after_task old es more a) row ≡ []) old.rows
    leased-before none = λ k d less.
        leased_to-before old es more a kept (slice_index_or old.rows k d) (kept.rows k d less)
        ∙ kept.unleased none k d less

pub steps-keep : (suite : Suite) → StepsKeep suite
steps-keep suite old new t es more a kept step =
    subst IsViewKept (sym step.is) (kept-after suite old t es more a kept step.there step.ran)

-- ---- leases

same-map : {X Y : Type 0} (f g : X → Y) (xs : List X) → All (λ x. f x ≡ g x) xs → map f xs ≡ map g xs
same-map f g [] same = refl
same-map f g (x ∷ xs) same =
    ap (λ y. y ∷ map f xs) (All-head (λ z. f z ≡ g z) x xs same)
    ∙ ap (λ l. g x ∷ l) (same-map f g xs (All-tail (λ z. f z ≡ g z) x xs same))

own-leases : (old : SessionView) (es : List Made) (more : Option Row) (a : TaskAnswer) → IsViewKept old
    → IfSome more (λ row. row.task ≡ number old + 1)
    → map (leased_to (after_task old es more a)) (if_any more) ≡ map (λ row. leases_in (replies es)) (if_any more)
own-leases old es None a kept is = refl
own-leases old es (Some row) a kept is = ap (λ l. l ∷ []) (leased_to-own old es (Some row) a kept row is)

leases-after : (suite : Suite) (old : SessionView) (t : Task) (es : List Made) (more : Option Row) (a : TaskAnswer)
    → IsViewKept old
    → Ran suite (handed old t) (finish old) es more a
    → let new : SessionView = after_task old es more a in
    map (leased_to new) new.rows ≡ map (leased_to old) old.rows ++ map (λ row. leases_in (replies es)) (if_any more)
leases-after suite old t es more a kept ran =
    let new : SessionView = after_task old es more a in
    let before : map (leased_to new) old.rows ≡ map (leased_to old) old.rows =
    same-map (leased_to new) (leased_to old) old.rows
    (λ k d less. leased_to-before old es more a kept (slice_index_or old.rows k d) (kept.rows k d less)) in
    map-append (leased_to new) old.rows (if_any more)
    ∙ ap (λ l. l ++ map (leased_to new) (if_any more)) before
    ∙ ap (λ l. map (leased_to old) old.rows ++ l)
    (own-leases old es more a kept (IfSome_then more ran.row (λ row is. is.task)))

pub steps-leases : (suite : Suite) → StepsKeepLeases suite
steps-leases suite old new t es more a kept step =
    subst (λ s.
    map (leased_to s) s.rows
    ≡ map (leased_to old) old.rows ++ map (λ row. leases_in (replies es)) (if_any more))
    (sym step.is)
    (leases-after suite old t es more a kept step.ran)

-- ---- before the first task

pub first-kept : TheFirstViewIsKept
first-kept conf is = record {
  conf = is;
  count = omega arith;
  ready = record {
    sound = is.opening.sound;
    lasts = subst (AllByRecursion (IsLastOf (pools_of conf))) (sym is.opening.lasts) tt;
  };
  entries = refl;
  rows = All-nil (IsRowKept 0);
  few = omega arith;
  objects = λ att. opening-share att conf.opening is.opening;
  unleased = λ none. All-nil (λ row. leased_to (begun conf) row ≡ []);
}
