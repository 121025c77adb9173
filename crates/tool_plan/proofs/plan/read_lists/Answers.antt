use Rattle.std.proofs.Common.{◌≡◌, ◌∙◌, ◌+◌, ap, subst, arith, ℕ, List, [], ◌∷◌, ◌++◌, sym, length}
use Rattle.std.proofs.lemmas.{List.length-append, Result.err_from_is_err_and}
use Rattle.std.specs.List.{slice_index_or}
use Rattle.plugin_requests.specs.Raw.{RawView}
use Rattle.tool_plan.proofs.Lists.{Front, front-next, front-whole, lists-stop}
use Rattle.tool_plan.proofs.plan.read_lists.Goals as goal

pub loop-name-preserved : goal.loop-name-preserved
loop-name-preserved g c =
    let before = c.loop-name.invariant in
    let read = c.in_ok-raw.ensures in
    let names = c.args.names.now in
    let i = c.loop-name.name-index in
    let front = c.loop-name.raws in
    let raw = c.in_ok-raw.raw in
    let files = g.F.Files.files c.args.files.now in
    let name = c.as_str.result.now in
    let grown : c.push.new.self ≡ front ++ raw ∷ [] = c.in_ok-push.ensures.ok in
    let at : name ≡ slice_index_or names i name =
    subst (λ (n : List ℕ). n ≡ slice_index_or names i n) (sym c.as_str.ensures) c.name-item.is in
    let next =
    front-next files names front i name raw c.loop-name-test.true at before.front
    (λ stored told. read.gives stored (before.keeps ∙ told)) in
    let longer : length (front ++ raw ∷ []) ≡ i + 1 = length-append front (raw ∷ []) ∙ ap (λ n. n + 1) before.count in
    record {
      keeps = read.keeps ∙ before.keeps;
      later = omega (arith, before.later, read.later);
      front = subst (λ (raws : List RawView). Front files names raws (i + 1)) (sym grown) next;
      count = ap length grown ∙ longer;
    }

pub returns-in_err-raw-clause-gives : goal.returns-in_err-raw-clause-gives
returns-in_err-raw-clause-gives g c =
    let p = err_from_is_err_and c.from_residual.result c.from_residual.ensures.1 in
    let before = c.loop-name.invariant in
    let names = c.args.names.now in
    let i = c.loop-name.name-index in
    let name = c.as_str.result.now in
    let at : name ≡ slice_index_or names i name =
    subst (λ (n : List ℕ). n ≡ slice_index_or names i n) (sym c.as_str.ensures) c.name-item.is in
    let stops =
    lists-stop (g.F.Files.files c.args.files.now) (g.F.Files.files c.loop-name.files)
    (g.F.Files.failure_count c.args.files.now) (g.F.Files.failure_count c.loop-name.files)
    (g.F.Files.failure_count c.read_list.new.files) names c.loop-name.raws i name c.in_err-raw.field-0.0
    before.keeps before.later c.loop-name-test.true at before.front
    c.in_err-raw.ensures.gives in
    rw (p.1, p.2) stops

pub returns-clause-gives : goal.returns-clause-gives
returns-clause-gives g c =
    front-whole (g.F.Files.files c.args.files.now) c.args.names.now c.loop-name.raws c.loop-name.name-index
    (omega (arith, c.loop-name-test.false)) c.loop-name.invariant.front
