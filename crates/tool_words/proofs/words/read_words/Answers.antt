use Rattle.std.proofs.{Common.{◌∙◌, rules, sym, None, Some}, lemmas.Result.err_from_is_err_and}
use Rattle.tool_words.proofs.{Counts.source-within, Saying.{by_source, refused, says}}
use Rattle.tool_words.proofs.words.read_words.Goals as goal

pub returns-in_err-matches-clause-exact : goal.returns-in_err-matches-clause-exact
returns-in_err-matches-clause-exact c =
    let p = err_from_is_err_and c.from_residual.result c.from_residual.ensures.1 in
    rw (p.1, p.2) (refused c.args.words.now c.in_err-matches.field-0.0 c.in_err-matches.ensures)

pub returns-in_default-clause-exact : goal.returns-in_default-clause-exact
returns-in_default-clause-exact c =
    says c.args.words.now c.in_ok-matches.matches None c.in_ok-matches.ensures c.in_default.ensures

pub returns-in_default-2-clause-exact : goal.returns-in_default-2-clause-exact
returns-in_default-2-clause-exact c =
    by_source c.args.words.now c.in_ok-matches.matches c.in-Some.pods.now c.in_ok-named.named None
    c.in_ok-matches.ensures c.in-Some.ensures c.in_ok-named.ensures.named
    (sym c.in_default-2.is ∙ c.in_ok-source.ensures)

pub returns-clause-exact : goal.returns-clause-exact
returns-clause-exact c =
    rw (c.unwrap_or.ensures, c.threads.ensures.value, c.flag.ensures, c.flag-2.ensures)
    (by_source c.args.words.now c.in_ok-matches.matches c.in-Some.pods.now c.in_ok-named.named
    (Some c.in-Some-2.source) c.in_ok-matches.ensures c.in-Some.ensures c.in_ok-named.ensures.named
    (sym c.in-Some-2.is ∙ c.in_ok-source.ensures))

pub returns-clause-limits : goal.returns-clause-limits
returns-clause-limits c = record {
  threads_least = search rules;
  threads_most = search rules;
  source =
      source-within c.in_ok-named.named c.in-Some-2.source c.in_ok-named.ensures.stop
      (sym c.in_ok-source.ensures ∙ c.in-Some-2.is);
}
