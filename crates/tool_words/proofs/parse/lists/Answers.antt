use Rattle.std.proofs.Common.{◌≡◌, ◌∙◌, ap, List, [], map, Option, Some, None, option_map, unwrap_or}
use Rattle.std.specs.{Borrow.Bor, Option.UnwrapsOrElse}
use Rattle.clap.specs.{Matches.found_of, Walk.Text}
use Rattle.clap.proofs.WalkLemmas.{raw_values-rows}
use Rattle.tool_words.specs.Command.{lists_word}
use Rattle.tool_words.proofs.parse.lists.Goals as goal

or_none : (o : Option (Bor (List (Bor Text)))) (r : Bor (List (Bor Text))) → UnwrapsOrElse o (λ x. x.now ≡ []) r
    → map (λ (v : Bor Text). v.now) r.now
    ≡ unwrap_or (option_map (λ (s : Bor (List (Bor Text))). map (λ (v : Bor Text). v.now) s.now) o) []
or_none None r is = ap (map (λ (v : Bor Text). v.now)) is
or_none (Some x) r is = ap (λ (s : Bor (List (Bor Text))). map (λ (v : Bor Text). v.now) s.now) is

pub returns : goal.returns
returns c =
    or_none _ _ c.unwrap_or_default.ensures
    ∙ ap (λ o. unwrap_or o []) (c.get_strs.ensures ∙ raw_values-rows (found_of c.args.matches.now) lists_word)
