use Rattle.std.proofs.{Common.{◌≡◌, rules, [], ◌∷◌, ◌++◌, IsUtf8, sym, subst, ap, ◌∙◌}, lemmas.Str.IsUtf8-append}
use Rattle.serde_json.specs.View.{view}
use Rattle.cni_json.specs.Json.{json_of}
use Rattle.cni_json.proofs.{Ascending.KeysAscend-json_of, LineFeed.IsUtf8-line_feed, Lines.json_of-text}
use Rattle.cni_json.proofs.writing.line.Goals as goal

pub returns-clause-utf8 : goal.returns-clause-utf8
returns-clause-utf8 c =
    let whole : c.push.new.self.items ≡ c.in-Ok.text.items ++ 10 ∷ [] = search rules in
    subst IsUtf8 (sym whole) (IsUtf8-append c.in-Ok.text.items (10 ∷ []) c.in-Ok.ensures.utf8 IsUtf8-line_feed)

pub returns-clause-again : goal.returns-clause-again
returns-clause-again c =
    let whole : c.push.new.self.items ≡ c.in-Ok.text.items ++ 10 ∷ [] = search rules in
    λ shallow. ap json_of whole ∙ json_of-text c.in-Ok.text.items
    (view c.args.value.now) c.in-Ok.ensures.utf8 c.in-Ok.ensures.reads_back c.requires shallow

pub returns-clause-keys : goal.returns-clause-keys
returns-clause-keys c =
    λ shallow. KeysAscend-json_of _ (view c.args.value.now) (json_of-text c.in-Ok.text.items
    (view c.args.value.now) c.in-Ok.ensures.utf8 c.in-Ok.ensures.reads_back c.requires shallow)
