use Rattle.std.proofs.Common.{rules, ◌≡◌, [], ◌∷◌, ◌++◌, string_bytes, string_cmp, sym, ap, ◌∙◌, subst, append_assoc}
use Rattle.std.specs.{List.Sorted.IsStrictlySortedBy, Map.keys_of}
use Rattle.serde_json.proofs.Views.{Entry}
use Rattle.serde_json.specs.{Data.put, View.view}
use Rattle.cni_json.proofs.KeptMembers.{put-where_last, where_last}
use Rattle.cni_json.specs.Members.{members_of}
use Rattle.cni_json.proofs.members.kept_members.Goals as goal

pub loop-key-preserved-in_ok-put_value : goal.loop-key-preserved-in_ok-put_value
loop-key-preserved-in_ok-put_value g c =
    let l = c.loop-key in
    let done = l.invariant.0 in
    let e : Entry = (c.in-Some.key.now, c.in-Some.value.now) in
    let left = c.next.new.self in
    let all : c.args.members.now.entries ≡ done ++ e ∷ left =
    l.invariant.1 ∙ ap (λ es. done ++ es) c.in-Some.ensures.steps in
    let sorted = subst (λ es. IsStrictlySortedBy string_cmp (keys_of es)) all c.iter-key-items.ensures.ordered in
    let named : c.as_str.result.now ≡ string_bytes e.0 = search rules in
    let more : members_of c.put_value.new.self
    ≡ put (string_bytes e.0) (view e.1) (members_of l.kept) = search rules in (
      done ++ e ∷ [],
      all ∙ sym (append_assoc done (e ∷ []) left),
      λ test tells.
          more
          ∙ ap (put (string_bytes e.0) (view e.1)) (l.invariant.2 test tells)
          ∙ put-where_last test done e left sorted
          (ap test (sym named) ∙ sym (tells.tells _ _ c.passes.ensures) ∙ c.if-passes.true),
    )

pub loop-key-preserved : goal.loop-key-preserved
loop-key-preserved g c =
    let l = c.loop-key in
    let done = l.invariant.0 in
    let e : Entry = (c.in-Some.key.now, c.in-Some.value.now) in
    let left = c.next.new.self in
    let all : c.args.members.now.entries ≡ done ++ e ∷ left =
    l.invariant.1 ∙ ap (λ es. done ++ es) c.in-Some.ensures.steps in
    let named : c.as_str.result.now ≡ string_bytes e.0 = search rules in (
      done ++ e ∷ [],
      all ∙ sym (append_assoc done (e ∷ []) left),
      λ test tells. l.invariant.2 test tells
          ∙ where_last test done e (ap test (sym named) ∙ sym (tells.tells _ _ c.passes.ensures) ∙ c.if-passes.false),
    )
