-- What is wrong of an ADD before its first call.
use Rattle.plugin_session.proofs.Names.{◌≡◌, ℕ, Bool, true, false, List, [], ◌∷◌, Option, Some, None, map, refl, sym}
use Rattle.plugin_session.proofs.Names.{ap, ◌∙◌, suc, arith, codes, find, none-some, same_Some, bytes_eq-Decides}
use Rattle.plugin_session.proofs.Names.{option_map, if◌then◌else◌, bytes_eq, is_host_ns, Kind, add_refusal, Cause}
use Rattle.plugin_session.proofs.Names.{Command, first_unmet, Need, Task}
use Rattle.std.proofs.{Common.◌||◌, lemmas.Bool.or_parts}
use Rattle.std.specs.{Option.option_or, Prelude.Contains}
use Rattle.cni_errors.specs.CommandFields.{any_wrong, by_ip_argument, refusal_by, value_of_argument, wrong_for_add}
use Rattle.cni_errors.specs.declared.answer.{Cause.TheVariants.BadFields, WrongFields.WrongFields}
use Rattle.session_laws.specs.{Holds.{Known, Wrong, early_by, wrong_option}, Views.{PluginView, plugin_named}}
use Rattle.pod_file.specs.declared.command.Verb.TheVariants as verbs

-- the first of a list's images that passes is the image of the first that passes
find-if : {X Y : Type 0} (f : X → Y) (b : Bool) (x : X) (o : Option Y) (p : Option X) → o ≡ option_map f p
    → (if b then Some (f x) else o) ≡ option_map f (if b then Some x else p)
find-if f true x o p is = refl
find-if f false x o p is = is

pub find-map : {X Y : Type 0} (f : X → Y) (test : Y → Bool) (xs : List X)
    → find test (map f xs) ≡ option_map f (find (λ x. test (f x)) xs)
find-map f test [] = refl
find-map f test (x ∷ xs) =
    find-if f (test (f x)) x (find test (map f xs)) (find (λ y. test (f y)) xs) (find-map f test xs)

-- the first that passes is an element, and passes
first-there : {X : Type 0} (test : X → Bool) (b : Bool) (y x : X) (ys : List X) → test y ≡ b
    → (find test ys ≡ Some x → Contains ys x × (test x ≡ true)) → (if b then Some y else find test ys) ≡ Some x
    → Contains (y ∷ ys) x × (test x ≡ true)
first-there test true y x ys is more found =
    ((0, omega arith, same_Some y x found), ap test (sym (same_Some y x found)) ∙ is)
first-there test false y x ys is more found =
    let rest = more found in
    let less = rest.0.1 in
    ((suc rest.0.0, omega arith, rest.0.2), rest.1)

pub find-there : {X : Type 0} (test : X → Bool) (xs : List X) (x : X) → find test xs ≡ Some x
    → Contains xs x × (test x ≡ true)
find-there test [] x found = absurd (none-some x found)
find-there test (y ∷ ys) x found = first-there test (test y) y x ys refl (find-there test ys x) found

-- ---- the tests, in order

none-by : (wrong : WrongFields) (rest : Option Cause) (b : Bool) → any_wrong wrong ≡ b
    → option_or (if b then Some (BadFields wrong) else None) rest ≡ None → wrong.netns ≡ false
none-by wrong rest true is none = absurd (none-some (BadFields wrong) (sym none))
none-by wrong rest false is none =
    (or_parts wrong.netns (wrong.ifname || wrong.args)
    (or_parts wrong.container (wrong.netns || (wrong.ifname || wrong.args)) is).1).0

refusal-none : (wrong : WrongFields) (rest : Option Cause) → option_or (refusal_by wrong) rest ≡ None
    → wrong.netns ≡ false
refusal-none wrong rest none = none-by wrong rest (any_wrong wrong) refl none

-- an ADD whose words are right is about a container
pub words-container : (c : Command) → add_refusal c ≡ None → is_host_ns c.netns ≡ false
unfolding add_refusal
words-container c none = refusal-none (wrong_for_add c) (by_ip_argument c (value_of_argument (codes "IP") c.args)) none

pub words-wrong : (plugins : List PluginView) (c : Command) (t : Task) (cause : Cause) → add_refusal c ≡ Some cause
    → early_by plugins verbs.Add c t ≡ Some (Known cause)
words-wrong plugins c t cause is =
    ap (λ o.
    option_or (option_map Known o)
    (option_map Wrong (wrong_option (plugin_named plugins t.kind_name) t.options)))
    is

after-words : (plugins : List PluginView) (c : Command) (t : Task) (named : Option PluginView) → add_refusal c ≡ None
    → plugin_named plugins t.kind_name ≡ named
    → early_by plugins verbs.Add c t ≡ option_map Wrong (wrong_option named t.options)
after-words plugins c t named words is =
    ap (λ o.
    option_or (option_map Known o)
    (option_map Wrong (wrong_option (plugin_named plugins t.kind_name) t.options)))
    words
    ∙ ap (λ p. option_map Wrong (wrong_option p t.options)) is

pub type-wrong : (plugins : List PluginView) (c : Command) (t : Task) → add_refusal c ≡ None
    → plugin_named plugins t.kind_name ≡ None → early_by plugins verbs.Add c t ≡ Some (Wrong (codes "type"))
type-wrong plugins c t words is = after-words plugins c t None words is

pub option-wrong : (plugins : List PluginView) (c : Command) (t : Task) (p : PluginView) (need : Need)
    → add_refusal c ≡ None → plugin_named plugins t.kind_name ≡ Some p → first_unmet p.needs t.options ≡ Some need
    → early_by plugins verbs.Add c t ≡ Some (Wrong need.key)
option-wrong plugins c t p need words is unmet =
    after-words plugins c t (Some p) words is ∙ ap (λ o. option_map Wrong (option_map (λ (n : Need). n.key) o)) unmet

pub none-wrong : (plugins : List PluginView) (c : Command) (t : Task) (p : PluginView) → add_refusal c ≡ None
    → plugin_named plugins t.kind_name ≡ Some p → first_unmet p.needs t.options ≡ None
    → early_by plugins verbs.Add c t ≡ None
none-wrong plugins c t p words is met =
    after-words plugins c t (Some p) words is ∙ ap (λ o. option_map Wrong (option_map (λ (n : Need). n.key) o)) met

-- ---- of plugins as they are registered

abbrev pub view_by : {X : Type 0} → (X → List ℕ) → (X → List Need) → (X → List Kind) → X → PluginView
view_by name needs kinds x = record { name = name x; needs = needs x; kinds = kinds x }

-- as the views of a suite
abbrev pub views : {X : Type 0} → List X → (X → List ℕ) → (X → List Need) → (X → List Kind) → List PluginView
views xs name needs kinds = map (view_by name needs kinds) xs

module _ {X : Type 0} (xs : List X) (name : X → List ℕ) (needs : X → List Need) (kinds : X → List Kind) (c : Command)
    (t : Task) (word : List ℕ) (o : Option X) where
  pub named-view : (p : Option X) → word ≡ t.kind_name → o ≡ find (λ x. bytes_eq (name x) word) xs → o ≡ p
      → plugin_named (map (view_by name needs kinds) xs) t.kind_name ≡ option_map (view_by name needs kinds) p
  named-view p word_is found is =
      find-map (view_by name needs kinds) (λ v. bytes_eq v.name t.kind_name) xs
      ∙ ap (λ w. option_map (view_by name needs kinds) (find (λ x. bytes_eq (name x) w) xs)) (sym word_is)
      ∙ ap (option_map (view_by name needs kinds)) (sym found ∙ is)

  pub no-plugin : add_refusal c ≡ None → word ≡ t.kind_name → o ≡ find (λ x. bytes_eq (name x) word) xs → o ≡ None
      → early_by (map (view_by name needs kinds) xs) verbs.Add c t ≡ Some (Wrong (codes "type"))
  no-plugin words word_is found is =
      type-wrong (map (view_by name needs kinds) xs) c t words (named-view None word_is found is)

  pub plugin-unmet : (p : X) (need : Need) → add_refusal c ≡ None → word ≡ t.kind_name
      → o ≡ find (λ x. bytes_eq (name x) word) xs → o ≡ Some p → first_unmet (needs p) t.options ≡ Some need
      → early_by (map (view_by name needs kinds) xs) verbs.Add c t ≡ Some (Wrong need.key)
  plugin-unmet p need words word_is found is unmet =
      option-wrong (map (view_by name needs kinds) xs) c t (view_by name needs kinds p) need words
      (named-view (Some p) word_is found is) unmet

  pub plugin-right : (p : X) → add_refusal c ≡ None → word ≡ t.kind_name
      → o ≡ find (λ x. bytes_eq (name x) word) xs → o ≡ Some p → first_unmet (needs p) t.options ≡ None
      → early_by (map (view_by name needs kinds) xs) verbs.Add c t ≡ None
  plugin-right p words word_is found is met =
      none-wrong (map (view_by name needs kinds) xs) c t (view_by name needs kinds p) words
      (named-view (Some p) word_is found is) met

  -- the plugin is registered, and of the task's name
  pub plugin-there : (p : X) → word ≡ t.kind_name → o ≡ find (λ x. bytes_eq (name x) word) xs → o ≡ Some p
      → Contains xs p × (name p ≡ t.kind_name)
  plugin-there p word_is found is =
      let there = find-there (λ x. bytes_eq (name x) word) xs p (sym found ∙ is) in
      (there.0, (bytes_eq-Decides (name p) word).0 there.1 ∙ word_is)
