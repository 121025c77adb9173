-- What is known of the answers of a stored closure.
use Rattle.std.specs.Prelude.{List}
use Rattle.plugin_registry.specs.{Needs.IsAskable, declared.ask.{Ask.Ask, Need.Need}}

-- What a closure with this postcondition answers, asked as the needs allow, is as the relation says. (How the closure's
-- own types hold the ask and the answer is given first: `now` is the ask behind its reference, and `for_ok` speaks of
-- an answer that isn't want of memory.)
abbrev pub Keeps : {G B R X : Type 0} → (B → Ask) → (R → (X → Type 0) → Type 0) → List Need → (G → B → R → Type 0)
    → (Ask → X → Type 0) → Type 0
Keeps {G} {B} {R} {X} now for_ok needs post relation =
    (alloc : G) (ask : B) (r : R) → IsAskable needs (now ask) → post alloc ask r → for_ok r (relation (now ask))
