-- What a plugin's object asks its runtime for (CNI specification 1.1.0, section 1, `capabilities`).
use Rattle.std.specs.Prelude.{codes, Bool, false, Option, Some, option_and_then}
use Rattle.serde_json.specs.{Data.{Data, boolean}, Find.get}

abbrev pub is_true : Option Data → Bool
is_true (Some (boolean b)) = b
is_true found = false

-- the port mappings, whatever the plugin's type
abbrev pub asks_for_mappings : Data → Bool
asks_for_mappings d = is_true (option_and_then (get (codes "portMappings")) (get (codes "capabilities") d))
