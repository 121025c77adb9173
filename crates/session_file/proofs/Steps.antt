-- One more step through the options of a task, and how many tasks a list has.
use Rattle.std.proofs.Common.{◌≡◌, ℕ, false, List, [], ◌∷◌, ◌++◌, Ok, sym}
use Rattle.serde_json.specs.Data.{Data, Members, member}
use Rattle.serde_json.proofs.Views.{items_len-items_view}
use Rattle.cni_json.proofs.EachLemmas.{with_prefix-more}
use Rattle.cni_json.specs.Each.{with_prefix}
use Rattle.net_conf.specs.Members.{is_null}
use Rattle.plugin_registry.specs.declared.ask.Opt.{Opt}
use Rattle.pod_file.specs.declared.place.Place.{Place}
use Rattle.session_file.specs.Tasks.{option_of, options_of}

-- an option that is read joins those that were found
pub options-found : (front : List Opt) (o : Opt) (place : Place) (key : List ℕ) (d : Data) (ms : Members)
    → is_null d ≡ false → option_of place key d ≡ Ok o
    → with_prefix front (options_of place (member key d ms)) ≡ with_prefix (front ++ o ∷ []) (options_of place ms)
options-found front o place key d ms there read =
    rw (there, read) (sym (with_prefix-more front o (options_of place ms)))

pub ruleset found = (options-found)

pub ruleset counted = (items_len-items_view)
