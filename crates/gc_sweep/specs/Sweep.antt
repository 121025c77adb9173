-- What a GC leaves, and what it answers.
use Rattle.std.specs.{List.list_all, Prelude.{◌≡◌, ℕ, ◌+◌, Bool, true, false, ◌||◌, List, [], ◌∷◌, is_some}}
use Rattle.std.specs.Prelude.{if◌then◌else◌}
use Rattle.cni_result.specs.declared.version.Version.{Version}
use Rattle.kernel_types.specs.{Apply.Calls.tags_of, Replies.is_fault, Sound.IsSound, declared.call.Kind.Kind}
use Rattle.kernel_types.specs.declared.{call.Kind.TheVariants.Links, object.{Host.Host, Tag.Tag}}
use Rattle.net_conf.specs.declared.list.NetList.{NetList}
use Rattle.pod_file.specs.declared.command.{Command.Command, ValidAtt.ValidAtt}
use Rattle.cni_verbs.specs.{Progress.is_gc, Script.{early_ending, swept}}
use Rattle.cni_errors.specs.declared.answer.Ending.{Ending, TheVariants.Yes}
use Rattle.gc_sweep.specs.{Keep.{stays, keep, IsWithin}, Trace.{Made, IsRun, Ends, host_from, is_blamed}}

-- the list ends a GC before its first call: it is older than the verb, or disables it
abbrev pub is_early : Version → Bool → Bool
is_early version disabled = is_some (early_ending version disabled)

-- the list doesn't end a GC before its first call
abbrev pub IsCollected : NetList → Type 0
IsCollected list = is_early list.version list.disable_gc ≡ false

-- a GC that is answered Yes leaves exactly what is kept
abbrev pub YesKeeps : Type 0
YesKeeps = (list : NetList) (c : Command) (host : Host) (es : List Made) → is_gc c.verb ≡ true → IsSound host
    → IsRun list c host es → Ends list c es Yes → host_from host es ≡ keep c.network c.valid host

-- it loses nothing that is kept, and adds nothing
pub record Bounds (c : Command) (old new : Host) : Type 0 where
  pub lower : IsWithin (keep c.network c.valid old) new
  pub upper : IsWithin new old

-- so does one that was stopped anywhere
abbrev pub AlwaysBounded : Type 0
AlwaysBounded = (list : NetList) (c : Command) (host : Host) (es : List Made) → is_gc c.verb ≡ true → IsSound host
    → IsRun list c host es → Bounds c host (host_from host es)

-- an object is kept, or a call about its kind and tag was faulty
abbrev pub is_excused : List ℕ → List ValidAtt → List Made → Kind → Tag → Bool
is_excused network valid es kind tag = stays network valid tag || is_blamed es kind tag

-- addresses and routes count as links
pub record AreExcused (network : List ℕ) (valid : List ValidAtt) (es : List Made) (host : Host) : Type 0 where
  pub of_kind : (kind : Kind) → list_all (is_excused network valid es kind) (tags_of host kind) ≡ true
  pub addresses : list_all (λ a. is_excused network valid es Links a.tag) host.addresses ≡ true
  pub routes : list_all (λ r. is_excused network valid es Links r.tag) host.routes ≡ true

-- what one that came to its end leaves over is excused
abbrev pub OverExcused : Type 0
OverExcused = (list : NetList) (c : Command) (host : Host) (es : List Made) (ending : Ending) → is_gc c.verb ≡ true
    → IsCollected list → IsSound host → IsRun list c host es → Ends list c es ending
    → AreExcused c.network c.valid es (host_from host es)

-- the numbers of the faulty calls, counted from the one after `made`
abbrev pub fault_numbers : ℕ → List Made → List ℕ
fault_numbers made [] = []
fault_numbers made (e ∷ es) =
    if is_fault e.reply then (made + 1) ∷ fault_numbers (made + 1) es else fault_numbers (made + 1) es

-- without a fault it ends with Yes, and else with a refusal that names all calls that were faulty
abbrev pub FaultsNamed : Type 0
FaultsNamed = (list : NetList) (c : Command) (es : List Made) (ending : Ending) → is_gc c.verb ≡ true → IsCollected list
    → Ends list c es ending → ending ≡ swept (fault_numbers 0 es)
