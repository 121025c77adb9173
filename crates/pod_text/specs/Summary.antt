-- A world in numbers, on one line.
use Rattle.std.specs.{List.count_by, Prelude.{ℕ, Bool, true, false, List, length, codes, Option, Some}}
use Rattle.serde_json.specs.Data.{Data, object, no_members, put}
use Rattle.cni_json.specs.{Json.line_of, Members.{number_data, ◌▷◌}}
use Rattle.cni_errors.specs.declared.answer.Answer.{Answer, TheVariants.{Added, Yes, Skipped, Versions}}
use Rattle.pod_workers.specs.{Plans.commands_of, World.{World, host_of}}

-- the command was answered, and neither refused nor stopped, nor did it run out of memory
unfoldable pub is_done : Option Answer → Bool
is_done (Some (Added added)) = true
is_done (Some Yes) = true
is_done (Some (Skipped skip)) = true
is_done (Some (Versions version)) = true
is_done answer = false

-- how many calls were made, commands there are, leases there are at the end, and commands that were done
unfoldable pub summary_data : World → Data
summary_data w = object (no_members
    ▷ put (codes "calls") (number_data (length w.history))
    ▷ put (codes "commands") (number_data (length (commands_of w.plan)))
    ▷ put (codes "leases") (number_data (length (host_of w).leases))
    ▷ put (codes "ok") (number_data (count_by is_done w.answers)))

abbrev pub summary_line : World → List ℕ
summary_line w = line_of (summary_data w)
