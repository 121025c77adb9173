-- A text no part of which tells of the host.
use Rattle.std.proofs.Common.{◌≡◌, ◌∙◌, ◌++◌, ◌||◌, List, [], ◌∷◌, ℕ, append-nil, arith, Bool, true, false, not, length}
use Rattle.std.proofs.lemmas.Bool.Decides.{nat_tests}
use Rattle.std.specs.Prelude.{◌==◌}
use Rattle.kernel_text.specs.Dump.{dump_of}
use Rattle.kernel_types.specs.declared.rule.Rule.{Rule}
use Rattle.packet_probe.specs.Value.{PacketValue}
use Rattle.pod_text.specs.{Fates.fates_from, Lines.{command_lines, command_part, is_summary, requests_asked}}
use Rattle.pod_text.specs.{Lines.{shows_host, text_of, trace_lines, where_asked}, declared.asked.Asked.Asked}
use Rattle.pod_text.specs.declared.asked.CommandPart.{CommandPart, TheVariants.{Lines, Summary}}
use Rattle.pod_workers.specs.World.{World, host_of}

no_packets : {X : Type 0} (p : X) (packets : List X) → not (length (p ∷ packets) == 0) ≡ false → ⊥
no_packets p packets none = grind (arith, nat_tests)

parts : (w : World) (part : CommandPart) (requests trace dump : List ℕ) (b : Bool) (rules : List Rule)
    (packets : List PacketValue)
    → (b || is_summary part || not (length packets == 0)) ≡ false
    → command_part part w ++ requests ++ trace ++ where_asked b dump ++ fates_from 0 rules packets
    ≡ command_lines w ++ requests ++ trace
parts w Lines requests trace dump false rules [] none =
    append-nil (command_lines w ++ requests ++ trace ++ []) ∙ append-nil (command_lines w ++ requests ++ trace)
parts w Lines requests trace dump false rules (p ∷ packets) none = absurd (no_packets p packets none)
parts w Lines requests trace dump true rules packets none = cc
parts w Summary requests trace dump false rules packets none = cc
parts w Summary requests trace dump true rules packets none = cc

pub without_host : (w : World) (asked : Asked) → shows_host asked ≡ false
    → text_of w asked ≡ command_lines w ++ requests_asked asked.requests w ++ where_asked asked.trace (trace_lines w)
unfolding text_of
without_host w asked none =
    parts w asked.commands (requests_asked asked.requests w) (where_asked asked.trace (trace_lines w))
    (dump_of (host_of w)) asked.dump
    (host_of w).rules asked.packets none
