-- What becomes of packets, one JSON object a line.
use Rattle.std.specs.Prelude.{ℕ, ◌+◌, List, [], ◌∷◌, ◌++◌, codes}
use Rattle.serde_json.specs.Data.{Data, boolean, object, no_members, put}
use Rattle.cni_json.specs.{Json.line_of, Members.{addr_data, number_data, ◌▷◌}}
use Rattle.kernel_types.specs.declared.rule.Rule.{Rule}
use Rattle.packet_probe.specs.{Fate.fate_by, Value.PacketValue, declared.packet.Fate.Fate}

-- the fate of the packet at this place, from 0
unfoldable pub fate_data : ℕ → Fate → Data
fate_data place fate = object (no_members
    ▷ put (codes "accepted") (boolean fate.accepted)
    ▷ put (codes "dport") (number_data fate.dport)
    ▷ put (codes "dst") (addr_data fate.dst)
    ▷ put (codes "masqueraded") (boolean fate.masqueraded)
    ▷ put (codes "packet") (number_data place)
    ▷ put (codes "rewritten") (boolean fate.rewritten))

-- the lines of these packets by the rules, the first of which is at this place
abbrev pub fates_from : ℕ → List Rule → List PacketValue → List ℕ
fates_from place rules [] = []
fates_from place rules (p ∷ ps) = line_of (fate_data place (fate_by rules p)) ++ fates_from (place + 1) rules ps
