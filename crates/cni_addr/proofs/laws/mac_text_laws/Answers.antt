use Rattle.cni_addr.proofs.MacTexts.{mac_spelled_is_read, mac_read_is_spelled, mac_written_is_spelled}
use Rattle.cni_addr.proofs.Spellings.{IsSpelling-exact}
use Rattle.cni_addr.specs.MacText.{mac_text}
use Rattle.cni_addr.proofs.laws.mac_text_laws.Goals as goal

pub returns : goal.returns
returns c = IsSpelling-exact _ _ _ mac_text mac_spelled_is_read mac_read_is_spelled mac_written_is_spelled
