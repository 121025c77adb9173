use Rattle.cni_addr.proofs.AddrTexts.{spelled_is_read, read_is_spelled, written_is_spelled}
use Rattle.cni_addr.proofs.Spellings.{IsSpelling-exact}
use Rattle.cni_addr.specs.AddrText.{addr_text}
use Rattle.cni_addr.proofs.laws.addr_text_laws.Goals as goal

pub returns : goal.returns
returns c = IsSpelling-exact _ _ _ addr_text spelled_is_read read_is_spelled written_is_spelled
