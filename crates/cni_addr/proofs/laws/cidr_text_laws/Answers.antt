use Rattle.cni_addr.proofs.CidrTexts.{spelled_is_cidr, network_spelled_is_read, network_read_is_spelled}
use Rattle.cni_addr.proofs.{CidrTexts.network_written_is_spelled, Spellings.IsSpelling-exact}
use Rattle.cni_addr.specs.CidrText.{cidr_text}
use Rattle.cni_addr.proofs.laws.cidr_text_laws.Goals as goal

pub returns : goal.returns
returns c = record {
  kept = spelled_is_cidr;
  spelling =
      IsSpelling-exact _ _ _ cidr_text network_spelled_is_read network_read_is_spelled network_written_is_spelled;
}
