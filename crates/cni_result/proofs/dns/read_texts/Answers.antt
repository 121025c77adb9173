use Rattle.std.proofs.Common.{rules}
use Rattle.cni_result.specs.Dns.{texts_at, text_of}
use Rattle.cni_result.proofs.dns.read_texts.Goals as goal

pub returns : goal.returns
unfolding texts_at
returns g c =
    λ wrong tells. c.read_list_or.ensures wrong (record { tells = λ e is. search rules }) (text_of wrong)
    (record { gives = λ member r is. search rules })
