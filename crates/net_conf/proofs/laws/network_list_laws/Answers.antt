use Rattle.net_conf.proofs.{ChainFacts.network_list_at-each, ListFacts.{header_at-ok, list_of-ok}}
use Rattle.net_conf.proofs.laws.network_list_laws.Goals as goal

pub returns : goal.returns
returns c = record { well_formed = list_of-ok; name = header_at-ok; plugins = network_list_at-each }
