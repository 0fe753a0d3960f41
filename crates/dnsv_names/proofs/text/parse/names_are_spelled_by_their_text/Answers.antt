use Rattle.dnsv_names.proofs.TextLemmas.{text_of_spells}
use Rattle.dnsv_names.proofs.text.parse.names_are_spelled_by_their_text.Goals as goal

pub returns : goal.returns
returns c = text_of_spells
