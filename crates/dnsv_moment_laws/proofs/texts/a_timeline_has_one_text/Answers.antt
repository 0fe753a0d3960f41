use Rattle.dnsv_moment_laws.proofs.lemmas.OneTextLemmas.{one_timeline_text}
use Rattle.dnsv_moment_laws.proofs.texts.a_timeline_has_one_text.Goals as goal

pub returns : goal.returns
returns c = one_timeline_text
