use Rattle.dnsv_moments.proofs.lemmas.validity.SaidLemmas.{said_depends}
use Rattle.dnsv_moment_laws.proofs.validity.what_is_said_depends_on_signatures.Goals as goal

pub returns : goal.returns
returns c = said_depends
