use Rattle.dnsv_remedy_laws.proofs.Questions.{told-alike}
use Rattle.dnsv_remedy_laws.proofs.laws.facts_that_are_alike_tell_the_same.Goals as goal

pub returns : goal.returns
returns c = told-alike
