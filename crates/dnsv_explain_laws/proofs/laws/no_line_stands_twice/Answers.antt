use Rattle.dnsv_explain_laws.proofs.lemmas.whole.OnceLemmas.{explanation_once}
use Rattle.dnsv_explain_laws.proofs.laws.no_line_stands_twice.Goals as goal

pub returns : goal.returns
returns c = λ explained t links last verdict lines is. explanation_once explained t links last verdict lines is
