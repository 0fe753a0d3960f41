use Rattle.std.proofs.lemmas.Bool.{false≢true}
use Rattle.std.proofs.lemmas.Bool.Decides.{Decides-eqb}
use Rattle.dnsv_chain.proofs.DelegatedLemmas.{leads_as, none_lead, one_leads}
use Rattle.dnsv_chain.proofs.delegated.leads_in.Goals as goal

pub returns-in-Some : goal.returns-in-Some
returns-in-Some c =
    let test = Decides-eqb c.in-Some.leading.0 c.args.digest_type.0 in (
      λ same. leads_as c.args.records.now c.in-Some.leading.0 c.args.digest_type.0 c.in-Some.ensures (test.0 same),
      λ leads. test.1 (one_leads c.args.records.now c.in-Some.leading.0 c.args.digest_type.0 c.in-Some.ensures leads),
    )

pub returns-in-None : goal.returns-in-None
returns-in-None c =
    (λ no_truth. absurd (false≢true no_truth), λ leads. absurd (none_lead c.args.records.now c.args.digest_type.0 c.in-None.ensures leads))
