use Rattle.dnsv_explain_laws.proofs.lemmas.marks.MarkLemmas.{hope_of_report}
use Rattle.dnsv_explain_laws.proofs.laws.marked_entries_settle_what_is_hoped.Goals as goal

pub returns : goal.returns
returns c = λ basis name t report unknown lines after verdict told pends is marks at.
    hope_of_report c.more_evidence_takes_no_trust_away.ensures.numbers c.trust_depends_on_what_is_asked.ensures.numbers basis name t report unknown
    lines after verdict told pends is marks at
