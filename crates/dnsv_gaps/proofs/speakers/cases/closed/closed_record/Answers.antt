use Rattle.std.specs.FinSet as set
use Rattle.std.proofs.Common.{refl, subst, sym, ◌∙◌}
use Rattle.dnsv_gaps.specs.Parts.{IsInEvidence}
use Rattle.dnsv_gaps.proofs.SayingLemmas.{its_evidence}
use Rattle.dnsv_gaps.proofs.speakers.cases.closed.closed_record.Goals as goal

pub facts_of_rrset-requires : goal.facts_of_rrset-requires
facts_of_rrset-requires c =
    subst (IsInEvidence c.args.question.now.facts.now.rrsets) (sym c.number-number.ensures)
    (its_evidence c.args.question.now c.args.source.now c.requires.source c.args.place c.requires.place)

pub returns : goal.returns
returns c = record {
  labels_are = refl;
  number_is = c.number-number.ensures;
  types = λ t. set.contains c.types.result.now t;
  types_at = c.types.ensures;
  by_dname = (λ yes. sym c.contains.ensures ∙ yes, λ has. c.contains.ensures ∙ has);
  rrset = c.in_ok-facts_of_rrset.ensures;
}
