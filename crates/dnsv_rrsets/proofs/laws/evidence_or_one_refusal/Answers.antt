use Rattle.dnsv_rrsets.proofs.OneReason.{evidence_or_reason, evidence_or_refused, one_reason}
use Rattle.dnsv_rrsets.proofs.laws.evidence_or_one_refusal.Goals as goal

pub returns-clause-some : goal.returns-clause-some
returns-clause-some c = λ held message is.
    evidence_or_reason (record {
      dnskey = c.records_are_decided.ensures.dnskey;
      ds = c.records_are_decided.ensures.ds;
      nsec3 = c.records_are_decided.ensures.nsec3;
      bitmap = c.records_are_decided.ensures.bitmap;
      one_nsec3 = c.record_laws.ensures.one_nsec3;
    }) held message (c.messages_fit.ensures message is)

pub returns-clause-one : goal.returns-clause-one
returns-clause-one c = one_reason

pub returns-clause-never_both : goal.returns-clause-never_both
returns-clause-never_both c = evidence_or_refused
