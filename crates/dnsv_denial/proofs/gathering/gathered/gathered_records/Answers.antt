use Rattle.dnsv_denial.proofs.gathering.gathered.gathered_records.Goals as goal

pub returns : goal.returns
returns c = record {
  nsecs = c.in_ok-nsecs.ensures;
  nsec3s = rw c.in_ok-new.ensures c.in_ok-records.ensures;
}
