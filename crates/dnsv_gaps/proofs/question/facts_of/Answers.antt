use Rattle.dnsv_gaps.proofs.question.facts_of.Goals as goal

pub returns : goal.returns
returns c = record {
  labels = c.labels-labels.ensures.count;
  is_anchored = c.has_anchor-is_anchored.ensures;
  goals = c.in_ok-goals.ensures;
  dnames = c.in_ok-dnames.ensures;
  speakers = c.in_ok-speakers.ensures;
  parents = c.in_ok-parents.ensures;
}
