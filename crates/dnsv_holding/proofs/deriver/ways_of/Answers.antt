use Rattle.dnsv_holding.proofs.deriver.ways_of.Goals as goal

pub returns-clause-ways : goal.returns-clause-ways
returns-clause-ways c = rw c.evidence_of-evidence.ensures at c.first_ways.ensures.ways

pub returns-clause-all : goal.returns-clause-all
returns-clause-all c = rw c.evidence_of-evidence.ensures at c.first_ways.ensures.all
