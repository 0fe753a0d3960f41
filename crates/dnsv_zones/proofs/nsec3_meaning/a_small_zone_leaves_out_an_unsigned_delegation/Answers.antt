use Rattle.dnsv_zones.proofs.lemmas.examples.OptOutExample.{whole_chain, no_collision, unsigned, left_out, form}
use Rattle.dnsv_zones.proofs.nsec3_meaning.a_small_zone_leaves_out_an_unsigned_delegation.Goals as goal

pub returns-clause-chain : goal.returns-clause-chain
returns-clause-chain c = whole_chain

pub returns-clause-apart : goal.returns-clause-apart
returns-clause-apart c = no_collision

pub returns-clause-unsigned : goal.returns-clause-unsigned
returns-clause-unsigned c = unsigned

pub returns-clause-left_out : goal.returns-clause-left_out
returns-clause-left_out c = left_out

pub returns-clause-form : goal.returns-clause-form
returns-clause-form c = form
