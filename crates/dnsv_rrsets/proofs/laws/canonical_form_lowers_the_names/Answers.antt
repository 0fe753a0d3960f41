use Rattle.dnsv_rrsets.proofs.FormLemmas.{lowered_types_lower, other_types_keep, messages_parts}
use Rattle.dnsv_rrsets.proofs.laws.canonical_form_lowers_the_names.Goals as goal

pub returns-clause-lowered : goal.returns-clause-lowered
returns-clause-lowered c = lowered_types_lower

pub returns-clause-kept : goal.returns-clause-kept
returns-clause-kept c = other_types_keep

pub returns-clause-parts : goal.returns-clause-parts
returns-clause-parts c = messages_parts c.messages_fit.ensures 1
