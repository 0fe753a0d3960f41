use Rattle.dnsv_message.proofs.FrameLemmas.FramerLemmas.{whole_stream, one_feeding, first_messages}
use Rattle.dnsv_message.proofs.streams.framer.any_cutting.Goals as goal

pub returns-clause-whole : goal.returns-clause-whole
returns-clause-whole c = whole_stream

pub returns-clause-one : goal.returns-clause-one
returns-clause-one c = one_feeding

pub returns-clause-first : goal.returns-clause-first
returns-clause-first c = first_messages
