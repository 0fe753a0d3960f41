use Rattle.std.proofs.Common.{[]}
use Rattle.dnsv_message.proofs.FrameLemmas.CaptureLemmas.{some_answer, messages_alone, zero_length_alone, torn_frame_alone, capture_octets}
use Rattle.dnsv_message.proofs.FrameLemmas.{one_framing}
use Rattle.dnsv_message.proofs.streams.capture.one_answer.Goals as goal

pub returns-clause-some : goal.returns-clause-some
returns-clause-some c = some_answer

pub returns-clause-messages : goal.returns-clause-messages
returns-clause-messages c = λ file a b x y. (one_framing file a b [] [] x.frames y.frames).0

pub returns-clause-messages_alone : goal.returns-clause-messages_alone
returns-clause-messages_alone c = messages_alone

pub returns-clause-zero_length_alone : goal.returns-clause-zero_length_alone
returns-clause-zero_length_alone c = zero_length_alone

pub returns-clause-torn_frame_alone : goal.returns-clause-torn_frame_alone
returns-clause-torn_frame_alone c = torn_frame_alone

pub returns-clause-octets : goal.returns-clause-octets
returns-clause-octets c = capture_octets
