use Rattle.std.proofs.Common.{refl}
use Rattle.dnsv_message.specs.Encoding.{message_octets}
use Rattle.dnsv_message.proofs.EncodingLemmas.{encoded_message}
use Rattle.dnsv_message.proofs.laws.the_encoding_is_the_message.Goals as goal

pub returns : goal.returns
returns c = λ message is. encoded_message message is (message_octets message) refl
