use Rattle.std.proofs.Common.{length}
use Rattle.arrayvec.specs.ArrayString.{array_string_len}
use Rattle.dnsv_message.specs.Following.{labels_at}
use Rattle.dnsv_message.proofs.FollowLemmas.Writing.{Writes}
use Rattle.dnsv_message.proofs.name_ref.NameRef.push_text.Given as goal

abbrev pub invariant-loop-place : goal.invariant-loop-place
invariant-loop-place g l = Writes l.octets l.initial.place l.initial.text.bytes (array_string_len l.initial.text) l.text.bytes (array_string_len l.text) l.place

abbrev pub decreases-loop-place : goal.decreases-loop-place
decreases-loop-place g l = length (labels_at l.octets l.place)
