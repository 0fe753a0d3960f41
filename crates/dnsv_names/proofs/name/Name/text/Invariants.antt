use Rattle.std.proofs.Common.{length}
use Rattle.arrayvec.specs.ArrayString.{array_string_len}
use Rattle.dnsv_names.proofs.TextLemmas.{Writes}
use Rattle.dnsv_names.proofs.name.Name.text.Given as goal

abbrev pub invariant-loop-rest : goal.invariant-loop-rest
invariant-loop-rest l = Writes l.self l.text.bytes (array_string_len l.text) l.rest

abbrev pub decreases-loop-rest : goal.decreases-loop-rest
decreases-loop-rest l = length l.rest
