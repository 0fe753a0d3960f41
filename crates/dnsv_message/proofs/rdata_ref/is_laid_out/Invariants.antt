use Rattle.std.proofs.Common.{List, ℕ}
use Rattle.dnsv_message.proofs.RdataLemmas.{NamesRead}
use Rattle.dnsv_message.proofs.rdata_ref.is_laid_out.Given as goal

-- some names stand, whatever would be written of them
abbrev pub invariant-loop-read : goal.invariant-loop-read
invariant-loop-read l = (written : List ℕ) × NamesRead l.octets l.layout l.start l.size l.place written l.read
