use Rattle.dnsv_message.proofs.RdataLemmas.{NamesRead}
use Rattle.dnsv_message.proofs.rdata.rdata_at.Given as goal

-- the first octets and some names are written
abbrev pub invariant-loop-read : goal.invariant-loop-read
invariant-loop-read l = NamesRead l.octets l.layout l.start l.size l.place l.written.items l.read
