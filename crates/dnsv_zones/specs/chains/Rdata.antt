-- The RDATA of NSEC and NSEC3 records, as the definitions of chains read it.
use Rattle.std.specs.FinSet as set
use Rattle.dnsv_names.specs.Name.{Labels}
use Rattle.dnsv_records.specs.declared.nsec.Nsec.{Nsec}
use Rattle.dnsv_records.specs.declared.nsec3.Nsec3Parameters.{Nsec3Parameters}
use Rattle.dnsv_zones.specs.chains.NsecChain.{NsecRecord}
use Rattle.dnsv_zones.specs.chains.Nsec3Chain.{Parameters}

-- the NSEC record of an owner
abbrev pub nsec_record : Labels → Nsec → NsecRecord
nsec_record owner nsec = record { owner = owner; next = nsec.next; types = λ t. set.contains nsec.types t }

abbrev pub parameters_of : Nsec3Parameters → Parameters
parameters_of parameters = record { iterations = parameters.iterations.0; salt = parameters.salt }
