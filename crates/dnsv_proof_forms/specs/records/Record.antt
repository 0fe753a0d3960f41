-- A record of the code, as the definitions of proofs read it.
use Rattle.std.specs.FinSet as set
use Rattle.std.specs.Prelude.{ℕ, Bool, true, false}
use Rattle.dnsv_zones.specs.chains.Nsec3Chain.{Nsec3Record}
use Rattle.dnsv_zones.specs.chains.NsecChain.{NsecRecord}
use Rattle.dnsv_zones.specs.chains.Rdata.{nsec_record, parameters_of}
use Rattle.dnsv_proof_forms.specs.declared.records.entry.NsecEntry.{NsecEntry}
use Rattle.dnsv_proof_forms.specs.declared.records.entry.Nsec3Entry.{Nsec3Entry}

-- the numbered record as one of its owner
abbrev pub read_entry : NsecEntry → NsecRecord
read_entry entry = nsec_record entry.owner.now entry.nsec.now

-- the flags of a usable record: Opt-Out, or none (RFC 5155 3.1.2, 8.2)
abbrev pub flags_of : Bool → ℕ
flags_of true = 1
flags_of false = 0

-- the usable NSEC3 record with the hash that its owner spells
abbrev pub read_nsec3 : Nsec3Entry → Nsec3Record
read_nsec3 entry = record {
  hash = entry.hash;
  next = entry.next_hash;
  flags = flags_of entry.is_opt_out;
  types = λ t. set.contains entry.types.now t;
  parameters = parameters_of entry.parameters.now;
}
