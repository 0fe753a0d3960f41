-- What the records of a zone among the evidence say of names, each by its number.
use Rattle.std.specs.Prelude.{◌≡◌, ℕ, List}
use Rattle.std.specs.declared.cmp.Ordering.TheVariants.{Less}
use Rattle.dnsv_names.specs.Name.{Labels}
use Rattle.dnsv_zones.specs.chains.HashedNames.{sha1_hash}
use Rattle.dnsv_zones.specs.chains.Nsec3Chain.{Nsec3Record, Parameters}
use Rattle.dnsv_zones.specs.chains.NsecChain.{NsecRecord}
use Rattle.dnsv_zones.specs.forms.RecordWords.{RecordWords}
use Rattle.dnsv_zones.specs.forms.Said.{nsec_records_say, nsec3_records_say}
use Rattle.dnsv_canonical.specs.Rrsets.{ReceivedRrset}
use Rattle.dnsv_denial.specs.gathering.Evidence.{IsNsecAt, IsNsec3At}
use Rattle.dnsv_proof_forms.specs.records.ParametersOrder.{parameters_cmp}
use Rattle.dnsv_canonical.specs.declared.number.RecordNumber.{RecordNumber}

-- the NSEC record with the number says so
abbrev pub SaidByNsec : (ℕ → ℕ → Type 0) → List ReceivedRrset → Labels → (NsecRecord → Type 0) → RecordNumber → Type 0
SaidByNsec Secured rrsets zone Says number = (nsec : NsecRecord) × IsNsecAt Secured rrsets zone number nsec × Says nsec

-- the NSEC3 record with the number says so
abbrev pub SaidByNsec3
    : (ℕ → ℕ → Type 0) → List ReceivedRrset → Labels → (Nsec3Record → Type 0) → RecordNumber → Type 0
SaidByNsec3 Secured rrsets zone Says number =
    (nsec3 : Nsec3Record) × IsNsec3At Secured rrsets zone number nsec3 × Says nsec3

-- what NSEC records of the zone say
abbrev pub nsec_said : (ℕ → ℕ → Type 0) → List ReceivedRrset → Labels → RecordWords RecordNumber
nsec_said Secured rrsets zone = nsec_records_say zone (SaidByNsec Secured rrsets zone)

-- what NSEC3 records of the zone with these parameters say
abbrev pub nsec3_said : (ℕ → ℕ → Type 0) → List ReceivedRrset → Labels → Parameters → RecordWords RecordNumber
nsec3_said Secured rrsets zone parameters =
    nsec3_records_say (sha1_hash parameters) (SaidByNsec3 Secured rrsets zone)

-- ---- chains

-- a chain of a zone: that of its NSEC records, or one of NSEC3 records with the same parameters
pub data Chain : Type 0 where
  ByNsec : Chain
  ByNsec3 : Parameters → Chain

-- what the records of the chain say
abbrev pub evidence_said : (ℕ → ℕ → Type 0) → List ReceivedRrset → Labels → Chain → RecordWords RecordNumber
evidence_said Secured rrsets zone ByNsec = nsec_said Secured rrsets zone
evidence_said Secured rrsets zone (ByNsec3 parameters) = nsec3_said Secured rrsets zone parameters

-- the chain of NSEC records goes before those of NSEC3 records, and these are in the order of their parameters
pub data GoesBefore : Chain → Chain → Type 0 where
  nsec_first : (parameters : Parameters) → GoesBefore ByNsec (ByNsec3 parameters)
  by_parameters : (first other : Parameters) → parameters_cmp first other ≡ Less
      → GoesBefore (ByNsec3 first) (ByNsec3 other)
