-- How the sources of a zone are kept and asked. The clauses of `zone_denials`, `sources_of` and `HeldSource::source` are public, and cite
-- `AreZoneDenials`, `AreHeldSources`, `IsHeldIn`, `IsSourceIn`, `chain_of` and `held_chain`.
use Rattle.std.specs.Prelude.{◌≡◌, ◌≢◌, ◌⊎◌, ◌↔◌, ◌≤◌, ℕ, IsTrue, List, [], ◌∷◌, Contains, length, map}
use Rattle.std.specs.List.{AllByRecursion}
use Rattle.std.specs.List.Sorted.{IsStrictlySortedBy}
use Rattle.dnsv_names.specs.Name.{Labels, rightmost}
use Rattle.dnsv_zones.specs.chains.Nsec3Chain.{Parameters}
use Rattle.dnsv_zones.specs.chains.Rdata.{parameters_of}
use Rattle.dnsv_zones.specs.forms.RecordWords.{RecordWords}
use Rattle.dnsv_canonical.specs.declared.number.RecordNumber.{RecordNumber}
use Rattle.dnsv_proof_forms.specs.QuestionHashes.{AreHashedFor}
use Rattle.dnsv_denial.specs.gathering.ByZone.{AreGatheredRecords}
use Rattle.dnsv_denial.specs.gathering.Gathered.{AreNsecs, AreNsec3s}
use Rattle.dnsv_proof_forms.specs.records.AskedHash.{HasHashesOf}
use Rattle.dnsv_proof_forms.specs.records.Record.{read_nsec3}
use Rattle.dnsv_proof_forms.specs.words.Asked.{asked_name, said_word}
use Rattle.dnsv_proof_forms.specs.words.ChainSaid.{HasHashes}
use Rattle.dnsv_denial.specs.gathering.EvidenceWords.{Chain}
use Rattle.dnsv_proof_forms.specs.records.Numbers.{number_cmp}
use Rattle.dnsv_proof_forms.specs.words.SaidAt.{IsSaidAt}
use Rattle.dnsv_denial.specs.gathering.EvidenceWords.Chain.{ByNsec, ByNsec3}
use Rattle.dnsv_proof_forms.specs.declared.records.chain_records.ChainRecords.{ChainRecords}
use Rattle.dnsv_proof_forms.specs.declared.records.chain_records.ChainRecords.TheVariants.{Nsec, Nsec3}
use Rattle.dnsv_proof_forms.specs.declared.words.asked.AskedName.{AskedName}
use Rattle.dnsv_proof_forms.specs.declared.words.asked.AskedWord.{AskedWord}
use Rattle.dnsv_gaps.specs.Asking.{Asking, asking}
use Rattle.dnsv_gaps.specs.Denials.{IsDenialNumber}
use Rattle.dnsv_gaps.specs.Sources.{AreSources, source_said}
use Rattle.dnsv_gaps.specs.Unusable.{AreUnusable}
use Rattle.dnsv_gaps.specs.declared.asked.AskedQuestion.{AskedQuestion}
use Rattle.dnsv_gaps.specs.declared.sources.HeldSource.{HeldSource}
use Rattle.dnsv_gaps.specs.declared.sources.HeldSource.TheVariants as held
use Rattle.dnsv_gaps.specs.declared.sources.ZoneDenials.{ZoneDenials}
use Rattle.dnsv_gaps.specs.declared.sources.ZoneSource.{ZoneSource}

-- ---- what is kept of a zone

-- the zone at or above the question's name
abbrev pub zone_in : AskedQuestion → ℕ → Labels
zone_in question labels = rightmost question.name.now labels

-- its denials: whether there are any, their records, and which of these can't be used
pub record AreZoneDenials (question : AskedQuestion) (zone : ZoneDenials) : Type 0 where
  pub within : zone.labels ≤ length question.name.now
  pub has_denials : IsTrue zone.has_denials ↔ ((k : ℕ) × IsDenialNumber (asking question) (zone_in question zone.labels) k)
  pub records : AreGatheredRecords (IsDenialNumber (asking question) (zone_in question zone.labels)) question.facts.now.rrsets
      (zone_in question zone.labels) zone.records
  pub unusable : AreUnusable (asking question) (zone_in question zone.labels) zone.unusable.items

-- ---- a source

-- which one it is
abbrev pub chain_of : ChainRecords → Chain
chain_of (Nsec entries) = ByNsec
chain_of (Nsec3 hashed) = ByNsec3 (parameters_of hashed.now.parameters.now)

-- the records are those of the zone's denials; of NSEC3 whatever their parameters
abbrev pub AreItsRecords : Asking → Labels → ChainRecords → Type 0
AreItsRecords a zone (Nsec entries) = AreNsecs a.basis.rrsets (λ number. IsDenialNumber a zone number.rrset) entries.now
AreItsRecords a zone (Nsec3 hashed) =
    AreNsec3s a.basis.rrsets zone (λ number. IsDenialNumber a zone number.rrset) hashed.now.entries.now

-- it is one of the zone, with the hashes of the names that are asked for
pub record IsSourceIn (question : AskedQuestion) (source : ZoneSource) : Type 0 where
  pub within : source.labels ≤ length question.name.now
  pub hashes : HasHashes question.name.now source.records
  pub its : AreItsRecords (asking question) (zone_in question source.labels) source.records

-- what its records say
abbrev pub said_in : AskedQuestion → ZoneSource → RecordWords RecordNumber
said_in question source = source_said (asking question) (zone_in question source.labels) (chain_of source.records)

-- so of the name that is asked for
abbrev pub Says : AskedQuestion → ZoneSource → AskedName → AskedWord → RecordNumber → Type 0
Says question source asked word = said_word (said_in question source) word (asked_name question.name.now asked)

-- the numbers are those of all records that say so
pub record AreSaying (question : AskedQuestion) (source : ZoneSource) (asked : AskedName) (word : AskedWord)
    (numbers : List RecordNumber) : Type 0 where
  pub rising : IsStrictlySortedBy number_cmp numbers
  pub members : (number : RecordNumber) → Contains numbers number ↔ Says question source asked word number

-- ---- the sources of a zone

abbrev pub held_chain : HeldSource → Chain
held_chain (held.Nsec entries) = ByNsec
held_chain (held.Nsec3 hashed) = ByNsec3 (parameters_of hashed.parameters.now)

-- the records are those of the zone, and the hashes those of the question
abbrev pub IsHeldIn : AskedQuestion → ℕ → HeldSource → Type 0
IsHeldIn question labels (held.Nsec entries) = AreNsecs question.facts.now.rrsets
    (λ number. IsDenialNumber (asking question) (zone_in question labels) number.rrset) entries.now
IsHeldIn question labels (held.Nsec3 hashed) = (hashed.name.now ≡ question.name.now) × HasHashesOf hashed
    × AreNsec3s question.facts.now.rrsets (zone_in question labels)
    (λ number. IsDenialNumber (asking question) (zone_in question labels) number.rrset) hashed.entries.now

-- those of the zone, in order
pub record AreHeldSources (question : AskedQuestion) (labels : ℕ) (sources : List HeldSource) : Type 0 where
  pub chains : AreSources (asking question) (zone_in question labels) (map held_chain sources)
  pub each : AllByRecursion (IsHeldIn question labels) sources

-- what one of them is added by: the NSEC records, if there are any
abbrev pub IsNsecSource : ZoneDenials → HeldSource → Type 0
IsNsecSource zone (held.Nsec entries) = entries.now ≡ zone.records.nsecs.items
IsNsecSource zone (held.Nsec3 hashed) = ⊥

abbrev pub AreNsecSources : ZoneDenials → List HeldSource → Type 0
AreNsecSources zone more = ((zone.records.nsecs.items ≡ []) × (more ≡ []))
    ⊎ ((zone.records.nsecs.items ≢ []) × ((source : HeldSource) × IsNsecSource zone source × (more ≡ source ∷ [])))

-- the NSEC3 records with the parameters, if there are any
abbrev pub HasEntryWith : Parameters → ZoneDenials → Type 0
HasEntryWith parameters zone =
    (place : ℕ) × IsSaidAt (λ entry. (read_nsec3 entry).parameters ≡ parameters) zone.records.nsec3s place

abbrev pub IsNsec3Source : AskedQuestion → ZoneDenials → Parameters → HeldSource → Type 0
IsNsec3Source question zone parameters (held.Nsec entries) = ⊥
IsNsec3Source question zone parameters (held.Nsec3 hashed) =
    AreHashedFor question.hashes.now zone.records.nsec3s parameters hashed

abbrev pub AreNsec3Sources : AskedQuestion → ZoneDenials → Parameters → List HeldSource → Type 0
AreNsec3Sources question zone parameters more = ((¬ HasEntryWith parameters zone) × (more ≡ []))
    ⊎ (HasEntryWith parameters zone
    × ((source : HeldSource) × IsNsec3Source question zone parameters source × (more ≡ source ∷ [])))
