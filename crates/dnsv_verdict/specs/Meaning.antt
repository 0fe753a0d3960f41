-- What a verdict says of zones.
use Rattle.std.specs.Prelude.{◌⊎◌, ◌+◌, ℕ, List}
use Rattle.std.specs.List.{AllByRecursion}
use Rattle.dnsv_names.specs.Name.{Labels, rightmost}
use Rattle.dnsv_names.specs.Tree.{wildcard_of}
use Rattle.dnsv_records.specs.declared.rrsig.Rrsig.{Rrsig}
use Rattle.dnsv_zones.specs.zones.Lookup.{IsLookup}
use Rattle.dnsv_zones.specs.zones.Lookup.Answer.{Held, NoName, NoData}
use Rattle.dnsv_zones.specs.zones.Zone.{Zone, Holds}
use Rattle.dnsv_canonical.specs.Rrsets.{ReceivedRrset}
use Rattle.dnsv_canonical.specs.SignedData.{IsExpanded}
use Rattle.dnsv_denial.specs.proving.ProofMeaning.{HasProofWithoutCollision}
use Rattle.dnsv_denial.specs.unsigned_cuts.CutMeaning.{HasRecord, IsCoveredEnd, MeansCut}
use Rattle.dnsv_denial.specs.gathering.EvidenceWords.{Chain, evidence_said}
use Rattle.dnsv_canonical.specs.declared.number.RecordNumber.{RecordNumber}
use Rattle.dnsv_verdict.specs.Insecure.{IsOptOutWildcardCut}
use Rattle.dnsv_verdict.specs.Secure.{IsSecuredAt}
use Rattle.dnsv_verdict.specs.declared.link.Link.{Link}
use Rattle.dnsv_verdict.specs.declared.verdict.Verdict.{Verdict}
use Rattle.dnsv_verdict.specs.declared.verdict.Verdict.TheVariants.{SecureAnswer, SecureAlias, SecureNoName, SecureNoData, Insecure}

-- ---- answers

-- A record of the signer says that there is no closer name than the wildcard that the signature is of; and each zone
-- that has the record in its chain answers from that wildcard, with each type that the wildcard has (RFC 4592 3.3.1,
-- RFC 4035 5.3.4, RFC 5155 8.8).
pub record IsShownFromWildcard
    (Secured : ℕ → ℕ → Type 0) (rrsets : List ReceivedRrset) (name : Labels) (rrsig : Rrsig) : Type 0 where
  pub chain : Chain
  pub number : RecordNumber
  pub shown : (evidence_said Secured rrsets rrsig.signer chain).Absent (rightmost name (rrsig.labels + 1)) number
  pub meaning : (zone : Zone) (any : ℕ) → HasRecord rrsets rrsig.signer number zone
      → Holds zone (wildcard_of (rightmost name rrsig.labels)) any
      → IsLookup zone name any (Held (wildcard_of (rightmost name rrsig.labels)))

-- by signature s, RRset k is the name's own, or is shown to be from a wildcard
abbrev pub IsOwnOrFromWildcard : (ℕ → ℕ → Type 0) → List ReceivedRrset → Labels → ℕ → ℕ → Type 0
IsOwnOrFromWildcard Secured rrsets name =
    IsSecuredAt Secured rrsets name
    (λ rrset rrsig. (¬ IsExpanded rrset.owner rrsig) ⊎ IsShownFromWildcard Secured rrsets name rrsig)

-- each alias on a way is the name's own, or is shown to be from a wildcard
abbrev pub AreOwnOrFromWildcards : (ℕ → ℕ → Type 0) → List ReceivedRrset → List Link → Type 0
AreOwnOrFromWildcards Secured rrsets =
    AllByRecursion (λ link. IsOwnOrFromWildcard Secured rrsets link.name link.rrset link.signature)

-- ---- cuts

-- The cut is that of the first signature that Opt-Out leaves open. A record of its signer with the Opt-Out flag covers
-- the cut, which is an unsigned end, if it is a node at all, in each zone that has the record in its chain.
pub record MeansOptOutWildcardCut
    (Secured : ℕ → ℕ → Type 0) (rrsets : List ReceivedRrset) (name : Labels) (t : ℕ) (cut : Labels) : Type 0 where
  pub opt_out : IsOptOutWildcardCut Secured rrsets name t cut
  pub chain : Chain
  pub covered : IsCoveredEnd rrsets opt_out.earliest.such.rrsig.signer
      ((evidence_said Secured rrsets opt_out.earliest.such.rrsig.signer chain).OptedOut) cut

-- ---- verdicts

-- What the verdict says is so in each zone that has the records which it rests on in its chain: the answer is from the
-- wildcard; there is no such name, whatever type is asked, or no data; the cut is a delegation without DS, or a name
-- that Opt-Out may leave out. DS records that can't be used say nothing of a zone but themselves.
abbrev pub IsTrueOfZones : (ℕ → ℕ → Type 0) → List ReceivedRrset → Labels → ℕ → Verdict → Type 0
IsTrueOfZones Secured rrsets name t (SecureAnswer k s) = IsOwnOrFromWildcard Secured rrsets name k s
IsTrueOfZones Secured rrsets name t (SecureAlias k s) = IsOwnOrFromWildcard Secured rrsets name k s
IsTrueOfZones Secured rrsets name t (SecureNoName proof) =
    (zone : Zone) (any : ℕ) → HasProofWithoutCollision rrsets name proof zone → IsLookup zone name any NoName
IsTrueOfZones Secured rrsets name t (SecureNoData proof) =
    (zone : Zone) → HasProofWithoutCollision rrsets name proof zone
    → (source : Labels) × IsLookup zone name t (NoData source)
IsTrueOfZones Secured rrsets name t (Insecure cut) =
    MeansCut Secured rrsets name cut ⊎ MeansOptOutWildcardCut Secured rrsets name t cut
IsTrueOfZones Secured rrsets name t verdict = Unit {0}
