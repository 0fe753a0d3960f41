-- What parts of proofs say rests on signatures of the RRsets of their records.
use Rattle.std.proofs.Common.{ℕ, List, Option, Some, None, ◌∙◌}
use Rattle.dnsv_names.specs.Name.{Labels, SameName}
use Rattle.dnsv_zones.specs.chains.Nsec3Chain.{Nsec3Record}
use Rattle.dnsv_zones.specs.chains.NsecChain.{NsecRecord}
use Rattle.dnsv_canonical.specs.Rrsets.{ReceivedRrset}
use Rattle.dnsv_denial.specs.gathering.Evidence.{HasZoneSignature, IsSecuredBy}
use Rattle.dnsv_denial.specs.gathering.EvidenceWords.{Chain, SaidByNsec, SaidByNsec3, evidence_said}
use Rattle.dnsv_denial.specs.gathering.EvidenceWords.Chain.{ByNsec, ByNsec3}
use Rattle.dnsv_canonical.specs.declared.number.RecordNumber.{RecordNumber}
use Rattle.dnsv_derivations.specs.Following.Parts.{IsMatchFor, IsSaidBy, IsWord}
use Rattle.dnsv_lines.specs.declared.line.denial.RecordPlace.{RecordPlace}
use Rattle.dnsv_lines.specs.declared.line.denial.Relation.{Relation}
use Rattle.dnsv_lines.specs.declared.line.denial.Relation.TheVariants as relation
use Rattle.dnsv_lines.specs.declared.line.denial.Role.{Role}
use Rattle.dnsv_lines.specs.declared.line.denial.Role.TheVariants as role

-- the same signature, which counts for the other too
pub signature_too : (S T : ℕ → Type 0) (rrset : ReceivedRrset) (zone : Labels) (by : HasZoneSignature S rrset zone) → T by.signature
    → HasZoneSignature T rrset zone
signature_too S T rrset zone by counts = record {
  signature = by.signature;
  secured = counts;
  rdata = by.rdata;
  is_signature = by.is_signature;
  rrsig = by.rrsig;
  read = by.read;
  signer = by.signer;
  unexpanded = by.unexpanded;
}

-- the same signatures, of which each counts for the other too
pub secured_too : (S T : ℕ → ℕ → Type 0) (rrsets : List ReceivedRrset) (zone : Labels) (k : ℕ) → ((s : ℕ) → S k s → T k s)
    → IsSecuredBy S rrsets zone k → IsSecuredBy T rrsets zone k
secured_too S T rrsets zone k too by = record {
  rrset = by.rrset;
  is_rrset = by.is_rrset;
  signed = signature_too (S k) (T k) by.rrset zone by.signed (too by.signed.signature by.signed.secured);
}

-- the same zone in another spelling
pub zone_as : (S : ℕ → ℕ → Type 0) (rrsets : List ReceivedRrset) (zone other : Labels) (k : ℕ) → SameName zone other
    → IsSecuredBy S rrsets zone k → IsSecuredBy S rrsets other k
zone_as S rrsets zone other k same by = record {
  rrset = by.rrset;
  is_rrset = by.is_rrset;
  signed = record {
    signature = by.signed.signature;
    secured = by.signed.secured;
    rdata = by.signed.rdata;
    is_signature = by.signed.is_signature;
    rrsig = by.signed.rrsig;
    read = by.signed.read;
    signer = by.signed.signer ∙ same;
    unexpanded = by.signed.unexpanded;
  };
}

module _ (S : ℕ → ℕ → Type 0) (rrsets : List ReceivedRrset) (zone : Labels) (number : RecordNumber) where
  abbrev Signed : Type 0
  Signed = IsSecuredBy S rrsets zone number.rrset

  nsec_signed : (Says : NsecRecord → Type 0) → SaidByNsec S rrsets zone Says number → Signed
  nsec_signed Says said = said.1.secured

  nsec3_signed : (Says : Nsec3Record → Type 0) → SaidByNsec3 S rrsets zone Says number → Signed
  nsec3_signed Says said = said.1.secured

  match_signed : (chain : Chain) (purpose : Role) (name : Labels) → IsMatchFor (evidence_said S rrsets zone chain) purpose name number
      → Signed
  match_signed ByNsec role.NextCloser name said = absurd said
  match_signed ByNsec role.Wildcard name (t, said) = nsec_signed _ said
  match_signed ByNsec role.Name name (t, said) = nsec_signed _ said
  match_signed ByNsec purpose name said = nsec_signed _ said
  match_signed (ByNsec3 parameters) role.NextCloser name said = absurd said
  match_signed (ByNsec3 parameters) role.Wildcard name (t, said) = nsec3_signed _ said
  match_signed (ByNsec3 parameters) role.Name name (t, said) = nsec3_signed _ said
  match_signed (ByNsec3 parameters) purpose name said = nsec3_signed _ said

  -- the RRset of the record has a signature that counts
  pub word_signed : (chain : Chain) (purpose : Role) (related : Relation) (name : Labels)
      → IsWord (evidence_said S rrsets zone chain) purpose related name number → Signed
  word_signed chain purpose relation.Matched name said = match_signed chain purpose name said
  word_signed ByNsec purpose relation.OptOut name said = absurd said
  word_signed (ByNsec3 parameters) purpose relation.NonTerminal name said = absurd said
  word_signed chain purpose relation.Apex name said = absurd said
  word_signed (ByNsec3 parameters) purpose related name said = nsec3_signed _ said
  word_signed ByNsec purpose related name said = nsec_signed _ said

  -- what the record says rests on nothing else
  module _ (T : ℕ → ℕ → Type 0) (by : IsSecuredBy T rrsets zone number.rrset) where
    pub nsec_by : (Says : NsecRecord → Type 0) → SaidByNsec S rrsets zone Says number → SaidByNsec T rrsets zone Says number
    nsec_by Says said = (said.0, record { is = said.1.is; secured = by }, said.2)

    pub nsec3_by : (Says : Nsec3Record → Type 0) → SaidByNsec3 S rrsets zone Says number → SaidByNsec3 T rrsets zone Says number
    nsec3_by Says said = (said.0, record { is = said.1.is; secured = by }, said.2)

    match_by : (chain : Chain) (purpose : Role) (name : Labels) → IsMatchFor (evidence_said S rrsets zone chain) purpose name number
        → IsMatchFor (evidence_said T rrsets zone chain) purpose name number
    match_by ByNsec role.NextCloser name said = said
    match_by ByNsec role.Wildcard name (t, said) = (t, nsec_by _ said)
    match_by ByNsec role.Name name (t, said) = (t, nsec_by _ said)
    match_by ByNsec purpose name said = nsec_by _ said
    match_by (ByNsec3 parameters) role.NextCloser name said = said
    match_by (ByNsec3 parameters) role.Wildcard name (t, said) = (t, nsec3_by _ said)
    match_by (ByNsec3 parameters) role.Name name (t, said) = (t, nsec3_by _ said)
    match_by (ByNsec3 parameters) purpose name said = nsec3_by _ said

    pub word_by : (chain : Chain) (purpose : Role) (related : Relation) (name : Labels)
        → IsWord (evidence_said S rrsets zone chain) purpose related name number
        → IsWord (evidence_said T rrsets zone chain) purpose related name number
    word_by chain purpose relation.Matched name said = match_by chain purpose name said
    word_by ByNsec purpose relation.OptOut name said = said
    word_by (ByNsec3 parameters) purpose relation.NonTerminal name said = said
    word_by chain purpose relation.Apex name said = said
    word_by (ByNsec3 parameters) purpose related name said = nsec3_by _ said
    word_by ByNsec purpose related name said = nsec_by _ said

-- what rests on signatures that count for S rests on the same for T, where each counts for it too
pub said_too : (S T : ℕ → ℕ → Type 0) (rrsets : List ReceivedRrset) (zone : Labels) (chain : Chain) (purpose : Role) (related : Relation)
    (name : Labels) (by : Option RecordPlace) → ((k s : ℕ) → S k s → T k s)
    → IsSaidBy S rrsets zone chain purpose related name by → IsSaidBy T rrsets zone chain purpose related name by
said_too S T rrsets zone chain purpose related name None too said = said
said_too S T rrsets zone chain purpose related name (Some by) too (place, said) = (
  place,
  word_by S rrsets zone by.number T
      (secured_too S T rrsets zone by.number.rrset (too by.number.rrset) (word_signed S rrsets zone by.number chain purpose related name said))
      chain purpose related name said,
)
