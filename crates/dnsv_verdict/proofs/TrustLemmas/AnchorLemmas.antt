-- What is settled at a name is settled from a trust anchor at or above it.
use Rattle.std.proofs.Common.{◌≡◌, ◌+◌, ◌-◌, ℕ, List, sym, ◌∙◌, subst, inl, inr, ⊎_elim}
use Rattle.std.specs.Prelude.{Some, slice_get}
use Rattle.dnsv_names.specs.Tree.AncestorLaws.{rightmost_above}
use Rattle.dnsv_names.specs.Name.{Labels, SameName, IsAtOrBelow, rightmost}
use Rattle.dnsv_names.specs.Tree.{wildcard_of}
use Rattle.dnsv_names.specs.Tree.TreeLaws.{at_or_below_trans, same_at_or_below}
use Rattle.dnsv_records.proofs.OneRecord.{one_rrsig}
use Rattle.dnsv_records.specs.Rrsig.{IsRrsig}
use Rattle.dnsv_records.specs.declared.rrsig.Rrsig.{Rrsig}
use Rattle.dnsv_zones.specs.forms.Forms.{NoNameForm, NoDataForms, UnsignedCutForm}
use Rattle.dnsv_zones.specs.forms.Parts.{OptsOut}
use Rattle.dnsv_zones.specs.forms.RecordWords.{words}
use Rattle.dnsv_zones.specs.zones.Types.{Denies, IsUnsignedDelegation}
use Rattle.dnsv_canonical.specs.Rrsets.{IsNumbered, ReceivedRrset}
use Rattle.dnsv_verifier.specs.Admissible.{DnskeyRecord}
use Rattle.dnsv_verifier.specs.declared.answer.Answer.{Answer}
use Rattle.dnsv_verifier.specs.declared.entry.Entry.{Entry}
use Rattle.dnsv_anchors.specs.Anchor.{anchor_owner}
use Rattle.dnsv_chain.specs.Anchor.{IsAnchorMatch}
use Rattle.dnsv_chain.specs.Trusted.{IsTrusted, anchored, delegated, IsGoodByTrust, IsKeyOf, IsSecured}
use Rattle.dnsv_anchors.specs.declared.anchor.Anchor.{Anchor}
use Rattle.dnsv_anchors.specs.declared.anchor.Anchor.TheVariants.{Ds, Key}
use Rattle.dnsv_denial.specs.gathering.Evidence.{IsSecuredBy}
use Rattle.dnsv_denial.specs.proving.FirstProof.{CanProveNoData, CanProveNoName}
use Rattle.dnsv_denial.specs.unsigned_cuts.Cuts.{HasUnsignedCut}
use Rattle.dnsv_denial.specs.gathering.EvidenceWords.{Chain, evidence_said}
use Rattle.dnsv_denial.specs.gathering.EvidenceWords.Chain.{ByNsec, ByNsec3}
use Rattle.dnsv_canonical.specs.declared.number.RecordNumber.{RecordNumber}
use Rattle.dnsv_verdict.proofs.CaseLemmas.{some_is_one}
use Rattle.dnsv_verdict.specs.Secure.{IsSecuredAt}
use Rattle.dnsv_verdict.specs.Settled.{IsSettled}
use Rattle.dnsv_chain.specs.Basis.{Basis, HasAnchor, hopeful}
use Rattle.dnsv_verdict.specs.Verdict.{IsVerdictAt, IsSettledBy}
use Rattle.dnsv_verdict.specs.declared.verdict.Verdict.TheVariants.{Indeterminate}

-- an anchor at or above a name is at or above each name below it
anchor_above : (anchors : List Anchor) (name above : Labels) → IsAtOrBelow name above → HasAnchor anchors above → HasAnchor anchors name
anchor_above anchors name above below has = (has.0, has.1, at_or_below_trans name above (anchor_owner has.0) below has.2)

-- ---- trust

-- an anchor that matches a key is one of the key's owner
matched_owner : (anchor : Anchor) (key : DnskeyRecord) → IsAnchorMatch anchor key → SameName key.owner (anchor_owner anchor)
matched_owner (Ds owner ds) key matching = sym matching.same_owner
matched_owner (Key owner rdata) key matching = sym matching.0

-- the signer is the owner of the set that its key stands in
signer_of_set : (set : ReceivedRrset) (key : DnskeyRecord) (signer : Labels) → IsKeyOf set key → SameName key.owner signer → IsAtOrBelow signer set.owner
signer_of_set set key signer stands same = same_at_or_below signer set.owner (sym (subst (λ owner. SameName owner signer) stands.owner same))

module _ (meaning : Entry → Answer) (moment : ℕ) (rrsets : List ReceivedRrset) (anchors : List Anchor) where
  trusted_anchor : {set : ReceivedRrset} → IsTrusted meaning moment rrsets anchors set → HasAnchor anchors set.owner
  trusted_anchor (anchored {set = set} {key = key} among signs matching) =
      let owner : Labels = anchor_owner matching.anchor in
      (matching.anchor, matching.among, same_at_or_below set.owner owner (subst (λ name. SameName name owner) signs.stands.owner (matched_owner matching.anchor key matching.matching)))
  trusted_anchor (delegated {parent = parent} {ds = ds} {set = set} {above = above} {key = key} trusted stands among signed delegates set_among signs) =
      let signer : Labels = signed.rrsig.signer in
      let at : IsAtOrBelow set.owner ds.owner =
      same_at_or_below set.owner ds.owner (sym (subst (λ name. SameName ds.owner name) signs.stands.owner delegates.usable.matching.same_owner)) in
      let below : IsAtOrBelow ds.owner parent.owner =
      at_or_below_trans ds.owner signer parent.owner signed.good.admissible.signer.above (signer_of_set parent above signer stands signed.good.admissible.zone_key.owner) in
      anchor_above anchors set.owner parent.owner (at_or_below_trans set.owner ds.owner parent.owner at below) (trusted_anchor trusted)

  signer_anchor : (rrset : ReceivedRrset) (rrsig : Rrsig) → IsGoodByTrust meaning moment rrsets anchors rrset rrsig → HasAnchor anchors rrsig.signer
  signer_anchor rrset rrsig good =
      anchor_above anchors rrsig.signer good.set.owner (signer_of_set good.set good.key rrsig.signer good.stands good.good.admissible.zone_key.owner) (trusted_anchor good.trusted)

  owner_anchor : (rrset : ReceivedRrset) (rrsig : Rrsig) → IsGoodByTrust meaning moment rrsets anchors rrset rrsig → HasAnchor anchors rrset.owner
  owner_anchor rrset rrsig good = anchor_above anchors rrset.owner rrsig.signer good.good.admissible.signer.above (signer_anchor rrset rrsig good)

  -- ---- signatures by their numbers

  abbrev S : ℕ → ℕ → Type 0
  S = IsSecured meaning moment rrsets anchors

  by_owner : (k s : ℕ) (rrset : ReceivedRrset) → S k s → IsNumbered rrsets k rrset → HasAnchor anchors rrset.owner
  by_owner k s rrset secured numbered =
      let same : secured.rrset ≡ rrset = some_is_one (sym secured.numbered.1 ∙ numbered.1) in
      subst (λ (each : ReceivedRrset). HasAnchor anchors each.owner) same (owner_anchor secured.rrset secured.rrsig secured.good)

  by_signer : (k s : ℕ) (rrset : ReceivedRrset) (rdata : List ℕ) (rrsig : Rrsig) → S k s → IsNumbered rrsets k rrset
      → IsNumbered rrset.signatures s rdata → IsRrsig rdata rrsig → HasAnchor anchors rrsig.signer
  by_signer k s rrset rdata rrsig secured numbered signature read =
      let same : secured.rrset ≡ rrset = some_is_one (sym secured.numbered.1 ∙ numbered.1) in
      let here : slice_get rrset.signatures (s - 1) ≡ Some secured.rdata =
      subst (λ (each : ReceivedRrset). slice_get each.signatures (s - 1) ≡ Some secured.rdata) same secured.signature.1 in
      let octets : secured.rdata ≡ rdata = some_is_one (sym here ∙ signature.1) in
      let one : secured.rrsig ≡ rrsig = one_rrsig rdata secured.rrsig rrsig (subst (λ each. IsRrsig each secured.rrsig) octets secured.is) read in
      subst (λ (each : Rrsig). HasAnchor anchors each.signer) one (signer_anchor secured.rrset secured.rrsig secured.good)

  zone_anchor : (zone : Labels) (k : ℕ) → IsSecuredBy S rrsets zone k → HasAnchor anchors zone
  zone_anchor zone k by =
      let signed = by.signed in
      anchor_above anchors zone signed.rrsig.signer (same_at_or_below zone signed.rrsig.signer (sym signed.signer))
      (by_signer k signed.signature by.rrset signed.rdata signed.rrsig signed.secured by.is_rrset signed.is_signature signed.read)

  -- ---- what records of a zone say

  absent_anchor : (zone : Labels) (chain : Chain) (name : Labels) (n : RecordNumber) → (evidence_said S rrsets zone chain).Absent name n → HasAnchor anchors zone
  absent_anchor zone ByNsec name n said = zone_anchor zone n.rrset said.1.secured
  absent_anchor zone (ByNsec3 parameters) name n said = zone_anchor zone n.rrset said.1.secured

  empty_non_terminal_anchor : (zone : Labels) (chain : Chain) (name : Labels) (n : RecordNumber) → (evidence_said S rrsets zone chain).EmptyNonTerminal name n → HasAnchor anchors zone
  empty_non_terminal_anchor zone ByNsec name n said = zone_anchor zone n.rrset said.1.secured
  empty_non_terminal_anchor zone (ByNsec3 parameters) name n said = absurd said

  types_anchor : (zone : Labels) (chain : Chain) (name : Labels) (Says : (ℕ → Type 0) → Type 0) (n : RecordNumber)
      → (evidence_said S rrsets zone chain).TypesAt name Says n → HasAnchor anchors zone
  types_anchor zone ByNsec name Says n said = zone_anchor zone n.rrset said.1.secured
  types_anchor zone (ByNsec3 parameters) name Says n said = zone_anchor zone n.rrset said.1.secured

  opted_anchor : (zone : Labels) (chain : Chain) (name : Labels) (n : RecordNumber) → (evidence_said S rrsets zone chain).OptedOut name n → HasAnchor anchors zone
  opted_anchor zone ByNsec name n said = absurd said
  opted_anchor zone (ByNsec3 parameters) name n said = zone_anchor zone n.rrset said.1.secured

  -- ---- the cases

  set_anchor : (name : Labels) (Such : ReceivedRrset → Rrsig → Type 0) (k s : ℕ) → IsSecuredAt S rrsets name Such k s → HasAnchor anchors name
  set_anchor name Such k s at = anchor_above anchors name at.rrset.owner (same_at_or_below name at.rrset.owner (sym at.owner)) (by_owner k s at.rrset at.secured at.is_rrset)

  no_name_anchor : (name : Labels) → CanProveNoName S rrsets name → HasAnchor anchors name
  no_name_anchor name can =
      let zone = rightmost name can.0 in
      let form : NoNameForm (words (evidence_said S rrsets zone can.2)) zone name = can.3 in
      anchor_above anchors name zone (rightmost_above name can.0)
      (absent_anchor zone can.2 (wildcard_of (rightmost name form.labels)) form.wildcard.0 form.wildcard.1)

  data_anchor : (zone : Labels) (chain : Chain) (name : Labels) (rtype : ℕ) → NoDataForms (words (evidence_said S rrsets zone chain)) zone name rtype → HasAnchor anchors zone
  data_anchor zone chain name rtype (inl form) = types_anchor zone chain name (λ has. Denies has rtype) form.types.0 form.types.1
  data_anchor zone chain name rtype (inr (inl form)) = empty_non_terminal_anchor zone chain name form.empty_non_terminal.0 form.empty_non_terminal.1
  data_anchor zone chain name rtype (inr (inr (inl form))) = types_anchor zone chain (wildcard_of (rightmost name form.labels)) (λ has. Denies has rtype) form.types.0 form.types.1
  data_anchor zone chain name rtype (inr (inr (inr form))) = empty_non_terminal_anchor zone chain (wildcard_of (rightmost name form.labels)) form.empty_non_terminal.0 form.empty_non_terminal.1

  no_data_anchor : (name : Labels) (rtype : ℕ) → CanProveNoData S rrsets name rtype → HasAnchor anchors name
  no_data_anchor name rtype can =
      let zone = rightmost name can.0 in
      anchor_above anchors name zone (rightmost_above name can.0) (data_anchor zone can.2 name rtype can.3)

  cut_anchor : (name : Labels) → HasUnsignedCut S rrsets name → HasAnchor anchors name
  cut_anchor name (labels, inl cut) =
      let zone = rightmost name cut.1 in
      let form : UnsignedCutForm (words (evidence_said S rrsets zone cut.3)) zone name (rightmost name labels) = cut.4 in
      anchor_above anchors name zone (rightmost_above name cut.1) (types_anchor zone cut.3 (rightmost name labels) IsUnsignedDelegation form.types.0 form.types.1)
  cut_anchor name (labels, inr (inl cut)) =
      let at = rightmost name labels in
      anchor_above anchors name cut.rrset.owner
      (at_or_below_trans name at cut.rrset.owner (rightmost_above name labels) (same_at_or_below at cut.rrset.owner (sym cut.owner)))
      (by_owner cut.k cut.signature cut.rrset cut.secured cut.is_rrset)
  cut_anchor name (labels, inr (inr cut)) =
      let zone = rightmost name cut.0 in
      let said = evidence_said S rrsets zone cut.2 in
      let form : OptsOut said zone name labels = cut.3 in
      anchor_above anchors name zone (rightmost_above name cut.0)
      (⊎_elim (λ (out : (n : RecordNumber) × said.OptedOut (rightmost name (labels + 1)) n). opted_anchor zone cut.2 (rightmost name (labels + 1)) out.0 out.1)
      (λ (out : (n : RecordNumber) × said.OptedOut (wildcard_of (rightmost name labels)) n). opted_anchor zone cut.2 (wildcard_of (rightmost name labels)) out.0 out.1)
      form.opted_out)

  settled_anchor : (name : Labels) (rtype : ℕ) → IsSettled S rrsets name rtype → HasAnchor anchors name
  settled_anchor name rtype (inl has) = set_anchor name _ has.0 has.1 has.2
  settled_anchor name rtype (inr (inl has)) = set_anchor name _ has.1.0 has.1.1 has.1.2
  settled_anchor name rtype (inr (inr (inl can))) = no_name_anchor name can
  settled_anchor name rtype (inr (inr (inr (inl can)))) = no_data_anchor name rtype can
  settled_anchor name rtype (inr (inr (inr (inr (inl cut))))) = cut_anchor name cut
  settled_anchor name rtype (inr (inr (inr (inr (inr opt_out))))) = set_anchor name _ opt_out.0 opt_out.1 opt_out.2

settles_anchor : (basis : Basis) (name : Labels) (rtype : ℕ) → IsSettledBy basis name rtype → HasAnchor basis.anchors name
settles_anchor basis name rtype settles = settled_anchor basis.meaning basis.moment basis.rrsets basis.anchors name rtype settles

-- without an anchor the verdict is the last one
pub indeterminate : (basis : Basis) (name : Labels) (rtype : ℕ) → ¬ HasAnchor basis.anchors name → IsVerdictAt basis name rtype Indeterminate
indeterminate basis name rtype none = (
  λ settles. none (settles_anchor basis name rtype settles),
  λ may. none (settles_anchor (hopeful basis) name rtype may),
  none,
)
