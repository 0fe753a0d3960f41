-- What evidence proves depends on which signatures are secured, and more of them prove no less, also among more RRsets.
use Rattle.std.proofs.Common.{◌+◌, ℕ, List, inl, inr}
use Rattle.dnsv_names.specs.Name.{Labels, rightmost}
use Rattle.dnsv_zones.specs.chains.Nsec3Chain.{Nsec3Record}
use Rattle.dnsv_zones.specs.chains.NsecChain.{NsecRecord}
use Rattle.dnsv_zones.specs.forms.Forms.{Words}
use Rattle.dnsv_zones.specs.forms.RecordWords.{RecordWords, words}
use Rattle.dnsv_canonical.specs.Rrsets.{IsNumbered, ReceivedRrset}
use Rattle.dnsv_denial.specs.gathering.Evidence.{IsNsecOf, IsNsec3Of, IsRecordAt, IsSecuredBy}
use Rattle.dnsv_denial.specs.proving.FirstProof.{CanProveNoCloser, CanProveNoData, CanProveNoName, IsFirstNoData, IsFirstNoName, IsFirstProof, ProofRecords}
use Rattle.dnsv_denial.specs.unsigned_cuts.Cuts.{no_ds, no_usable_ds, opt_out, IsUnsignedDelegationCut, IsUnusableDsCut, IsOptOutCut, IsFewest, IsMost, IsUnsignedCut, HasUnsignedCut, HasOptedOutNextCloser}
use Rattle.dnsv_denial.specs.gathering.EvidenceWords.{Chain, SaidByNsec, SaidByNsec3, evidence_said}
use Rattle.dnsv_proof_forms.specs.records.Numbers.{number_cmp}
use Rattle.dnsv_denial.specs.gathering.EvidenceWords.Chain.{ByNsec, ByNsec3}
use Rattle.dnsv_canonical.specs.declared.number.RecordNumber.{RecordNumber}
use Rattle.dnsv_denial.proofs.lemmas.more.FormLemmas.{SaysNoLess, no_name_to, no_data_to, no_closer_to, cut_to, opts_out_to, no_name_parts_to, no_data_parts_to}

-- ---- more secured signatures prove no less

-- The RRsets are numbered as among the first, and others may stand behind them.
module _
    (S T : ℕ → ℕ → Type 0) (more : (k s : ℕ) → S k s → T k s) (rrsets rest : List ReceivedRrset)
    (stay : (k : ℕ) (rrset : ReceivedRrset) → IsNumbered rrsets k rrset → IsNumbered rest k rrset) where
  record_to : (number : RecordNumber) (rrset : ReceivedRrset) (rdata : List ℕ) → IsRecordAt rrsets number rrset rdata → IsRecordAt rest number rrset rdata
  record_to number rrset rdata at = record {
    is_rrset = stay number.rrset rrset at.is_rrset;
    canonical = at.canonical;
    is_canonical = at.is_canonical;
    is_rdata = at.is_rdata;
  }

  nsec_of_to : (number : RecordNumber) (nsec : NsecRecord) → IsNsecOf rrsets number nsec → IsNsecOf rest number nsec
  nsec_of_to number nsec of = record {
    rrset = of.rrset;
    rdata = of.rdata;
    at = record_to number of.rrset of.rdata of.at;
    rtype = of.rtype;
    fields = of.fields;
    read = of.read;
    is = of.is;
  }

  nsec3_of_to : (zone : Labels) (number : RecordNumber) (nsec3 : Nsec3Record) → IsNsec3Of rrsets zone number nsec3 → IsNsec3Of rest zone number nsec3
  nsec3_of_to zone number nsec3 of = record {
    rrset = of.rrset;
    rdata = of.rdata;
    at = record_to number of.rrset of.rdata of.at;
    rtype = of.rtype;
    owner = of.owner;
    fields = of.fields;
    read = of.read;
    usable = of.usable;
    next = of.next;
    flags = of.flags;
    types = of.types;
    parameters = of.parameters;
  }

  secured_by_to : (zone : Labels) (k : ℕ) → IsSecuredBy S rrsets zone k → IsSecuredBy T rest zone k
  secured_by_to zone k by = record {
    rrset = by.rrset;
    is_rrset = stay k by.rrset by.is_rrset;
    signed = record {
      signature = by.signed.signature;
      secured = more k by.signed.signature by.signed.secured;
      rdata = by.signed.rdata;
      is_signature = by.signed.is_signature;
      rrsig = by.signed.rrsig;
      read = by.signed.read;
      signer = by.signed.signer;
      unexpanded = by.signed.unexpanded;
    };
  }

  nsec_to : (zone : Labels) (Says : NsecRecord → Type 0) (number : RecordNumber) → SaidByNsec S rrsets zone Says number → SaidByNsec T rest zone Says number
  nsec_to zone Says number said =
      (said.0, record { is = nsec_of_to number said.0 said.1.is; secured = secured_by_to zone number.rrset said.1.secured }, said.2)

  nsec3_to : (zone : Labels) (Says : Nsec3Record → Type 0) (number : RecordNumber) → SaidByNsec3 S rrsets zone Says number → SaidByNsec3 T rest zone Says number
  nsec3_to zone Says number said =
      (said.0, record { is = nsec3_of_to zone number said.0 said.1.is; secured = secured_by_to zone number.rrset said.1.secured }, said.2)

  pub chain_to : (zone : Labels) (chain : Chain) → SaysNoLess (evidence_said S rrsets zone chain) (evidence_said T rest zone chain)
  chain_to zone ByNsec = record {
    needs_none = λ name same. same;
    encloser = λ name. nsec_to zone _;
    absent = λ name. nsec_to zone _;
    empty_non_terminal = λ name. nsec_to zone _;
    types_at = λ name Says. nsec_to zone _;
    opted_out = λ name number never. never;
  }
  chain_to zone (ByNsec3 parameters) = record {
    needs_none = λ name never. never;
    encloser = λ name. nsec3_to zone _;
    absent = λ name. nsec3_to zone _;
    empty_non_terminal = λ name number never. never;
    types_at = λ name Says. nsec3_to zone _;
    opted_out = λ name. nsec3_to zone _;
  }

  pub no_name_can_to : (name : Labels) → CanProveNoName S rrsets name → CanProveNoName T rest name
  no_name_can_to name can =
      let zone = rightmost name can.0 in
      (can.0, can.1, can.2, no_name_to (evidence_said S rrsets zone can.2) (evidence_said T rest zone can.2) (chain_to zone can.2) zone name can.3)

  pub no_data_can_to : (name : Labels) (t : ℕ) → CanProveNoData S rrsets name t → CanProveNoData T rest name t
  no_data_can_to name t can =
      let zone = rightmost name can.0 in
      (can.0, can.1, can.2, no_data_to (evidence_said S rrsets zone can.2) (evidence_said T rest zone can.2) (chain_to zone can.2) zone name t can.3)

  pub no_closer_can_to : (name : Labels) (labels : ℕ) (zone : Labels) → CanProveNoCloser S rrsets name labels zone → CanProveNoCloser T rest name labels zone
  no_closer_can_to name labels zone can =
      (can.0, no_closer_to (evidence_said S rrsets zone can.0) (evidence_said T rest zone can.0) (chain_to zone can.0) zone name labels can.1)

  pub delegation_cut_to : (name : Labels) (labels : ℕ) → IsUnsignedDelegationCut S rrsets name labels → IsUnsignedDelegationCut T rest name labels
  delegation_cut_to name labels cut =
      let zone = rightmost name cut.1 in
      (cut.0, cut.1, cut.2, cut.3, cut_to (evidence_said S rrsets zone cut.3) (evidence_said T rest zone cut.3) (chain_to zone cut.3) zone name (rightmost name labels) cut.4)

  pub ds_cut_to : (name : Labels) (labels : ℕ) → IsUnusableDsCut S rrsets name labels → IsUnusableDsCut T rest name labels
  ds_cut_to name labels cut = record {
    at_or_above = cut.at_or_above;
    k = cut.k;
    rrset = cut.rrset;
    is_rrset = stay cut.k cut.rrset cut.is_rrset;
    rtype = cut.rtype;
    owner = cut.owner;
    signature = cut.signature;
    secured = more cut.k cut.signature cut.secured;
    records = cut.records;
    read = cut.read;
    none = cut.none;
  }

  pub opt_out_cut_to : (name : Labels) (labels : ℕ) → IsOptOutCut S rrsets name labels → IsOptOutCut T rest name labels
  opt_out_cut_to name labels cut =
      let zone = rightmost name cut.0 in
      (cut.0, cut.1, cut.2, opts_out_to (evidence_said S rrsets zone cut.2) (evidence_said T rest zone cut.2) (chain_to zone cut.2) zone name labels cut.3)

  pub has_cut_to : (name : Labels) → HasUnsignedCut S rrsets name → HasUnsignedCut T rest name
  has_cut_to name (labels, inl cut) = (labels, inl (delegation_cut_to name labels cut))
  has_cut_to name (labels, inr (inl cut)) = (labels, inr (inl (ds_cut_to name labels cut)))
  has_cut_to name (labels, inr (inr cut)) = (labels, inr (inr (opt_out_cut_to name labels cut)))

  pub opt_out_closer_to : (name : Labels) (labels : ℕ) (zone : Labels) → HasOptedOutNextCloser S rrsets name labels zone → HasOptedOutNextCloser T rest name labels zone
  opt_out_closer_to name labels zone open_still = record {
    above = open_still.above;
    chain = open_still.chain;
    covering = open_still.covering;
    opted_out = (chain_to zone open_still.chain).opted_out (rightmost name (labels + 1)) open_still.covering open_still.opted_out;
  }

-- ---- what the first proof is depends on which are secured alone

module _ (S T : ℕ → ℕ → Type 0) (to : (k s : ℕ) → S k s → T k s) (from : (k s : ℕ) → T k s → S k s) (rrsets : List ReceivedRrset) where
  -- the numbers are those of the one list
  same : (k : ℕ) (rrset : ReceivedRrset) → IsNumbered rrsets k rrset → IsNumbered rrsets k rrset
  same k rrset is = is

  first_proof_to : (name : Labels) (Form : Words → Labels → Type 0) (Parts : RecordWords RecordNumber → Labels → List RecordNumber → Type 0)
      → ((a b : RecordWords RecordNumber) → SaysNoLess a b → (zone : Labels) → Form (words a) zone → Form (words b) zone)
      → ((a b : RecordWords RecordNumber) → SaysNoLess a b → SaysNoLess b a → (zone : Labels) (parts : List RecordNumber) → Parts a zone parts → Parts b zone parts)
      → (proof : ProofRecords) → IsFirstProof S rrsets name Form Parts proof → IsFirstProof T rrsets name Form Parts proof
  first_proof_to name Form Parts goes parts_go proof first =
      let gain : (zone : Labels) (chain : Chain) → SaysNoLess (evidence_said S rrsets zone chain) (evidence_said T rrsets zone chain) = chain_to S T to rrsets rrsets same in
      let loss : (zone : Labels) (chain : Chain) → SaysNoLess (evidence_said T rrsets zone chain) (evidence_said S rrsets zone chain) = chain_to T S from rrsets rrsets same in record {
        labels = first.labels;
        at_or_above = first.at_or_above;
        zone = first.zone;
        chain = first.chain;
        stands = goes (evidence_said S rrsets proof.zone first.chain) (evidence_said T rrsets proof.zone first.chain) (gain proof.zone first.chain) proof.zone first.stands;
        most_labels = λ more other above within stands. let zone = rightmost name more in
            first.most_labels more other above within (goes (evidence_said T rrsets zone other) (evidence_said S rrsets zone other) (loss zone other) zone stands);
        first = λ other before stands.
            first.first other before (goes (evidence_said T rrsets proof.zone other) (evidence_said S rrsets proof.zone other) (loss proof.zone other) proof.zone stands);
        parts = first.parts;
        chosen = parts_go (evidence_said S rrsets proof.zone first.chain) (evidence_said T rrsets proof.zone first.chain) (gain proof.zone first.chain) (loss proof.zone first.chain) proof.zone first.parts first.chosen;
        records = first.records;
      }

  pub first_no_name_to : (name : Labels) (proof : ProofRecords) → IsFirstNoName S rrsets name proof → IsFirstNoName T rrsets name proof
  first_no_name_to name proof first =
      first_proof_to name _ _ (λ a b less zone. no_name_to a b less zone name)
      (λ a b less more zone. no_name_parts_to number_cmp a b less more zone name) proof first

  pub first_no_data_to : (name : Labels) (t : ℕ) (proof : ProofRecords) → IsFirstNoData S rrsets name t proof → IsFirstNoData T rrsets name t proof
  first_no_data_to name t proof first =
      first_proof_to name _ _ (λ a b less zone. no_data_to a b less zone name t)
      (λ a b less more zone. no_data_parts_to number_cmp a b less more zone name t) proof first

  fewest_to : (P Q : ℕ → Type 0) → ((n : ℕ) → P n → Q n) → ((n : ℕ) → Q n → P n) → (labels : ℕ) → IsFewest P labels → IsFewest Q labels
  fewest_to P Q f g labels is = record { holds = f labels is.holds; fewest = λ fewer less holds. is.fewest fewer less (g fewer holds) }

  most_to : (P Q : ℕ → Type 0) → ((n : ℕ) → P n → Q n) → ((n : ℕ) → Q n → P n) → (labels : ℕ) → IsMost P labels → IsMost Q labels
  most_to P Q f g labels is = record { holds = f labels is.holds; most = λ more less holds. is.most more less (g more holds) }

  pub cut_is_to : (name cut : Labels) → IsUnsignedCut S rrsets name cut → IsUnsignedCut T rrsets name cut
  cut_is_to name _ (no_ds labels few) =
      no_ds labels (fewest_to (IsUnsignedDelegationCut S rrsets name) (IsUnsignedDelegationCut T rrsets name) (delegation_cut_to S T to rrsets rrsets same name) (delegation_cut_to T S from rrsets rrsets same name) labels few)
  cut_is_to name _ (no_usable_ds labels none few) =
      no_usable_ds labels (λ any cut. none any (delegation_cut_to T S from rrsets rrsets same name any cut))
      (fewest_to (IsUnusableDsCut S rrsets name) (IsUnusableDsCut T rrsets name) (ds_cut_to S T to rrsets rrsets same name) (ds_cut_to T S from rrsets rrsets same name) labels few)
  cut_is_to name _ (opt_out labels none usable most) =
      opt_out labels (λ any cut. none any (delegation_cut_to T S from rrsets rrsets same name any cut))
      (λ any cut. usable any (ds_cut_to T S from rrsets rrsets same name any cut))
      (most_to (IsOptOutCut S rrsets name) (IsOptOutCut T rrsets name) (opt_out_cut_to S T to rrsets rrsets same name) (opt_out_cut_to T S from rrsets rrsets same name) labels most)
