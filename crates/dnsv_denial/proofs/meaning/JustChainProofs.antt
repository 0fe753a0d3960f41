-- Where the evidence has just a zone's whole chain, it proves what the zone denies and nothing else.
use Rattle.std.proofs.Common.{◌≡◌, ◌≢◌, ℕ, ◌≤◌, List, length, refl, subst}
use Rattle.std.specs.Prelude.{Option, Some, None, IsSome, MatchOption, ◌↔◌}
use Rattle.dnsv_names.specs.Name.{Labels, rightmost}
use Rattle.dnsv_zones.specs.chains.HashedNames.{sha1_hash}
use Rattle.dnsv_zones.specs.chains.Nsec3Chain.{Nsec3Record, Parameters}
use Rattle.dnsv_zones.specs.chains.NsecChain.{NsecRecord}
use Rattle.dnsv_zones.specs.forms.Forms.{Words, NoNameForm, NoDataForms}
use Rattle.dnsv_zones.specs.forms.Nsec.{nsec_words}
use Rattle.dnsv_zones.specs.forms.Nsec3.{nsec3_words}
use Rattle.dnsv_zones.specs.forms.RecordWords.{RecordWords, words}
use Rattle.dnsv_zones.specs.zones.Lookup.{IsLookup}
use Rattle.dnsv_zones.specs.zones.Lookup.Answer.{NoData, NoName}
use Rattle.dnsv_zones.specs.zones.TypeNumbers.{rrsig, nsec}
use Rattle.dnsv_zones.specs.zones.Zone.{Zone}
use Rattle.dnsv_zones.proofs.lemmas.chains.MoreLemmas.{no_name_more, no_data_more}
use Rattle.dnsv_zones.proofs.lemmas.completeness.NsecComplete as by_nsec_records
use Rattle.dnsv_zones.proofs.lemmas.completeness.Nsec3Complete as by_nsec3_records
use Rattle.dnsv_canonical.specs.Rrsets.{ReceivedRrset}
use Rattle.dnsv_canonical.proofs.CanonicalLemmas.{IsMember, IsMember-from_contains}
use Rattle.dnsv_denial.specs.gathering.Evidence.{IsNsecAt, IsNsec3At}
use Rattle.dnsv_denial.specs.proving.FirstProof.{CanBeProved, CanProveNoData, CanProveNoName, IsFirstProof, ProofRecords, StandsBy}
use Rattle.dnsv_denial.specs.proving.WholeChain.{HasWholeChainWithoutOptOut, IsJustChainWithoutOptOut, IsJustNsecChain, IsJustNsec3Chain}
use Rattle.dnsv_denial.specs.proving.WholeChain.HasWholeChainWithoutOptOut.{by_nsec as without_opt_out_by_nsec, by_nsec3 as without_opt_out_by_nsec3}
use Rattle.dnsv_denial.specs.proving.WholeChain.IsJustChainWithoutOptOut.{by_nsec, by_nsec3}
use Rattle.dnsv_denial.specs.gathering.EvidenceWords.{Chain, nsec_said, nsec3_said}
use Rattle.dnsv_denial.specs.gathering.EvidenceWords.Chain.{ByNsec, ByNsec3}
use Rattle.dnsv_canonical.specs.declared.number.RecordNumber.{RecordNumber}
use Rattle.dnsv_denial.proofs.meaning.ProofMeaningLemmas.{with_parameters}
use Rattle.dnsv_denial.proofs.lemmas.proving.WholeChainLemmas.{nsec_to, nsec3_to, no_name_by_nsec, no_data_by_nsec, no_name_by_nsec3, no_data_by_nsec3}
use Rattle.dnsv_denial.proofs.meaning.WholeChainProofs.{without_opt_out_no_name, without_opt_out_no_data}

module _ (Secured : ℕ → ℕ → Type 0) (rrsets : List ReceivedRrset) (name : Labels) (zone : Zone) where
  -- ---- by NSEC

  module _ (just : IsJustNsecChain Secured rrsets name zone) where
    among : (n : RecordNumber) (r : NsecRecord) → IsNsecAt Secured rrsets (rightmost name just.whole.labels) n r → IsMember n just.whole.numbers
    among n r at = IsMember-from_contains just.whole.numbers n (just.no_other just.whole.labels n r just.whole.at_or_above at).1

    no_name_here : (t : ℕ) → StandsBy Secured rrsets (λ said apex. NoNameForm said apex name) (rightmost name just.whole.labels) ByNsec → IsLookup zone name t NoName
    no_name_here t form =
        let apex = rightmost name just.whole.labels in
        by_nsec_records.no_name_meant zone apex just.whole.records just.whole.chain name t
        (no_name_more (words (nsec_said Secured rrsets apex)) (nsec_words apex just.whole.records) (nsec_to Secured rrsets apex just.whole.numbers just.whole.records just.whole.are among) apex name form)

    no_data_here : (t : ℕ) → StandsBy Secured rrsets (λ said apex. NoDataForms said apex name t) (rightmost name just.whole.labels) ByNsec → (source : Labels) × IsLookup zone name t (NoData source)
    no_data_here t form =
        let apex = rightmost name just.whole.labels in
        by_nsec_records.no_data_meant zone apex just.whole.records just.whole.chain name t
        (no_data_more (words (nsec_said Secured rrsets apex)) (nsec_words apex just.whole.records) (nsec_to Secured rrsets apex just.whole.numbers just.whole.records just.whole.are among) apex name t form)

    no_name_by : (t labels : ℕ) (chain : Chain) → labels ≤ length name → StandsBy Secured rrsets (λ said apex. NoNameForm said apex name) (rightmost name labels) chain → IsLookup zone name t NoName
    no_name_by t labels ByNsec fits form =
        let some = no_name_by_nsec Secured rrsets (rightmost name labels) name form in
        let same : labels ≡ just.whole.labels = (just.no_other labels some.0 some.1 fits some.2).0 in
        no_name_here t (subst (λ (n : ℕ). StandsBy Secured rrsets (λ said apex. NoNameForm said apex name) (rightmost name n) ByNsec) same form)
    no_name_by t labels (ByNsec3 parameters) fits form =
        let some = no_name_by_nsec3 Secured rrsets (rightmost name labels) parameters name form in
        absurd (just.no_nsec3 labels some.0 some.1 fits some.2)

    no_data_by : (t labels : ℕ) (chain : Chain) → labels ≤ length name → StandsBy Secured rrsets (λ said apex. NoDataForms said apex name t) (rightmost name labels) chain → (source : Labels) × IsLookup zone name t (NoData source)
    no_data_by t labels ByNsec fits form =
        let some = no_data_by_nsec Secured rrsets (rightmost name labels) name t form in
        let same : labels ≡ just.whole.labels = (just.no_other labels some.0 some.1 fits some.2).0 in
        no_data_here t (subst (λ (n : ℕ). StandsBy Secured rrsets (λ said apex. NoDataForms said apex name t) (rightmost name n) ByNsec) same form)
    no_data_by t labels (ByNsec3 parameters) fits form =
        let some = no_data_by_nsec3 Secured rrsets (rightmost name labels) parameters name t form in
        absurd (just.no_nsec3 labels some.0 some.1 fits some.2)

  -- ---- by NSEC3

  module _ (just : IsJustNsec3Chain Secured rrsets name zone) where
    among3 : (n : RecordNumber) (r : Nsec3Record) → IsNsec3At Secured rrsets (rightmost name just.whole.labels) n r → IsMember n just.whole.numbers
    among3 n r at = IsMember-from_contains just.whole.numbers n (just.no_other just.whole.labels n r just.whole.at_or_above at).1

    no_name_here3 : (t : ℕ) (parameters : Parameters) → StandsBy Secured rrsets (λ said apex. NoNameForm said apex name) (rightmost name just.whole.labels) (ByNsec3 parameters) → IsLookup zone name t NoName
    no_name_here3 t parameters form =
        let apex = rightmost name just.whole.labels in
        let hash = sha1_hash just.whole.parameters in
        by_nsec3_records.no_name_meant zone apex hash just.whole.records just.whole.chain name just.whole.apart t
        (no_name_more (words (nsec3_said Secured rrsets apex parameters)) (nsec3_words hash just.whole.records)
        (nsec3_to Secured rrsets apex just.whole.numbers parameters just.whole.parameters just.whole.records just.whole.are
        (with_parameters zone hash just.whole.chain.has_records.names just.whole.records just.whole.chain.has_records.in_chain) among3) apex name form)

    no_data_here3 : (t : ℕ) (parameters : Parameters) → StandsBy Secured rrsets (λ said apex. NoDataForms said apex name t) (rightmost name just.whole.labels) (ByNsec3 parameters) → (source : Labels) × IsLookup zone name t (NoData source)
    no_data_here3 t parameters form =
        let apex = rightmost name just.whole.labels in
        let hash = sha1_hash just.whole.parameters in
        by_nsec3_records.no_data_meant zone apex hash just.whole.records just.whole.chain name just.whole.apart t
        (no_data_more (words (nsec3_said Secured rrsets apex parameters)) (nsec3_words hash just.whole.records)
        (nsec3_to Secured rrsets apex just.whole.numbers parameters just.whole.parameters just.whole.records just.whole.are
        (with_parameters zone hash just.whole.chain.has_records.names just.whole.records just.whole.chain.has_records.in_chain) among3) apex name t form)

    no_name_by3 : (t labels : ℕ) (chain : Chain) → labels ≤ length name → StandsBy Secured rrsets (λ said apex. NoNameForm said apex name) (rightmost name labels) chain → IsLookup zone name t NoName
    no_name_by3 t labels ByNsec fits form =
        let some = no_name_by_nsec Secured rrsets (rightmost name labels) name form in
        absurd (just.no_nsec labels some.0 some.1 fits some.2)
    no_name_by3 t labels (ByNsec3 parameters) fits form =
        let some = no_name_by_nsec3 Secured rrsets (rightmost name labels) parameters name form in
        let same : labels ≡ just.whole.labels = (just.no_other labels some.0 some.1 fits some.2).0 in
        no_name_here3 t parameters (subst (λ (n : ℕ). StandsBy Secured rrsets (λ said apex. NoNameForm said apex name) (rightmost name n) (ByNsec3 parameters)) same form)

    no_data_by3 : (t labels : ℕ) (chain : Chain) → labels ≤ length name → StandsBy Secured rrsets (λ said apex. NoDataForms said apex name t) (rightmost name labels) chain → (source : Labels) × IsLookup zone name t (NoData source)
    no_data_by3 t labels ByNsec fits form =
        let some = no_data_by_nsec Secured rrsets (rightmost name labels) name t form in
        absurd (just.no_nsec labels some.0 some.1 fits some.2)
    no_data_by3 t labels (ByNsec3 parameters) fits form =
        let some = no_data_by_nsec3 Secured rrsets (rightmost name labels) parameters name t form in
        let same : labels ≡ just.whole.labels = (just.no_other labels some.0 some.1 fits some.2).0 in
        no_data_here3 t parameters (subst (λ (n : ℕ). StandsBy Secured rrsets (λ said apex. NoDataForms said apex name t) (rightmost name n) (ByNsec3 parameters)) same form)

    -- whatever the flags
    pub just3_no_name : (t : ℕ) → CanProveNoName Secured rrsets name → IsLookup zone name t NoName
    just3_no_name t (labels, fits, chain, form) = no_name_by3 t labels chain fits form

    pub just3_no_data : (t : ℕ) → CanProveNoData Secured rrsets name t → (source : Labels) × IsLookup zone name t (NoData source)
    just3_no_data t (labels, fits, chain, form) = no_data_by3 t labels chain fits form

  -- ---- by either

  its_chain : IsJustChainWithoutOptOut Secured rrsets name zone → HasWholeChainWithoutOptOut Secured rrsets name zone
  its_chain (by_nsec just) = without_opt_out_by_nsec just.whole
  its_chain (by_nsec3 just without_opt_out) = without_opt_out_by_nsec3 just.whole without_opt_out

  no_name_meant : (t : ℕ) → IsJustChainWithoutOptOut Secured rrsets name zone → CanProveNoName Secured rrsets name → IsLookup zone name t NoName
  no_name_meant t (by_nsec just) (labels, fits, chain, form) = no_name_by just t labels chain fits form
  no_name_meant t (by_nsec3 just without_opt_out) can = just3_no_name just t can

  no_data_meant : (t : ℕ) → IsJustChainWithoutOptOut Secured rrsets name zone → CanProveNoData Secured rrsets name t → (source : Labels) × IsLookup zone name t (NoData source)
  no_data_meant t (by_nsec just) (labels, fits, chain, form) = no_data_by just t labels chain fits form
  no_data_meant t (by_nsec3 just without_opt_out) can = just3_no_data just t can

  pub just_no_name : (t : ℕ) → IsJustChainWithoutOptOut Secured rrsets name zone → CanProveNoName Secured rrsets name ↔ IsLookup zone name t NoName
  just_no_name t just = (no_name_meant t just, without_opt_out_no_name Secured rrsets name zone t (its_chain just))

  pub just_no_data : (t : ℕ) → t ≢ rrsig → t ≢ nsec → IsJustChainWithoutOptOut Secured rrsets name zone
      → CanProveNoData Secured rrsets name t ↔ ((source : Labels) × IsLookup zone name t (NoData source))
  just_no_data t other another just =
      (no_data_meant t just, λ lookup. without_opt_out_no_data Secured rrsets name zone t lookup.0 other another (its_chain just) lookup.1)

-- ---- what is found

-- where it can be, something is found
pub some_where : {X : Type 0} (Can : Type 0) (Is : X → Type 0) (found : Option X) → MatchOption found (¬ Can) Is → Can → IsSome found
some_where Can Is None none can = absurd (none can)
some_where Can Is (Some x) is can = refl

can_where : {X : Type 0} (Can : Type 0) (Is : X → Type 0) (found : Option X) → ((x : X) → Is x → Can) → MatchOption found (¬ Can) Is → IsSome found → Can
can_where Can Is None to none some = let bad : ⊥ = cc in absurd bad
can_where Can Is (Some x) to is some = to x is

-- something is found exactly where what comes to the same holds
pub exactly_where : {X : Type 0} (Can Holds : Type 0) (Is : X → Type 0) (found : Option X) → ((x : X) → Is x → Can) → MatchOption found (¬ Can) Is → Can ↔ Holds → IsSome found ↔ Holds
exactly_where Can Holds Is found to first same =
    (λ some. same.0 (can_where Can Is found to first some), λ holds. some_where Can Is found first (same.1 holds))

-- the first proof stands
pub can_be : (Secured : ℕ → ℕ → Type 0) (rrsets : List ReceivedRrset) (name : Labels) (Form : Words → Labels → Type 0) (Parts : RecordWords RecordNumber → Labels → List RecordNumber → Type 0) (proof : ProofRecords)
    → IsFirstProof Secured rrsets name Form Parts proof → CanBeProved Secured rrsets name Form
can_be Secured rrsets name Form Parts proof first =
    (first.labels, first.at_or_above, first.chain, subst (λ (z : Labels). StandsBy Secured rrsets Form z first.chain) first.zone first.stands)
