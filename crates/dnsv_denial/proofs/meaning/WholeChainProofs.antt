-- What the evidence proves where it has a zone's whole chain.
use Rattle.std.proofs.Common.{◌≢◌, ◌⊎◌, ℕ, length, sym, inl, inr, ⊎_elim, List}
use Rattle.dnsv_names.specs.Tree.AncestorLaws.{rightmost_above, rightmost_same}
use Rattle.dnsv_names.specs.Name.{Labels, SameName, IsAtOrBelow, rightmost}
use Rattle.dnsv_names.specs.Tree.TreeLaws.{at_or_below_length}
use Rattle.dnsv_zones.specs.chains.HashedNames.{sha1_hash}
use Rattle.dnsv_zones.specs.forms.Forms.{NoNameForm, NoDataForms, UnsignedCutForm}
use Rattle.dnsv_zones.specs.forms.Nsec.{nsec_words}
use Rattle.dnsv_zones.specs.forms.Nsec3.{nsec3_words, OptOutForm}
use Rattle.dnsv_zones.specs.forms.RecordWords.{words}
use Rattle.dnsv_zones.specs.zones.Lookup.{IsLookup}
use Rattle.dnsv_zones.specs.zones.Lookup.Answer.{NoData, NoName}
use Rattle.dnsv_zones.specs.zones.TypeNumbers.{ds, rrsig, nsec}
use Rattle.dnsv_zones.specs.zones.Types.{IsUnsignedDelegation}
use Rattle.dnsv_zones.specs.zones.Zone.{Zone, Holds}
use Rattle.dnsv_zones.proofs.lemmas.chains.MoreLemmas.{SayMore, no_name_more, no_data_more, unsigned_cut_more}
use Rattle.dnsv_zones.proofs.lemmas.completeness.NsecComplete as by_nsec_records
use Rattle.dnsv_zones.proofs.lemmas.completeness.Nsec3Complete as by_nsec3_records
use Rattle.dnsv_zones.proofs.lemmas.zones.ZoneLemmas.{delegation_respects, holds_respects}
use Rattle.dnsv_canonical.specs.Rrsets.{ReceivedRrset}
use Rattle.dnsv_denial.specs.proving.FirstProof.{CanProveNoData, CanProveNoName}
use Rattle.dnsv_denial.specs.proving.WholeChain.{HasWholeChainWithoutOptOut, HasWholeChain, HasWholeNsecChain, HasWholeNsec3Chain, AreWithoutOptOut}
use Rattle.dnsv_denial.specs.proving.WholeChain.HasWholeChainWithoutOptOut.{by_nsec, by_nsec3}
use Rattle.dnsv_denial.specs.proving.WholeChain.HasWholeChain.{by_nsec as whole_by_nsec, by_nsec3 as whole_by_nsec3}
use Rattle.dnsv_denial.specs.unsigned_cuts.Cuts.{HasUnsignedCut}
use Rattle.dnsv_denial.specs.gathering.EvidenceWords.{nsec_said, nsec3_said}
use Rattle.dnsv_denial.specs.gathering.EvidenceWords.Chain.{ByNsec, ByNsec3}
use Rattle.dnsv_denial.proofs.lemmas.proving.WholeChainLemmas.{nsec_from, nsec3_from, opts_out_from}

-- a delegation without DS is one however its name is spelled
unsigned_respects : (zone : Zone) (a b : Labels) → SameName a b → IsUnsignedDelegation (Holds zone a) → IsUnsignedDelegation (Holds zone b)
unsigned_respects zone a b same unsigned = record {
  delegation = delegation_respects zone a b same unsigned.delegation;
  no_ds = λ holds. unsigned.no_ds (holds_respects zone b a ds (sym same) holds);
}

module _ (Secured : ℕ → ℕ → Type 0) (rrsets : List ReceivedRrset) (name : Labels) (zone : Zone) where
  -- ---- by NSEC

  module _ (whole : HasWholeNsecChain Secured rrsets name zone) where
    its_words : SayMore (nsec_words (rightmost name whole.labels) whole.records) (words (nsec_said Secured rrsets (rightmost name whole.labels)))
    its_words = nsec_from Secured rrsets (rightmost name whole.labels) whole.numbers whole.records whole.are

    nsec_no_name : (t : ℕ) → IsLookup zone name t NoName → CanProveNoName Secured rrsets name
    nsec_no_name t lookup =
        let apex = rightmost name whole.labels in (
          whole.labels,
          whole.at_or_above,
          ByNsec,
          no_name_more (nsec_words apex whole.records) (words (nsec_said Secured rrsets apex)) its_words apex name
              (by_nsec_records.no_name_proved zone apex whole.records whole.chain name t lookup),
        )

    nsec_no_data : (t : ℕ) (source : Labels) → t ≢ rrsig → t ≢ nsec → IsLookup zone name t (NoData source) → CanProveNoData Secured rrsets name t
    nsec_no_data t source other another lookup =
        let apex = rightmost name whole.labels in (
          whole.labels,
          whole.at_or_above,
          ByNsec,
          no_data_more (nsec_words apex whole.records) (words (nsec_said Secured rrsets apex)) its_words apex name t
              (by_nsec_records.no_data_proved zone apex whole.records whole.chain name source t other another lookup),
        )

    nsec_cut : (cut : Labels) → IsAtOrBelow name cut → IsUnsignedDelegation (Holds zone cut) → HasUnsignedCut Secured rrsets name
    nsec_cut cut under unsigned =
        let apex = rightmost name whole.labels in
        let size = length cut in
        let part = rightmost name size in
        let there : IsUnsignedDelegation (Holds zone part) = unsigned_respects zone cut part (sym (rightmost_same name cut under)) unsigned in (
          size,
          inl (
            at_or_below_length name cut under,
            whole.labels,
            whole.at_or_above,
            ByNsec,
            unsigned_cut_more (nsec_words apex whole.records) (words (nsec_said Secured rrsets apex)) its_words apex name part
                (by_nsec_records.unsigned_cut_proved zone apex whole.records whole.chain name part (rightmost_above name size) there),
          ),
        )

  -- ---- by NSEC3

  module _ (whole : HasWholeNsec3Chain Secured rrsets name zone) where
    its_words3 : SayMore (nsec3_words (sha1_hash whole.parameters) whole.records) (words (nsec3_said Secured rrsets (rightmost name whole.labels) whole.parameters))
    its_words3 = nsec3_from Secured rrsets (rightmost name whole.labels) whole.numbers whole.parameters whole.records whole.are

    -- some closest encloser leaves open that an unsigned delegation is there
    abbrev OptsOutSomewhere : Type 0
    OptsOutSomewhere = (labels : ℕ) × OptOutForm (sha1_hash whole.parameters) whole.records (rightmost name whole.labels) name labels

    opt_out_cut : OptsOutSomewhere → HasUnsignedCut Secured rrsets name
    opt_out_cut out = (
      out.0,
      inr (inr (
        whole.labels,
        whole.at_or_above,
        ByNsec3 whole.parameters,
        opts_out_from Secured rrsets (rightmost name whole.labels) whole.numbers whole.parameters whole.records whole.are name out.0 out.1,
      )),
    )

    form_no_name : NoNameForm (nsec3_words (sha1_hash whole.parameters) whole.records) (rightmost name whole.labels) name → CanProveNoName Secured rrsets name
    form_no_name form =
        let apex = rightmost name whole.labels in (
          whole.labels,
          whole.at_or_above,
          ByNsec3 whole.parameters,
          no_name_more (nsec3_words (sha1_hash whole.parameters) whole.records) (words (nsec3_said Secured rrsets apex whole.parameters)) its_words3 apex name form,
        )

    form_no_data : (t : ℕ) → NoDataForms (nsec3_words (sha1_hash whole.parameters) whole.records) (rightmost name whole.labels) name t → CanProveNoData Secured rrsets name t
    form_no_data t form =
        let apex = rightmost name whole.labels in (
          whole.labels,
          whole.at_or_above,
          ByNsec3 whole.parameters,
          no_data_more (nsec3_words (sha1_hash whole.parameters) whole.records) (words (nsec3_said Secured rrsets apex whole.parameters)) its_words3 apex name t form,
        )

    by_form_or_cut : (Form Can : Type 0) → (Form → Can) → Form ⊎ OptsOutSomewhere → Can ⊎ HasUnsignedCut Secured rrsets name
    by_form_or_cut Form Can to told =
        ⊎_elim (λ (form : Form). inl (to form)) (λ (out : OptsOutSomewhere). inr (opt_out_cut out)) told

    by_form : (Form Can : Type 0) → (Form → Can) → AreWithoutOptOut whole.records → Form ⊎ OptsOutSomewhere → Can
    by_form Form Can to without_opt_out told =
        ⊎_elim (λ (form : Form). to form)
        (λ (out : OptsOutSomewhere). absurd (by_nsec3_records.no_opt_out (sha1_hash whole.parameters) whole.records (rightmost name whole.labels) name out.0 without_opt_out out.1)) told

    told_no_name : (t : ℕ) → IsLookup zone name t NoName → NoNameForm (nsec3_words (sha1_hash whole.parameters) whole.records) (rightmost name whole.labels) name ⊎ OptsOutSomewhere
    told_no_name = by_nsec3_records.no_name_proved zone (rightmost name whole.labels) (sha1_hash whole.parameters) whole.records whole.chain name whole.apart

    told_no_data : (t : ℕ) (source : Labels) → t ≢ rrsig → t ≢ nsec → IsLookup zone name t (NoData source)
        → NoDataForms (nsec3_words (sha1_hash whole.parameters) whole.records) (rightmost name whole.labels) name t ⊎ OptsOutSomewhere
    told_no_data = by_nsec3_records.no_data_proved zone (rightmost name whole.labels) (sha1_hash whole.parameters) whole.records whole.chain name whole.apart

    -- whatever the flags
    pub no_name_or_cut : (t : ℕ) → IsLookup zone name t NoName → CanProveNoName Secured rrsets name ⊎ HasUnsignedCut Secured rrsets name
    no_name_or_cut t lookup =
        by_form_or_cut (NoNameForm (nsec3_words (sha1_hash whole.parameters) whole.records) (rightmost name whole.labels) name) (CanProveNoName Secured rrsets name) form_no_name (told_no_name t lookup)

    pub no_data_or_cut : (t : ℕ) (source : Labels) → t ≢ rrsig → t ≢ nsec → IsLookup zone name t (NoData source)
        → CanProveNoData Secured rrsets name t ⊎ HasUnsignedCut Secured rrsets name
    no_data_or_cut t source other another lookup =
        by_form_or_cut (NoDataForms (nsec3_words (sha1_hash whole.parameters) whole.records) (rightmost name whole.labels) name t) (CanProveNoData Secured rrsets name t) (form_no_data t)
        (told_no_data t source other another lookup)

    nsec3_cut : (cut : Labels) → IsAtOrBelow name cut → IsUnsignedDelegation (Holds zone cut) → HasUnsignedCut Secured rrsets name
    nsec3_cut cut under unsigned =
        let apex = rightmost name whole.labels in
        let size = length cut in
        let part = rightmost name size in
        let there : IsUnsignedDelegation (Holds zone part) = unsigned_respects zone cut part (sym (rightmost_same name cut under)) unsigned in
        ⊎_elim (λ (form : UnsignedCutForm (nsec3_words (sha1_hash whole.parameters) whole.records) apex name part). (
          size,
          inl (
            at_or_below_length name cut under,
            whole.labels,
            whole.at_or_above,
            ByNsec3 whole.parameters,
            unsigned_cut_more (nsec3_words (sha1_hash whole.parameters) whole.records) (words (nsec3_said Secured rrsets apex whole.parameters)) its_words3 apex name part form,
          ),
        ))
        (λ (out : OptsOutSomewhere). opt_out_cut out)
        (by_nsec3_records.unsigned_cut_proved zone apex (sha1_hash whole.parameters) whole.records whole.chain name whole.apart part (rightmost_above name size) there)

  -- ---- by either

  pub without_opt_out_no_name : (t : ℕ) → HasWholeChainWithoutOptOut Secured rrsets name zone → IsLookup zone name t NoName → CanProveNoName Secured rrsets name
  without_opt_out_no_name t (by_nsec whole) lookup = nsec_no_name whole t lookup
  without_opt_out_no_name t (by_nsec3 whole without_opt_out) lookup =
      by_form whole (NoNameForm (nsec3_words (sha1_hash whole.parameters) whole.records) (rightmost name whole.labels) name) (CanProveNoName Secured rrsets name) (form_no_name whole) without_opt_out (told_no_name whole t lookup)

  pub without_opt_out_no_data : (t : ℕ) (source : Labels) → t ≢ rrsig → t ≢ nsec → HasWholeChainWithoutOptOut Secured rrsets name zone → IsLookup zone name t (NoData source) → CanProveNoData Secured rrsets name t
  without_opt_out_no_data t source other another (by_nsec whole) lookup = nsec_no_data whole t source other another lookup
  without_opt_out_no_data t source other another (by_nsec3 whole without_opt_out) lookup =
      by_form whole (NoDataForms (nsec3_words (sha1_hash whole.parameters) whole.records) (rightmost name whole.labels) name t) (CanProveNoData Secured rrsets name t) (form_no_data whole t) without_opt_out
      (told_no_data whole t source other another lookup)

  pub whole_cut : (cut : Labels) → HasWholeChain Secured rrsets name zone → IsAtOrBelow name cut → IsUnsignedDelegation (Holds zone cut) → HasUnsignedCut Secured rrsets name
  whole_cut cut (whole_by_nsec whole) under unsigned = nsec_cut whole cut under unsigned
  whole_cut cut (whole_by_nsec3 whole) under unsigned = nsec3_cut whole cut under unsigned
