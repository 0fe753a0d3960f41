-- What is shown is shown in one way.
use Rattle.std.proofs.Common.{◌≡◌, ◌∙◌, ◌⊎◌, ⊎_elim, inl, inr, ℕ, List, sym, ap, subst}
use Rattle.dnsv_names.specs.Name.{Labels, rightmost}
use Rattle.dnsv_zones.specs.forms.Forms.{NoCloserForm, NoDataForms, NoNameForm}
use Rattle.dnsv_zones.specs.forms.Parts.{OptsOut, OptsOutNextCloser}
use Rattle.dnsv_zones.specs.forms.RecordWords.{RecordWords, words}
use Rattle.dnsv_canonical.specs.Rrsets.{ReceivedRrset}
use Rattle.dnsv_chain.specs.Trust.{KeptTrust, signed_of}
use Rattle.dnsv_proof_forms.specs.forms.Denials.{IsDelegationAt}
use Rattle.dnsv_proof_forms.specs.forms.ProofForms.{ShowsNoCloser, ShowsNoData, ShowsNoName, form_records}
use Rattle.dnsv_proof_forms.specs.forms.ShownUnsigned.{ShowsDelegation, ShowsOptOut, ShowsOptOutCloser}
use Rattle.dnsv_denial.specs.proving.FirstProof.{AreRecordsOf}
use Rattle.dnsv_denial.specs.proving.ShownDenials.{IsFirstShown, IsShownNoCloser, IsShownNoData, IsShownNoName, kind_of}
use Rattle.dnsv_denial.specs.unsigned_cuts.Cuts.{HasUnsignedCut, IsOptOutCut, IsUnsignedDelegationCut, IsUnusableDsCut}
use Rattle.dnsv_denial.specs.unsigned_cuts.ShownCut.{IsShownCut, IsShownOptOutCloser}
use Rattle.dnsv_denial.specs.unsigned_cuts.ShownCut.IsShownCut.{no_ds, no_usable_ds, opt_out}
use Rattle.dnsv_denial.specs.gathering.EvidenceWords.{Chain, GoesBefore, evidence_said}
use Rattle.dnsv_proof_forms.specs.records.Numbers.{number_cmp}
use Rattle.dnsv_proof_forms.specs.declared.forms.proof_form.ProofForm.{ProofForm}
use Rattle.dnsv_denial.specs.declared.proving.shown_denial.ShownDenial.{ShownDenial}
use Rattle.dnsv_canonical.specs.declared.number.RecordNumber.{RecordNumber}
use Rattle.dnsv_denial.specs.declared.unsigned_cuts.shown_cut.ShownCut.{ShownCut}
use Rattle.dnsv_denial.specs.declared.unsigned_cuts.shown_cut.ShownCut.TheVariants as cut
use Rattle.dnsv_verdict.proofs.OneProof.{chains, one_fewest, one_greatest, one_list, one_most}
use Rattle.dnsv_derivations.specs.Explained.{Setting}
use Rattle.dnsv_derivations.specs.derivations.OwnDerivations.{IsTrustIn}
use Rattle.dnsv_denial.proofs.lemmas.RisingLemmas.{one_rising}
use Rattle.dnsv_explain_laws.proofs.holding.one.FormLemmas.{delegation_stands, no_closer_stands, no_data_stands, no_name_stands, one_delegation, one_no_closer, one_no_data, one_no_name, one_opt_out, one_opt_out_closer, opt_out_closer_stands, opt_out_stands}

-- ---- trust

-- the signatures that a trust keeps as good are the same in each
pub one_trust : (setting : Setting) (a b : KeptTrust) → IsTrustIn setting a → IsTrustIn setting b → signed_of a ≡ signed_of b
one_trust setting a b x y =
    let lists : (k : ℕ) → signed_of a k ≡ signed_of b k =
    λ k. one_rising (signed_of a k) (signed_of b k) (x.signed k).rising (y.signed k).rising
    (λ s kept. ((y.signed k).members s).1 (((x.signed k).members s).0 kept))
    (λ s kept. ((x.signed k).members s).1 (((y.signed k).members s).0 kept)) in
    λ i. λ k. lists k i

-- ---- chains

-- the first chain that stands is one
one_chain : (Stands : Chain → Type 0) (c d : Chain) → Stands c → Stands d → ((other : Chain) → GoesBefore other c → ¬ Stands other)
    → ((other : Chain) → GoesBefore other d → ¬ Stands other) → c ≡ d
one_chain Stands c d x y first second = ⊎_elim (λ (same : c ≡ d). same)
    (λ (apart : GoesBefore c d ⊎ GoesBefore d c).
    ⊎_elim (λ (before : GoesBefore c d). absurd (second c before x)) (λ (before : GoesBefore d c). absurd (first d before y)) apart)
    (chains c d)

-- ---- denials

module _ (S : ℕ → ℕ → Type 0) (rrsets : List ReceivedRrset) (name : Labels) where
  module _ (Stands : RecordWords RecordNumber → Labels → Type 0) (Shows : RecordWords RecordNumber → Labels → ProofForm RecordNumber → Type 0)
      (stands : (said : RecordWords RecordNumber) (zone : Labels) (form : ProofForm RecordNumber) → Shows said zone form → Stands said zone)
      (one_form : (said : RecordWords RecordNumber) (zone : Labels) (p q : ProofForm RecordNumber) → Shows said zone p → Shows said zone q → p ≡ q) where
    abbrev At : Labels → Chain → Type 0
    At zone chain = Stands (evidence_said S rrsets zone chain) zone

    stood : (a : ShownDenial) (x : IsFirstShown S rrsets name Stands Shows a) → At a.proof.zone x.chain
    stood a x = stands (evidence_said S rrsets a.proof.zone x.chain) a.proof.zone a.form x.shows

    stood_at : (a : ShownDenial) (x : IsFirstShown S rrsets name Stands Shows a) → At (rightmost name x.labels) x.chain
    stood_at a x = let There : Labels → Type 0 = λ zone. At zone x.chain in subst There x.zone (stood a x)

    pub one_first_shown : (a b : ShownDenial) → IsFirstShown S rrsets name Stands Shows a → IsFirstShown S rrsets name Stands Shows b → a ≡ b
    one_first_shown a b x y =
        let labels : x.labels ≡ y.labels = one_most x.labels y.labels
        (λ less. x.most_labels y.labels y.chain less y.at_or_above (stood_at b y))
        (λ less. y.most_labels x.labels x.chain less x.at_or_above (stood_at a x)) in
        let zone : a.proof.zone ≡ b.proof.zone = x.zone ∙ ap (λ n. rightmost name n) labels ∙ sym y.zone in
        let There : Labels → Type 0 = λ each. At each x.chain in
        let NoneAt : Labels → Type 0 = λ each. (other : Chain) → GoesBefore other x.chain → ¬ At each other in
        let chain : x.chain ≡ y.chain =
        one_chain (At b.proof.zone) x.chain y.chain (subst There zone (stood a x)) (stood b y) (subst NoneAt zone x.first) y.first in
        let In : Labels → Type 0 = λ each. Shows (evidence_said S rrsets each x.chain) each a.form in
        let By : Chain → Type 0 = λ each. Shows (evidence_said S rrsets b.proof.zone each) b.proof.zone a.form in
        let form : a.form ≡ b.form =
        one_form (evidence_said S rrsets b.proof.zone y.chain) b.proof.zone a.form b.form (subst By chain (subst In zone x.shows)) y.shows in
        let Of : ProofForm RecordNumber → Type 0 = λ each. AreRecordsOf (form_records each) a.proof.records in
        let records : a.proof.records ≡ b.proof.records =
        one_list (form_records b.form) a.proof.records b.proof.records (subst Of form x.records) y.records in
        let kind : a.chain ≡ b.chain = x.kind ∙ ap (λ (each : Chain). kind_of each) chain ∙ sym y.kind in
        λ i. record { proof = record { zone = zone i; records = records i }; chain = kind i; form = form i }

  pub one_shown_name : (a b : ShownDenial) → IsShownNoName S rrsets name a → IsShownNoName S rrsets name b → a ≡ b
  one_shown_name = one_first_shown (λ said zone. NoNameForm (words said) zone name) (λ said zone. ShowsNoName number_cmp said zone name)
      (λ said zone form. no_name_stands said zone name form) (λ said zone. one_no_name said zone name)

  pub one_shown_data : (t : ℕ) (a b : ShownDenial) → IsShownNoData S rrsets name t a → IsShownNoData S rrsets name t b → a ≡ b
  one_shown_data t = one_first_shown (λ said zone. NoDataForms (words said) zone name t) (λ said zone. ShowsNoData number_cmp said zone name t)
      (λ said zone form. no_data_stands said zone name t form) (λ said zone. one_no_data said zone name t)

  one_shown_delegation : (labels : ℕ) (a b : ShownDenial)
      → IsFirstShown S rrsets name (λ said zone. IsDelegationAt said zone name labels) (λ said zone. ShowsDelegation number_cmp said zone name labels) a
      → IsFirstShown S rrsets name (λ said zone. IsDelegationAt said zone name labels) (λ said zone. ShowsDelegation number_cmp said zone name labels) b
      → a ≡ b
  one_shown_delegation labels =
      one_first_shown (λ said zone. IsDelegationAt said zone name labels) (λ said zone. ShowsDelegation number_cmp said zone name labels)
      (λ said zone form. delegation_stands said zone name labels form) (λ said zone. one_delegation said zone name labels)

  one_shown_opt_out : (labels : ℕ) (a b : ShownDenial)
      → IsFirstShown S rrsets name (λ said zone. OptsOut said zone name labels) (λ said zone. ShowsOptOut number_cmp said zone name labels) a
      → IsFirstShown S rrsets name (λ said zone. OptsOut said zone name labels) (λ said zone. ShowsOptOut number_cmp said zone name labels) b
      → a ≡ b
  one_shown_opt_out labels =
      one_first_shown (λ said zone. OptsOut said zone name labels) (λ said zone. ShowsOptOut number_cmp said zone name labels)
      (λ said zone form. opt_out_stands said zone name labels form) (λ said zone. one_opt_out said zone name labels)

  -- ---- in a zone that is known

  pub one_shown_closer : (labels : ℕ) (apex : Labels) (a b : ShownDenial) → IsShownNoCloser S rrsets name labels apex a
      → IsShownNoCloser S rrsets name labels apex b → a ≡ b
  one_shown_closer labels apex a b x y =
      let Stands : Chain → Type 0 = λ chain. NoCloserForm (words (evidence_said S rrsets apex chain)) apex name labels in
      let chain : x.chain ≡ y.chain =
      one_chain Stands x.chain y.chain (no_closer_stands (evidence_said S rrsets apex x.chain) apex name labels a.form x.shows)
      (no_closer_stands (evidence_said S rrsets apex y.chain) apex name labels b.form y.shows) x.first y.first in
      let By : Chain → Type 0 = λ each. ShowsNoCloser number_cmp (evidence_said S rrsets apex each) apex name labels a.form in
      let zone : a.proof.zone ≡ b.proof.zone = x.zone ∙ sym y.zone in
      let form : a.form ≡ b.form =
      one_no_closer (evidence_said S rrsets apex y.chain) apex name labels a.form b.form (subst By chain x.shows) y.shows in
      let records : a.proof.records ≡ b.proof.records =
      x.records ∙ ap (λ (each : ProofForm RecordNumber). form_records each) form ∙ sym y.records in
      let kind : a.chain ≡ b.chain = x.kind ∙ ap (λ (each : Chain). kind_of each) chain ∙ sym y.kind in
      λ i. record { proof = record { zone = zone i; records = records i }; chain = kind i; form = form i }

  pub one_shown_out : (labels : ℕ) (apex : Labels) (a b : ShownDenial) → IsShownOptOutCloser S rrsets name labels apex a
      → IsShownOptOutCloser S rrsets name labels apex b → a ≡ b
  one_shown_out labels apex a b x y =
      let Stands : Chain → Type 0 = λ chain. OptsOutNextCloser (evidence_said S rrsets apex chain) apex name labels in
      let chain : x.chain ≡ y.chain =
      one_chain Stands x.chain y.chain (opt_out_closer_stands (evidence_said S rrsets apex x.chain) apex name labels a.form x.shows)
      (opt_out_closer_stands (evidence_said S rrsets apex y.chain) apex name labels b.form y.shows) x.first y.first in
      let By : Chain → Type 0 = λ each. ShowsOptOutCloser number_cmp (evidence_said S rrsets apex each) apex name labels a.form in
      let zone : a.proof.zone ≡ b.proof.zone = x.zone ∙ sym y.zone in
      let form : a.form ≡ b.form =
      one_opt_out_closer (evidence_said S rrsets apex y.chain) apex name labels a.form b.form (subst By chain x.shows) y.shows in
      let records : a.proof.records ≡ b.proof.records =
      x.records ∙ ap (λ (each : ProofForm RecordNumber). form_records each) form ∙ sym y.records in
      let kind : a.chain ≡ b.chain = x.kind ∙ ap (λ (each : Chain). kind_of each) chain ∙ sym y.kind in
      λ i. record { proof = record { zone = zone i; records = records i }; chain = kind i; form = form i }

  -- ---- where the name may be unsigned

  pub cut_there : (a : ShownCut) → IsShownCut S rrsets name a → HasUnsignedCut S rrsets name
  cut_there _ (no_ds labels shown few is) = (labels, inl few.holds)
  cut_there _ (no_usable_ds labels none few) = (labels, inr (inl few.holds))
  cut_there _ (opt_out labels shown none usable most is) = (labels, inr (inr most.holds))

  pub one_shown_cut : (a b : ShownCut) → IsShownCut S rrsets name a → IsShownCut S rrsets name b → a ≡ b
  one_shown_cut _ _ (no_ds m p few is) (no_ds n q more its) =
      let labels : m ≡ n = one_fewest (IsUnsignedDelegationCut S rrsets name) m n few more in
      let Of : ℕ → Type 0 = λ each. IsFirstShown S rrsets name (λ said zone. IsDelegationAt said zone name each)
      (λ said zone. ShowsDelegation number_cmp said zone name each) p in
      let shown : p ≡ q = one_shown_delegation n p q (subst Of labels is) its in
      λ i. cut.NoDs (labels i) (shown i)
  one_shown_cut _ _ (no_ds m p few is) (no_usable_ds n none more) = absurd (none m few.holds)
  one_shown_cut _ _ (no_ds m p few is) (opt_out n q none usable more its) = absurd (none m few.holds)
  one_shown_cut _ _ (no_usable_ds m none few) (no_ds n q more its) = absurd (none n more.holds)
  one_shown_cut _ _ (no_usable_ds m none few) (no_usable_ds n non more) =
      ap (λ (each : ℕ). cut.NoUsableDs each) (one_fewest (IsUnusableDsCut S rrsets name) m n few more)
  one_shown_cut _ _ (no_usable_ds m none few) (opt_out n q non usable more its) = absurd (usable m few.holds)
  one_shown_cut _ _ (opt_out m p none usable few is) (no_ds n q more its) = absurd (none n more.holds)
  one_shown_cut _ _ (opt_out m p none usable few is) (no_usable_ds n non more) = absurd (usable n more.holds)
  one_shown_cut _ _ (opt_out m p none usable few is) (opt_out n q non use_ more its) =
      let labels : m ≡ n = one_greatest (IsOptOutCut S rrsets name) m n few more in
      let Of : ℕ → Type 0 = λ each. IsFirstShown S rrsets name (λ said zone. OptsOut said zone name each)
      (λ said zone. ShowsOptOut number_cmp said zone name each) p in
      let shown : p ≡ q = one_shown_opt_out n p q (subst Of labels is) its in
      λ i. cut.OptOut (labels i) (shown i)
