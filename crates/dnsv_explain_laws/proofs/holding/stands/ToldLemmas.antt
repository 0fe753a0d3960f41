-- What is told of a verdict stands wherever the signatures count that its lines call good.
use Rattle.std.proofs.Common.{◌≡◌, ◌∙◌, ℕ, List, ◌++◌, inl, inr, refl, sym, ap, subst, append_assoc}
use Rattle.std.specs.List.{Contains}
use Rattle.dnsv_names.specs.Name.{Labels, lower_case}
use Rattle.dnsv_records.specs.declared.rrsig.Rrsig.{Rrsig}
use Rattle.dnsv_zones.specs.forms.Forms.{IsAbove, NoDataForms, NoNameForm}
use Rattle.dnsv_zones.specs.forms.RecordWords.{words}
use Rattle.dnsv_canonical.specs.Rrsets.{ReceivedRrset}
use Rattle.dnsv_canonical.specs.SignedData.{IsExpanded}
use Rattle.dnsv_chain.specs.Trust.{SecuredIn as KeptIn}
use Rattle.dnsv_proof_forms.specs.forms.ProofForms.{ShowsNoCloser, form_records}
use Rattle.dnsv_proof_forms.specs.forms.ProofForms.ShowsNoCloser.{no_closer as closer_shown}
use Rattle.dnsv_denial.specs.gathering.Evidence.{IsSecuredBy}
use Rattle.dnsv_denial.specs.proving.FirstProof.{CanProveNoCloser, CanProveNoData, CanProveNoName}
use Rattle.dnsv_denial.specs.proving.ShownDenials.{IsShownNoCloser}
use Rattle.dnsv_denial.specs.gathering.EvidenceWords.{Chain, evidence_said}
use Rattle.dnsv_proof_forms.specs.records.Numbers.{number_cmp}
use Rattle.dnsv_proof_forms.specs.declared.forms.proof_form.ProofForm.{ProofForm}
use Rattle.dnsv_denial.specs.declared.proving.shown_denial.ShownDenial.{ShownDenial}
use Rattle.dnsv_canonical.specs.declared.number.RecordNumber.{RecordNumber}
use Rattle.dnsv_verdict.specs.Secure.{HoldsForName, IsSecureSet}
use Rattle.dnsv_derivations.specs.Denials.{IsDenialTold, IsProofWithParts}
use Rattle.dnsv_derivations.specs.Explained.{Setting}
use Rattle.dnsv_holding.specs.Holding.{IsNoDataTold, IsNoNameTold, IsSetTold, signature_of}
use Rattle.dnsv_holding.specs.Holding.IsSetTold.{as_owned, by_wildcard}
use Rattle.dnsv_derivations.specs.Following.{IsSignatureSaid}
use Rattle.dnsv_derivations.specs.Saying.{AreBoth}
use Rattle.dnsv_derivations.specs.derivations.OwnDerivations.{AreRecordsDerived, IsSignatureTold, SecuredIn}
use Rattle.dnsv_lines.specs.declared.line.Line.{Line}
use Rattle.dnsv_canonical.specs.declared.number.SignatureNumber.{SignatureNumber}
use Rattle.dnsv_derivations.proofs.lemmas.denials.FollowLemmas.{OwnSaid, Said, records_said, said_stays}
use Rattle.dnsv_derivations.proofs.lemmas.denials.FormLemmas.{each_member}
use Rattle.dnsv_derivations.proofs.lemmas.denials.PartLemmas.{secured_too, zone_as}
use Rattle.dnsv_derivations.proofs.lemmas.denials.ShownLemmas.{spelled}
use Rattle.dnsv_derivations.proofs.lemmas.derivations.DerivationLemmas.{number_said}
use Rattle.dnsv_derivations.proofs.lemmas.one.TrustedLemmas.{one_signature_at}
use Rattle.dnsv_derivations.proofs.lemmas.denials.StandingLemmas.{Counts, each_by, no_closer_by, no_data_by, no_name_by}

module _ (setting : Setting) (T : ℕ → ℕ → Type 0) (all : List Line) (counts : (k s : ℕ) → IsSignatureSaid all (signature_of k s) → T k s) where
  -- the lines of a step lie among all
  pub record Lies (before lines : List Line) : Type 0 where
    pub rest : List Line
    pub whole : (before ++ lines) ++ rest ≡ all

  module _ (First Second : List Line → List Line → Type 0) (before lines : List Line) (both : AreBoth First Second before lines) (lies : Lies before lines) where
    joined : (before ++ both.first) ++ both.second ≡ before ++ lines
    joined = append_assoc before both.first both.second ∙ ap (λ rest. before ++ rest) (sym both.parts)

    pub front : Lies before both.first
    front = record {
      rest = both.second ++ lies.rest;
      whole = sym (append_assoc (before ++ both.first) both.second lies.rest) ∙ ap (λ each. each ++ lies.rest) joined ∙ lies.whole;
    }

    pub back : Lies (before ++ both.first) both.second
    back = record { rest = lies.rest; whole = ap (λ each. each ++ lies.rest) joined ∙ lies.whole }

  module _ (before lines : List Line) (lies : Lies before lines) where
    said_counts : (number : SignatureNumber) → IsSignatureSaid (before ++ lines) number → T number.rrset number.signature
    said_counts number said =
        let There : List Line → Type 0 = λ each. IsSignatureSaid each number in
        counts number.rrset number.signature (subst There lies.whole (said_stays setting (before ++ lines) lies.rest number said))

    pub signature_counts : (number : SignatureNumber) → IsSignatureTold setting number before lines → T number.rrset number.signature
    signature_counts number told = said_counts number (number_said setting before lines number told)

    pub records_count : (zone : Labels) (records : List RecordNumber) → AreRecordsDerived setting zone records before lines
        → (number : RecordNumber) → Contains records number → IsSecuredBy T setting.rrsets zone number.rrset
    records_count zone records derived number there =
        secured_too (Said setting (before ++ lines)) T setting.rrsets zone number.rrset
        (λ s said. said_counts (signature_of number.rrset s) said)
        (each_member (λ (each : RecordNumber). OwnSaid setting zone (before ++ lines) each.rrset) records number
        (records_said setting zone records before lines derived) there)

  module _ (name : Labels) where
    pub denial_counts : (shown : ShownDenial) (before lines : List Line) → Lies before lines → IsDenialTold setting name shown before lines
        → (number : RecordNumber) → Contains shown.proof.records number → IsSecuredBy T setting.rrsets shown.proof.zone number.rrset
    denial_counts shown before lines lies told =
        records_count before told.first
        (front (AreRecordsDerived setting shown.proof.zone shown.proof.records) (IsProofWithParts setting.rrsets name shown) before lines told lies)
        shown.proof.zone shown.proof.records told.says_first

    -- ---- denials

    pub no_name_stands : (before lines : List Line) → Lies before lines → IsNoNameTold setting name before lines → CanProveNoName T setting.rrsets name
    no_name_stands before lines lies told =
        let is = told.is in
        let zone = told.shown.proof.zone in
        let form : NoNameForm (words (evidence_said T setting.rrsets zone is.chain)) zone name =
        no_name_by (KeptIn told.trust) T setting.rrsets zone name is.chain told.shown.form
        (each_by (Counts (KeptIn told.trust) T setting.rrsets zone name) (form_records told.shown.form)
        (λ number there. denial_counts told.shown before lines lies told.told number ((is.records.members number).1 there)))
        is.shows in
        let Stands : Labels → Type 0 = λ each. NoNameForm (words (evidence_said T setting.rrsets each is.chain)) each name in
        (is.labels, is.at_or_above, is.chain, subst Stands is.zone form)

    pub no_data_stands : (t : ℕ) (before lines : List Line) → Lies before lines → IsNoDataTold setting name t before lines
        → CanProveNoData T setting.rrsets name t
    no_data_stands t before lines lies told =
        let is = told.is in
        let zone = told.shown.proof.zone in
        let form : NoDataForms (words (evidence_said T setting.rrsets zone is.chain)) zone name t =
        no_data_by (KeptIn told.trust) T setting.rrsets zone name is.chain t told.shown.form
        (each_by (Counts (KeptIn told.trust) T setting.rrsets zone name) (form_records told.shown.form)
        (λ number there. denial_counts told.shown before lines lies told.told number ((is.records.members number).1 there)))
        is.shows in
        let Stands : Labels → Type 0 = λ each. NoDataForms (words (evidence_said T setting.rrsets each is.chain)) each name t in
        (is.labels, is.at_or_above, is.chain, subst Stands is.zone form)

    -- ---- an RRset that holds

    above_of : (S : ℕ → ℕ → Type 0) (labels : ℕ) (zone : Labels) (chain : Chain) (shape : ProofForm RecordNumber)
        → ShowsNoCloser number_cmp (evidence_said S setting.rrsets zone chain) zone name labels shape → IsAbove zone name labels
    above_of S labels zone chain _ (closer_shown number shows) = shows.above

    closer_stands : (S : ℕ → ℕ → Type 0) (labels : ℕ) (zone : Labels) (shown : ShownDenial) (before lines : List Line) → Lies before lines
        → IsShownNoCloser S setting.rrsets name labels zone shown → IsDenialTold setting name shown before lines
        → CanProveNoCloser T setting.rrsets name labels zone
    closer_stands S labels zone shown before lines lies is told =
        let above = above_of S labels zone is.chain shown.form is.shows in
        let same = ap lower_case is.zone ∙ sym (spelled name zone labels above) in
        let Among : RecordNumber → List RecordNumber → Type 0 = λ number each. Contains each number in (
          is.chain,
          no_closer_by S T setting.rrsets zone name is.chain labels shown.form
              (each_by (Counts S T setting.rrsets zone name) (form_records shown.form)
              (λ number there.
              zone_as T setting.rrsets shown.proof.zone zone number.rrset same
              (denial_counts shown before lines lies told number (subst (Among number) (sym is.records) there))))
              is.shows,
        )

    module _ (t k s : ℕ) (secure : IsSecureSet (SecuredIn setting) setting.rrsets name t k s) where
      abbrev Set : Type 0
      Set = IsSecureSet T setting.rrsets name t k s

      holding : T k s → HoldsForName T setting.rrsets name secure.rrset secure.rrsig → Set
      holding counted holds = record {
        rrset = secure.rrset;
        is_rrset = secure.is_rrset;
        owner = secure.owner;
        rdata = secure.rdata;
        is_signature = secure.is_signature;
        rrsig = secure.rrsig;
        read = secure.read;
        secured = counted;
        such = (secure.such.0, holds);
      }

      pub set_stands : (before lines : List Line) → Lies before lines → IsSetTold setting name (signature_of k s) before lines → Set
      set_stands before lines lies (as_owned r g at own told) =
          let same = one_signature_at setting.rrsets (signature_of k s) (signature_of k s) r secure.rrset at.rdata secure.rdata g secure.rrsig refl
          (at.is_rrset, at.is_signature, at.read) (secure.is_rrset, secure.is_signature, secure.read) in
          let Of : ReceivedRrset → Type 0 = λ each. ¬ IsExpanded each.owner g in
          let By : Rrsig → Type 0 = λ each. ¬ IsExpanded secure.rrset.owner each in
          holding (signature_counts before lines lies (signature_of k s) told) (inl (subst By same.1 (subst Of same.0 own)))
      set_stands before lines lies (by_wildcard r g trust shown at expanded good is told) =
          let same = one_signature_at setting.rrsets (signature_of k s) (signature_of k s) r secure.rrset at.rdata secure.rdata g secure.rrsig refl
          (at.is_rrset, at.is_signature, at.read) (secure.is_rrset, secure.is_signature, secure.read) in
          let First : List Line → List Line → Type 0 = IsSignatureTold setting (signature_of k s) in
          let Second : List Line → List Line → Type 0 = IsDenialTold setting name shown in
          let Can : Rrsig → Type 0 = λ each. CanProveNoCloser T setting.rrsets name each.labels each.signer in
          holding
          (signature_counts before told.first (front First Second before lines told lies) (signature_of k s) told.says_first)
          (inr (subst Can same.1
          (closer_stands (KeptIn trust) g.labels g.signer shown (before ++ told.first) told.second (back First Second before lines told lies) is told.says_second)))
