-- The lines of an explanation bear out its verdict, and its aliases.
use Rattle.std.proofs.Common.{◌≡◌, ℕ, List, [], ◌∷◌, ◌++◌, inl, inr, sym, subst, arith, ⊎_elim}
use Rattle.std.specs.List.{AllByRecursion, Contains}
use Rattle.dnsv_names.specs.Name.{Labels}
use Rattle.dnsv_records.specs.declared.rrsig.Rrsig.{Rrsig}
use Rattle.dnsv_zones.specs.forms.Forms.{NoCloserForm}
use Rattle.dnsv_zones.specs.forms.RecordWords.{words}
use Rattle.dnsv_zones.specs.zones.TypeNumbers.{cname}
use Rattle.dnsv_canonical.specs.Rrsets.{ReceivedRrset}
use Rattle.dnsv_canonical.specs.SignedData.{IsExpanded}
use Rattle.dnsv_canonical.specs.declared.number.RecordNumber.{RecordNumber}
use Rattle.dnsv_chain.specs.Trust.{KeptTrust, SecuredIn as KeptIn}
use Rattle.dnsv_proof_forms.specs.forms.ProofForms.{form_records}
use Rattle.dnsv_denial.specs.proving.FirstProof.{IsFirstNoData, IsFirstNoName, ProofRecords}
use Rattle.dnsv_proof_forms.specs.forms.ProofParts.{form_parts}
use Rattle.dnsv_denial.specs.proving.ShownDenials.{IsShownNoCloser, IsShownNoData, IsShownNoName}
use Rattle.dnsv_denial.specs.gathering.EvidenceWords.{Chain, evidence_said}
use Rattle.dnsv_denial.specs.declared.proving.shown_denial.ShownDenial.{ShownDenial}
use Rattle.dnsv_proof_forms.specs.declared.records.chain_kind.ChainKind.{ChainKind}
use Rattle.dnsv_verdict.specs.Secure.{IsSecureSet}
use Rattle.dnsv_verdict.specs.Settled.{IsSettledAs}
use Rattle.dnsv_verdict.specs.Way.{IsVerdictOf, LeadTo}
use Rattle.dnsv_verdict.specs.declared.link.Link.{Link}
use Rattle.dnsv_verdict.specs.declared.verdict.Verdict.{Verdict}
use Rattle.dnsv_verdict.specs.declared.verdict.Verdict.TheVariants.{SecureAnswer, SecureAlias, SecureNoName, SecureNoData, Insecure, Pending, Bogus, Indeterminate}
use Rattle.dnsv_derivations.specs.Explained.{Explained, Setting, setting_in}
use Rattle.dnsv_derivations.specs.Saying.{AreBoth, AreEach}
use Rattle.dnsv_derivations.specs.derivations.OwnDerivations.{IsTrustIn, SecuredIn}
use Rattle.dnsv_canonical.proofs.NumberLemmas.{one_numbered}
use Rattle.dnsv_denial.proofs.lemmas.more.EvidenceLemmas.{first_no_data_to, first_no_name_to}
use Rattle.dnsv_denial.proofs.lemmas.proving.FirstProofLemmas.{proof_of_no_data, proof_of_no_name}
use Rattle.dnsv_verdict.proofs.OneProof.{one_first_no_data, one_first_no_name}
use Rattle.dnsv_derivations.proofs.lemmas.denials.PartLemmas.{zone_as}
use Rattle.dnsv_derivations.proofs.lemmas.denials.StandingLemmas.{each_by}
use Rattle.dnsv_derivations.proofs.lemmas.denials.TrustLemmas.{kept_good}
use Rattle.dnsv_derivations.proofs.lemmas.intervals.MomentLemmas.{first_or_behind}
use Rattle.dnsv_lines.specs.declared.line.Line.{Line}
use Rattle.dnsv_lines.specs.declared.line.denial.Form.TheVariants as form
use Rattle.dnsv_holding.specs.Explained.{basis_in}
use Rattle.dnsv_holding.specs.Holding.{IsEndTold, IsHoldingTold, IsLinkTold, IsSetTold, IsSettledTold, IsVerdictTold, signature_of}
use Rattle.dnsv_explain.specs.Explanation.{IsExplanation, IsFailureTold}
use Rattle.dnsv_holding.specs.Holding.IsSetTold.{as_owned, by_wildcard}
use Rattle.dnsv_explain_laws.proofs.lemmas.stands.WholeLemmas.{links_secure}
use Rattle.dnsv_rules.specs.Borne.{BearsOut, DeniesType, IsDenialBorne, IsSetBorne}
use Rattle.dnsv_rules.specs.Explained.{asked_by}
use Rattle.dnsv_rules.specs.Told.{IsShownGood, shown_said, told_words}
use Rattle.dnsv_rules.proofs.bears.CaseLemmas.{case_borne}
use Rattle.dnsv_rules.proofs.bears.ToldLemmas.{denial_borne, denial_owns, denial_tells, no_data_form, no_name_form, signature_there}
use Rattle.dnsv_rules.proofs.checks.FormLemmas.{Counts, no_closer_form}
use Rattle.dnsv_rules.proofs.checks.ShownLemmas.{closer_same}
use Rattle.dnsv_rules.proofs.checks.TellLemmas.{AreWithin, IsOwn, IsPartTellable, within_back, within_front}
use Rattle.dnsv_rules.proofs.needs.SignerLemmas.{one_signature}

-- ---- the first proof

-- what is shown by the trust that is kept is the denial of the verdict
module _ (setting : Setting) (trust : KeptTrust) (good : IsTrustIn setting trust) where
  good_kept : (k s : ℕ) → SecuredIn setting k s → KeptIn trust k s
  good_kept k s secured = ((good.signed k).members s).1 secured

  no_name_shown : (name : Labels) (shown : ShownDenial) (proof : ProofRecords) → IsShownNoName (KeptIn trust) setting.rrsets name shown
      → IsFirstNoName (SecuredIn setting) setting.rrsets name proof → shown.proof ≡ proof
  no_name_shown name shown proof is first =
      one_first_no_name (SecuredIn setting) setting.rrsets name shown.proof proof
      (first_no_name_to (KeptIn trust) (SecuredIn setting) (kept_good setting trust good) good_kept setting.rrsets name shown.proof
      (proof_of_no_name (KeptIn trust) setting.rrsets name shown is))
      first

  no_data_shown : (name : Labels) (t : ℕ) (shown : ShownDenial) (proof : ProofRecords) → IsShownNoData (KeptIn trust) setting.rrsets name t shown
      → IsFirstNoData (SecuredIn setting) setting.rrsets name t proof → shown.proof ≡ proof
  no_data_shown name t shown proof is first =
      one_first_no_data (SecuredIn setting) setting.rrsets name t shown.proof proof
      (first_no_data_to (KeptIn trust) (SecuredIn setting) (kept_good setting trust good) good_kept setting.rrsets name t shown.proof
      (proof_of_no_data (KeptIn trust) setting.rrsets name (record { 0 = t }) shown is))
      first

module _ (setting : Setting) (all : List Line) where
  -- what is told against closer names stands at the signer
  closer_told : (trust : KeptTrust) (name : Labels) (labels : ℕ) (zone : Labels) (shown : ShownDenial)
      → (is : IsShownNoCloser (KeptIn trust) setting.rrsets name labels zone shown)
      → ((number : RecordNumber) → Contains shown.proof.records number → IsOwn setting.rrsets all shown.proof.zone number.rrset)
      → AllByRecursion (IsPartTellable all name) (form_parts shown.chain shown.form)
      → (chain : Chain) × NoCloserForm (words (told_words (shown_said setting.rrsets all zone chain) all)) zone name labels
  closer_told trust name labels zone shown is own tells =
      let same = closer_same (KeptIn trust) setting name labels zone shown is in
      let Among : RecordNumber → List RecordNumber → Type 0 = λ number each. Contains each number in
      let Tell : ChainKind → Type 0 = λ each. AllByRecursion (IsPartTellable all name) (form_parts each shown.form) in (
        is.chain,
        no_closer_form (KeptIn trust) setting.rrsets all zone name is.chain labels shown.form
            (each_by (Counts (KeptIn trust) setting.rrsets all zone name) (form_records shown.form)
            (λ number there.
            zone_as (IsShownGood all) setting.rrsets shown.proof.zone zone number.rrset (sym same)
            (own number (subst (Among number) (sym is.records) there))))
            (subst Tell is.kind tells) is.shows,
      )

  -- an RRset that holds for the name is borne out
  set_borne : (name : Labels) (t k s : ℕ) (before lines : List Line) → IsSecureSet (SecuredIn setting) setting.rrsets name t k s
      → IsSetTold setting name (signature_of k s) before lines → AreWithin (before ++ lines) all → IsSetBorne setting.rrsets all name t k s
  set_borne name t k s before lines is (as_owned rrset rrsig at plain told) within =
      let same_rrset : rrset ≡ is.rrset = one_numbered setting.rrsets k rrset is.rrset at.is_rrset is.is_rrset in
      let same_rrsig : rrsig ≡ is.rrsig =
      one_signature setting.rrsets k s rrset is.rrset at.rdata is.rdata rrsig is.rrsig at.is_rrset is.is_rrset at.is_signature is.is_signature at.read
      is.read in
      let Plain : ReceivedRrset → Rrsig → Type 0 = λ each by. ¬ IsExpanded each.owner by in
      let Rrset : ReceivedRrset → Type 0 = λ each. Plain each rrsig in
      let Rrsig : Rrsig → Type 0 = λ by. Plain is.rrset by in
      record {
        rrset = is.rrset;
        is_rrset = is.is_rrset;
        owner = is.owner;
        rdata = is.rdata;
        is_signature = is.is_signature;
        rrsig = is.rrsig;
        read = is.read;
        secured = signature_there setting all (signature_of k s) before lines told within;
        such = (is.such.0, inl (subst Rrsig same_rrsig (subst Rrset same_rrset plain)));
      }
  set_borne name t k s before lines is (by_wildcard rrset rrsig trust shown at expanded good shows told) within =
      let Lines : List Line → Type 0 = λ more. AreWithin (before ++ more) all in
      let parted : AreWithin (before ++ (told.first ++ told.second)) all = subst Lines told.parts within in
      let back : AreWithin ((before ++ told.first) ++ told.second) all = within_back before told.first told.second all parted in
      let same_rrsig : rrsig ≡ is.rrsig =
      one_signature setting.rrsets k s rrset is.rrset at.rdata is.rdata rrsig is.rrsig at.is_rrset is.is_rrset at.is_signature is.is_signature at.read
      is.read in
      let Closer : Rrsig → Type 0 = λ by.
      (chain : Chain) × NoCloserForm (words (told_words (shown_said setting.rrsets all by.signer chain) all)) by.signer name by.labels in
      let closer : Closer rrsig =
      closer_told trust name rrsig.labels rrsig.signer shown shows
      (denial_owns setting all name shown (before ++ told.first) told.second told.says_second back)
      (denial_tells setting all name shown (before ++ told.first) told.second told.says_second back) in
      record {
        rrset = is.rrset;
        is_rrset = is.is_rrset;
        owner = is.owner;
        rdata = is.rdata;
        is_signature = is.is_signature;
        rrsig = is.rrsig;
        read = is.read;
        secured = signature_there setting all (signature_of k s) before told.first told.says_first
            (within_front before told.first told.second all parted);
        such = (is.such.0, inr (subst Closer same_rrsig closer));
      }

  -- the alias of each link
  links_borne : (links : List Link) (before lines : List Line) → AreEach (IsLinkTold setting) links before lines → AreWithin (before ++ lines) all
      → (link : Link) → Contains links link → IsSecureSet (SecuredIn setting) setting.rrsets link.name cname link.rrset link.signature
      → IsSetBorne setting.rrsets all link.name cname link.rrset link.signature
  links_borne [] before lines told within link there is = absurd (omega (arith, there.1))
  links_borne (first ∷ links) before lines told within link there is =
      let Lines : List Line → Type 0 = λ more. AreWithin (before ++ more) all in
      let parted : AreWithin (before ++ (told.first ++ told.second)) all = subst Lines told.parts within in
      ⊎_elim
      (λ (same : first ≡ link).
      let First : Link → Type 0 = λ each. IsLinkTold setting each before told.first in
      set_borne link.name cname link.rrset link.signature before told.first is (subst First same told.says_first)
      (within_front before told.first told.second all parted))
      (λ (later : Contains links link).
      links_borne links (before ++ told.first) told.second told.says_second (within_back before told.first told.second all parted) link later is)
      (first_or_behind first links link there)

  -- ---- the verdict

  module _ (links : List Link) (last : Labels) (t : ℕ) where
    settled_borne : (verdict : Verdict) (before lines : List Line) → IsSettledAs (SecuredIn setting) setting.rrsets last t verdict
        → IsSettledTold setting last t verdict before lines → AreWithin (before ++ lines) all
        → BearsOut setting.rrsets (asked_by links last t) all verdict
    settled_borne (SecureAnswer k s) before lines is told within = set_borne last t k s before lines is.such told within
    settled_borne (SecureAlias k s) before lines is told within = set_borne last cname k s before lines is.2.such told within
    settled_borne (SecureNoName proof) before lines is told within =
        let shown = told.shown in
        let Borne : ProofRecords → Type 0 = λ each. IsDenialBorne setting.rrsets all (λ which. which ≡ form.NoName) each in
        subst Borne (no_name_shown setting told.trust told.good last shown proof told.is is.2)
        (denial_borne setting all last shown before lines told.told within told.is.records form.NoName
        (no_name_form (evidence_said (KeptIn told.trust) setting.rrsets shown.proof.zone told.is.chain) shown.proof.zone last shown.form told.is.shows))
    settled_borne (SecureNoData proof) before lines is told within =
        let shown = told.shown in
        let which =
        no_data_form (evidence_said (KeptIn told.trust) setting.rrsets shown.proof.zone told.is.chain) shown.proof.zone last t shown.form
        told.is.shows in
        let borne = denial_borne setting all last shown before lines told.told within told.is.records which.0 which.2 in
        let Borne : ProofRecords → Type 0 = λ each. IsDenialBorne setting.rrsets all DeniesType each in
        subst Borne (no_data_shown setting told.trust told.good last t shown proof told.is is.3)
        (record {
          proof = borne.proof;
          among = borne.among;
          such = subst DeniesType (sym borne.such) which.1;
          zone = borne.zone;
          signed = borne.signed;
          told = borne.told;
        })
    settled_borne (Insecure cut) before lines is told within = case_borne setting all last t cut before lines is told within
    settled_borne verdict before lines is told within = absurd told

-- ---- the whole

module _ (explained : Explained) (t : ℕ) (name : Labels) (links : List Link) (last : Labels) (all : List Line) where
  abbrev here : Setting
  here = setting_in explained

  abbrev Links : Type 0
  Links = (link : Link) → Contains links link → IsSetBorne explained.rrsets all link.name cname link.rrset link.signature

  module _ (Told End : List Line → List Line → Type 0) (before some : List Line)
      (told : AreBoth (AreBoth (AreEach (IsLinkTold here) links) Told) End before some) (within : AreWithin (before ++ some) all) where
    way_within : AreWithin (before ++ told.first) all
    way_within =
        let Lines : List Line → Type 0 = λ more. AreWithin (before ++ more) all in
        within_front before told.first told.second all (subst Lines told.parts within)

    parted : AreWithin (before ++ (told.says_first.first ++ told.says_first.second)) all
    parted = let Lines : List Line → Type 0 = λ more. AreWithin (before ++ more) all in subst Lines told.says_first.parts way_within

    links_of : LeadTo (basis_in explained) t name links last → Links
    links_of leads link there =
        links_borne here all links before told.says_first.first told.says_first.says_first
        (within_front before told.says_first.first told.says_first.second all parted) link there (links_secure explained t name links last leads link there).2.such

    verdict_within : AreWithin ((before ++ told.says_first.first) ++ told.says_first.second) all
    verdict_within = within_back before told.says_first.first told.says_first.second all parted

  settled : (verdict : Verdict) (lines : List Line) (End : List Line → List Line → Type 0) → IsVerdictOf (basis_in explained) name t links last verdict
      → IsSettledAs (SecuredIn here) explained.rrsets last t verdict
      → AreBoth (AreBoth (AreEach (IsLinkTold here) links) (IsSettledTold here last t verdict)) End [] lines → AreWithin lines all
      → BearsOut explained.rrsets (asked_by links last t) all verdict × Links
  settled verdict lines End of is told within = (
    settled_borne here all links last t verdict ([] ++ told.says_first.first) told.says_first.second is told.says_first.says_second
        (verdict_within (IsSettledTold here last t verdict) End [] lines told within),
    links_of (IsSettledTold here last t verdict) End [] lines told within of.way.leads,
  )

  failed : (verdict : Verdict) (lines : List Line) → IsVerdictOf (basis_in explained) name t links last verdict
      → AreBoth (IsFailureTold here last t) (IsHoldingTold explained t links last verdict) [] lines → AreWithin lines all → Links
  failed verdict lines of told within =
      let Lines : List Line → Type 0 = λ more. AreWithin more all in
      links_of (IsVerdictTold explained last t verdict) (IsEndTold explained verdict) told.first told.second told.says_second
      (subst Lines told.parts within) of.way.leads

  pub explanation_borne : (verdict : Verdict) (lines : List Line) → IsVerdictOf (basis_in explained) name t links last verdict
      → IsExplanation explained t links last verdict lines → AreWithin lines all
      → BearsOut explained.rrsets (asked_by links last t) all verdict × Links
  explanation_borne (Pending entries) lines of is within =
      (tt, links_of (IsVerdictTold explained last t (Pending entries)) (IsEndTold explained (Pending entries)) [] lines is within of.way.leads)
  explanation_borne Bogus lines of is within = (tt, failed Bogus lines of is within)
  explanation_borne Indeterminate lines of is within = (tt, failed Indeterminate lines of is within)
  explanation_borne verdict lines of is within = settled verdict lines (IsEndTold explained verdict) of of.is_verdict is within
