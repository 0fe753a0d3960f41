-- What is told of where a name may be unsigned stands wherever the signatures count that its lines call good.
use Rattle.std.proofs.Common.{◌∙◌, ◌≤◌, ℕ, List, ◌++◌, None, inl, inr, length, sym, ap, subst}
use Rattle.std.specs.List.{Contains}
use Rattle.dnsv_names.specs.Name.{Labels, lower_case, rightmost}
use Rattle.dnsv_zones.specs.forms.Parts.{OptsOut, OptsOutNextCloser}
use Rattle.dnsv_chain.specs.Trust.{KeptTrust, SecuredIn as KeptIn}
use Rattle.dnsv_proof_forms.specs.forms.Denials.{IsDelegationAt}
use Rattle.dnsv_proof_forms.specs.forms.ProofForms.{form_records}
use Rattle.dnsv_proof_forms.specs.forms.ShownUnsigned.{ShowsDelegation, ShowsOptOut}
use Rattle.dnsv_denial.specs.proving.ShownDenials.{IsFirstShown}
use Rattle.dnsv_denial.specs.unsigned_cuts.Cuts.{HasUnsignedCut, IsOptOutCut, IsUnsignedDelegationCut, IsUnusableDsCut}
use Rattle.dnsv_denial.specs.unsigned_cuts.ShownCut.{IsShownCut}
use Rattle.dnsv_denial.specs.unsigned_cuts.ShownCut.IsShownCut.{no_ds, no_usable_ds, opt_out}
use Rattle.dnsv_denial.specs.gathering.EvidenceWords.{evidence_said}
use Rattle.dnsv_proof_forms.specs.records.Numbers.{number_cmp}
use Rattle.dnsv_denial.specs.declared.proving.shown_denial.ShownDenial.{ShownDenial}
use Rattle.dnsv_canonical.specs.declared.number.RecordNumber.{RecordNumber}
use Rattle.dnsv_denial.specs.declared.unsigned_cuts.shown_cut.ShownCut.{ShownCut}
use Rattle.dnsv_verdict.specs.Insecure.{IsUnsigned}
use Rattle.dnsv_derivations.specs.Denials.{IsDenialTold}
use Rattle.dnsv_derivations.specs.Explained.{Setting}
use Rattle.dnsv_holding.specs.Holding.{IsUnsignedFromTold, signature_of}
use Rattle.dnsv_holding.specs.Holding.IsUnsignedFromTold.{by_cut, by_wildcard}
use Rattle.dnsv_derivations.specs.Following.{IsSignatureSaid}
use Rattle.dnsv_derivations.specs.Saying.{AreBoth}
use Rattle.dnsv_derivations.specs.derivations.OwnDerivations.{IsSignatureTold}
use Rattle.dnsv_derivations.specs.unsigned_cuts.ShownCuts.{IsCutTold}
use Rattle.dnsv_derivations.specs.unsigned_cuts.UnsignedCuts.{AreAllTold, IsCaseTold, IsUnusableTold}
use Rattle.dnsv_lines.specs.declared.line.Line.{Line}
use Rattle.dnsv_lines.specs.declared.line.cut.InsecureCase.TheVariants as case
use Rattle.dnsv_derivations.proofs.lemmas.denials.PartLemmas.{zone_as}
use Rattle.dnsv_derivations.proofs.lemmas.denials.ShownLemmas.{spelled}
use Rattle.dnsv_derivations.proofs.lemmas.denials.StandingLemmas.{Counts, delegation_by, each_by, opt_out_by, opt_out_closer_by}
use Rattle.dnsv_explain_laws.proofs.holding.stands.ToldLemmas.{Lies, back, denial_counts, front, signature_counts}

module _ (setting : Setting) (T : ℕ → ℕ → Type 0) (all : List Line) (counts : (k s : ℕ) → IsSignatureSaid all (signature_of k s) → T k s)
    (name : Labels) where
  abbrev LiesIn : List Line → List Line → Type 0
  LiesIn before lines = Lies setting T all counts before lines

  delegation_stands : (S : ℕ → ℕ → Type 0) (labels : ℕ) (shown : ShownDenial) (before lines : List Line) → LiesIn before lines
      → IsFirstShown S setting.rrsets name (λ said zone. IsDelegationAt said zone name labels) (λ said zone. ShowsDelegation number_cmp said zone name labels) shown
      → IsDenialTold setting name shown before lines → IsUnsignedDelegationCut T setting.rrsets name labels
  delegation_stands S labels shown before lines lies is told =
      let zone = shown.proof.zone in
      let form : IsDelegationAt (evidence_said T setting.rrsets zone is.chain) zone name labels =
      delegation_by S T setting.rrsets zone name is.chain labels shown.form
      (each_by (Counts S T setting.rrsets zone name) (form_records shown.form)
      (λ number there. denial_counts setting T all counts name shown before lines lies told number ((is.records.members number).1 there)))
      is.shows in
      let Stands : Labels → Type 0 = λ each. IsDelegationAt (evidence_said T setting.rrsets each is.chain) each name labels in
      let whole : Stands (rightmost name is.labels) = subst Stands is.zone form in
      (whole.fits, is.labels, is.at_or_above, is.chain, whole.form)

  opt_out_stands : (S : ℕ → ℕ → Type 0) (labels : ℕ) (shown : ShownDenial) (before lines : List Line) → LiesIn before lines
      → IsFirstShown S setting.rrsets name (λ said zone. OptsOut said zone name labels) (λ said zone. ShowsOptOut number_cmp said zone name labels) shown
      → IsDenialTold setting name shown before lines → IsOptOutCut T setting.rrsets name labels
  opt_out_stands S labels shown before lines lies is told =
      let zone = shown.proof.zone in
      let form : OptsOut (evidence_said T setting.rrsets zone is.chain) zone name labels =
      opt_out_by S T setting.rrsets zone name is.chain labels shown.form
      (each_by (Counts S T setting.rrsets zone name) (form_records shown.form)
      (λ number there. denial_counts setting T all counts name shown before lines lies told number ((is.records.members number).1 there)))
      is.shows in
      let Stands : Labels → Type 0 = λ each. OptsOut (evidence_said T setting.rrsets each is.chain) each name labels in
      (is.labels, is.at_or_above, is.chain, subst Stands is.zone form)

  unusable_stands : (labels : ℕ) → labels ≤ length name → (before lines : List Line) → LiesIn before lines
      → IsUnusableTold setting (rightmost name labels) before lines → IsUnusableDsCut T setting.rrsets name labels
  unusable_stands labels within before lines lies told =
      let is = told.first.is in record {
        at_or_above = within;
        k = told.k;
        rrset = is.ds;
        is_rrset = is.is_ds;
        rtype = is.rtype;
        owner = is.owner;
        signature = told.s;
        secured = signature_counts setting T all counts before told.told.first
            (front setting T all counts (IsSignatureTold setting (signature_of told.k told.s))
            (AreBoth (IsCaseTold case.UnusableDs (rightmost name labels) None) (AreAllTold setting.rrsets told.k)) before lines told.told lies)
            (signature_of told.k told.s) told.told.says_first;
        records = is.records;
        read = is.read;
        none = is.none;
      }

  cut_stands : (trust : KeptTrust) (cut : ShownCut) (before lines : List Line) → LiesIn before lines
      → IsShownCut (KeptIn trust) setting.rrsets name cut → IsCutTold setting name cut before lines → HasUnsignedCut T setting.rrsets name
  cut_stands trust _ before lines lies (no_ds labels shown few is) told =
      (labels, inl (delegation_stands (KeptIn trust) labels shown before lines lies is told))
  cut_stands trust _ before lines lies (no_usable_ds labels none few) told =
      (labels, inr (inl (unusable_stands labels few.holds.at_or_above before lines lies told)))
  cut_stands trust _ before lines lies (opt_out labels shown none usable most is) told =
      (labels, inr (inr (opt_out_stands (KeptIn trust) labels shown before lines lies is told)))

  -- a name that may be unsigned may be so
  pub unsigned_stands : (t : ℕ) (before lines : List Line) → LiesIn before lines → IsUnsignedFromTold setting name t before lines
      → IsUnsigned T setting.rrsets name t
  unsigned_stands t before lines lies (by_cut shown is told) = inl (cut_stands is.0 shown before lines lies is.2 told)
  unsigned_stands t before lines lies (by_wildcard trust good none k s first shown is told) =
      let such = first.such in
      let First : List Line → List Line → Type 0 = IsSignatureTold setting (signature_of k s) in
      let Second : List Line → List Line → Type 0 = IsDenialTold setting name shown in
      let zone = such.rrsig.signer in
      let later = back setting T all counts First Second before lines told lies in
      let above = such.such.1.1.above in
      let same = ap lower_case is.zone ∙ sym (spelled name zone such.rrsig.labels above) in
      let Among : RecordNumber → List RecordNumber → Type 0 = λ number each. Contains each number in
      let form : OptsOutNextCloser (evidence_said T setting.rrsets zone is.chain) zone name such.rrsig.labels =
      opt_out_closer_by (KeptIn trust) T setting.rrsets zone name is.chain such.rrsig.labels shown.form
      (each_by (Counts (KeptIn trust) T setting.rrsets zone name) (form_records shown.form)
      (λ number there.
      zone_as T setting.rrsets shown.proof.zone zone number.rrset same
      (denial_counts setting T all counts name shown (before ++ told.first) told.second later told.says_second number
      (subst (Among number) (sym is.records) there))))
      is.shows in
      inr (
        k,
        s,
        record {
          rrset = such.rrset;
          is_rrset = such.is_rrset;
          owner = such.owner;
          rdata = such.rdata;
          is_signature = such.is_signature;
          rrsig = such.rrsig;
          read = such.read;
          secured = signature_counts setting T all counts before told.first (front setting T all counts First Second before lines told lies)
              (signature_of k s) told.says_first;
          such = (
            such.such.0,
            (
              such.such.1.0,
              record { above = form.above; chain = is.chain; covering = form.opted_out.0; opted_out = form.opted_out.1 },
            ),
          );
        },
      )
