-- What verdicts mean for each zone that has the records which they rest on in its chain.
pub mod CompleteLemmas
use Rattle.std.proofs.Common.{◌⊎◌, ℕ, List, [], ◌∷◌, inl, inr, subst, sym, ⊎_elim}
use Rattle.dnsv_names.specs.Name.{Labels}
use Rattle.dnsv_records.specs.declared.rrsig.Rrsig.{Rrsig}
use Rattle.dnsv_zones.specs.forms.Forms.{NoCloserForm}
use Rattle.dnsv_zones.specs.forms.RecordWords.{words}
use Rattle.dnsv_zones.specs.zones.TypeNumbers.{cname}
use Rattle.dnsv_canonical.specs.Rrsets.{ReceivedRrset}
use Rattle.dnsv_canonical.specs.SignedData.{IsExpanded}
use Rattle.dnsv_chain.specs.Trusted.{IsSecured}
use Rattle.dnsv_denial.proofs.meaning.CutMeaningLemmas.{next_closer_means, cut_means}
use Rattle.dnsv_denial.proofs.meaning.DeniedMeaning.{denied_means}
use Rattle.dnsv_denial.proofs.meaning.ProofMeaningLemmas.{first_no_data_means, first_no_name_means}
use Rattle.dnsv_denial.specs.proving.FirstProof.{CanProveNoCloser}
use Rattle.dnsv_denial.specs.unsigned_cuts.Cuts.{HasUnsignedCut, IsUnsignedCut}
use Rattle.dnsv_denial.specs.gathering.EvidenceWords.{evidence_said}
use Rattle.dnsv_verdict.proofs.SearchLemmas.OptOutLemmas.{such_too}
use Rattle.dnsv_verdict.specs.Insecure.{IsOptOutWildcardCut}
use Rattle.dnsv_verdict.specs.Meaning.{AreOwnOrFromWildcards, IsOwnOrFromWildcard, IsShownFromWildcard, IsTrueOfZones, MeansOptOutWildcardCut}
use Rattle.dnsv_verdict.specs.Secure.{IsSecureSet}
use Rattle.dnsv_verdict.specs.Settled.{IsSettledAs}
use Rattle.dnsv_chain.specs.Basis.{Basis}
use Rattle.dnsv_verdict.specs.Verdict.{IsVerdictAt}
use Rattle.dnsv_verdict.specs.Way.{LeadTo}
use Rattle.dnsv_verdict.specs.declared.link.Link.{Link}
use Rattle.dnsv_verdict.specs.declared.verdict.Verdict.{Verdict}
use Rattle.dnsv_verdict.specs.declared.verdict.Verdict.TheVariants.{SecureAnswer, SecureAlias, SecureNoName, SecureNoData, Insecure, Pending, Bogus, Indeterminate}

module _ (S : ℕ → ℕ → Type 0) (rrsets : List ReceivedRrset) (name : Labels) where
  from_wildcard : (rrsig : Rrsig) → CanProveNoCloser S rrsets name rrsig.labels rrsig.signer → IsShownFromWildcard S rrsets name rrsig
  from_wildcard rrsig can =
      let form : NoCloserForm (words (evidence_said S rrsets rrsig.signer can.0)) rrsig.signer name rrsig.labels = can.1 in record {
        chain = can.0;
        number = form.next_closer.0;
        shown = form.next_closer.1;
        meaning = λ zone any. denied_means S rrsets name rrsig.signer rrsig.labels can.0 form.next_closer.0 form.above form.next_closer.1 zone any;
      }

  answer_means : (t k s : ℕ) → IsSecureSet S rrsets name t k s → IsOwnOrFromWildcard S rrsets name k s
  answer_means t k s at = such_too S rrsets name _ _ k s at (⊎_elim
      (λ (own : ¬ IsExpanded at.rrset.owner at.rrsig). inl own)
      (λ (can : CanProveNoCloser S rrsets name at.rrsig.labels at.rrsig.signer). inr (from_wildcard at.rrsig can)) at.such.1)

  opt_out_means : (t : ℕ) (cut : Labels) → IsOptOutWildcardCut S rrsets name t cut → MeansOptOutWildcardCut S rrsets name t cut
  opt_out_means t cut is =
      let such = is.earliest.such in
      let covered = next_closer_means S rrsets name such.rrsig.labels such.rrsig.signer cut (such.such.1.1, is.next_closer) in
      record { opt_out = is; chain = covered.0; covered = covered.1 }

  settled_means : (t : ℕ) (verdict : Verdict) → IsSettledAs S rrsets name t verdict → IsTrueOfZones S rrsets name t verdict
  settled_means t (SecureAnswer k s) is = answer_means t k s is.such
  settled_means t (SecureAlias k s) is = answer_means cname k s is.2.such
  settled_means t (SecureNoName proof) is = λ zone any has. first_no_name_means S rrsets name zone proof any is.2 has
  settled_means t (SecureNoData proof) is = λ zone has. first_no_data_means S rrsets name zone proof t is.3 has
  settled_means t (Insecure cut) is =
      ⊎_elim (λ (above : IsUnsignedCut S rrsets name cut). inl (cut_means S rrsets name cut above))
      (λ (opt_out : (¬ HasUnsignedCut S rrsets name) × IsOptOutWildcardCut S rrsets name t cut). inr (opt_out_means t cut opt_out.1)) is.4
  settled_means t verdict is = absurd is

-- what a verdict says is so of zones
pub verdict_means : (basis : Basis) (name : Labels) (t : ℕ) (verdict : Verdict) → IsVerdictAt basis name t verdict
    → IsTrueOfZones (IsSecured basis.meaning basis.moment basis.rrsets basis.anchors) basis.rrsets name t verdict
verdict_means basis name t (Pending entries) is = tt
verdict_means basis name t Bogus is = tt
verdict_means basis name t Indeterminate is = tt
verdict_means basis name t verdict is = settled_means _ basis.rrsets name t verdict is

-- and so is what each alias on a way says
pub aliases_mean : (basis : Basis) (t : ℕ) (name : Labels) (links : List Link) (last : Labels) → LeadTo basis t name links last
    → AreOwnOrFromWildcards (IsSecured basis.meaning basis.moment basis.rrsets basis.anchors) basis.rrsets links
aliases_mean basis t name [] last leads = tt
aliases_mean basis t name (link ∷ links) last (is, target, is_target, asked, leads) =
    let Means : Labels → Type 0 = λ each. IsOwnOrFromWildcard (IsSecured basis.meaning basis.moment basis.rrsets basis.anchors)
    basis.rrsets each link.rrset link.signature in (
      subst Means (sym is.0) (verdict_means basis name t (SecureAlias link.rrset link.signature) is.1),
      aliases_mean basis t target links last leads,
    )
