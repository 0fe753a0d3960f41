-- What the lines of a text that checks bear out is so.
use Rattle.std.proofs.Common.{◌+◌, ℕ, List, [], ◌∷◌, inl, inr, refl, ⊎_elim}
use Rattle.dnsv_names.specs.Name.{Labels, rightmost}
use Rattle.dnsv_zones.specs.forms.Forms.{NoCloserForm}
use Rattle.dnsv_zones.specs.forms.RecordWords.{words}
use Rattle.dnsv_zones.proofs.lemmas.meaning.MeaningLemmas.{held_at_wildcard}
use Rattle.dnsv_canonical.specs.SignedData.{IsExpanded}
use Rattle.dnsv_denial.specs.proving.FirstProof.{ProofRecords}
use Rattle.dnsv_denial.specs.gathering.EvidenceWords.{Chain}
use Rattle.dnsv_canonical.proofs.CanonicalLemmas.{IsMember}
use Rattle.dnsv_derivations.specs.Explained.{Setting}
use Rattle.dnsv_derivations.specs.Following.{EachFollows}
use Rattle.dnsv_lines.specs.declared.line.Line.{Line}
use Rattle.dnsv_rules.specs.Borne.{IsOfWildcard, IsSetBorne, IsSetTrue}
use Rattle.dnsv_rules.specs.Told.{IsShownGood, shown_said, told_words}
use Rattle.dnsv_rules.proofs.truth.RecordLemmas.{are_such, is_secured}
use Rattle.dnsv_rules.proofs.truth.WordLemmas.{deny, is_zone}

module _ (setting : Setting) (lines : List Line) (follows : EachFollows setting [] lines) (name : Labels) where
  -- what is told against closer names is so of each zone that has the record
  of_wildcard : (zone : Labels) (labels : ℕ) (chain : Chain)
      → NoCloserForm (words (told_words (shown_said setting.rrsets lines zone chain) lines)) zone name labels → IsOfWildcard setting lines zone name labels
  of_wildcard zone labels chain form =
      let next = rightmost name (labels + 1) in
      let n = form.next_closer.0 in
      let proof : ProofRecords = record { zone = zone; records = n ∷ [] } in
      let such = (are_such setting lines follows zone chain).absent next n form.next_closer.1 in
      record {
        chain = chain;
        number = n;
        of_chain = such.0;
        told = such.1;
        means = λ its t has holds.
            let denies = deny (IsShownGood lines) setting.rrsets proof its chain has in
            let is = is_zone setting.rrsets proof its has in
            let there : IsMember n (n ∷ []) = inl refl in
            held_at_wildcard its denies.its zone name labels t is.0 is.1 denies.absent
            (record { above = form.above; next_closer = denies.say.absent next n there form.next_closer.1.0 }) holds;
      }

  pub set_true : (t k s : ℕ) → IsSetBorne setting.rrsets lines name t k s → IsSetTrue setting lines name t k s
  set_true t k s borne = record {
    rrset = borne.rrset;
    is_rrset = borne.is_rrset;
    owner = borne.owner;
    rdata = borne.rdata;
    is_signature = borne.is_signature;
    rrsig = borne.rrsig;
    read = borne.read;
    secured = is_secured setting lines follows name k s borne.secured;
    such = (
      borne.such.0,
      ⊎_elim (λ (plain : ¬ IsExpanded borne.rrset.owner borne.rrsig). inl plain)
          (λ (closer : (chain : Chain) × NoCloserForm (words (told_words (shown_said setting.rrsets lines borne.rrsig.signer chain) lines)) borne.rrsig.signer
          name borne.rrsig.labels). inr (of_wildcard borne.rrsig.signer borne.rrsig.labels closer.0 closer.1)) borne.such.1,
    );
  }
