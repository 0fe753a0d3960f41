-- What the records of a zone say is the same where the zone's name is spelled in another case.
use Rattle.std.proofs.Common.{◌≡◌, ℕ, ◌+◌, List, [], ◌∷◌, length, refl, sym, ap, ◌∙◌, subst, inl, inr, ⊎_elim}
use Rattle.std.specs.List.Sorted.{IsStrictlySortedBy}
use Rattle.std.specs.Ordering.{ordering_reverse}
use Rattle.std.specs.declared.cmp.Ordering.TheVariants.{Less, Greater}
use Rattle.dnsv_names.specs.Name.{Labels, SameName, rightmost}
use Rattle.dnsv_names.specs.Tree.TreeLaws.{at_or_below_respects}
use Rattle.dnsv_zones.specs.chains.Nsec3Chain.{Nsec3Record}
use Rattle.dnsv_zones.specs.chains.NsecChain.{NsecRecord}
use Rattle.dnsv_zones.specs.forms.Forms.{IsAbove, NoCloserForm}
use Rattle.dnsv_zones.specs.forms.Parts.{OptsOutNextCloser}
use Rattle.dnsv_canonical.specs.Rrsets.{ReceivedRrset}
use Rattle.dnsv_canonical.proofs.CanonicalLemmas.{IsMember, IsMember-from_contains, Contains-from_member}
use Rattle.dnsv_proof_forms.specs.forms.ProofForms.{ShowsNoCloser, form_records}
use Rattle.dnsv_proof_forms.specs.forms.ProofForms.ShowsNoCloser.{no_closer}
use Rattle.dnsv_proof_forms.specs.forms.ShownUnsigned.{ShowsOptOutCloser}
use Rattle.dnsv_proof_forms.specs.forms.ShownUnsigned.ShowsOptOutCloser.{opt_out_closer}
use Rattle.dnsv_denial.specs.gathering.Evidence.{IsNsecAt, IsNsec3At, IsSecuredBy}
use Rattle.dnsv_denial.specs.gathering.Kept.{IsZoneProof}
use Rattle.dnsv_denial.specs.proving.FirstProof.{AreRecordsOf, CanProveNoCloser, IsFirstNoCloser, IsFirstOfZone, ProofRecords, StandsBy}
use Rattle.dnsv_denial.specs.proving.ShownDenials.{IsShownNoCloser}
use Rattle.dnsv_denial.specs.unsigned_cuts.Cuts.{HasOptedOutNextCloser}
use Rattle.dnsv_denial.specs.unsigned_cuts.ShownCut.{IsShownOptOutCloser}
use Rattle.dnsv_denial.specs.gathering.EvidenceWords.{Chain, evidence_said}
use Rattle.dnsv_proof_forms.specs.records.Numbers.{number_cmp}
use Rattle.dnsv_denial.specs.gathering.EvidenceWords.Chain.{ByNsec, ByNsec3}
use Rattle.dnsv_proof_forms.specs.declared.forms.denial.Denial.TheVariants as denied
use Rattle.dnsv_proof_forms.specs.declared.forms.proof_form.ProofForm.{ProofForm}
use Rattle.dnsv_denial.specs.declared.proving.shown_denial.ShownDenial.{ShownDenial}
use Rattle.dnsv_canonical.specs.declared.number.RecordNumber.{RecordNumber}
use Rattle.dnsv_denial.proofs.lemmas.proving.NumberLemmas.{number_cmp_total}

-- ---- one record alone

not_itself : (a : RecordNumber) → number_cmp a a ≡ Less → ⊥
not_itself a less = let turned : Less ≡ Greater = sym less ∙ number_cmp_total.antisymm a a ∙ ap ordering_reverse less in cc

only : (part : RecordNumber) (records : List RecordNumber) → IsStrictlySortedBy number_cmp records
    → ((n : RecordNumber) → IsMember n records → n ≡ part) → IsMember part records → records ≡ part ∷ []
unfolding IsStrictlySortedBy
only part [] rising are there = absurd there
only part (x ∷ []) rising are there = ap (λ y. y ∷ []) (are x (inl refl))
only part (x ∷ (y ∷ rest)) rising are there =
    let first : x ≡ part = are x (inl refl) in
    let second : y ≡ part = are y (inr (inl refl)) in
    let less : number_cmp x y ≡ Less = rising.0.0 in
    absurd (not_itself part (subst (λ z. number_cmp part z ≡ Less) second (subst (λ z. number_cmp z y ≡ Less) first less)))

pub one_alone : (part : RecordNumber) (records : List RecordNumber) → AreRecordsOf (part ∷ []) records → records ≡ part ∷ []
one_alone part records are =
    only part records are.rising
    (λ n there. ⊎_elim (λ (same : n ≡ part). same) (λ none. absurd none) (IsMember-from_contains (part ∷ []) n ((are.members n).0 (Contains-from_member records n there))))
    (IsMember-from_contains records part ((are.members part).1 (Contains-from_member (part ∷ []) part (inl refl))))

-- ---- another spelling

module _ (Secured : ℕ → ℕ → Type 0) (rrsets : List ReceivedRrset) (name : Labels) (labels : ℕ) where
  secured_as : (a b : Labels) → SameName a b → (k : ℕ) → IsSecuredBy Secured rrsets a k → IsSecuredBy Secured rrsets b k
  secured_as a b same k is = record {
    rrset = is.rrset;
    is_rrset = is.is_rrset;
    signed = record {
      signature = is.signed.signature;
      secured = is.signed.secured;
      rdata = is.signed.rdata;
      is_signature = is.signed.is_signature;
      rrsig = is.signed.rrsig;
      read = is.signed.read;
      signer = is.signed.signer ∙ same;
      unexpanded = is.signed.unexpanded;
    };
  }

  pub nsec_as : (a b : Labels) → SameName a b → (n : RecordNumber) (nsec : NsecRecord) → IsNsecAt Secured rrsets a n nsec → IsNsecAt Secured rrsets b n nsec
  nsec_as a b same n nsec at = record { is = at.is; secured = secured_as a b same n.rrset at.secured }

  pub nsec3_as : (a b : Labels) → SameName a b → (n : RecordNumber) (nsec3 : Nsec3Record) → IsNsec3At Secured rrsets a n nsec3 → IsNsec3At Secured rrsets b n nsec3
  nsec3_as a b same n nsec3 at = record {
    is = record {
      rrset = at.is.rrset;
      rdata = at.is.rdata;
      at = at.is.at;
      rtype = at.is.rtype;
      owner = record {
        label = at.is.owner.label;
        parent = at.is.owner.parent;
        parts = at.is.owner.parts;
        in_zone = at.is.owner.in_zone ∙ same;
        is_hash = at.is.owner.is_hash;
        spelled = at.is.owner.spelled;
      };
      fields = at.is.fields;
      read = at.is.read;
      usable = at.is.usable;
      next = at.is.next;
      flags = at.is.flags;
      types = at.is.types;
      parameters = at.is.parameters;
    };
    secured = secured_as a b same n.rrset at.secured;
  }

  absent_as : (a b : Labels) → SameName a b → (chain : Chain) (x : Labels) (n : RecordNumber)
      → (evidence_said Secured rrsets a chain).Absent x n → (evidence_said Secured rrsets b chain).Absent x n
  absent_as a b same ByNsec x n said = (said.0, nsec_as a b same n said.0 said.1, said.2)
  absent_as a b same (ByNsec3 parameters) x n said = (said.0, nsec3_as a b same n said.0 said.1, said.2)

  pub opted_out_as : (a b : Labels) → SameName a b → (chain : Chain) (x : Labels) (n : RecordNumber)
      → (evidence_said Secured rrsets a chain).OptedOut x n → (evidence_said Secured rrsets b chain).OptedOut x n
  opted_out_as a b same ByNsec x n said = said
  opted_out_as a b same (ByNsec3 parameters) x n said = (said.0, nsec3_as a b same n said.0 said.1, said.2)

  pub above_as : (a b : Labels) → SameName a b → IsAbove a name labels → IsAbove b name labels
  above_as a b same above = record {
    proper = above.proper;
    within = at_or_below_respects (rightmost name labels) (rightmost name labels) a b refl same above.within;
  }

  pub closer_as : (a b : Labels) → SameName a b → (chain : Chain)
      → StandsBy Secured rrsets (λ said each. NoCloserForm said each name labels) a chain
      → StandsBy Secured rrsets (λ said each. NoCloserForm said each name labels) b chain
  closer_as a b same chain form = record {
    above = above_as a b same form.above;
    next_closer = (form.next_closer.0, absent_as a b same chain (rightmost name (labels + 1)) form.next_closer.0 form.next_closer.1);
  }

  pub none_closer : (a b : Labels) → SameName a b
      → ((chain : Chain) → ¬ StandsBy Secured rrsets (λ said each. NoCloserForm said each name labels) a chain) → ¬ CanProveNoCloser Secured rrsets name labels b
  none_closer a b same none proved = none proved.0 (closer_as b a (sym same) proved.0 proved.1)

  shows_as : (a b : Labels) → SameName a b → (chain : Chain) (form : ProofForm RecordNumber)
      → ShowsNoCloser number_cmp (evidence_said Secured rrsets a chain) a name labels form → ShowsNoCloser number_cmp (evidence_said Secured rrsets b chain) b name labels form
  shows_as a b same chain whole (no_closer number part) = no_closer number (record {
    above = above_as a b same part.above;
    next_closer = record {
      says = absent_as a b same chain (rightmost name (labels + 1)) number part.next_closer.says;
      earliest = λ other said less. part.next_closer.earliest other (absent_as b a (sym same) chain (rightmost name (labels + 1)) other said) less;
    };
  })

  records_alone : (apex : Labels) (chain : Chain) (shown : ProofForm RecordNumber) (records : List RecordNumber)
      → ShowsNoCloser number_cmp (evidence_said Secured rrsets apex chain) apex name labels shown → AreRecordsOf (form_records shown) records → records ≡ form_records shown
  records_alone apex chain whole records (no_closer number part) are = one_alone number records are

  -- the first of the kept zone is that of the zone in the other spelling
  pub first_closer : (a b : Labels) (shown : ShownDenial) → SameName a b → a ≡ rightmost name (length b)
      → IsZoneProof Secured rrsets (denied.NoCloser labels) name a shown → IsShownNoCloser Secured rrsets name labels b shown
  first_closer a b shown same is found = record {
    zone = found.by_chain.its_zone ∙ is;
    chain = found.chain;
    kind = found.by_chain.kind;
    first = λ other before stands. found.first other before (closer_as b a (sym same) other stands);
    shows = shows_as a b same found.chain shown.form found.by_chain.shows;
    records = records_alone a found.chain shown.form shown.proof.records found.by_chain.shows found.by_chain.records;
  }

  -- what is shown is the first proof, by its one record
  proof_by : (b : Labels) (proof : ProofRecords) (chain : Chain) (form : ProofForm RecordNumber)
      → proof.zone ≡ rightmost name (length b) → IsFirstOfZone Secured rrsets (λ said each. NoCloserForm said each name labels) b chain
      → ShowsNoCloser number_cmp (evidence_said Secured rrsets b chain) b name labels form → proof.records ≡ form_records form
      → IsFirstNoCloser Secured rrsets name labels b proof
  proof_by b proof chain whole zone first (no_closer number part) records = record {
    zone = zone;
    chain = chain;
    stands = record { above = part.above; next_closer = (number, part.next_closer.says) };
    first = first;
    part = number;
    chosen = part;
    records = records;
  }

  pub closer_of_shown : (b : Labels) (shown : ShownDenial) → IsShownNoCloser Secured rrsets name labels b shown → IsFirstNoCloser Secured rrsets name labels b shown.proof
  closer_of_shown b shown first = proof_by b shown.proof first.chain shown.form first.zone first.first first.shows first.records

  -- ---- the same of Opt-Out

  out_as : (a b : Labels) → SameName a b → (chain : Chain)
      → OptsOutNextCloser (evidence_said Secured rrsets a chain) a name labels → OptsOutNextCloser (evidence_said Secured rrsets b chain) b name labels
  out_as a b same chain out = record {
    above = above_as a b same out.above;
    opted_out = (out.opted_out.0, opted_out_as a b same chain (rightmost name (labels + 1)) out.opted_out.0 out.opted_out.1);
  }

  shows_out_as : (a b : Labels) → SameName a b → (chain : Chain) (form : ProofForm RecordNumber)
      → ShowsOptOutCloser number_cmp (evidence_said Secured rrsets a chain) a name labels form → ShowsOptOutCloser number_cmp (evidence_said Secured rrsets b chain) b name labels form
  shows_out_as a b same chain whole (opt_out_closer number shows) = opt_out_closer number (record {
    above = above_as a b same shows.above;
    next_closer = record {
      says = opted_out_as a b same chain (rightmost name (labels + 1)) number shows.next_closer.says;
      earliest = λ other said less. shows.next_closer.earliest other (opted_out_as b a (sym same) chain (rightmost name (labels + 1)) other said) less;
    };
  })

  out_alone : (apex : Labels) (chain : Chain) (shown : ProofForm RecordNumber) (records : List RecordNumber)
      → ShowsOptOutCloser number_cmp (evidence_said Secured rrsets apex chain) apex name labels shown → AreRecordsOf (form_records shown) records → records ≡ form_records shown
  out_alone apex chain whole records (opt_out_closer number shows) are = one_alone number records are

  pub first_out : (a b : Labels) (shown : ShownDenial) → SameName a b → a ≡ rightmost name (length b)
      → IsZoneProof Secured rrsets (denied.OptOutCloser labels) name a shown → IsShownOptOutCloser Secured rrsets name labels b shown
  first_out a b shown same is found = record {
    zone = found.by_chain.its_zone ∙ is;
    chain = found.chain;
    kind = found.by_chain.kind;
    first = λ other before out. found.first other before (out_as b a (sym same) other out);
    shows = shows_out_as a b same found.chain shown.form found.by_chain.shows;
    records = out_alone a found.chain shown.form shown.proof.records found.by_chain.shows found.by_chain.records;
  }

  pub none_out : (a b : Labels) → SameName a b → ((chain : Chain) → ¬ OptsOutNextCloser (evidence_said Secured rrsets a chain) a name labels)
      → ¬ HasOptedOutNextCloser Secured rrsets name labels b
  none_out a b same none has = none has.chain (out_as b a (sym same) has.chain (record { above = has.above; opted_out = (has.covering, has.opted_out) }))
