-- What records of the evidence that leave names unsigned mean for each zone that has them in its chain.
use Rattle.std.proofs.Common.{◌≡◌, ◌≢◌, ℕ, ◌+◌, List, [], ◌∷◌, refl, sym, subst, inl, inr, ⊎_elim}
use Rattle.dnsv_names.specs.Tree.AncestorLaws.{rightmost_above}
use Rattle.dnsv_names.specs.Name.{Labels, IsAtOrBelow, rightmost}
use Rattle.dnsv_names.specs.Order.{IsBelow}
use Rattle.dnsv_names.specs.Tree.{wildcard_of}
use Rattle.dnsv_zones.specs.chains.HashedNames.{sha1_hash}
use Rattle.dnsv_zones.specs.chains.Nsec3Chain.{Parameters, IsUnsignedEnd}
use Rattle.dnsv_zones.specs.chains.Nsec3Chain.IsAsked.{itself as asked_above}
use Rattle.dnsv_zones.specs.chains.NsecChain.{IsInBitmap}
use Rattle.dnsv_zones.specs.forms.Nsec.{nsec_words}
use Rattle.dnsv_zones.specs.forms.Nsec3.{Matches, Covers, nsec3_words}
use Rattle.dnsv_zones.specs.zones.Types.{IsClosed, IsUnsignedDelegation}
use Rattle.dnsv_zones.specs.zones.Zone.{Zone, Holds, IsNode, IsClosedAt}
use Rattle.dnsv_zones.proofs.lemmas.AnyLemmas.{any_map}
use Rattle.dnsv_zones.proofs.lemmas.meaning.MeaningLemmas.{unsigned_cut}
use Rattle.dnsv_zones.proofs.lemmas.meaning.NsecTruth.{nsec_true, absent as absent_by_nsec}
use Rattle.dnsv_zones.proofs.lemmas.meaning.Nsec3Truth.{nsec3_true, open_node, absent as absent_by_nsec3, covered_end}
use Rattle.dnsv_canonical.specs.Rrsets.{ReceivedRrset}
use Rattle.dnsv_denial.specs.proving.ProofMeaning.{IsWithoutCollision}
use Rattle.dnsv_denial.specs.proving.ProofMeaning.HasProofRecords.{by_nsec, by_nsec3}
use Rattle.dnsv_denial.specs.unsigned_cuts.CutMeaning.{HasRecord, HasRecordWithoutCollision, IsCover, IsCoveredEnd, IsShownEncloser, IsShownUnsigned, MayLeaveOut, MeansCut}
use Rattle.dnsv_denial.specs.unsigned_cuts.CutMeaning.MeansCut.{no_ds as means_no_ds_cut, no_usable_ds as means_no_usable_ds, opt_out as means_by_opt_out}
use Rattle.dnsv_denial.specs.unsigned_cuts.Cuts.{HasOptedOutNextCloser, IsOptOutCut, IsUnsignedCut, IsUnsignedDelegationCut}
use Rattle.dnsv_denial.specs.unsigned_cuts.Cuts.IsUnsignedCut.{no_ds, no_usable_ds, opt_out}
use Rattle.dnsv_denial.specs.gathering.EvidenceWords.{Chain, evidence_said, nsec3_said}
use Rattle.dnsv_denial.specs.gathering.EvidenceWords.Chain.{ByNsec, ByNsec3}
use Rattle.dnsv_canonical.specs.declared.number.RecordNumber.{RecordNumber}
use Rattle.dnsv_denial.proofs.meaning.ProofMeaningLemmas.{no_nsec3, nsec_say, nsec_no_nsec3, nsec3_no_nsec, nsec3_say, said_with, with_parameters}

module _ (Secured : ℕ → ℕ → Type 0) (rrsets : List ReceivedRrset) (name apex : Labels) (n : RecordNumber) (zone : Zone) where
  unsigned_by : (cut : Labels) (chain : Chain) → IsAtOrBelow name cut → IsBelow cut apex → (evidence_said Secured rrsets apex chain).TypesAt cut IsUnsignedDelegation n
      → (has : HasRecord rrsets apex n zone) → IsWithoutCollision name has → IsUnsignedDelegation (Holds zone cut)
  unsigned_by cut ByNsec above below said (by_nsec records all has) apart =
      unsigned_cut zone (nsec_words apex records) apex name has.well_formed has.same_apex (nsec_true zone apex name records has.well_formed has.same_apex has.in_chain) cut
      (record { at_or_above = above; below_apex = below; types = (nsec_say Secured rrsets apex (n ∷ []) records all).types_at cut IsUnsignedDelegation n (inl refl) said })
  unsigned_by cut (ByNsec3 parameters) above below said (by_nsec records all has) apart =
      absurd ((nsec_no_nsec3 Secured rrsets apex (n ∷ []) records all parameters).types_at cut IsUnsignedDelegation n (inl refl) said)
  unsigned_by cut ByNsec above below said (by_nsec3 others records all has) apart =
      absurd ((nsec3_no_nsec Secured rrsets apex (n ∷ []) apex records all).types_at cut IsUnsignedDelegation n (inl refl) said)
  unsigned_by cut (ByNsec3 parameters) above below said (by_nsec3 others records all has) apart =
      let hash = sha1_hash others in
      unsigned_cut zone (nsec3_words hash records) apex name has.well_formed has.same_apex
      (nsec3_true zone hash has.names records name has.well_formed has.chain_names apart has.in_chain) cut
      (record {
        at_or_above = above;
        below_apex = below;
        types = (nsec3_say Secured rrsets apex (n ∷ []) apex records all parameters others (with_parameters zone hash has.names records has.in_chain)).types_at cut IsUnsignedDelegation n (inl refl) said;
      })

  -- what a record shows to be a delegation without DS is one of the zone
  pub shown_unsigned : (cut : Labels) (chain : Chain) → IsAtOrBelow name cut → IsBelow cut apex → (evidence_said Secured rrsets apex chain).TypesAt cut IsUnsignedDelegation n
      → HasRecordWithoutCollision rrsets name apex n zone → IsUnsignedDelegation (Holds zone cut)
  shown_unsigned cut chain above below said both = unsigned_by cut chain above below said both.has both.apart

  encloser_by : (x : Labels) (parameters : Parameters) → IsAtOrBelow name x → (nsec3_said Secured rrsets apex parameters).Encloser x n
      → (has : HasRecord rrsets apex n zone) → IsWithoutCollision name has → IsNode zone x × ¬ IsClosedAt zone x
  encloser_by x parameters above said (by_nsec records all has) apart =
      absurd (no_nsec3 Secured rrsets apex (n ∷ []) records all (λ r. Matches (sha1_hash parameters) r x × ¬ IsClosed (IsInBitmap r.types)) n (inl refl) said)
  encloser_by x parameters above said (by_nsec3 others records all has) apart =
      let hash = sha1_hash others in
      open_node zone hash has.names records name has.well_formed has.chain_names apart has.in_chain x (asked_above x above)
      ((nsec3_say Secured rrsets apex (n ∷ []) apex records all parameters others (with_parameters zone hash has.names records has.in_chain)).encloser x n (inl refl) said)

  -- what a record shows to be a closest encloser is a node of the zone, with no delegation and no DNAME
  pub shown_encloser : (x : Labels) (parameters : Parameters) → IsAtOrBelow name x → (nsec3_said Secured rrsets apex parameters).Encloser x n
      → HasRecordWithoutCollision rrsets name apex n zone → IsNode zone x × ¬ IsClosedAt zone x
  shown_encloser x parameters above said both = encloser_by x parameters above said both.has both.apart

module _ (Secured : ℕ → ℕ → Type 0) (rrsets : List ReceivedRrset) (apex : Labels) (n : RecordNumber) (zone : Zone) where
  -- what a record covers is no node of the zone, or an unsigned end
  pub opted_out_end : (covered : Labels) (chain : Chain) → (evidence_said Secured rrsets apex chain).OptedOut covered n → HasRecord rrsets apex n zone
      → IsNode zone covered → IsUnsignedEnd zone covered
  opted_out_end covered ByNsec said has = absurd said
  opted_out_end covered (ByNsec3 parameters) said (by_nsec records all has) =
      absurd (no_nsec3 Secured rrsets apex (n ∷ []) records all (λ r. Covers (sha1_hash parameters) r covered × (r.flags ≢ 0)) n (inl refl) said)
  opted_out_end covered (ByNsec3 parameters) said (by_nsec3 others records all has) =
      let hash = sha1_hash others in
      covered_end zone hash has.names records has.in_chain has.chain_names covered
      (any_map (λ r. Covers hash r covered × (r.flags ≢ 0)) (λ r. Covers hash r covered) records (λ r both. both.0)
      (said_with Secured rrsets apex (n ∷ []) apex records all parameters others (with_parameters zone hash has.names records has.in_chain)
      (λ h r. Covers h r covered × (r.flags ≢ 0)) (λ r is. is.0.same_parameters) n (inl refl) said))

  -- what a record denies is no node of the zone
  pub absent_end : (covered : Labels) (chain : Chain) → (evidence_said Secured rrsets apex chain).Absent covered n → HasRecord rrsets apex n zone → ¬ IsNode zone covered
  absent_end covered ByNsec said (by_nsec records all has) =
      absent_by_nsec zone apex covered records has.well_formed has.same_apex has.in_chain covered ((nsec_say Secured rrsets apex (n ∷ []) records all).absent covered n (inl refl) said)
  absent_end covered (ByNsec3 parameters) said (by_nsec records all has) = absurd ((nsec_no_nsec3 Secured rrsets apex (n ∷ []) records all parameters).absent covered n (inl refl) said)
  absent_end covered ByNsec said (by_nsec3 others records all has) = absurd ((nsec3_no_nsec Secured rrsets apex (n ∷ []) apex records all).absent covered n (inl refl) said)
  absent_end covered (ByNsec3 parameters) said (by_nsec3 others records all has) =
      absent_by_nsec3 zone (sha1_hash others) has.names records has.in_chain covered
      ((nsec3_say Secured rrsets apex (n ∷ []) apex records all parameters others (with_parameters zone (sha1_hash others) has.names records has.in_chain)).absent covered n (inl refl) said)

  cover_end : (covered : Labels) (chain : Chain) → IsCover (evidence_said Secured rrsets apex chain) covered n → HasRecord rrsets apex n zone → IsNode zone covered → IsUnsignedEnd zone covered
  cover_end covered chain said has node =
      ⊎_elim (λ (absent : (evidence_said Secured rrsets apex chain).Absent covered n). absurd (absent_end covered chain absent has node))
      (λ (out : (evidence_said Secured rrsets apex chain).OptedOut covered n). opted_out_end covered chain out has node) said

-- ---- what the evidence shows

module _ (Secured : ℕ → ℕ → Type 0) (rrsets : List ReceivedRrset) where
  opted_out_means : (apex covered : Labels) (chain : Chain) (n : RecordNumber) → (evidence_said Secured rrsets apex chain).OptedOut covered n
      → IsCoveredEnd rrsets apex ((evidence_said Secured rrsets apex chain).OptedOut) covered
  opted_out_means apex covered chain n said = record { number = n; said = said; meaning = λ zone. opted_out_end Secured rrsets apex n zone covered chain said }

  cover_means : (apex covered : Labels) (chain : Chain) (n : RecordNumber) → IsCover (evidence_said Secured rrsets apex chain) covered n
      → IsCoveredEnd rrsets apex (IsCover (evidence_said Secured rrsets apex chain)) covered
  cover_means apex covered chain n said = record { number = n; said = said; meaning = λ zone. cover_end Secured rrsets apex n zone covered chain said }

module _ (Secured : ℕ → ℕ → Type 0) (rrsets : List ReceivedRrset) (name : Labels) where
  means_no_ds : (labels : ℕ) → IsUnsignedDelegationCut Secured rrsets name labels → IsShownUnsigned Secured rrsets name (rightmost name labels)
  means_no_ds labels (fits, apex, within, chain, form) = record {
    apex = rightmost name apex;
    at_or_above = form.at_or_above;
    below_apex = form.below_apex;
    chain = chain;
    number = form.types.0;
    shown = form.types.1;
    meaning = λ zone. shown_unsigned Secured rrsets name (rightmost name apex) form.types.0 zone (rightmost name labels) chain form.at_or_above form.below_apex form.types.1;
  }

  encloser_means : (apex : Labels) (labels : ℕ) (parameters : Parameters) (n : RecordNumber) → (nsec3_said Secured rrsets apex parameters).Encloser (rightmost name labels) n
      → IsShownEncloser rrsets name apex ((nsec3_said Secured rrsets apex parameters).Encloser) (rightmost name labels)
  encloser_means apex labels parameters n said = record {
    number = n;
    said = said;
    node = λ zone both. (shown_encloser Secured rrsets name apex n zone (rightmost name labels) parameters (rightmost_above name labels) said both).0;
    not_closed = λ zone both. (shown_encloser Secured rrsets name apex n zone (rightmost name labels) parameters (rightmost_above name labels) said both).1;
  }

  -- NSEC records have no Opt-Out
  means_opt_out : (labels : ℕ) → IsOptOutCut Secured rrsets name labels → MayLeaveOut Secured rrsets name labels
  means_opt_out labels (apex, within, ByNsec, out) =
      ⊎_elim (λ (next : (n : RecordNumber) × ⊥). absurd next.1) (λ (star : (n : RecordNumber) × ⊥). absurd star.1) out.opted_out
  means_opt_out labels (apex, within, ByNsec3 parameters, out) =
      let zone = rightmost name apex in
      let chain = ByNsec3 parameters in
      let said = nsec3_said Secured rrsets zone parameters in
      let next_closer = rightmost name (labels + 1) in
      let star = wildcard_of (rightmost name labels) in
      record {
        apex = zone;
        above = out.above;
        chain = chain;
        encloser = ⊎_elim (λ (none : ⊥). absurd none)
            (λ (shown : (n : RecordNumber) × said.Encloser (rightmost name labels) n). encloser_means zone labels parameters shown.0 shown.1) out.encloser;
        next_closer = ⊎_elim (λ (absent : (n : RecordNumber) × said.Absent next_closer n). cover_means Secured rrsets zone next_closer chain absent.0 (inl absent.1))
            (λ (out : (n : RecordNumber) × said.OptedOut next_closer n). cover_means Secured rrsets zone next_closer chain out.0 (inr out.1)) out.next_closer;
        opted_out = ⊎_elim (λ (out : (n : RecordNumber) × said.OptedOut next_closer n). inl (opted_out_means Secured rrsets zone next_closer chain out.0 out.1))
            (λ (out : (n : RecordNumber) × said.OptedOut star n). inr (opted_out_means Secured rrsets zone star chain out.0 out.1)) out.opted_out;
      }

  pub cut_means : (cut : Labels) → IsUnsignedCut Secured rrsets name cut → MeansCut Secured rrsets name cut
  cut_means _ (no_ds labels fewest) = means_no_ds_cut (rightmost name labels) (means_no_ds labels fewest.holds)
  cut_means _ (no_usable_ds labels none fewest) = means_no_usable_ds labels none fewest.holds
  cut_means _ (opt_out labels none usable most) = means_by_opt_out labels none usable (means_opt_out labels most.holds)

  pub next_closer_means : (labels : ℕ) (zone next_closer : Labels) → HasOptedOutNextCloser Secured rrsets name labels zone × (next_closer ≡ rightmost name (labels + 1))
      → (chain : Chain) × IsCoveredEnd rrsets zone ((evidence_said Secured rrsets zone chain).OptedOut) next_closer
  next_closer_means labels zone next_closer both = (
    both.0.chain,
    subst (IsCoveredEnd rrsets zone ((evidence_said Secured rrsets zone both.0.chain).OptedOut)) (sym both.1)
        (opted_out_means Secured rrsets zone (rightmost name (labels + 1)) both.0.chain both.0.covering both.0.opted_out),
  )
