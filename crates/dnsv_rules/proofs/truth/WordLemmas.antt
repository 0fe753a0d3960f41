-- What records say of names is so of each zone that has them in its chain.
use Rattle.std.proofs.Common.{◌≡◌, ◌≢◌, ◌+◌, ℕ, List, [], inl}
use Rattle.std.specs.List.{AllZip}
use Rattle.dnsv_names.specs.Name.{IsAtOrBelow, Labels, SameName, rightmost}
use Rattle.dnsv_names.specs.Tree.AncestorLaws.{rightmost_above}
use Rattle.dnsv_names.specs.Tree.TreeLaws.{at_or_below_trans, same_at_or_below}
use Rattle.dnsv_zones.specs.chains.HashedNames.{sha1_hash}
use Rattle.dnsv_zones.specs.chains.Nsec3Chain.{IsUnsignedEnd, Nsec3Record, Parameters}
use Rattle.dnsv_zones.specs.chains.Nsec3Chain.IsAsked.{itself as asked_above}
use Rattle.dnsv_zones.specs.chains.NsecChain.{NsecRecord, IsInBitmap}
use Rattle.dnsv_zones.specs.forms.Forms.{EndsAt, Words}
use Rattle.dnsv_zones.specs.forms.Nsec.{IsNodeBy, nsec_words}
use Rattle.dnsv_zones.specs.forms.Nsec3.{Covers, Matches, nsec3_words}
use Rattle.dnsv_zones.specs.forms.RecordWords.{RecordWords}
use Rattle.dnsv_zones.specs.zones.Types.{IsClosed}
use Rattle.dnsv_zones.specs.zones.Lookup.{IsClosestEncloser}
use Rattle.dnsv_zones.specs.zones.Zone.{IsNode, IsWellFormed, Zone}
use Rattle.dnsv_zones.proofs.lemmas.AnyLemmas.{any_map, found}
use Rattle.dnsv_zones.proofs.lemmas.zones.ZoneLemmas.{closest}
use Rattle.dnsv_zones.proofs.lemmas.meaning.MeaningLemmas.{AreTrue}
use Rattle.dnsv_zones.proofs.lemmas.meaning.NsecTruth.{nsec_true, absent as absent_by_nsec}
use Rattle.dnsv_zones.proofs.lemmas.meaning.Nsec3Truth.{nsec3_true, absent as absent_by_nsec3, covered_end}
use Rattle.dnsv_canonical.specs.Rrsets.{ReceivedRrset}
use Rattle.dnsv_canonical.specs.declared.number.RecordNumber.{RecordNumber}
use Rattle.dnsv_canonical.proofs.CanonicalLemmas.{IsMember}
use Rattle.dnsv_denial.specs.gathering.Evidence.{IsNsecOf, IsNsec3Of}
use Rattle.dnsv_denial.specs.proving.FirstProof.{ProofRecords}
use Rattle.dnsv_denial.specs.proving.ProofMeaning.{HasProofRecords, IsWithoutCollision}
use Rattle.dnsv_denial.specs.proving.ProofMeaning.HasProofRecords.{by_nsec, by_nsec3}
use Rattle.dnsv_denial.specs.gathering.EvidenceWords.{Chain, SaidByNsec, evidence_said, nsec3_said, nsec_said}
use Rattle.dnsv_denial.specs.gathering.EvidenceWords.Chain.{ByNsec, ByNsec3}
use Rattle.dnsv_proof_forms.proofs.lemmas.forms.PartsForm.{SayNoMore}
use Rattle.dnsv_denial.proofs.lemmas.gathering.NumberedLemmas.{nsec_or_nsec3}
use Rattle.dnsv_denial.proofs.meaning.ProofMeaningLemmas.{no_nsec3, nsec3_no_nsec, nsec3_say, nsec_say, numbered, said_with, with_parameters}

-- words that are so of the zone, by which the records with these numbers say no more
pub record Speaks (said : RecordWords RecordNumber) (numbers : List RecordNumber) (zone : Zone) (name : Labels) : Type 1 where
  pub its : Words
  pub say : SayNoMore said numbers its
  pub are_true : AreTrue zone its name

-- words of which it is so that what is absent is no node
pub record Denies (said : RecordWords RecordNumber) (numbers : List RecordNumber) (zone : Zone) : Type 1 where
  pub its : Words
  pub say : SayNoMore said numbers its
  pub absent : (x : Labels) → its.Absent x → ¬ IsNode zone x

module _ (S : ℕ → ℕ → Type 0) (rrsets : List ReceivedRrset) (apex : Labels) (numbers : List RecordNumber) where
  -- of NSEC records those of a chain of NSEC3 say nothing
  nsec3_silent : (records : List NsecRecord) → AllZip (IsNsecOf rrsets) numbers records → (parameters : Parameters)
      → SayNoMore (nsec3_said S rrsets apex parameters) numbers (nsec_words apex [])
  nsec3_silent records all parameters = record {
    needs_none = λ x none. absurd none;
    encloser = λ x n there said.
        absurd (no_nsec3 S rrsets apex numbers records all (λ r. Matches (sha1_hash parameters) r x × ¬ IsClosed (IsInBitmap r.types)) n there said);
    absent = λ x n there said.
        absurd (no_nsec3 S rrsets apex numbers records all (λ r. Covers (sha1_hash parameters) r x × (r.flags ≡ 0)) n there said);
    empty_non_terminal = λ x n there none. absurd none;
    types_at = λ x Says n there said.
        absurd (no_nsec3 S rrsets apex numbers records all (λ r. Matches (sha1_hash parameters) r x × Says (IsInBitmap r.types)) n there said);
  }

  -- nor of NSEC3 records those of a chain of NSEC, but that the apex is there
  module _ (zone : Labels) (records : List Nsec3Record) (all : AllZip (IsNsec3Of rrsets zone) numbers records) where
    no_nsec : (Says : NsecRecord → Type 0) (n : RecordNumber) → IsMember n numbers → SaidByNsec S rrsets apex Says n → ⊥
    no_nsec Says n there said =
        let by = found (IsNsec3Of rrsets zone n) records (numbered (IsNsec3Of rrsets zone) numbers records n all there) in
        nsec_or_nsec3 rrsets zone n said.0 by.member said.1.is by.holds

    nsec_silent : SayNoMore (nsec_said S rrsets apex) numbers (nsec_words apex [])
    nsec_silent = record {
      needs_none = λ x same. inl same;
      encloser = λ x n there said. absurd (no_nsec (λ r. IsNodeBy r x) n there said);
      absent = λ x n there said. absurd ((nsec3_no_nsec S rrsets apex numbers zone records all).absent x n there said);
      empty_non_terminal = λ x n there said. absurd ((nsec3_no_nsec S rrsets apex numbers zone records all).empty_non_terminal x n there said);
      types_at = λ x Says n there said. absurd ((nsec3_no_nsec S rrsets apex numbers zone records all).types_at x Says n there said);
    }

-- where the search for a name ends by words that are so, the closest encloser is that of the zone
pub closest_by : (zone : Zone) (words : Words) (apex name : Labels) (labels : ℕ) → SameName apex zone.apex → AreTrue zone words name
    → EndsAt words apex name labels → IsClosestEncloser zone name labels
closest_by zone words apex name labels same are_true ends =
    let ce = rightmost name labels in
    let within : IsAtOrBelow ce zone.apex = at_or_below_trans ce apex zone.apex ends.above.within (same_at_or_below apex zone.apex same) in
    closest zone name labels ends.above.proper (are_true.encloser ce (asked_above ce (rightmost_above name labels)) within ends.encloser)
    (are_true.absent (rightmost name (labels + 1)) ends.next_closer)

-- the zone is one, and has the name
pub is_zone : (rrsets : List ReceivedRrset) (proof : ProofRecords) (zone : Zone) → HasProofRecords rrsets proof zone
    → IsWellFormed zone × SameName proof.zone zone.apex
is_zone rrsets proof zone (by_nsec records all has) = (has.well_formed, has.same_apex)
is_zone rrsets proof zone (by_nsec3 parameters records all has) = (has.well_formed, has.same_apex)

module _ (S : ℕ → ℕ → Type 0) (rrsets : List ReceivedRrset) (proof : ProofRecords) (zone : Zone) where
  pub speak : (name : Labels) (chain : Chain) (has : HasProofRecords rrsets proof zone) → IsWithoutCollision name has
      → Speaks (evidence_said S rrsets proof.zone chain) proof.records zone name
  speak name ByNsec (by_nsec records all has) apart = record {
    its = nsec_words proof.zone records;
    say = nsec_say S rrsets proof.zone proof.records records all;
    are_true = nsec_true zone proof.zone name records has.well_formed has.same_apex has.in_chain;
  }
  speak name (ByNsec3 parameters) (by_nsec records all has) apart = record {
    its = nsec_words proof.zone [];
    say = nsec3_silent S rrsets proof.zone proof.records records all parameters;
    are_true = nsec_true zone proof.zone name [] has.well_formed has.same_apex tt;
  }
  speak name ByNsec (by_nsec3 others records all has) apart = record {
    its = nsec_words proof.zone [];
    say = nsec_silent S rrsets proof.zone proof.records proof.zone records all;
    are_true = nsec_true zone proof.zone name [] has.well_formed has.same_apex tt;
  }
  speak name (ByNsec3 parameters) (by_nsec3 others records all has) apart =
      let hash = sha1_hash others in record {
        its = nsec3_words hash records;
        say = nsec3_say S rrsets proof.zone proof.records proof.zone records all parameters others
            (with_parameters zone hash has.names records has.in_chain);
        are_true = nsec3_true zone hash has.names records name has.well_formed has.chain_names apart has.in_chain;
      }

  pub deny : (chain : Chain) → HasProofRecords rrsets proof zone → Denies (evidence_said S rrsets proof.zone chain) proof.records zone
  deny ByNsec (by_nsec records all has) = record {
    its = nsec_words proof.zone records;
    say = nsec_say S rrsets proof.zone proof.records records all;
    absent = absent_by_nsec zone proof.zone proof.zone records has.well_formed has.same_apex has.in_chain;
  }
  deny (ByNsec3 parameters) (by_nsec records all has) = record {
    its = nsec_words proof.zone [];
    say = nsec3_silent S rrsets proof.zone proof.records records all parameters;
    absent = λ x none. absurd none;
  }
  deny ByNsec (by_nsec3 others records all has) = record {
    its = nsec_words proof.zone [];
    say = nsec_silent S rrsets proof.zone proof.records proof.zone records all;
    absent = λ x none. absurd none;
  }
  deny (ByNsec3 parameters) (by_nsec3 others records all has) =
      let hash = sha1_hash others in record {
        its = nsec3_words hash records;
        say = nsec3_say S rrsets proof.zone proof.records proof.zone records all parameters others
            (with_parameters zone hash has.names records has.in_chain);
        absent = absent_by_nsec3 zone hash has.names records has.in_chain;
      }

  -- what a record covers with the Opt-Out flag is no node, or an unsigned end
  pub out_end : (chain : Chain) (x : Labels) (n : RecordNumber) → IsMember n proof.records → (evidence_said S rrsets proof.zone chain).OptedOut x n
      → HasProofRecords rrsets proof zone → IsNode zone x → IsUnsignedEnd zone x
  out_end ByNsec x n there said has = absurd said
  out_end (ByNsec3 parameters) x n there said (by_nsec records all has) =
      absurd (no_nsec3 S rrsets proof.zone proof.records records all (λ r. Covers (sha1_hash parameters) r x × (r.flags ≢ 0)) n there said)
  out_end (ByNsec3 parameters) x n there said (by_nsec3 others records all has) =
      let hash = sha1_hash others in
      covered_end zone hash has.names records has.in_chain has.chain_names x
      (any_map (λ r. Covers hash r x × (r.flags ≢ 0)) (λ r. Covers hash r x) records (λ r both. both.0)
      (said_with S rrsets proof.zone proof.records proof.zone records all parameters others
      (with_parameters zone hash has.names records has.in_chain)
      (λ h r. Covers h r x × (r.flags ≢ 0)) (λ r is. is.0.same_parameters) n there said))
