-- What the first proof of each kind means for each zone whose chain has its records.
use Rattle.std.proofs.Common.{◌≡◌, ℕ, List, [], ◌∷◌, refl, sym, ap, ◌∙◌, subst, inl, inr, ⊎_elim}
use Rattle.std.specs.List.{AllByRecursion, AllZip}
use Rattle.dnsv_names.specs.Tree.AncestorLaws.{rightmost_above, rightmost_same}
use Rattle.dnsv_names.specs.Name.{Labels, SameName, IsAtOrBelow, rightmost}
use Rattle.dnsv_names.specs.Tree.{wildcard_of}
use Rattle.dnsv_names.specs.Tree.TreeLaws.{at_or_below_trans}
use Rattle.dnsv_zones.specs.Any.{Any}
use Rattle.dnsv_zones.specs.chains.HashedNames.{sha1_hash}
use Rattle.dnsv_zones.specs.chains.Nsec3Chain.{Nsec3Record, Parameters, NameHash, IsInNsec3Chain}
use Rattle.dnsv_zones.specs.chains.NsecChain.{NsecRecord, IsInBitmap}
use Rattle.dnsv_zones.specs.forms.Forms.{Words, NoNameForm, NoDataForms, NoCloserForm}
use Rattle.dnsv_zones.specs.forms.Nsec.{IsAbsentBy, IsEmptyNonTerminalBy, IsNodeBy, nsec_words}
use Rattle.dnsv_zones.specs.forms.Nsec3.{Matches, Covers, nsec3_words}
use Rattle.dnsv_zones.specs.forms.Parts.{AreNoNameParts, AreNoDataParts, IsNoCloserPart}
use Rattle.dnsv_zones.specs.zones.Lookup.{IsLookup}
use Rattle.dnsv_zones.specs.zones.Lookup.Answer.{NoName, NoData, Held}
use Rattle.dnsv_zones.specs.zones.Types.{IsClosed}
use Rattle.dnsv_zones.specs.zones.Zone.{Zone, Holds}
use Rattle.dnsv_zones.proofs.lemmas.AnyLemmas.{any_map, any_both, found}
use Rattle.dnsv_zones.proofs.lemmas.meaning.MeaningLemmas.{no_name, any_no_data, held_at_wildcard}
use Rattle.dnsv_zones.proofs.lemmas.meaning.NsecTruth.{nsec_true, absent as absent_by_nsec}
use Rattle.dnsv_zones.proofs.lemmas.meaning.Nsec3Truth.{nsec3_true, absent as absent_by_nsec3}
use Rattle.dnsv_canonical.specs.Rrsets.{ReceivedRrset}
use Rattle.dnsv_canonical.proofs.CanonicalLemmas.{IsMember, IsMember-from_contains, Contains-from_member}
use Rattle.dnsv_denial.specs.gathering.Evidence.{IsNsecOf, IsNsec3Of}
use Rattle.dnsv_denial.specs.proving.FirstProof.{ProofRecords, AreRecordsOf, IsFirstNoName, IsFirstNoData, IsFirstNoCloser}
use Rattle.dnsv_denial.specs.proving.ProofMeaning.{HasProofRecords, IsWithoutCollision, HasProofWithoutCollision}
use Rattle.dnsv_denial.specs.proving.ProofMeaning.HasProofRecords.{by_nsec, by_nsec3}
use Rattle.dnsv_denial.specs.gathering.EvidenceWords.{Chain, SaidByNsec, SaidByNsec3, nsec_said, nsec3_said, evidence_said}
use Rattle.dnsv_proof_forms.specs.records.Numbers.{number_cmp}
use Rattle.dnsv_denial.specs.gathering.EvidenceWords.Chain.{ByNsec, ByNsec3}
use Rattle.dnsv_canonical.specs.declared.number.RecordNumber.{RecordNumber}
use Rattle.dnsv_denial.proofs.lemmas.gathering.EvidenceLemmas.{one_nsec_of}
use Rattle.dnsv_denial.proofs.lemmas.gathering.NumberedLemmas.{one_nsec3_of, nsec_or_nsec3}
use Rattle.dnsv_proof_forms.proofs.lemmas.forms.PartsForm.{SayNoMore, no_name_by, no_data_by, no_closer_by}

-- the record with one of the numbers
pub numbered : {X : Type 0} (Is : RecordNumber → X → Type 0) (numbers : List RecordNumber) (records : List X) (n : RecordNumber) → AllZip Is numbers records → IsMember n numbers → Any (Is n) records
numbered Is [] [] n all there = absurd there
numbered Is [] (x ∷ records) n all there = absurd all
numbered Is (m ∷ numbers) [] n all there = absurd all
numbered Is (m ∷ numbers) (x ∷ records) n all there =
    ⊎_elim (λ (same : n ≡ m). inl (subst (λ k. Is k x) (sym same) all.0)) (λ (later : IsMember n numbers). inr (numbered Is numbers records n all.1 later)) there

-- what records of the other kind say: nothing but that names are nodes
abbrev no_words : Words
no_words = record { Encloser = λ name. Unit {0}; Absent = λ name. ⊥; EmptyNonTerminal = λ name. ⊥; TypesAt = λ name Says. ⊥ }

module _ (Secured : ℕ → ℕ → Type 0) (rrsets : List ReceivedRrset) (apex : Labels) (numbers : List RecordNumber) where
  -- NSEC records with these numbers say no more than they do as records of a chain
  module _ (records : List NsecRecord) (all : AllZip (IsNsecOf rrsets) numbers records) where
    pub said_by : (Says : NsecRecord → Type 0) (n : RecordNumber) → IsMember n numbers → SaidByNsec Secured rrsets apex Says n → Any Says records
    said_by Says n there said =
        any_map (IsNsecOf rrsets n) Says records (λ r is. subst Says (one_nsec_of rrsets n said.0 r said.1.is is) said.2) (numbered (IsNsecOf rrsets) numbers records n all there)

    pub nsec_say : SayNoMore (nsec_said Secured rrsets apex) numbers (nsec_words apex records)
    nsec_say = record {
      needs_none = λ name same. inl same;
      encloser = λ name n there said. inr (said_by (λ r. IsNodeBy r name) n there said);
      absent = λ name. said_by (λ r. IsAbsentBy r name);
      empty_non_terminal = λ name. said_by (λ r. IsEmptyNonTerminalBy r name);
      types_at = λ name Says. said_by (λ r. SameName r.owner name × Says (IsInBitmap r.types));
    }

    -- they aren't NSEC3 records
    pub no_nsec3 : (Says : Nsec3Record → Type 0) (n : RecordNumber) → IsMember n numbers → SaidByNsec3 Secured rrsets apex Says n → ⊥
    no_nsec3 Says n there said =
        let by = found_is (numbered (IsNsecOf rrsets) numbers records n all there) in nsec_or_nsec3 rrsets apex n by.0 said.0 by.1 said.1.is
      where
        found_is : Any (IsNsecOf rrsets n) records → (r : NsecRecord) × IsNsecOf rrsets n r
        found_is some = let by = found (IsNsecOf rrsets n) records some in (by.member, by.holds)

    pub nsec_no_nsec3 : (parameters : Parameters) → SayNoMore (nsec3_said Secured rrsets apex parameters) numbers no_words
    nsec_no_nsec3 parameters = record {
      needs_none = λ name none. absurd none;
      encloser = λ name n there said. tt;
      absent = λ name. no_nsec3 (λ r. Covers (sha1_hash parameters) r name × (r.flags ≡ 0));
      empty_non_terminal = λ name n there none. none;
      types_at = λ name Says. no_nsec3 (λ r. Matches (sha1_hash parameters) r name × Says (IsInBitmap r.types));
    }

  -- NSEC3 records with these numbers say no more than they do as records of a chain
  module _ (zone : Labels) (records : List Nsec3Record) (all : AllZip (IsNsec3Of rrsets zone) numbers records) where
    pub nsec3_no_nsec : SayNoMore (nsec_said Secured rrsets apex) numbers no_words
    nsec3_no_nsec = record {
      needs_none = λ name same. tt;
      encloser = λ name n there said. tt;
      absent = λ name. no_nsec (λ r. IsAbsentBy r name);
      empty_non_terminal = λ name. no_nsec (λ r. IsEmptyNonTerminalBy r name);
      types_at = λ name Says. no_nsec (λ r. SameName r.owner name × Says (IsInBitmap r.types));
    } where
      no_nsec : (Says : NsecRecord → Type 0) (n : RecordNumber) → IsMember n numbers → SaidByNsec Secured rrsets apex Says n → ⊥
      no_nsec Says n there said =
          let by = found (IsNsec3Of rrsets zone n) records (numbered (IsNsec3Of rrsets zone) numbers records n all there) in
          nsec_or_nsec3 rrsets zone n said.0 by.member said.1.is by.holds

    module _ (parameters others : Parameters) (same : AllByRecursion (λ r. r.parameters ≡ others) records) where
      -- what is said with some parameters is said with those of the chain
      pub said_with : (Says : NameHash → Nsec3Record → Type 0) → ((r : Nsec3Record) → Says (sha1_hash parameters) r → r.parameters ≡ parameters) → (n : RecordNumber) → IsMember n numbers
          → SaidByNsec3 Secured rrsets apex (Says (sha1_hash parameters)) n → Any (Says (sha1_hash others)) records
      said_with Says its n there said =
          any_map (λ r. IsNsec3Of rrsets zone n r × (r.parameters ≡ others)) (Says (sha1_hash others)) records
          (λ r is.
          let one : said.0 ≡ r = one_nsec3_of rrsets apex zone n said.0 r said.1.is is.0 in
          let set : parameters ≡ others = sym (its said.0 said.2) ∙ ap (λ (x : Nsec3Record). x.parameters) one ∙ is.1 in
          subst (λ p. Says (sha1_hash p) r) set (subst (Says (sha1_hash parameters)) one said.2))
          (any_both (IsNsec3Of rrsets zone n) (λ r. r.parameters ≡ others) records same (numbered (IsNsec3Of rrsets zone) numbers records n all there))

      pub nsec3_say : SayNoMore (nsec3_said Secured rrsets apex parameters) numbers (nsec3_words (sha1_hash others) records)
      nsec3_say = record {
        needs_none = λ name none. absurd none;
        encloser = λ name. said_with (λ hash r. Matches hash r name × ¬ IsClosed (IsInBitmap r.types)) (λ r is. is.0.same_parameters);
        absent = λ name. said_with (λ hash r. Covers hash r name × (r.flags ≡ 0)) (λ r is. is.0.same_parameters);
        empty_non_terminal = λ name n there none. none;
        types_at = λ name Says. said_with (λ hash r. Matches hash r name × Says (IsInBitmap r.types)) (λ r is. is.0.same_parameters);
      }

-- ---- the records of a proof

-- each part of a proof is one of its records
among : (parts records : List RecordNumber) → AreRecordsOf parts records → (n : RecordNumber) → IsMember n parts → IsMember n records
among parts records are n there = IsMember-from_contains records n ((are.members n).1 (Contains-from_member parts n there))

-- the records of a chain have its parameters
pub with_parameters : (zone : Zone) (hash : NameHash) (names : List Labels) (records : List Nsec3Record) → AllByRecursion (IsInNsec3Chain zone hash names) records → AllByRecursion (λ r. r.parameters ≡ hash.parameters) records
with_parameters zone hash names [] all = tt
with_parameters zone hash names (r ∷ records) all = (all.0.same_parameters, with_parameters zone hash names records all.1)

-- nothing is proved by such words
none_by_no_words : (apex name : Labels) (t : ℕ) (P : Type 0) → NoDataForms no_words apex name t → P
none_by_no_words apex name t P (inl form) = absurd form.types
none_by_no_words apex name t P (inr (inl form)) = absurd form.empty_non_terminal
none_by_no_words apex name t P (inr (inr (inl form))) = absurd form.types
none_by_no_words apex name t P (inr (inr (inr form))) = absurd form.empty_non_terminal

module _ (Secured : ℕ → ℕ → Type 0) (rrsets : List ReceivedRrset) (name : Labels) (zone : Zone) where
  no_name_of : (proof : ProofRecords) (chain : Chain) (t : ℕ) (parts : List RecordNumber) → AreNoNameParts number_cmp (evidence_said Secured rrsets proof.zone chain) proof.zone name parts
      → AreRecordsOf parts proof.records → (has : HasProofRecords rrsets proof zone) → IsWithoutCollision name has → IsLookup zone name t NoName
  no_name_of proof ByNsec t parts chosen are (by_nsec records all has) apart =
      let form : NoNameForm (nsec_words proof.zone records) proof.zone name =
      no_name_by number_cmp (nsec_said Secured rrsets proof.zone) proof.records (nsec_words proof.zone records) (nsec_say Secured rrsets proof.zone proof.records records all)
      proof.zone name parts chosen (among parts proof.records are) in
      no_name zone (nsec_words proof.zone records) proof.zone name has.well_formed has.same_apex (nsec_true zone proof.zone name records has.well_formed has.same_apex has.in_chain) t form
  no_name_of proof (ByNsec3 parameters) t parts chosen are (by_nsec records all has) apart =
      let form : NoNameForm no_words proof.zone name =
      no_name_by number_cmp (nsec3_said Secured rrsets proof.zone parameters) proof.records no_words (nsec_no_nsec3 Secured rrsets proof.zone proof.records records all parameters)
      proof.zone name parts chosen (among parts proof.records are) in
      absurd form.wildcard
  no_name_of proof ByNsec t parts chosen are (by_nsec3 others records all has) apart =
      let form : NoNameForm no_words proof.zone name =
      no_name_by number_cmp (nsec_said Secured rrsets proof.zone) proof.records no_words (nsec3_no_nsec Secured rrsets proof.zone proof.records proof.zone records all)
      proof.zone name parts chosen (among parts proof.records are) in
      absurd form.wildcard
  no_name_of proof (ByNsec3 parameters) t parts chosen are (by_nsec3 others records all has) apart =
      let hash = sha1_hash others in
      let form : NoNameForm (nsec3_words hash records) proof.zone name =
      no_name_by number_cmp (nsec3_said Secured rrsets proof.zone parameters) proof.records (nsec3_words hash records)
      (nsec3_say Secured rrsets proof.zone proof.records proof.zone records all parameters others (with_parameters zone hash has.names records has.in_chain))
      proof.zone name parts chosen (among parts proof.records are) in
      no_name zone (nsec3_words hash records) proof.zone name has.well_formed has.same_apex (nsec3_true zone hash has.names records name has.well_formed has.chain_names apart has.in_chain) t form

  pub first_no_name_means : (proof : ProofRecords) (t : ℕ) → IsFirstNoName Secured rrsets name proof → HasProofWithoutCollision rrsets name proof zone → IsLookup zone name t NoName
  first_no_name_means proof t first both = no_name_of proof first.chain t first.parts first.chosen first.records both.has both.apart

  no_data_of : (proof : ProofRecords) (chain : Chain) (t : ℕ) (parts : List RecordNumber) → AreNoDataParts number_cmp (evidence_said Secured rrsets proof.zone chain) proof.zone name t parts
      → AreRecordsOf parts proof.records → (has : HasProofRecords rrsets proof zone) → IsWithoutCollision name has → (source : Labels) × IsLookup zone name t (NoData source)
  no_data_of proof ByNsec t parts chosen are (by_nsec records all has) apart =
      let form : NoDataForms (nsec_words proof.zone records) proof.zone name t =
      no_data_by number_cmp (nsec_said Secured rrsets proof.zone) proof.records (nsec_words proof.zone records) (nsec_say Secured rrsets proof.zone proof.records records all)
      proof.zone name t parts chosen (among parts proof.records are) in
      any_no_data zone (nsec_words proof.zone records) proof.zone name has.well_formed has.same_apex (nsec_true zone proof.zone name records has.well_formed has.same_apex has.in_chain) t form
  no_data_of proof (ByNsec3 parameters) t parts chosen are (by_nsec records all has) apart =
      none_by_no_words proof.zone name t ((source : Labels) × IsLookup zone name t (NoData source))
      (no_data_by number_cmp (nsec3_said Secured rrsets proof.zone parameters) proof.records no_words (nsec_no_nsec3 Secured rrsets proof.zone proof.records records all parameters)
      proof.zone name t parts chosen (among parts proof.records are))
  no_data_of proof ByNsec t parts chosen are (by_nsec3 others records all has) apart =
      none_by_no_words proof.zone name t ((source : Labels) × IsLookup zone name t (NoData source))
      (no_data_by number_cmp (nsec_said Secured rrsets proof.zone) proof.records no_words (nsec3_no_nsec Secured rrsets proof.zone proof.records proof.zone records all)
      proof.zone name t parts chosen (among parts proof.records are))
  no_data_of proof (ByNsec3 parameters) t parts chosen are (by_nsec3 others records all has) apart =
      let hash = sha1_hash others in
      let form : NoDataForms (nsec3_words hash records) proof.zone name t =
      no_data_by number_cmp (nsec3_said Secured rrsets proof.zone parameters) proof.records (nsec3_words hash records)
      (nsec3_say Secured rrsets proof.zone proof.records proof.zone records all parameters others (with_parameters zone hash has.names records has.in_chain))
      proof.zone name t parts chosen (among parts proof.records are) in
      any_no_data zone (nsec3_words hash records) proof.zone name has.well_formed has.same_apex (nsec3_true zone hash has.names records name has.well_formed has.chain_names apart has.in_chain) t form

  pub first_no_data_means : (proof : ProofRecords) (t : ℕ) → IsFirstNoData Secured rrsets name t proof → HasProofWithoutCollision rrsets name proof zone → (source : Labels) × IsLookup zone name t (NoData source)
  first_no_data_means proof t first both = no_data_of proof first.chain t first.parts first.chosen first.records both.has both.apart

  no_closer_of : (proof : ProofRecords) (apex : Labels) (chain : Chain) (labels t : ℕ) (part : RecordNumber) → SameName apex proof.zone
      → IsNoCloserPart number_cmp (evidence_said Secured rrsets apex chain) apex name labels part → IsMember part proof.records
      → HasProofRecords rrsets proof zone → Holds zone (wildcard_of (rightmost name labels)) t → IsLookup zone name t (Held (wildcard_of (rightmost name labels)))
  no_closer_of proof apex ByNsec labels t part same chosen there (by_nsec records all has) holds =
      let its_apex : SameName apex zone.apex = same ∙ has.same_apex in
      let form : NoCloserForm (nsec_words apex records) apex name labels =
      no_closer_by number_cmp (nsec_said Secured rrsets apex) proof.records (nsec_words apex records) (nsec_say Secured rrsets apex proof.records records all) apex name labels part chosen there in
      held_at_wildcard zone (nsec_words apex records) apex name labels t has.well_formed its_apex (absent_by_nsec zone apex name records has.well_formed its_apex has.in_chain) form holds
  no_closer_of proof apex (ByNsec3 parameters) labels t part same chosen there (by_nsec records all has) holds =
      let form : NoCloserForm no_words apex name labels =
      no_closer_by number_cmp (nsec3_said Secured rrsets apex parameters) proof.records no_words (nsec_no_nsec3 Secured rrsets apex proof.records records all parameters) apex name labels part chosen there in
      absurd form.next_closer
  no_closer_of proof apex ByNsec labels t part same chosen there (by_nsec3 others records all has) holds =
      let form : NoCloserForm no_words apex name labels =
      no_closer_by number_cmp (nsec_said Secured rrsets apex) proof.records no_words (nsec3_no_nsec Secured rrsets apex proof.records proof.zone records all) apex name labels part chosen there in
      absurd form.next_closer
  no_closer_of proof apex (ByNsec3 parameters) labels t part same chosen there (by_nsec3 others records all has) holds =
      let hash = sha1_hash others in
      let form : NoCloserForm (nsec3_words hash records) apex name labels =
      no_closer_by number_cmp (nsec3_said Secured rrsets apex parameters) proof.records (nsec3_words hash records)
      (nsec3_say Secured rrsets apex proof.records proof.zone records all parameters others (with_parameters zone hash has.names records has.in_chain)) apex name labels part chosen there in
      held_at_wildcard zone (nsec3_words hash records) apex name labels t has.well_formed (same ∙ has.same_apex) (absent_by_nsec3 zone hash has.names records has.in_chain) form holds

  pub first_no_closer_means : (proof : ProofRecords) (apex : Labels) (labels t : ℕ) → IsFirstNoCloser Secured rrsets name labels apex proof → HasProofRecords rrsets proof zone
      → Holds zone (wildcard_of (rightmost name labels)) t → IsLookup zone name t (Held (wildcard_of (rightmost name labels)))
  first_no_closer_means proof apex labels t first =
      let under : IsAtOrBelow name apex = at_or_below_trans name (rightmost name labels) apex (rightmost_above name labels) first.chosen.above.within in
      let same : SameName apex proof.zone = subst (SameName apex) (sym first.zone) (sym (rightmost_same name apex under)) in
      no_closer_of proof apex first.chain labels t first.part same first.chosen (subst (IsMember first.part) (sym first.records) (inl refl))
