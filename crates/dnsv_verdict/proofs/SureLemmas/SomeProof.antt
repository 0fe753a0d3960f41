-- Where a form stands there is a first proof, and where a cut is shown there is the one that is named.
use Rattle.std.proofs.Common.{◌≡◌, ◌+◌, ◌-◌, ◌<◌, ◌≤◌, ℕ, List, [], ◌∷◌, ◌++◌, map, length, refl, sym, ap, ◌∙◌, subst, inl, inr, ⊎_elim, arith}
use Rattle.std.proofs.lemmas.Bool.{cases_lt}
use Rattle.std.specs.declared.cmp.Ordering.TheVariants.{Less}
use Rattle.dnsv_names.specs.Name.{Labels, rightmost}
use Rattle.dnsv_names.specs.Tree.{wildcard_of}
use Rattle.dnsv_records.specs.Nsec3.{IsNsec3}
use Rattle.dnsv_records.specs.declared.nsec3.Nsec3.{Nsec3}
use Rattle.dnsv_records.proofs.OneRecord.{one_nsec3}
use Rattle.dnsv_zones.specs.chains.Nsec3Chain.{Nsec3Record, Parameters}
use Rattle.dnsv_zones.specs.chains.Rdata.{parameters_of}
use Rattle.dnsv_zones.specs.forms.Forms.{Words, EndsAt, NoNameForm, NoDataForm, EmptyForm, NoWildcardDataForm, EmptyWildcardForm, NoDataForms}
use Rattle.dnsv_zones.specs.forms.Parts.{IsEncloserPart, no_record, a_record, at_name, empty, at_wildcard, empty_wildcard, AreEndParts, AreWildcardParts, AreNoNameParts, AreWildcardDataParts, AreEmptyWildcardParts, AreNoDataParts}
use Rattle.dnsv_zones.specs.forms.RecordWords.{RecordWords, words}
use Rattle.dnsv_zones.specs.zones.Types.{Denies}
use Rattle.dnsv_canonical.proofs.CanonicalLemmas.{IsMember, Contains-from_member, IsMember-from_contains}
use Rattle.dnsv_canonical.specs.CanonicalRdata.{canonical_form}
use Rattle.dnsv_canonical.specs.Rrsets.{ReceivedRrset}
use Rattle.dnsv_denial.specs.gathering.Evidence.{IsNsec3Of}
use Rattle.dnsv_denial.specs.proving.FirstProof.{AreRecordsOf, CanBeProved, CanProveNoData, CanProveNoName, IsFirstNoData, IsFirstNoName, IsFirstOfZone, IsFirstProof, ProofRecords, StandsBy}
use Rattle.dnsv_denial.specs.unsigned_cuts.Cuts.{no_ds, no_usable_ds, opt_out, IsUnsignedDelegationCut, IsUnusableDsCut, IsOptOutCut, IsUnsignedCut, HasUnsignedCut}
use Rattle.dnsv_denial.specs.gathering.EvidenceWords.{Chain, GoesBefore, nsec_first, by_parameters, evidence_said, nsec3_said}
use Rattle.dnsv_proof_forms.specs.records.Numbers.{number_cmp}
use Rattle.dnsv_proof_forms.specs.records.ParametersOrder.{parameters_cmp}
use Rattle.dnsv_denial.specs.gathering.EvidenceWords.Chain.{ByNsec, ByNsec3}
use Rattle.dnsv_denial.proofs.lemmas.gathering.NameHashesLemmas.{member_at}
use Rattle.dnsv_denial.proofs.lemmas.proving.NumberLemmas.{number_cmp_exact, number_cmp_total}
use Rattle.dnsv_canonical.specs.declared.number.RecordNumber.{RecordNumber}
use Rattle.dnsv_verdict.proofs.SureLemmas.FiniteLemmas.{IsFinite, finite_each, finite_one, finite_within, some_first, some_sorted}
use Rattle.dnsv_verdict.proofs.OneProof.{parameters_exact, parameters_total}
use Rattle.dnsv_verdict.proofs.SureLemmas.{Surely, surely, and_then, by_cases, some_fewest, some_most, some_record}

-- ---- chosen records

-- a form with most labels
best_form : (Form : Type 0) (labels_of : Form → ℕ) (bound : ℕ) → ((form : Form) → labels_of form ≤ bound) → Form
    → Surely ((best : Form) × ((other : Form) → labels_of other ≤ labels_of best))
best_form Form labels_of bound limit form =
    and_then (some_most (λ n. (f : Form) × (labels_of f ≡ n)) bound (λ n f. subst (λ k. k ≤ bound) f.1 (limit f.0)) (labels_of form) (form, refl))
    (λ most. surely (
      most.1.holds.0,
      λ other.
          ⊎_elim (λ (more : labels_of most.1.holds.0 < labels_of other).
          absurd (most.1.most (labels_of other) (subst (λ k. k < labels_of other) most.1.holds.1 more) (other, refl)))
          (λ (at_most : labels_of other ≤ labels_of most.1.holds.0). at_most)
          (cases_lt (labels_of most.1.holds.0) (labels_of other)),
    ))

module _ (said : RecordWords RecordNumber) where
  some_encloser : (encloser : Labels) → (words said).Encloser encloser → Surely ((p : List RecordNumber) × IsEncloserPart number_cmp said encloser p)
  some_encloser encloser shown =
      by_cases (said.NeedsNone encloser) (λ none. surely ([], no_record none))
      (λ needs. ⊎_elim (λ (none : said.NeedsNone encloser). absurd (needs none))
      (λ (found : (n : RecordNumber) × said.Encloser encloser n).
      and_then (some_record (said.Encloser encloser) found.0 found.1) (λ first. surely (first.0 ∷ [], a_record first.0 needs first.1))) shown)

  some_ends : (apex name : Labels) (labels : ℕ) → EndsAt (words said) apex name labels
      → Surely ((p : List RecordNumber) × AreEndParts number_cmp said apex name labels p)
  some_ends apex name labels ends =
      and_then (some_encloser (rightmost name labels) ends.encloser)
      (λ front. and_then (some_record (said.Absent (rightmost name (labels + 1))) ends.next_closer.0 ends.next_closer.1)
      (λ last. surely (
        front.0 ++ last.0 ∷ [],
        record {
          above = ends.above;
          encloser_part = front.0;
          encloser = front.1;
          covering = last.0;
          next_closer = last.1;
          both = refl;
        },
      )))

  some_wildcard : (apex name : Labels) (labels : ℕ) (Says : RecordNumber → Type 0) → EndsAt (words said) apex name labels
      → (n : RecordNumber) → Says n → Surely ((p : List RecordNumber) × AreWildcardParts number_cmp said apex name labels Says p)
  some_wildcard apex name labels Says ends n says =
      and_then (some_ends apex name labels ends) (λ front. and_then (some_record Says n says)
      (λ last. surely (front.0 ++ last.0 ∷ [], record { end_parts = front.0; ends = front.1; last = last.0; wildcard = last.1; all = refl })))

  some_no_name_parts : (apex name : Labels) → NoNameForm (words said) apex name → Surely ((p : List RecordNumber) × AreNoNameParts number_cmp said apex name p)
  some_no_name_parts apex name form =
      and_then (best_form (NoNameForm (words said) apex name) (λ f. f.labels) (length name) (λ f. omega (arith, f.ends.above.proper)) form)
      (λ best. and_then (some_wildcard apex name best.0.labels (said.Absent (wildcard_of (rightmost name best.0.labels))) best.0.ends best.0.wildcard.0 best.0.wildcard.1)
      (λ found. surely (found.0, record { labels = best.0.labels; are = found.1; most_labels = best.1 })))

  some_wildcard_data : (apex name : Labels) (t : ℕ) → NoWildcardDataForm (words said) apex name t
      → Surely ((p : List RecordNumber) × AreWildcardDataParts number_cmp said apex name t p)
  some_wildcard_data apex name t form =
      and_then (best_form (NoWildcardDataForm (words said) apex name t) (λ f. f.labels) (length name) (λ f. omega (arith, f.ends.above.proper)) form)
      (λ best. and_then (some_wildcard apex name best.0.labels (said.TypesAt (wildcard_of (rightmost name best.0.labels)) (λ has. Denies has t)) best.0.ends best.0.types.0 best.0.types.1)
      (λ found. surely (found.0, record { labels = best.0.labels; are = found.1; most_labels = best.1 })))

  some_empty_wildcard : (apex name : Labels) → EmptyWildcardForm (words said) apex name
      → Surely ((p : List RecordNumber) × AreEmptyWildcardParts number_cmp said apex name p)
  some_empty_wildcard apex name form =
      and_then (best_form (EmptyWildcardForm (words said) apex name) (λ f. f.labels) (length name) (λ f. omega (arith, f.ends.above.proper)) form)
      (λ best. and_then (some_wildcard apex name best.0.labels (said.EmptyNonTerminal (wildcard_of (rightmost name best.0.labels))) best.0.ends best.0.empty_non_terminal.0 best.0.empty_non_terminal.1)
      (λ found. surely (found.0, record { labels = best.0.labels; are = found.1; most_labels = best.1 })))

  -- the last of the four forms, where the others don't stand
  last_form : (apex name : Labels) (t : ℕ) → (NoDataForm (words said) apex name t → ⊥) → (EmptyForm (words said) apex name → ⊥)
      → (NoWildcardDataForm (words said) apex name t → ⊥) → NoDataForms (words said) apex name t → EmptyWildcardForm (words said) apex name
  last_form apex name t none hollow types (inl form) = absurd (none form)
  last_form apex name t none hollow types (inr (inl form)) = absurd (hollow form)
  last_form apex name t none hollow types (inr (inr (inl form))) = absurd (types form)
  last_form apex name t none hollow types (inr (inr (inr form))) = form

  some_no_data_parts : (apex name : Labels) (t : ℕ) → NoDataForms (words said) apex name t
      → Surely ((p : List RecordNumber) × AreNoDataParts number_cmp said apex name t p)
  some_no_data_parts apex name t forms =
      by_cases (NoDataForm (words said) apex name t)
      (λ form. and_then (some_record (said.TypesAt name (λ has. Denies has t)) form.types.0 form.types.1)
      (λ first. surely (first.0 ∷ [], at_name first.0 form.within first.1)))
      (λ none. by_cases (EmptyForm (words said) apex name)
      (λ form. and_then (some_record (said.EmptyNonTerminal name) form.empty_non_terminal.0 form.empty_non_terminal.1)
      (λ first. surely (first.0 ∷ [], empty first.0 none form.within first.1)))
      (λ hollow. by_cases (NoWildcardDataForm (words said) apex name t)
      (λ form. and_then (some_wildcard_data apex name t form) (λ found. surely (found.0, at_wildcard found.0 none hollow found.1)))
      (λ types. and_then (some_empty_wildcard apex name (last_form apex name t none hollow types forms))
      (λ found. surely (found.0, empty_wildcard found.0 none hollow types found.1)))))

-- ---- the parameters of chains

-- the record has these parameters
abbrev HasParameters : List ℕ → Parameters → Type 0
HasParameters rdata parameters = (fields : Nsec3) × IsNsec3 rdata fields × (parameters ≡ parameters_of fields.parameters)

one_parameters : (rdata : List ℕ) (a b : Parameters) → HasParameters rdata a → HasParameters rdata b → a ≡ b
one_parameters rdata a b p q =
    p.2 ∙ ap (λ (f : Nsec3). parameters_of f.parameters) (one_nsec3 rdata p.0 q.0 p.1 q.1) ∙ sym q.2

abbrev AreOfRrset : ReceivedRrset → Parameters → Type 0
AreOfRrset rrset parameters =
    (rdata : List ℕ) × IsMember rdata (map (canonical_form rrset.rtype) rrset.rdata) × HasParameters rdata parameters

abbrev AreOfRecord : List ReceivedRrset → Labels → Parameters → Type 0
AreOfRecord rrsets zone parameters =
    (n : RecordNumber) × (nsec3 : Nsec3Record) × IsNsec3Of rrsets zone n nsec3 × (nsec3.parameters ≡ parameters)

among_rrsets : (rrsets : List ReceivedRrset) (zone : Labels) (parameters : Parameters) → AreOfRecord rrsets zone parameters
    → (rrset : ReceivedRrset) × IsMember rrset rrsets × AreOfRrset rrset parameters
among_rrsets rrsets zone parameters found =
    let is = found.2 in
    let received = map (canonical_form is.rrset.rtype) is.rrset.rdata in (
      is.rrset,
      member_at rrsets (found.0.rrset - 1) is.rrset is.at.is_rrset.1,
      (
        is.rdata,
        IsMember-from_contains received is.rdata ((is.at.is_canonical.members is.rdata).0
            (Contains-from_member is.at.canonical is.rdata (member_at is.at.canonical (found.0.place - 1) is.rdata is.at.is_rdata.1))),
        (is.fields, is.read, sym found.3 ∙ is.parameters),
      ),
    )

finite_parameters : (rrsets : List ReceivedRrset) (zone : Labels) → IsFinite (AreOfRecord rrsets zone)
finite_parameters rrsets zone =
    finite_within (AreOfRecord rrsets zone) _ (among_rrsets rrsets zone)
    (finite_each rrsets AreOfRrset (λ rrset. finite_each (map (canonical_form rrset.rtype) rrset.rdata) HasParameters
    (λ rdata. finite_one (HasParameters rdata) (one_parameters rdata))))

-- ---- the first proof

some_records : (parts : List RecordNumber) → Surely ((records : List RecordNumber) × AreRecordsOf parts records)
some_records parts =
    and_then (some_sorted number_cmp number_cmp_total number_cmp_exact (λ n. IsMember n parts) (surely (parts, λ n member. member)))
    (λ all. surely (
      all.0,
      record {
        rising = all.1.rising;
        members = λ n. (
          λ found. Contains-from_member parts n (all.1.such n (IsMember-from_contains all.0 n found)),
          λ found. Contains-from_member all.0 n (all.1.each n (IsMember-from_contains parts n found)),
        );
      },
    ))

nothing_before_nsec : (other last : Chain) → GoesBefore other last → last ≡ ByNsec → ⊥
nothing_before_nsec other last (nsec_first parameters) is = cc
nothing_before_nsec other last (by_parameters before after less) is = cc

module _ (S : ℕ → ℕ → Type 0) (rrsets : List ReceivedRrset) (Form : Words → Labels → Type 0) where
  first_parameters : (zone : Labels) (p : Parameters) → (StandsBy S rrsets Form zone ByNsec → ⊥)
      → ((other : Parameters) → StandsBy S rrsets Form zone (ByNsec3 other) → parameters_cmp other p ≡ Less → ⊥)
      → (other last : Chain) → GoesBefore other last → last ≡ ByNsec3 p → StandsBy S rrsets Form zone other → ⊥
  first_parameters zone p none earliest other last (nsec_first parameters) is stands = none stands
  first_parameters zone p none earliest other last (by_parameters before after less) is stands =
      let same : after ≡ p = cc in earliest before stands (subst (λ q. parameters_cmp before q ≡ Less) same less)

  some_chain : (zone : Labels) → IsFinite (λ p. StandsBy S rrsets Form zone (ByNsec3 p)) → (chain : Chain) → StandsBy S rrsets Form zone chain
      → Surely ((first : Chain) × StandsBy S rrsets Form zone first × IsFirstOfZone S rrsets Form zone first)
  some_chain zone finite ByNsec stands = surely (ByNsec, stands, λ other before. absurd (nothing_before_nsec other ByNsec before refl))
  some_chain zone finite (ByNsec3 p) stands =
      by_cases (StandsBy S rrsets Form zone ByNsec)
      (λ nsec. surely (ByNsec, nsec, λ other before. absurd (nothing_before_nsec other ByNsec before refl)))
      (λ none. and_then (some_first parameters_cmp parameters_total parameters_exact (λ q. StandsBy S rrsets Form zone (ByNsec3 q)) finite p stands)
      (λ first. surely (ByNsec3 first.0, first.1, λ other before. first_parameters zone first.0 none first.2 other (ByNsec3 first.0) before refl)))

  module _ (name : Labels) (Parts : RecordWords RecordNumber → Labels → List RecordNumber → Type 0)
      (finite : (zone : Labels) → IsFinite (λ p. StandsBy S rrsets Form zone (ByNsec3 p)))
      (chosen : (said : RecordWords RecordNumber) (zone : Labels) → Form (words said) zone → Surely ((p : List RecordNumber) × Parts said zone p)) where
    abbrev StandsAt : ℕ → Type 0
    StandsAt labels = (labels ≤ length name) × (chain : Chain) × StandsBy S rrsets Form (rightmost name labels) chain

    pub some_first_proof : CanBeProved S rrsets name Form → Surely ((proof : ProofRecords) × IsFirstProof S rrsets name Form Parts proof)
    some_first_proof can =
        and_then (some_most StandsAt (length name) (λ n at. at.0) can.0 (can.1, can.2, can.3))
        (λ most. and_then (some_chain (rightmost name most.0) (finite (rightmost name most.0)) most.1.holds.1 most.1.holds.2)
        (λ first. and_then (chosen (evidence_said S rrsets (rightmost name most.0) first.0) (rightmost name most.0) first.1)
        (λ parts. and_then (some_records parts.0)
        (λ records. surely (
          record { zone = rightmost name most.0; records = records.0 },
          record {
            labels = most.0;
            at_or_above = most.1.holds.0;
            zone = refl;
            chain = first.0;
            stands = first.1;
            most_labels = λ more other less at_most stands. most.1.most more less (at_most, other, stands);
            first = first.2;
            parts = parts.0;
            chosen = parts.1;
            records = records.1;
          },
        )))))

-- ---- by its form

module _ (S : ℕ → ℕ → Type 0) (rrsets : List ReceivedRrset) where
  no_name_parameters : (name zone : Labels) (p : Parameters) → NoNameForm (words (nsec3_said S rrsets zone p)) zone name → AreOfRecord rrsets zone p
  no_name_parameters name zone p form =
      let said = form.wildcard.1 in (form.wildcard.0, said.0, said.1.is, said.2.0.same_parameters)

  no_data_parameters : (name : Labels) (t : ℕ) (zone : Labels) (p : Parameters) → NoDataForms (words (nsec3_said S rrsets zone p)) zone name t → AreOfRecord rrsets zone p
  no_data_parameters name t zone p (inl form) =
      let said = form.types.1 in (form.types.0, said.0, said.1.is, said.2.0.same_parameters)
  no_data_parameters name t zone p (inr (inl form)) = absurd form.empty_non_terminal.1
  no_data_parameters name t zone p (inr (inr (inl form))) =
      let said = form.types.1 in (form.types.0, said.0, said.1.is, said.2.0.same_parameters)
  no_data_parameters name t zone p (inr (inr (inr form))) = absurd form.empty_non_terminal.1

  pub some_no_name : (name : Labels) → CanProveNoName S rrsets name → Surely ((proof : ProofRecords) × IsFirstNoName S rrsets name proof)
  some_no_name name =
      some_first_proof S rrsets (λ said zone. NoNameForm said zone name) name (λ said zone. AreNoNameParts number_cmp said zone name)
      (λ zone. finite_within (λ p. NoNameForm (words (nsec3_said S rrsets zone p)) zone name) (AreOfRecord rrsets zone)
      (no_name_parameters name zone) (finite_parameters rrsets zone))
      (λ said zone. some_no_name_parts said zone name)

  pub some_no_data : (name : Labels) (t : ℕ) → CanProveNoData S rrsets name t → Surely ((proof : ProofRecords) × IsFirstNoData S rrsets name t proof)
  some_no_data name t =
      some_first_proof S rrsets (λ said zone. NoDataForms said zone name t) name (λ said zone. AreNoDataParts number_cmp said zone name t)
      (λ zone. finite_within (λ p. NoDataForms (words (nsec3_said S rrsets zone p)) zone name t) (AreOfRecord rrsets zone)
      (no_data_parameters name t zone) (finite_parameters rrsets zone))
      (λ said zone. some_no_data_parts said zone name t)

  -- ---- the cut

  last_cut : (name : Labels) → (((n : ℕ) × IsUnsignedDelegationCut S rrsets name n) → ⊥) → (((n : ℕ) × IsUnusableDsCut S rrsets name n) → ⊥)
      → HasUnsignedCut S rrsets name → (n : ℕ) × IsOptOutCut S rrsets name n
  last_cut name none unusable (n, inl cut) = absurd (none (n, cut))
  last_cut name none unusable (n, inr (inl cut)) = absurd (unusable (n, cut))
  last_cut name none unusable (n, inr (inr cut)) = (n, cut)

  pub some_cut : (name : Labels) → HasUnsignedCut S rrsets name → Surely ((cut : Labels) × IsUnsignedCut S rrsets name cut)
  some_cut name has =
      by_cases ((n : ℕ) × IsUnsignedDelegationCut S rrsets name n)
      (λ found. and_then (some_fewest (IsUnsignedDelegationCut S rrsets name) found.0 found.1)
      (λ least. surely (rightmost name least.0, no_ds least.0 least.1)))
      (λ none. by_cases ((n : ℕ) × IsUnusableDsCut S rrsets name n)
      (λ found. and_then (some_fewest (IsUnusableDsCut S rrsets name) found.0 found.1)
      (λ least. surely (rightmost name least.0, no_usable_ds least.0 (λ any cut. none (any, cut)) least.1)))
      (λ unusable. let last = last_cut name none unusable has in
      and_then (some_most (IsOptOutCut S rrsets name) (length name) (λ n cut. omega (arith, cut.3.above.proper)) last.0 last.1)
      (λ most. surely (rightmost name (most.0 + 1), opt_out most.0 (λ any cut. none (any, cut)) (λ any cut. unusable (any, cut)) most.1))))
