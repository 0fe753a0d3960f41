-- There is one first proof.
use Rattle.std.proofs.Common.{◌≡◌, ◌⊎◌, ◌+◌, ◌<◌, ◌≤◌, ℕ, List, [], ◌∷◌, ◌++◌, refl, sym, ap, ◌∙◌, subst, inl, inr, ⊎_elim, arith}
use Rattle.std.proofs.lemmas.Cmp.{nat_cmp_total, nat_list_cmp_total, on_total, then_total}
use Rattle.std.proofs.lemmas.Map.Lookups.{exact_bytes, exact_unsigned}
use Rattle.std.specs.Cmp.{IsTotalOrder}
use Rattle.std.specs.Ordering.{nat_cmp, ordering_reverse, ordering_then}
use Rattle.std.specs.declared.cmp.Ordering.{Ordering}
use Rattle.std.specs.declared.cmp.Ordering.TheVariants.{Less, Equal, Greater}
use Rattle.dnsv_names.specs.Name.{Labels, rightmost}
use Rattle.dnsv_names.specs.Tree.{wildcard_of}
use Rattle.dnsv_records.specs.DecisionLaws.{at_most_or}
use Rattle.dnsv_zones.specs.chains.Nsec3Chain.{Parameters}
use Rattle.dnsv_zones.specs.forms.Forms.{Words, EndsAt, NoNameForm, NoWildcardDataForm, EmptyWildcardForm}
use Rattle.dnsv_zones.specs.forms.Parts.{IsFirstToSay, IsEncloserPart, no_record, a_record, at_name, empty, at_wildcard, empty_wildcard, AreEndParts, AreWildcardParts, AreNoNameParts, AreWildcardDataParts, AreEmptyWildcardParts, AreNoDataParts}
use Rattle.dnsv_zones.specs.forms.RecordWords.{RecordWords, words}
use Rattle.dnsv_zones.specs.zones.Types.{Denies}
use Rattle.dnsv_canonical.proofs.CanonicalLemmas.{rising_unique, Contains-from_member, IsMember-from_contains}
use Rattle.dnsv_canonical.specs.Rrsets.{ReceivedRrset}
use Rattle.dnsv_denial.specs.proving.FirstProof.{AreRecordsOf, CanBeProved, IsFirstNoData, IsFirstNoName, IsFirstProof, ProofRecords, StandsBy}
use Rattle.dnsv_denial.specs.unsigned_cuts.Cuts.{no_ds, no_usable_ds, opt_out, IsUnsignedDelegationCut, IsUnusableDsCut, IsOptOutCut, IsFewest, IsMost, IsUnsignedCut, HasUnsignedCut}
use Rattle.dnsv_denial.specs.gathering.EvidenceWords.{Chain, GoesBefore, nsec_first, by_parameters, evidence_said}
use Rattle.dnsv_proof_forms.specs.records.Numbers.{number_cmp}
use Rattle.dnsv_proof_forms.specs.records.ParametersOrder.{parameters_cmp}
use Rattle.dnsv_denial.specs.gathering.EvidenceWords.Chain.{ByNsec, ByNsec3}
use Rattle.dnsv_denial.proofs.lemmas.proving.NumberLemmas.{number_cmp_exact, number_cmp_total}
use Rattle.dnsv_canonical.specs.declared.number.RecordNumber.{RecordNumber}

-- ---- orders

then_Equal : (a b : Ordering) → ordering_then a b ≡ Equal → (a ≡ Equal) × (b ≡ Equal)
then_Equal Equal b e = (refl, e)
then_Equal a b e = cc

pub parameters_total : IsTotalOrder parameters_cmp
parameters_total = then_total (on_total (λ (p : Parameters). p.iterations) nat_cmp_total) (on_total (λ (p : Parameters). p.salt) nat_list_cmp_total)

pub parameters_exact : (a b : Parameters) → parameters_cmp a b ≡ Equal → a ≡ b
parameters_exact a b e =
    let both = then_Equal (nat_cmp a.iterations b.iterations) _ e in
    λ i. record { iterations = exact_unsigned a.iterations b.iterations both.0 i; salt = exact_bytes a.salt b.salt both.1 i }

module _ {X : Type 0} (cmp : X → X → Ordering) (total : IsTotalOrder cmp) (exact : (a b : X) → cmp a b ≡ Equal → a ≡ b) where
  -- equal, or one goes before the other
  compared_by : (a b : X) (o : Ordering) → cmp a b ≡ o → (a ≡ b) ⊎ (cmp a b ≡ Less) ⊎ (cmp b a ≡ Less)
  compared_by a b Less e = inr (inl e)
  compared_by a b Equal e = inl (exact a b e)
  compared_by a b Greater e = inr (inr (total.antisymm b a ∙ ap ordering_reverse e))

  compared : (a b : X) → (a ≡ b) ⊎ (cmp a b ≡ Less) ⊎ (cmp b a ≡ Less)
  compared a b = compared_by a b (cmp a b) refl

-- ---- chosen records

module _ {Index : Type 0} (cmp : Index → Index → Ordering) (total : IsTotalOrder cmp) (exact : (a b : Index) → cmp a b ≡ Equal → a ≡ b) (said : RecordWords Index) where
  one_index : (Says : Index → Type 0) (a b : Index) → IsFirstToSay cmp Says a → IsFirstToSay cmp Says b → a ≡ b
  one_index Says a b x y =
      ⊎_elim (λ (same : a ≡ b). same)
      (λ (apart : (cmp a b ≡ Less) ⊎ (cmp b a ≡ Less)).
      ⊎_elim (λ (less : cmp a b ≡ Less). absurd (y.earliest a x.says less)) (λ (less : cmp b a ≡ Less). absurd (x.earliest b y.says less)) apart)
      (compared cmp total exact a b)

  one_encloser : (encloser : Labels) (p q : List Index) → IsEncloserPart cmp said encloser p → IsEncloserPart cmp said encloser q → p ≡ q
  one_encloser encloser _ _ (no_record x) (no_record y) = refl
  one_encloser encloser _ _ (no_record x) (a_record j needs k) = absurd (needs x)
  one_encloser encloser _ _ (a_record i needs l) (no_record y) = absurd (needs y)
  one_encloser encloser _ _ (a_record i n l) (a_record j m k) = ap (λ x. x ∷ []) (one_index (said.Encloser encloser) i j l k)

  encloser_of : (encloser : Labels) (p : List Index) → IsEncloserPart cmp said encloser p → (words said).Encloser encloser
  encloser_of encloser _ (no_record x) = inl x
  encloser_of encloser _ (a_record i n l) = inr (i, l.says)

  ends_of : (apex name : Labels) (labels : ℕ) (p : List Index) → AreEndParts cmp said apex name labels p → EndsAt (words said) apex name labels
  ends_of apex name labels p x = record {
    above = x.above;
    encloser = encloser_of (rightmost name labels) x.encloser_part x.encloser;
    next_closer = (x.covering, x.next_closer.says);
  }

  one_ends : (apex name : Labels) (labels : ℕ) (p q : List Index) → AreEndParts cmp said apex name labels p → AreEndParts cmp said apex name labels q → p ≡ q
  one_ends apex name labels p q x y =
      let front = one_encloser (rightmost name labels) x.encloser_part y.encloser_part x.encloser y.encloser in
      let last = one_index (said.Absent (rightmost name (labels + 1))) x.covering y.covering x.next_closer y.next_closer in
      x.both ∙ (λ i. front i ++ last i ∷ []) ∙ sym y.both

  one_wildcard : (apex name : Labels) (labels : ℕ) (Says : Index → Type 0) (p q : List Index)
      → AreWildcardParts cmp said apex name labels Says p → AreWildcardParts cmp said apex name labels Says q → p ≡ q
  one_wildcard apex name labels Says p q x y =
      let front = one_ends apex name labels x.end_parts y.end_parts x.ends y.ends in
      let last = one_index Says x.last y.last x.wildcard y.wildcard in
      x.all ∙ (λ i. front i ++ last i ∷ []) ∙ sym y.all

  same_count : (m n : ℕ) → m ≤ n → n ≤ m → m ≡ n
  same_count m n a b = omega (arith, a, b)

  abbrev no_name_of : (apex name : Labels) (p : List Index) → AreNoNameParts cmp said apex name p → NoNameForm (words said) apex name
  no_name_of apex name p x = record {
    labels = x.labels;
    ends = ends_of apex name x.labels x.are.end_parts x.are.ends;
    wildcard = (x.are.last, x.are.wildcard.says);
  }

  one_no_name : (apex name : Labels) (p q : List Index) → AreNoNameParts cmp said apex name p → AreNoNameParts cmp said apex name q → p ≡ q
  one_no_name apex name p q x y =
      let Says : ℕ → Index → Type 0 = λ n. said.Absent (wildcard_of (rightmost name n)) in
      let same : x.labels ≡ y.labels = same_count x.labels y.labels (y.most_labels (no_name_of apex name p x)) (x.most_labels (no_name_of apex name q y)) in
      one_wildcard apex name y.labels (Says y.labels) p q (subst (λ n. AreWildcardParts cmp said apex name n (Says n) p) same x.are) y.are

  abbrev wildcard_data_of : (apex name : Labels) (t : ℕ) (p : List Index) → AreWildcardDataParts cmp said apex name t p → NoWildcardDataForm (words said) apex name t
  wildcard_data_of apex name t p x = record {
    labels = x.labels;
    ends = ends_of apex name x.labels x.are.end_parts x.are.ends;
    types = (x.are.last, x.are.wildcard.says);
  }

  one_wildcard_data : (apex name : Labels) (t : ℕ) (p q : List Index) → AreWildcardDataParts cmp said apex name t p → AreWildcardDataParts cmp said apex name t q → p ≡ q
  one_wildcard_data apex name t p q x y =
      let Says : ℕ → Index → Type 0 = λ n. said.TypesAt (wildcard_of (rightmost name n)) (λ has. Denies has t) in
      let same : x.labels ≡ y.labels = same_count x.labels y.labels (y.most_labels (wildcard_data_of apex name t p x)) (x.most_labels (wildcard_data_of apex name t q y)) in
      one_wildcard apex name y.labels (Says y.labels) p q (subst (λ n. AreWildcardParts cmp said apex name n (Says n) p) same x.are) y.are

  abbrev empty_wildcard_of : (apex name : Labels) (p : List Index) → AreEmptyWildcardParts cmp said apex name p → EmptyWildcardForm (words said) apex name
  empty_wildcard_of apex name p x = record {
    labels = x.labels;
    ends = ends_of apex name x.labels x.are.end_parts x.are.ends;
    empty_non_terminal = (x.are.last, x.are.wildcard.says);
  }

  one_empty_wildcard : (apex name : Labels) (p q : List Index) → AreEmptyWildcardParts cmp said apex name p → AreEmptyWildcardParts cmp said apex name q → p ≡ q
  one_empty_wildcard apex name p q x y =
      let Says : ℕ → Index → Type 0 = λ n. said.EmptyNonTerminal (wildcard_of (rightmost name n)) in
      let same : x.labels ≡ y.labels = same_count x.labels y.labels (y.most_labels (empty_wildcard_of apex name p x)) (x.most_labels (empty_wildcard_of apex name q y)) in
      one_wildcard apex name y.labels (Says y.labels) p q (subst (λ n. AreWildcardParts cmp said apex name n (Says n) p) same x.are) y.are

  one_no_data : (apex name : Labels) (t : ℕ) (p q : List Index) → AreNoDataParts cmp said apex name t p → AreNoDataParts cmp said apex name t q → p ≡ q
  one_no_data apex name t _ _ (at_name i w l) (at_name j v k) = ap (λ x. x ∷ []) (one_index (said.TypesAt name (λ has. Denies has t)) i j l k)
  one_no_data apex name t _ _ (at_name i w l) (empty j m v k) = absurd (m (record { within = w; types = (i, l.says) }))
  one_no_data apex name t _ _ (at_name i w l) (at_wildcard q m e k) = absurd (m (record { within = w; types = (i, l.says) }))
  one_no_data apex name t _ _ (at_name i w l) (empty_wildcard q m e d k) = absurd (m (record { within = w; types = (i, l.says) }))
  one_no_data apex name t _ _ (empty j m v k) (at_name i w l) = absurd (m (record { within = w; types = (i, l.says) }))
  one_no_data apex name t _ _ (empty i n w l) (empty j m v k) = ap (λ x. x ∷ []) (one_index (said.EmptyNonTerminal name) i j l k)
  one_no_data apex name t _ _ (empty i n w l) (at_wildcard q m e k) = absurd (e (record { within = w; empty_non_terminal = (i, l.says) }))
  one_no_data apex name t _ _ (empty i n w l) (empty_wildcard q m e d k) = absurd (e (record { within = w; empty_non_terminal = (i, l.says) }))
  one_no_data apex name t _ _ (at_wildcard q m e k) (at_name i w l) = absurd (m (record { within = w; types = (i, l.says) }))
  one_no_data apex name t _ _ (at_wildcard q m e k) (empty i n w l) = absurd (e (record { within = w; empty_non_terminal = (i, l.says) }))
  one_no_data apex name t _ _ (at_wildcard p m e k) (at_wildcard q n f l) = one_wildcard_data apex name t p q k l
  one_no_data apex name t _ _ (at_wildcard p m e k) (empty_wildcard q n f d l) = absurd (d (wildcard_data_of apex name t p k))
  one_no_data apex name t _ _ (empty_wildcard q m e d k) (at_name i w l) = absurd (m (record { within = w; types = (i, l.says) }))
  one_no_data apex name t _ _ (empty_wildcard q m e d k) (empty i n w l) = absurd (e (record { within = w; empty_non_terminal = (i, l.says) }))
  one_no_data apex name t _ _ (empty_wildcard p m e d k) (at_wildcard q n f l) = absurd (d (wildcard_data_of apex name t q l))
  one_no_data apex name t _ _ (empty_wildcard p m e d k) (empty_wildcard q n f g l) = one_empty_wildcard apex name p q k l

-- ---- the first proof

pub one_list : (parts xs ys : List RecordNumber) → AreRecordsOf parts xs → AreRecordsOf parts ys → xs ≡ ys
one_list parts xs ys first second =
    rising_unique number_cmp number_cmp_total number_cmp_exact xs ys first.rising second.rising
    (λ x m. IsMember-from_contains ys x ((second.members x).1 ((first.members x).0 (Contains-from_member xs x m))))
    (λ x m. IsMember-from_contains xs x ((first.members x).1 ((second.members x).0 (Contains-from_member ys x m))))

-- chains are equal, or one goes before the other
pub chains : (c d : Chain) → (c ≡ d) ⊎ GoesBefore c d ⊎ GoesBefore d c
chains ByNsec ByNsec = inl refl
chains ByNsec (ByNsec3 p) = inr (inl (nsec_first p))
chains (ByNsec3 p) ByNsec = inr (inr (nsec_first p))
chains (ByNsec3 p) (ByNsec3 q) =
    ⊎_elim (λ (same : p ≡ q). inl (ap (λ x. ByNsec3 x) same))
    (λ (apart : (parameters_cmp p q ≡ Less) ⊎ (parameters_cmp q p ≡ Less)).
    ⊎_elim (λ (less : parameters_cmp p q ≡ Less). inr (inl (by_parameters p q less)))
    (λ (less : parameters_cmp q p ≡ Less). inr (inr (by_parameters q p less))) apart)
    (compared parameters_cmp parameters_total parameters_exact p q)

-- a number that is at least as high as each that holds
pub one_most : (m n : ℕ) → (m < n → ⊥) → (n < m → ⊥) → m ≡ n
one_most m n a b =
    ⊎_elim (λ (up : m ≤ n). ⊎_elim (λ (down : n ≤ m). omega (arith, up, down)) (λ (more : ¬ (n ≤ m)). absurd (a (omega (arith, more)))) (at_most_or n m))
    (λ (less : ¬ (m ≤ n)). absurd (b (omega (arith, less)))) (at_most_or m n)

module _ (S : ℕ → ℕ → Type 0) (rrsets : List ReceivedRrset) (name : Labels) (Form : Words → Labels → Type 0)
    (Parts : RecordWords RecordNumber → Labels → List RecordNumber → Type 0) where
  -- what stands in a zone stands in an equal one
  stands_at : (chain : Chain) (zone other : Labels) → zone ≡ other → StandsBy S rrsets Form zone chain → StandsBy S rrsets Form other chain
  stands_at chain zone other same stands = subst (λ z. StandsBy S rrsets Form z chain) same stands

  -- what has a first proof can be proved
  pub can_be : (proof : ProofRecords) → IsFirstProof S rrsets name Form Parts proof → CanBeProved S rrsets name Form
  can_be proof x = (x.labels, x.at_or_above, x.chain, stands_at x.chain proof.zone (rightmost name x.labels) x.zone x.stands)

  one_proof : ((said : RecordWords RecordNumber) (zone : Labels) (p q : List RecordNumber) → Parts said zone p → Parts said zone q → p ≡ q)
      → (a b : ProofRecords) → IsFirstProof S rrsets name Form Parts a → IsFirstProof S rrsets name Form Parts b → a ≡ b
  one_proof one_parts a b x y =
      let labels : x.labels ≡ y.labels = one_most x.labels y.labels
      (λ less. x.most_labels y.labels y.chain less y.at_or_above (stands_at y.chain b.zone (rightmost name y.labels) y.zone y.stands))
      (λ less. y.most_labels x.labels x.chain less x.at_or_above (stands_at x.chain a.zone (rightmost name x.labels) x.zone x.stands)) in
      let zone : a.zone ≡ b.zone = x.zone ∙ ap (λ n. rightmost name n) labels ∙ sym y.zone in
      let chain : x.chain ≡ y.chain = ⊎_elim (λ (same : x.chain ≡ y.chain). same)
      (λ (apart : GoesBefore x.chain y.chain ⊎ GoesBefore y.chain x.chain).
      ⊎_elim (λ (before : GoesBefore x.chain y.chain). absurd (y.first x.chain before (stands_at x.chain a.zone b.zone zone x.stands)))
      (λ (before : GoesBefore y.chain x.chain). absurd (x.first y.chain before (stands_at y.chain b.zone a.zone (sym zone) y.stands))) apart)
      (chains x.chain y.chain) in
      let there : Parts (evidence_said S rrsets b.zone y.chain) b.zone x.parts =
      subst (λ c. Parts (evidence_said S rrsets b.zone c) b.zone x.parts) chain (subst (λ z. Parts (evidence_said S rrsets z x.chain) z x.parts) zone x.chosen) in
      let parts : x.parts ≡ y.parts = one_parts (evidence_said S rrsets b.zone y.chain) b.zone x.parts y.parts there y.chosen in
      let records : a.records ≡ b.records = one_list y.parts a.records b.records (subst (λ p. AreRecordsOf p a.records) parts x.records) y.records in
      λ i. record { zone = zone i; records = records i }

pub one_first_no_name : (S : ℕ → ℕ → Type 0) (rrsets : List ReceivedRrset) (name : Labels) (a b : ProofRecords)
    → IsFirstNoName S rrsets name a → IsFirstNoName S rrsets name b → a ≡ b
one_first_no_name S rrsets name =
    one_proof S rrsets name _ _ (λ said zone. one_no_name number_cmp number_cmp_total number_cmp_exact said zone name)

pub one_first_no_data : (S : ℕ → ℕ → Type 0) (rrsets : List ReceivedRrset) (name : Labels) (t : ℕ) (a b : ProofRecords)
    → IsFirstNoData S rrsets name t a → IsFirstNoData S rrsets name t b → a ≡ b
one_first_no_data S rrsets name t =
    one_proof S rrsets name _ _ (λ said zone. one_no_data number_cmp number_cmp_total number_cmp_exact said zone name t)

-- ---- the cut

pub one_fewest : (P : ℕ → Type 0) (m n : ℕ) → IsFewest P m → IsFewest P n → m ≡ n
one_fewest P m n a b = one_most m n (λ less. b.fewest m less a.holds) (λ less. a.fewest n less b.holds)

pub one_greatest : (P : ℕ → Type 0) (m n : ℕ) → IsMost P m → IsMost P n → m ≡ n
one_greatest P m n a b = one_most m n (λ less. a.most n less b.holds) (λ less. b.most m less a.holds)

pub cut_stands : (S : ℕ → ℕ → Type 0) (rrsets : List ReceivedRrset) (name cut : Labels) → IsUnsignedCut S rrsets name cut → HasUnsignedCut S rrsets name
cut_stands S rrsets name _ (no_ds labels few) = (labels, inl few.holds)
cut_stands S rrsets name _ (no_usable_ds labels none few) = (labels, inr (inl few.holds))
cut_stands S rrsets name _ (opt_out labels none usable most) = (labels, inr (inr most.holds))

pub one_cut : (S : ℕ → ℕ → Type 0) (rrsets : List ReceivedRrset) (name a b : Labels) → IsUnsignedCut S rrsets name a → IsUnsignedCut S rrsets name b → a ≡ b
one_cut S rrsets name _ _ (no_ds m few) (no_ds n more) = ap (λ x. rightmost name x) (one_fewest (IsUnsignedDelegationCut S rrsets name) m n few more)
one_cut S rrsets name _ _ (no_ds m few) (no_usable_ds n none more) = absurd (none m few.holds)
one_cut S rrsets name _ _ (no_ds m few) (opt_out n none usable more) = absurd (none m few.holds)
one_cut S rrsets name _ _ (no_usable_ds m none few) (no_ds n more) = absurd (none n more.holds)
one_cut S rrsets name _ _ (no_usable_ds m none few) (no_usable_ds n non more) = ap (λ x. rightmost name x) (one_fewest (IsUnusableDsCut S rrsets name) m n few more)
one_cut S rrsets name _ _ (no_usable_ds m none few) (opt_out n non usable more) = absurd (usable m few.holds)
one_cut S rrsets name _ _ (opt_out m none usable few) (no_ds n more) = absurd (none n more.holds)
one_cut S rrsets name _ _ (opt_out m none usable few) (no_usable_ds n non more) = absurd (usable n more.holds)
one_cut S rrsets name _ _ (opt_out m none usable few) (opt_out n non use_ more) = ap (λ x. rightmost name (x + 1)) (one_greatest (IsOptOutCut S rrsets name) m n few more)
