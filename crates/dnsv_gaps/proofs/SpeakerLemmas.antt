-- What the sources of a zone say, and the known zones, one after another.
use Rattle.std.proofs.Common.{◌≡◌, ◌↔◌, ◌⊎◌, ◌<◌, ◌≤◌, ◌+◌, ◌-◌, ◌++◌, ℕ, List, [], ◌∷◌, length, get_or, map, take, refl, sym, ap, ◌∙◌, subst, arith, ⊎_elim}
use Rattle.std.proofs.lemmas.Bool.{cases_lt}
use Rattle.std.proofs.lemmas.List.{length-take-le, map-append, take_all, take_more}
use Rattle.std.proofs.lemmas.List.Elements.{Contains-append_left, Contains-append_right, Contains-push_cases}
use Rattle.std.specs.List.{AllByRecursion, AllZip, enumerate_from}
use Rattle.std.specs.List.Sorted.{IsStrictlySortedBy}
use Rattle.std.specs.Ordering.{nat_cmp}
use Rattle.std.specs.Prelude.{Contains}
use Rattle.dnsv_names.specs.Name.{rightmost}
use Rattle.dnsv_records.specs.OctetLaws.{recursion-append}
use Rattle.dnsv_canonical.proofs.GroupLemmas.{placed-push}
use Rattle.dnsv_chain.proofs.ZipLemmas.{zip_push}
use Rattle.dnsv_proof_forms.proofs.lemmas.PlaceLemmas.{mapped_length}
use Rattle.dnsv_denial.specs.gathering.EvidenceWords.{Chain}
use Rattle.dnsv_faults.specs.KnownZones.{IsKnownZone}
use Rattle.dnsv_remedies.specs.declared.facts.denial.SourceCase.{SourceCase}
use Rattle.dnsv_remedies.specs.declared.facts.denial.SourceFacts.{SourceFacts}
use Rattle.dnsv_remedies.specs.declared.facts.denial.SpeakerFacts.{SpeakerFacts}
use Rattle.dnsv_gaps.proofs.RisingLemmas.{nat_less, rising_push}
use Rattle.dnsv_gaps.specs.Asking.{Asking, asking}
use Rattle.dnsv_gaps.specs.Cases.{IsSourceCase}
use Rattle.dnsv_gaps.specs.SourceSearch.{chain_of, held_chain, said_in, zone_in}
use Rattle.dnsv_gaps.specs.Sources.{source_said}
use Rattle.dnsv_gaps.specs.Speakers.{AreSourceFacts, AreSpeakerFacts, AreSpeakers}
use Rattle.dnsv_gaps.specs.declared.asked.AskedQuestion.{AskedQuestion}
use Rattle.dnsv_gaps.specs.declared.sources.HeldSource.{HeldSource}
use Rattle.dnsv_gaps.specs.declared.sources.ZoneSource.{ZoneSource}

-- the case of the source is that of its chain
case_is : (question : AskedQuestion) (labels : ℕ) (held : HeldSource) (source : ZoneSource) (found : SourceCase) → source.labels ≡ labels
    → chain_of source.records ≡ held_chain held
    → IsSourceCase (asking question).basis (said_in question source) (zone_in question source.labels) question.name.now question.rtype.0 found
    → IsSourceCase (asking question).basis (source_said (asking question) (zone_in question labels) (held_chain held)) (zone_in question labels)
    question.name.now question.rtype.0 found
case_is question labels held source found same chain is =
    let Of : ℕ → Chain → Type 0 = λ n c.
    IsSourceCase (asking question).basis (source_said (asking question) (zone_in question n) c) (zone_in question n) question.name.now question.rtype.0 found in
    subst (Of labels) chain (subst (λ (n : ℕ). Of n (chain_of source.records)) same is)

module _ (question : AskedQuestion) (labels : ℕ) (items : List HeldSource) where
  abbrev pub Told : List HeldSource → List SourceFacts → Type 0
  Told some facts = AllZip (AreSourceFacts (asking question) (zone_in question labels)) (enumerate_from 0 (map held_chain some)) facts

  pub source_next : (i : ℕ) (held : HeldSource) (source : ZoneSource) (found : SourceCase) (old next : List SourceFacts) → i < length items
      → held ≡ get_or items i held → source.labels ≡ labels → chain_of source.records ≡ held_chain held
      → IsSourceCase (asking question).basis (said_in question source) (zone_in question source.labels) question.name.now question.rtype.0 found
      → next ≡ old ++ record { place = i; case = found } ∷ [] → Told (take i items) old → Told (take (i + 1) items) next
  source_next i held source found old next within at same chain is pushed so_far =
      let R = AreSourceFacts (asking question) (zone_in question labels) in
      let some = map held_chain (take i items) in
      let fact : SourceFacts = record { place = i; case = found } in
      let count : 0 + length some ≡ i =
      let sizes = mapped_length held_chain (take i items) in
      let taken = length-take-le i items (omega (arith, within)) in
      omega (arith, sizes, taken) in
      let front : map held_chain (take (i + 1) items) ≡ some ++ held_chain held ∷ [] =
      ap (map held_chain) (take_more items i held within ∙ ap (λ (x : HeldSource). take i items ++ x ∷ []) (sym at))
      ∙ map-append held_chain (take i items) (held ∷ []) in
      let places : enumerate_from 0 (map held_chain (take (i + 1) items)) ≡ enumerate_from 0 some ++ (i, held_chain held) ∷ [] =
      ap (enumerate_from 0) front ∙ placed-push 0 some (held_chain held)
      ∙ ap (λ (n : ℕ). enumerate_from 0 some ++ (n, held_chain held) ∷ []) count in
      subst (λ (facts : List SourceFacts). AllZip R (enumerate_from 0 (map held_chain (take (i + 1) items))) facts) (sym pushed)
      (subst (λ (ps : List (ℕ × Chain)). AllZip R ps (old ++ fact ∷ [])) (sym places)
      (zip_push R (enumerate_from 0 some) old (i, held_chain held) fact so_far (record {
        place = refl;
        its_case = case_is question labels held source found same chain is;
      })))

  pub sources_told : (n : ℕ) (facts : List SourceFacts) → length items ≤ n → Told (take n items) facts → Told items facts
  sources_told n facts past = subst (λ (some : List HeldSource). Told some facts) (take_all n items past)

-- ---- known zones

-- those with so many labels or more, from many to few
pub record AreFrom (a : Asking) (n : ℕ) (speakers : List SpeakerFacts) : Type 0 where
  pub falling : IsStrictlySortedBy (λ one other. nat_cmp other one) (map (λ (each : SpeakerFacts). each.labels) speakers)
  pub each : AllByRecursion (AreSpeakerFacts a) speakers
  pub known : (m : ℕ) → Contains (map (λ (each : SpeakerFacts). each.labels) speakers) m
      ↔ ((n ≤ m) × (m ≤ length a.name) × IsKnownZone a.basis a.name a.rtype (rightmost a.name m))

pub none_from : (a : Asking) (n : ℕ) → n ≡ length a.name + 1 → AreFrom a n []
unfolding IsStrictlySortedBy
none_from a n past = record {
  falling = tt;
  each = tt;
  known = λ m. (
    λ there. let within = there.1 in absurd (omega (arith, within)),
    λ is. let from = is.0 in let within = is.1 in absurd (omega (arith, past, from, within)),
  );
}

module _ (a : Asking) (n : ℕ) (within : n ≤ length a.name) (speakers : List SpeakerFacts) (so_far : AreFrom a (n + 1) speakers) where
  abbrev labels_of : SpeakerFacts → ℕ
  labels_of each = each.labels

  pub one_unknown : ¬ IsKnownZone a.basis a.name a.rtype (rightmost a.name n) → AreFrom a n speakers
  one_unknown never = record {
    falling = so_far.falling;
    each = so_far.each;
    known = λ m. (
      λ there. let is = (so_far.known m).0 there in let from = is.0 in (omega (arith, from), is.1, is.2),
      λ is. ⊎_elim
          (λ (later : n < m). (so_far.known m).1 (omega (arith, later), is.1, is.2))
          (λ (here : m ≤ n).
          let from = is.0 in
          let same : m ≡ n = omega (arith, here, from) in
          absurd (never (subst (λ (k : ℕ). IsKnownZone a.basis a.name a.rtype (rightmost a.name k)) same is.2)))
          (cases_lt n m),
    );
  }

  pub one_known : (facts : SpeakerFacts) (next : List SpeakerFacts) → IsKnownZone a.basis a.name a.rtype (rightmost a.name n)
      → facts.labels ≡ n → AreSpeakerFacts a facts → next ≡ speakers ++ facts ∷ [] → AreFrom a n next
  one_known facts next is its are pushed = subst (AreFrom a n) (sym pushed) (record {
    falling = subst (IsStrictlySortedBy (λ one other. nat_cmp other one)) (sym front)
        (rising_push (λ one other. nat_cmp other one) (map labels_of speakers) n so_far.falling (λ m there.
        let from = ((so_far.known m).0 there).0 in nat_less n m (omega (arith, from))));
    each = recursion-append (AreSpeakerFacts a) speakers (facts ∷ []) so_far.each (are, tt);
    known = λ m. subst (λ (ns : List ℕ). Contains ns m
        ↔ ((n ≤ m) × (m ≤ length a.name) × IsKnownZone a.basis a.name a.rtype (rightmost a.name m))) (sym front) (
          λ there. ⊎_elim
              (λ (before : Contains (map labels_of speakers) m).
              let at = (so_far.known m).0 before in let from = at.0 in (omega (arith, from), at.1, at.2))
              (λ (last : n ≡ m). (
                omega (arith, last),
                subst (λ (k : ℕ). k ≤ length a.name) last within,
                subst (λ (k : ℕ). IsKnownZone a.basis a.name a.rtype (rightmost a.name k)) last is,
              ))
              (Contains-push_cases (map labels_of speakers) n m there),
          λ at. ⊎_elim
              (λ (later : n < m).
              Contains-append_left (map labels_of speakers) (n ∷ []) m ((so_far.known m).1 (omega (arith, later), at.1, at.2)))
              (λ (here : m ≤ n).
              let from = at.0 in
              Contains-append_right (map labels_of speakers) (n ∷ []) m (0, omega arith, omega (arith, here, from)))
              (cases_lt n m),
        );
  }) where
    front : map labels_of (speakers ++ facts ∷ []) ≡ map labels_of speakers ++ n ∷ []
    front = map-append labels_of speakers (facts ∷ []) ∙ ap (λ (m : ℕ). map labels_of speakers ++ m ∷ []) its

pub all_from : (a : Asking) (n : ℕ) (speakers : List SpeakerFacts) → n ≡ 0 → AreFrom a n speakers → AreSpeakers a speakers
all_from a n speakers all are = record {
  falling = are.falling;
  each = are.each;
  known = λ m within. (
    λ there. ((are.known m).0 there).2,
    λ is. (are.known m).1 (omega (arith, all), within, is),
  );
}
