-- Octets spell at most one name at a place, or have one fault there, and never both.
pub mod NameWalk
use Rattle.std.proofs.Common.{◌≡◌, ℕ, suc, ◌+◌, ◌<◌, ◌≤◌, List, [], ◌∷◌, length, get_or, take, drop, refl, sym, ap, subst, ◌∙◌, arith, ⊎_elim, add-zero, length-append}
use Rattle.std.proofs.lemmas.List.{get_or-take, get_or-drop}
use Rattle.dnsv_names.specs.Name.{Labels, wire}
use Rattle.dnsv_message.specs.declared.errors.NameFault.{NameFault}
use Rattle.dnsv_message.specs.declared.errors.NameFault.TheVariants.{Short, BadLabel, BadPointer, TooManyPointers, LongName}
use Rattle.dnsv_message.specs.NameAt.{NumberAt, LabelAt, PointerAt, NameAt, root, label, pointer, IsTorn, FaultHere, NameFaultAt, here, after_label, after_pointer}
use Rattle.dnsv_message.proofs.Numbers.{number_sum}
use Rattle.dnsv_message.proofs.NameLaws.NameWalk.{part_within, wire_not_empty}

module _ (octets : List ℕ) where
  pub octet_of_number : (place n : ℕ) → NumberAt octets place 1 n → get_or octets place 0 ≡ n
  octet_of_number place n at = omega (arith, number_sum octets place 1 n at)

  pub octet_of_label : (place : ℕ) (first : List ℕ) → LabelAt octets place first → get_or octets place 0 ≡ length first
  octet_of_label place first at =
      ap (λ n. get_or octets n 0) (sym (add-zero place)) ∙ sym (get_or-drop place octets 0 0)
      ∙ sym (get_or-take (suc (length first)) (drop place octets) 0 0 (omega arith)) ∙ ap (λ xs. get_or xs 0 0) at.1

  pub label_within : (place : ℕ) (first : List ℕ) → LabelAt octets place first → place + (1 + length first) ≤ length octets
  label_within place first at = omega (arith, part_within octets place (length first ∷ first) (omega arith) at.1)

  pub label_same : (place : ℕ) (first other : List ℕ) → LabelAt octets place first → LabelAt octets place other → first ≡ other
  label_same place first other at also =
      let size : length first ≡ length other = sym (octet_of_label place first at) ∙ octet_of_label place other also in
      ap (drop 1) (sym at.1 ∙ ap (λ n. take (suc n) (drop place octets)) size ∙ also.1)

  pub target_same : (place target other : ℕ) → PointerAt octets place target → PointerAt octets place other → target ≡ other
  target_same place target other at also = omega (arith, at.1.1, also.1.1)

  -- the cases of a name, by what stands at its place
  pub data Cases (place run pointers : ℕ) (labels : Labels) (end : ℕ) : Type 0 where
    ends : NumberAt octets place 1 0 → labels ≡ [] → end ≡ place + 1 → Cases place run pointers labels end
    goes_on : (first : List ℕ) (rest : Labels) → LabelAt octets place first → labels ≡ first ∷ rest
        → NameAt octets (place + (1 + length first)) run pointers rest end → Cases place run pointers labels end
    leads : (target left behind : ℕ) → PointerAt octets place target → target < run → pointers ≡ suc left → end ≡ place + 2
        → NameAt octets target target left labels behind → Cases place run pointers labels end

  pub cases : (place run pointers : ℕ) (labels : Labels) (end : ℕ) → NameAt octets place run pointers labels end → Cases place run pointers labels end
  cases place run pointers labels end (root at) = ends at refl refl
  cases place run pointers labels end (label {first = first} {labels = rest} at more) = goes_on first rest at refl more
  cases place run pointers labels end (pointer {pointers = left} {target = target} {end = behind} at back more) = leads target left behind at back refl refl more

  module _ (fit : (i : ℕ) → get_or octets i 0 < 256) where
    pub octet_of_pointer : (place target : ℕ) → PointerAt octets place target → 192 ≤ get_or octets place 0
    octet_of_pointer place target at = omega (arith, number_sum octets place 2 _ at.1, fit place, fit (suc place))

    pub NameAt_same : (place run pointers : ℕ) (labels others : Labels) (end other : ℕ) → NameAt octets place run pointers labels end → NameAt octets place run pointers others other → (labels ≡ others) × (end ≡ other)
    NameAt_same place run pointers labels others end other (root at) also = elim (cases place run pointers others other also) [
      | ends at' none ends' ↦ (sym none, sym ends')
      | goes_on first rest at' is more ↦ absurd (omega (arith, octet_of_number place 0 at, octet_of_label place first at', at'.0.not_empty))
      | leads target left behind at' back count ends' more ↦ absurd (omega (arith, octet_of_number place 0 at, octet_of_pointer place target at'))
    ]
    NameAt_same place run pointers labels others end other (label {first = first} {labels = rest} at more) also = elim (cases place run pointers others other also) [
      | ends at' none ends' ↦ absurd (omega (arith, octet_of_number place 0 at', octet_of_label place first at, at.0.not_empty))
      | goes_on first' rest' at' is more' ↦
          let same : first ≡ first' = label_same place first first' at at' in
          let both = NameAt_same (place + (1 + length first)) run pointers rest rest' end other more (subst (λ l. NameAt octets (place + (1 + length l)) run pointers rest' other) (sym same) more') in
          (ap (λ l. l ∷ rest) same ∙ ap (λ ls. first' ∷ ls) both.0 ∙ sym is, both.1)
      | leads target left behind at' back count ends' more' ↦ absurd (omega (arith, octet_of_label place first at, at.0.at_most_63, octet_of_pointer place target at'))
    ]
    NameAt_same place run pointers labels others end other (pointer {pointers = left} {target = target} {end = behind} at back more) also = elim (cases place run (suc left) others other also) [
      | ends at' none ends' ↦ absurd (omega (arith, octet_of_number place 0 at', octet_of_pointer place target at))
      | goes_on first rest at' is more' ↦ absurd (omega (arith, octet_of_label place first at', at'.0.at_most_63, octet_of_pointer place target at))
      | leads target' left' behind' at' back' count ends' more' ↦
          let same : target' ≡ target = target_same place target' target at' at in
          let fewer : left' ≡ left = omega (arith, count) in
          let both = NameAt_same target target left labels others behind behind' more
          (subst (λ n. NameAt octets target target n others behind') fewer (subst (λ t. NameAt octets t t left' others behind') same more')) in
          (both.0, sym ends')
    ]

    -- each fault of a place, in terms of the octet there
    module _ (place run pointers size : ℕ) where
      -- where octets are missing, no label and no pointer is whole
      not_short : (0 < get_or octets place 0 → get_or octets place 0 < 64 → place + (1 + get_or octets place 0) ≤ length octets) → (192 ≤ get_or octets place 0 → place + 2 ≤ length octets) → place < length octets → FaultHere octets place run pointers size Short → ⊥
      not_short label_whole pointer_whole within fault = ⊎_elim
          (λ (none : length octets ≤ place). absurd (omega arith))
          (λ (torn : IsTorn octets place). ⊎_elim
          (λ (of_label : (0 < torn.0) × (torn.0 < 64) × (length octets < place + (1 + torn.0))).
          absurd (omega (arith, octet_of_number place torn.0 torn.1, label_whole (omega (arith, octet_of_number place torn.0 torn.1)) (omega (arith, octet_of_number place torn.0 torn.1)))))
          (λ (of_pointer : (192 ≤ torn.0) × (length octets < place + 2)).
          absurd (omega (arith, octet_of_number place torn.0 torn.1, pointer_whole (omega (arith, octet_of_number place torn.0 torn.1)))))
          torn.2)
          fault

      here_not_root : (fault : NameFault) → NumberAt octets place 1 0 → FaultHere octets place run pointers size fault → ⊥
      here_not_root Short at fault = not_short (λ some small. absurd (omega (arith, octet_of_number place 0 at))) (λ big. absurd (omega (arith, octet_of_number place 0 at))) (omega arith) fault
      here_not_root BadLabel at fault = omega (arith, octet_of_number place 0 at, octet_of_number place fault.0 fault.1)
      here_not_root LongName at fault = omega (arith, octet_of_number place 0 at, octet_of_label place fault.0 fault.1, fault.1.0.not_empty)
      here_not_root other at fault = omega (arith, octet_of_number place 0 at, octet_of_pointer place fault.0 fault.1)

      here_not_label : (fault : NameFault) (first : List ℕ) → LabelAt octets place first → size + (1 + length first) + 1 ≤ 255 → FaultHere octets place run pointers size fault → ⊥
      here_not_label Short first at small fault =
          not_short (λ some less. omega (arith, octet_of_label place first at, label_within place first at)) (λ big. absurd (omega (arith, octet_of_label place first at, at.0.at_most_63))) (omega (arith, label_within place first at)) fault
      here_not_label BadLabel first at small fault = omega (arith, octet_of_label place first at, at.0.at_most_63, octet_of_number place fault.0 fault.1)
      here_not_label LongName first at small fault = omega (arith, octet_of_label place first at, octet_of_label place fault.0 fault.1, fault.2)
      here_not_label other first at small fault = omega (arith, octet_of_label place first at, at.0.at_most_63, octet_of_pointer place fault.0 fault.1)

      here_not_pointer : (fault : NameFault) (target : ℕ) → PointerAt octets place target → target < run → 0 < pointers → FaultHere octets place run pointers size fault → ⊥
      here_not_pointer Short target at back left fault =
          not_short (λ some less. absurd (omega (arith, octet_of_pointer place target at))) (λ big. at.1.0) (omega (arith, at.1.0)) fault
      here_not_pointer BadLabel target at back left fault = omega (arith, octet_of_pointer place target at, octet_of_number place fault.0 fault.1)
      here_not_pointer BadPointer target at back left fault = omega (arith, target_same place target fault.0 at fault.1, fault.2)
      here_not_pointer TooManyPointers target at back left fault = omega (arith, fault.3)
      here_not_pointer LongName target at back left fault = omega (arith, octet_of_pointer place target at, octet_of_label place fault.0 fault.1, fault.1.0.at_most_63)

      -- a fault other than Short leaves it out
      short_alone : (fault : NameFault) → FaultHere octets place run pointers size Short → FaultHere octets place run pointers size fault → fault ≡ Short
      short_alone Short short fault = refl
      short_alone BadLabel short fault =
          absurd (not_short (λ some less. absurd (omega (arith, octet_of_number place fault.0 fault.1))) (λ big. absurd (omega (arith, octet_of_number place fault.0 fault.1))) (omega (arith, fault.1.0)) short)
      short_alone LongName short fault =
          absurd (not_short (λ some less. omega (arith, octet_of_label place fault.0 fault.1, label_within place fault.0 fault.1)) (λ big. absurd (omega (arith, octet_of_label place fault.0 fault.1, fault.1.0.at_most_63))) (omega (arith, label_within place fault.0 fault.1)) short)
      short_alone other short fault =
          absurd (not_short (λ some less. absurd (omega (arith, octet_of_pointer place fault.0 fault.1))) (λ big. fault.1.1.0) (omega (arith, fault.1.1.0)) short)

      here_same : (fault other : NameFault) → FaultHere octets place run pointers size fault → FaultHere octets place run pointers size other → fault ≡ other
      here_same Short other at also = sym (short_alone other at also)
      here_same BadLabel BadLabel at also = refl
      here_same BadLabel LongName at also = absurd (omega (arith, octet_of_number place at.0 at.1, octet_of_label place also.0 also.1, also.1.0.at_most_63))
      here_same BadPointer BadPointer at also = refl
      here_same BadPointer TooManyPointers at also = absurd (omega (arith, target_same place at.0 also.0 at.1 also.1, at.2, also.2))
      here_same TooManyPointers BadPointer at also = absurd (omega (arith, target_same place at.0 also.0 at.1 also.1, at.2, also.2))
      here_same TooManyPointers TooManyPointers at also = refl
      here_same fault Short at also = short_alone fault also at
      here_same LongName BadLabel at also = absurd (omega (arith, octet_of_number place also.0 also.1, octet_of_label place at.0 at.1, at.1.0.at_most_63))
      here_same fault BadLabel at also = absurd (omega (arith, octet_of_number place also.0 also.1, octet_of_pointer place at.0 at.1))
      here_same LongName LongName at also = refl
      here_same fault LongName at also = absurd (omega (arith, octet_of_pointer place at.0 at.1, octet_of_label place also.0 also.1, also.1.0.at_most_63))
      here_same LongName other at also = absurd (omega (arith, octet_of_pointer place also.0 also.1, octet_of_label place at.0 at.1, at.1.0.at_most_63))
      here_same BadLabel other at also = absurd (omega (arith, octet_of_number place at.0 at.1, octet_of_pointer place also.0 also.1))

    -- the cases of a fault, by where it is
    data FaultCases (place run pointers size : ℕ) (fault : NameFault) : Type 0 where
      stops : FaultHere octets place run pointers size fault → FaultCases place run pointers size fault
      reads : (first : List ℕ) → LabelAt octets place first → size + (1 + length first) + 1 ≤ 255
          → NameFaultAt octets (place + (1 + length first)) run pointers (size + (1 + length first)) fault → FaultCases place run pointers size fault
      follows : (target left : ℕ) → PointerAt octets place target → target < run → pointers ≡ suc left
          → NameFaultAt octets target target left size fault → FaultCases place run pointers size fault

    fault_cases : (place run pointers size : ℕ) (fault : NameFault) → NameFaultAt octets place run pointers size fault → FaultCases place run pointers size fault
    fault_cases place run pointers size fault (here at) = stops at
    fault_cases place run pointers size fault (after_label {first = first} at small more) = reads first at small more
    fault_cases place run pointers size fault (after_pointer {pointers = left} {target = target} at back more) = follows target left at back refl more

    -- a name that is read has no fault
    pub NameAt_sound : (place run pointers size : ℕ) (labels : Labels) (end : ℕ) (fault : NameFault) → size + length (wire labels) ≤ 255 → NameAt octets place run pointers labels end → NameFaultAt octets place run pointers size fault → ⊥
    NameAt_sound place run pointers size labels end fault small (root at) wrong = elim (fault_cases place run pointers size fault wrong) [
      | stops at' ↦ here_not_root place run pointers size fault at at'
      | reads first at' small' more ↦ omega (arith, octet_of_number place 0 at, octet_of_label place first at', at'.0.not_empty)
      | follows target left at' back count more ↦ omega (arith, octet_of_number place 0 at, octet_of_pointer place target at')
    ]
    NameAt_sound place run pointers size labels end fault small (label {first = first} {labels = rest} at more) wrong =
        let tight : size + (1 + length first) + length (wire rest) ≤ 255 = omega (arith, small, length-append first (wire rest)) in
        elim (fault_cases place run pointers size fault wrong) [
          | stops at' ↦ here_not_label place run pointers size fault first at (omega (arith, wire_not_empty rest, tight)) at'
          | reads first' at' small' more' ↦
              let same : first' ≡ first = label_same place first' first at' at in
              NameAt_sound (place + (1 + length first)) run pointers (size + (1 + length first)) rest end fault tight more
              (subst (λ l. NameFaultAt octets (place + (1 + length l)) run pointers (size + (1 + length l)) fault) same more')
          | follows target left at' back count more' ↦ omega (arith, octet_of_label place first at, at.0.at_most_63, octet_of_pointer place target at')
        ]
    NameAt_sound place run pointers size labels end fault small (pointer {pointers = left} {target = target} {end = behind} at back more) wrong = elim (fault_cases place run (suc left) size fault wrong) [
      | stops at' ↦ here_not_pointer place run (suc left) size fault target at back (omega arith) at'
      | reads first at' small' more' ↦ omega (arith, octet_of_label place first at', at'.0.at_most_63, octet_of_pointer place target at)
      | follows target' left' at' back' count more' ↦
          let same : target' ≡ target = target_same place target' target at' at in
          let fewer : left' ≡ left = omega (arith, count) in
          NameAt_sound target target left size labels behind fault small more
          (subst (λ n. NameFaultAt octets target target n size fault) fewer (subst (λ t. NameFaultAt octets t t left' size fault) same more'))
    ]

    -- a place has one fault
    pub NameFaultAt_same : (place run pointers size : ℕ) (fault other : NameFault) → NameFaultAt octets place run pointers size fault → NameFaultAt octets place run pointers size other → fault ≡ other
    NameFaultAt_same place run pointers size fault other (here at) also = elim (fault_cases place run pointers size other also) [
      | stops at' ↦ here_same place run pointers size fault other at at'
      | reads first at' small more ↦ absurd (here_not_label place run pointers size fault first at' small at)
      | follows target left at' back count more ↦ absurd (here_not_pointer place run pointers size fault target at' back (omega (arith, count)) at)
    ]
    NameFaultAt_same place run pointers size fault other (after_label {first = first} at small more) also = elim (fault_cases place run pointers size other also) [
      | stops at' ↦ absurd (here_not_label place run pointers size other first at small at')
      | reads first' at' small' more' ↦
          let same : first' ≡ first = label_same place first' first at' at in
          NameFaultAt_same (place + (1 + length first)) run pointers (size + (1 + length first)) fault other more
          (subst (λ l. NameFaultAt octets (place + (1 + length l)) run pointers (size + (1 + length l)) other) same more')
      | follows target left at' back count more' ↦ absurd (omega (arith, octet_of_label place first at, at.0.at_most_63, octet_of_pointer place target at'))
    ]
    NameFaultAt_same place run pointers size fault other (after_pointer {pointers = left} {target = target} at back more) also = elim (fault_cases place run (suc left) size other also) [
      | stops at' ↦ absurd (here_not_pointer place run (suc left) size other target at back (omega arith) at')
      | reads first at' small more' ↦ absurd (omega (arith, octet_of_label place first at', at'.0.at_most_63, octet_of_pointer place target at))
      | follows target' left' at' back' count more' ↦
          let same : target' ≡ target = target_same place target' target at' at in
          let fewer : left' ≡ left = omega (arith, count) in
          NameFaultAt_same target target left size fault other more
          (subst (λ n. NameFaultAt octets target target n size other) fewer (subst (λ t. NameFaultAt octets t t left' size other) same more'))
    ]
