-- What following octets from a place finds is the name that stands there.
pub mod Comparing
pub mod PieceLemmas
pub mod RdataFollowed
pub mod Writing
use Rattle.std.proofs.Common.{◌≡◌, ℕ, zero, suc, ◌+◌, ◌-◌, ◌*◌, ◌^◌, ◌<◌, ◌≤◌, List, [], ◌∷◌, ◌++◌, length, get_or, take, drop, refl, sym, ap, subst, ◌∙◌, arith, length-append, length-drop, ⊎_elim, Result, Ok, Err, Bool, true, false, nat_lt}
use Rattle.std.proofs.lemmas.Bool.Decides.{nat_tests}
use Rattle.std.proofs.lemmas.Bool.{cases_lt}
use Rattle.std.proofs.lemmas.List.{drop-drop, take_all}
use Rattle.std.proofs.lemmas.List.Elements.{All-from_get_or, recursion_from_All}
use Rattle.std.proofs.lemmas.Result.{IfOk-at_ok}
use Rattle.std.specs.List.{AllByRecursion}
use Rattle.std.specs.Result.{IfOk, IfErr, IsOk}
use Rattle.dnsv_names.specs.Name.{Labels, IsLabel, IsName, wire}
use Rattle.dnsv_names.specs.Name.WireLaws.{length-wire}
use Rattle.dnsv_names.specs.Octets.{AreOctets, number_at}
use Rattle.dnsv_message.specs.NameAt.{NumberAt, LabelAt, PointerAt, NameAt, root, label, pointer, NameFrom, NameFaultFrom, pointer_limit}
use Rattle.dnsv_message.specs.declared.errors.NameFault.{NameFault}
use Rattle.dnsv_message.specs.Following.{behind, by_octet, labels_from, labels_at, IsNamed, StandsAt, label_at}
use Rattle.dnsv_message.proofs.Numbers.{number_sum, octet_fits}
use Rattle.dnsv_message.proofs.NameLaws.{Cases, ends, goes_on, leads, cases, octet_of_number, octet_of_label, octet_of_pointer, label_within, NameAt_same, NameAt_sound}
use Rattle.dnsv_message.proofs.FitLemmas.{wire_octets}
use Rattle.dnsv_message.proofs.RdataLemmas.{plain_at}
use Rattle.dnsv_message.proofs.RdataLemmas.RdataWritten.{labels_are}

-- a name goes on so wherever more pointers may be followed, and farther ones
pub NameAt-weaken : (octets : List ℕ) (place run other pointers more : ℕ) (labels : Labels) (end : ℕ) → run ≤ other → pointers ≤ more
    → NameAt octets place run pointers labels end → NameAt octets place other more labels end
NameAt-weaken octets place run other pointers more labels end runs counts (root at) = root at
NameAt-weaken octets place run other pointers more labels end runs counts (label at on) = label at (NameAt-weaken octets _ run other pointers more _ end runs counts on)
NameAt-weaken octets place run other pointers zero labels end runs counts (pointer at back on) = absurd (omega (arith, counts))
NameAt-weaken octets place run other pointers (suc more) labels end runs counts (pointer {pointers = left} {target = target} at back on) =
    pointer at (omega (arith, back, runs)) (NameAt-weaken octets target target target left more labels _ (omega arith) (omega (arith, counts)) on)

steps_root : (steps : ℕ) (octets : List ℕ) (place : ℕ) → get_or octets place 0 ≡ 0 → labels_from (suc steps) octets place ≡ []
unfolding labels_from
steps_root steps octets place octet = ap (by_octet (labels_from steps octets) octets place) octet

pub below_64 : (n : ℕ) → n < 64 → nat_lt n 64 ≡ true
below_64 n small = grind (arith, nat_tests, small)

pub not_below_64 : (n : ℕ) → 64 ≤ n → nat_lt n 64 ≡ false
not_below_64 n large = grind (arith, nat_tests, large)

by_size : (rest : ℕ → Labels) (octets : List ℕ) (place n : ℕ) → 0 < n → by_octet rest octets place n ≡ behind rest octets place n (nat_lt n 64)
by_size rest octets place zero some = absurd (omega (arith, some))
by_size rest octets place (suc n) some = refl

steps_label : (steps : ℕ) (octets : List ℕ) (place n : ℕ) → get_or octets place 0 ≡ n → 0 < n → n < 64
    → labels_from (suc steps) octets place ≡ take n (drop (place + 1) octets) ∷ labels_from steps octets (place + (1 + n))
unfolding labels_from
steps_label steps octets place n octet some small =
    ap (by_octet (labels_from steps octets) octets place) octet
    ∙ by_size (labels_from steps octets) octets place n some
    ∙ ap (behind (labels_from steps octets) octets place n) (below_64 n small)

steps_pointer : (steps : ℕ) (octets : List ℕ) (place target : ℕ) → 192 ≤ get_or octets place 0 → number_at octets place 2 ≡ 3 * 2 ^ 14 + target
    → labels_from (suc steps) octets place ≡ labels_from steps octets target
unfolding labels_from
steps_pointer steps octets place target octet number =
    let leads_to : number_at octets place 2 - 3 * 2 ^ 14 ≡ target = omega (arith, number) in
    by_size (labels_from steps octets) octets place (get_or octets place 0) (omega (arith, octet))
    ∙ ap (behind (labels_from steps octets) octets place (get_or octets place 0)) (not_below_64 (get_or octets place 0) (omega (arith, octet)))
    ∙ ap (labels_from steps octets) leads_to

drop_take : (n : ℕ) (octets : List ℕ) → drop 1 (take (suc n) octets) ≡ take n (drop 1 octets)
drop_take zero [] = refl
drop_take (suc n) [] = refl
drop_take n (octet ∷ octets) = refl

-- the octets behind a label's length are the label
label_octets : (octets : List ℕ) (place : ℕ) (first : List ℕ) → LabelAt octets place first → take (length first) (drop (place + 1) octets) ≡ first
label_octets octets place first at =
    ap (take (length first)) (sym (drop-drop 1 place octets)) ∙ sym (drop_take (length first) (drop place octets)) ∙ ap (drop 1) at.1

module _ (octets : List ℕ) (fit : (i : ℕ) → get_or octets i 0 < 256) where
  -- enough steps find the labels
  found_from : (steps place run pointers : ℕ) (labels : Labels) (end : ℕ) → length labels + pointers < steps → NameAt octets place run pointers labels end → labels_from steps octets place ≡ labels
  found_from zero place run pointers labels end enough at = absurd (omega (arith, enough))
  found_from (suc steps) place run pointers labels end enough (root at) = steps_root steps octets place (octet_of_number octets place 0 at)
  found_from (suc steps) place run pointers labels end enough (label {first = first} {labels = rest} at on) =
      steps_label steps octets place (length first) (octet_of_label octets place first at) at.0.not_empty (omega (arith, at.0.at_most_63))
      ∙ (λ i. label_octets octets place first at i ∷ found_from steps (place + (1 + length first)) run pointers rest end (omega (arith, enough)) on i)
  found_from (suc steps) place run pointers labels end enough (pointer {pointers = left} {target = target} {end = after} at back on) =
      steps_pointer steps octets place target (octet_of_pointer octets fit place target at) (sym at.1.1)
      ∙ found_from steps target target left labels after (omega (arith, enough)) on

-- what stands at a place as a name is what is seen there
pub labels_found : (octets : List ℕ) (place : ℕ) (labels : Labels) (end : ℕ) → AreOctets octets → NameFrom octets place labels end → labels_at octets place ≡ labels
labels_found octets place labels end are at =
    let short = length-wire labels (labels_are octets place place pointer_limit labels end at.0) in
    found_from octets (octet_fits octets are) 160 place place pointer_limit labels end (omega (arith, short, at.1)) at.0

pub named_by : (octets : List ℕ) (place : ℕ) (labels : Labels) (end : ℕ) → AreOctets octets → NameFrom octets place labels end → IsNamed octets place
named_by octets place labels end are at = record {
  fit = are;
  end = end;
  name = subst (λ name. NameFrom octets place name end) (sym (labels_found octets place labels end are at)) at;
}

-- a name that goes on from a place is the name there
on_from : (octets : List ℕ) (place run pointers : ℕ) (labels : Labels) (end : ℕ) → AreOctets octets → run ≤ place → pointers ≤ 32 → length (wire labels) ≤ 255
    → NameAt octets place run pointers labels end → (labels_at octets place ≡ labels) × IsNamed octets place
on_from octets place run pointers labels end are back few small at =
    let from : NameFrom octets place labels end = (NameAt-weaken octets place run place pointers 32 labels end back few at, small) in
    (labels_found octets place labels end are from, named_by octets place labels end are from)

-- what stands at the place of a name: the root, a label or a pointer
pub record HasRoot (octets : List ℕ) (place : ℕ) : Type 0 where
  pub none : labels_at octets place ≡ []
  pub within : place < length octets

pub record HasLabel (octets : List ℕ) (place : ℕ) : Type 0 where
  pub labels : labels_at octets place ≡ label_at octets place ∷ labels_at octets (place + (1 + get_or octets place 0))
  pub rest : IsNamed octets (place + (1 + get_or octets place 0))
  pub is_label : IsLabel (label_at octets place)
  pub size : length (label_at octets place) ≡ get_or octets place 0
  pub within : place + (1 + get_or octets place 0) ≤ length octets

pub record HasPointer (octets : List ℕ) (place : ℕ) : Type 0 where
  pub target : ℕ
  pub number : number_at octets place 2 ≡ 49152 + target
  pub same : labels_at octets target ≡ labels_at octets place
  pub leads : IsNamed octets target
  pub back : target < place
  pub within : place + 2 ≤ length octets

module _ (octets : List ℕ) (place : ℕ) (named : IsNamed octets place) where
  fits : (i : ℕ) → get_or octets i 0 < 256
  fits = octet_fits octets named.fit

  pub has_root : get_or octets place 0 ≡ 0 → HasRoot octets place
  has_root octet = elim (cases octets place place 32 (labels_at octets place) named.end named.name.0) [
    | ends at none end ↦ record { none = none; within = omega (arith, at.0) }
    | goes_on first rest at is more ↦ absurd (omega (arith, octet, octet_of_label octets place first at, at.0.not_empty))
    | leads target left after at back count end more ↦ absurd (omega (arith, octet, octet_of_pointer octets fits place target at))
  ]

  pub has_label : 0 < get_or octets place 0 → get_or octets place 0 < 64 → HasLabel octets place
  has_label some small = elim (cases octets place place 32 (labels_at octets place) named.end named.name.0) [
    | ends at none end ↦ absurd (omega (arith, some, octet_of_number octets place 0 at))
    | goes_on first rest at is more ↦
        let octet = octet_of_label octets place first at in
        let whole = ap (λ ls. length (wire ls)) is in
        let on = on_from octets (place + (1 + length first)) place 32 rest named.end named.fit (omega arith) (omega arith) (omega (arith, named.name.1, whole, length-append first (wire rest))) more in
        let same : label_at octets place ≡ first = ap (λ n. take n (drop (place + 1) octets)) octet ∙ label_octets octets place first at in
        let next : place + (1 + length first) ≡ place + (1 + get_or octets place 0) = omega (arith, octet) in
        record {
          labels = is ∙ (λ i. sym same i ∷ (sym on.0 ∙ ap (labels_at octets) next) i);
          rest = subst (IsNamed octets) next on.1;
          is_label = subst IsLabel (sym same) at.0;
          size = ap length same ∙ sym octet;
          within = omega (arith, octet, label_within octets place first at);
        }
    | leads target left after at back count end more ↦ absurd (omega (arith, small, octet_of_pointer octets fits place target at))
  ]

  pub has_pointer : 64 ≤ get_or octets place 0 → HasPointer octets place
  has_pointer large = elim (cases octets place place 32 (labels_at octets place) named.end named.name.0) [
    | ends at none end ↦ absurd (omega (arith, large, octet_of_number octets place 0 at))
    | goes_on first rest at is more ↦ absurd (omega (arith, large, octet_of_label octets place first at, at.0.at_most_63))
    | leads target left after at back count end more ↦
        let on = on_from octets target target left (labels_at octets place) after named.fit (omega arith) (omega (arith, count)) named.name.1 more in
        record { target = target; number = sym at.1.1; same = on.0; leads = on.1; back = back; within = at.1.0 }
  ]

  pub named_within : place < length octets
  named_within = elim (cases octets place place 32 (labels_at octets place) named.end named.name.0) [
    | ends at none end ↦ omega (arith, at.0)
    | goes_on first rest at is more ↦ omega (arith, label_within octets place first at)
    | leads target left after at back count end more ↦ omega (arith, at.1.0)
  ]

-- where a pointer leads, the name is the same
pub HasPointer-next : (octets : List ℕ) (place next : ℕ) {labels : Labels} → (to : HasPointer octets place) → next ≡ to.target → labels_at octets place ≡ labels
    → IsNamed octets next × (labels_at octets next ≡ labels)
HasPointer-next octets place next to is same = rw is (to.leads, to.same ∙ same)

-- a name that begins with no pointer
pub stands_here : (octets : List ℕ) (place : ℕ) → IsNamed octets place → get_or octets place 0 < 64 → StandsAt octets place
stands_here octets place named plain = record {
  named = named;
  plain = plain;
  within = elim (cases octets place place 32 (labels_at octets place) named.end named.name.0) [
    | ends at none end ↦ omega (arith, octet_of_number octets place 0 at, at.0)
    | goes_on first rest at is more ↦ omega (arith, octet_of_label octets place first at, label_within octets place first at)
    | leads target left after at back count end more ↦ absurd (omega (arith, plain, octet_of_pointer octets (octet_fits octets named.fit) place target at))
  ];
}

pub at_most_127 : (octets : List ℕ) (place : ℕ) → IsNamed octets place → length (labels_at octets place) ≤ 127
at_most_127 octets place named =
    omega (arith, length-wire (labels_at octets place) (labels_are octets place place pointer_limit (labels_at octets place) named.end named.name.0), named.name.1)

-- where labels are left, the root isn't reached
pub not_root : (octets : List ℕ) (next k : ℕ) (labels : Labels) → StandsAt octets next → labels_at octets next ≡ drop k labels → k < length labels → 0 < get_or octets next 0
not_root octets next k labels stands same more = ⊎_elim
    (λ (some : 0 < get_or octets next 0). some)
    (λ (none : get_or octets next 0 ≤ 0). absurd (omega (arith, ap length (has_root octets next stands.named (omega (arith, none))).none, ap length same, length-drop k labels, more)))
    (cases_lt 0 (get_or octets next 0))

pub rest_of : (first : List ℕ) (all rest labels : Labels) (k : ℕ) → all ≡ first ∷ rest → all ≡ drop k labels → rest ≡ drop (k + 1) labels
rest_of first all rest labels k front same = ap (drop 1) (sym front ∙ same) ∙ drop-drop 1 k labels

pub room_for_label : (octets : List ℕ) (place next n : ℕ) (kept : Labels) → IsNamed octets place → StandsAt octets next → 0 < get_or octets next 0
    → labels_at octets place ≡ kept ++ labels_at octets next → length kept ≡ n → n < 127
room_for_label octets place next n kept named stands some same size =
    omega (arith, at_most_127 octets place named, ap length same, length-append kept (labels_at octets next), ap length (has_label octets next stands.named some stands.plain).labels, size)

pub octets_are : (octets : List ℕ) → ((i : ℕ) → get_or octets i 0 < 256) → AreOctets octets
octets_are octets fit = recursion_from_All (λ octet. octet < 256) octets (All-from_get_or (λ octet. octet < 256) octets 0 (λ i within. fit i))

-- the wire form of a name is that name
pub wire_stands : (octets : List ℕ) (labels : Labels) → octets ≡ wire labels → IsName labels → StandsAt octets 0 × (labels_at octets 0 ≡ labels)
wire_stands octets labels form name =
    let whole : take (length (wire labels)) (drop 0 octets) ≡ wire labels = ap (take (length (wire labels))) form ∙ take_all (length (wire labels)) (wire labels) (omega arith) in
    let at : NameFrom octets 0 labels (0 + length (wire labels)) = (plain_at octets labels 0 0 32 name.each whole, name.at_most_255) in
    let are = subst AreOctets (sym form) (wire_octets labels name.each) in
    (stands_here octets 0 (named_by octets 0 labels _ are at) (rw form (first_small labels name.each)), labels_found octets 0 labels _ are at)
  where
    first_small : (labels : Labels) → AllByRecursion IsLabel labels → get_or (wire labels) 0 0 < 64
    first_small [] each = omega arith
    first_small (first ∷ rest) each = omega (arith, each.0.at_most_63)

-- a name that stands is read
pub named_is_read : {X : Type 0} (octets : List ℕ) (place : ℕ) → IsNamed octets place → (answer : Result X NameFault) → IfErr answer (NameFaultFrom octets place) → IsOk answer
named_is_read octets place named (Ok found) fault = refl
named_is_read octets place named (Err wrong) fault =
    absurd (NameAt_sound octets (octet_fits octets named.fit) place place pointer_limit 0 (labels_at octets place) named.end wrong (omega (arith, named.name.1)) named.name.0 fault)

pub named_is_found : (octets : List ℕ) (place : ℕ) → IsNamed octets place → (answer : Result (Labels × ℕ) NameFault) (found : Labels × ℕ) → answer ≡ Ok found
    → IfOk answer (λ found. NameFrom octets place found.0 found.1) → found.0 ≡ labels_at octets place
named_is_found octets place named answer found is gave =
    sym (labels_found octets place found.0 found.1 named.fit (IfOk-at_ok _ is gave))
