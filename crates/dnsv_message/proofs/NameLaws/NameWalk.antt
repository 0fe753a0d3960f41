-- The reader of a name: what stands at its place decides what the name at the beginning is.
use Rattle.std.proofs.Common.{◌≡◌, ℕ, suc, ◌+◌, ◌-◌, ◌<◌, ◌≤◌, List, [], ◌∷◌, ◌++◌, length, take, drop, refl, sym, ap, subst, ◌∙◌, arith, append_assoc, length-append, length-take, length-drop, Option, Some, None, unwrap_or}
use Rattle.std.proofs.lemmas.List.{append-nil}
use Rattle.std.specs.List.{AllByRecursion}
use Rattle.std.specs.Option.{option_or}
use Rattle.dnsv_names.specs.Name.{Labels, IsLabel, IsName, wire}
use Rattle.dnsv_message.specs.declared.errors.NameFault.{NameFault}
use Rattle.dnsv_message.specs.declared.name_at.Step.{Step}
use Rattle.dnsv_message.specs.declared.name_at.Step.TheVariants.{Root, Label, Pointer}
use Rattle.dnsv_message.specs.declared.name_at.Walk.{Walk}
use Rattle.dnsv_message.specs.NameAt.Steps.{StepAt}
use Rattle.dnsv_message.specs.NameAt.{NameFrom, NumberAt, PartAt, LabelAt, PointerAt, NameAt, root, label, pointer, NameFaultAt, after_label, after_pointer}

-- `front` is read, its octets are written, and the name goes on at the place
pub record Walked (octets : List ℕ) (start place run pointers : ℕ) (written : List ℕ) (end : Option ℕ) : Type 0 where
  pub front : Labels
  pub each : AllByRecursion IsLabel front
  pub spelling : (tail : Labels) → written ++ wire tail ≡ wire (front ++ tail)
  pub small : length written ≤ 254
  pub name : {tail : Labels} {after : ℕ} → NameAt octets place run pointers tail after → NameAt octets start start 32 (front ++ tail) (unwrap_or end after)
  pub fault : {fault : NameFault} → NameFaultAt octets place run pointers (length written) fault → NameFaultAt octets start start 32 0 fault

each_push : (front : Labels) (last : List ℕ) → AllByRecursion IsLabel front → IsLabel last → AllByRecursion IsLabel (front ++ last ∷ [])
each_push [] last each is_label = (is_label, tt)
each_push (first ∷ front) last each is_label = (each.0, each_push front last each.1 is_label)

module _ {octets : List ℕ} {start place run pointers : ℕ} {written : List ℕ} {end : Option ℕ} (walked : Walked octets start place run pointers written end) where
  pub Walked-label : (first : List ℕ) → LabelAt octets place first → length written + (1 + length first) + 1 ≤ 255 → Walked octets start (place + (1 + length first)) run pointers (written ++ (length first ∷ first)) end
  Walked-label first at small = record {
    front = walked.front ++ first ∷ [];
    each = each_push walked.front first walked.each at.0;
    spelling = λ tail. append_assoc written (length first ∷ first) (wire tail) ∙ walked.spelling (first ∷ tail) ∙ ap wire (sym (append_assoc walked.front (first ∷ []) tail));
    small = omega (arith, length-append written (length first ∷ first));
    name = λ {tail} {after} goes_on. subst (λ labels. NameAt octets start start 32 labels (unwrap_or end after)) (sym (append_assoc walked.front (first ∷ []) tail)) (walked.name (label at goes_on));
    fault = λ {fault} goes_on. walked.fault (after_label at small (subst (λ size. NameFaultAt octets (place + (1 + length first)) run pointers size fault) (omega (arith, length-append written (length first ∷ first))) goes_on));
  }

  pub Walked-pointer : (target left : ℕ) → pointers ≡ suc left → PointerAt octets place target → target < run → Walked octets start target target left written (Some (unwrap_or end (place + 2)))
  Walked-pointer target left count at back = record {
    front = walked.front;
    each = walked.each;
    spelling = walked.spelling;
    small = walked.small;
    name = λ {tail} goes_on. walked.name (subst (λ n. NameAt octets place run n tail (place + 2)) (sym count) (pointer at back goes_on));
    fault = λ {fault} goes_on. walked.fault (subst (λ n. NameFaultAt octets place run n (length written) fault) (sym count) (after_pointer at back goes_on));
  }

  -- at the root the labels are all read
  pub Walked-root : NumberAt octets place 1 0 → NameAt octets start start 32 walked.front (unwrap_or end (place + 1))
  Walked-root at = subst (λ labels. NameAt octets start start 32 labels (unwrap_or end (place + 1))) (append-nil walked.front) (walked.name (root at))

  pub Walked-written : written ++ (0 ∷ []) ≡ wire walked.front
  Walked-written = walked.spelling [] ∙ ap wire (append-nil walked.front)

  pub Walked-IsName : IsName walked.front
  Walked-IsName = record { each = walked.each; at_most_255 = omega (arith, walked.small, ap length Walked-written, length-append written (0 ∷ [])) }

-- a part that stands at a place lies within the octets
pub part_within : (octets : List ℕ) (place : ℕ) (part : List ℕ) → 0 < length part → PartAt octets place part → place + length part ≤ length octets
part_within octets place part some at =
    omega (arith, ap length at, length-take (length part) (drop place octets), length-drop place octets)

-- the end of a name is behind its first pointer
pub end_kept : (end : Option ℕ) (behind : ℕ) → option_or end (Some behind) ≡ Some (unwrap_or end behind)
end_kept None behind = refl
end_kept (Some first) behind = refl

-- what a step says, once it is known which
pub step_is : (octets : List ℕ) (walk : Walk) (size : ℕ) {step known : Step} → step ≡ known → StepAt octets walk size step → StepAt octets walk size known
step_is octets walk size same at = subst (StepAt octets walk size) same at

-- the octets of a label's step, its length among them
pub label_part : (octets : List ℕ) (walk : Walk) (size n : ℕ) → StepAt octets walk size (Label n) → (walk.place + (1 + n) ≤ length octets) × (size + (1 + n) ≤ 254)
label_part octets walk size n at =
    (omega (arith, part_within octets walk.place (length at.0 ∷ at.0) (omega arith) at.1.1, at.2), omega (arith, at.3))

pub Walked-by_label : {octets : List ℕ} {start : ℕ} {written : List ℕ} {end : Option ℕ} (walk : Walk) (size n : ℕ) (now : List ℕ)
    → Walked octets start walk.place walk.run walk.pointers written end → StepAt octets walk size (Label n) → size ≡ length written
    → now ≡ written ++ take (walk.place + (1 + n) - walk.place) (drop walk.place octets)
    → Walked octets start (walk.place + (1 + n)) walk.run walk.pointers now end
Walked-by_label {octets} {start} {written} {end} walk size n now walked at sized extended =
    let many : walk.place + (1 + n) - walk.place ≡ suc (length at.0) = omega (arith, at.2) in
    let taken : take (walk.place + (1 + n) - walk.place) (drop walk.place octets) ≡ length at.0 ∷ at.0 =
    ap (λ k. take k (drop walk.place octets)) many ∙ at.1.1 in
    rw (at.2, extended, taken) (Walked-label walked at.0 at.1 (omega (arith, at.2, at.3, sized)))

pub Walked-by_pointer : {octets : List ℕ} {start : ℕ} {written : List ℕ} {end : Option ℕ} (walk : Walk) (size target : ℕ) (after : Option ℕ)
    → Walked octets start walk.place walk.run walk.pointers written end → StepAt octets walk size (Pointer target)
    → after ≡ option_or end (Some (walk.place + 2)) → Walked octets start target target (walk.pointers - 1) written after
Walked-by_pointer {octets} {start} {written} {end} walk size target after walked at ended =
    rw (ended, end_kept end (walk.place + 2)) (Walked-pointer walked target (walk.pointers - 1) (omega (arith, at.2)) at.0 at.1)

-- the same, where the written octets are counted alone
pub Walked-sized : {octets : List ℕ} {start : ℕ} {written : List ℕ} {end : Option ℕ} (walk : Walk) (size n : ℕ)
    → Walked octets start walk.place walk.run walk.pointers written end → StepAt octets walk size (Label n) → size ≡ length written
    → (now : List ℕ) × (size + (1 + n) ≡ length now) × Walked octets start (walk.place + (1 + n)) walk.run walk.pointers now end
Walked-sized {octets} {start} {written} {end} walk size n walked at sized =
    let part = take (walk.place + (1 + n) - walk.place) (drop walk.place octets) in
    let many : length part ≡ 1 + n = omega (arith, (label_part octets walk size n at).0, length-take (walk.place + (1 + n) - walk.place) (drop walk.place octets), length-drop walk.place octets) in
    (written ++ part, omega (arith, sized, many, length-append written part), Walked-by_label walk size n (written ++ part) walked at sized refl)

-- at the root the name is known, and how many octets it has
pub sized_name : {octets : List ℕ} {start : ℕ} {written : List ℕ} {end : Option ℕ} (walk : Walk) (size after : ℕ)
    → Walked octets start walk.place walk.run walk.pointers written end → StepAt octets walk size Root → size ≡ length written → after ≡ unwrap_or end (walk.place + 1)
    → (name : Labels) × NameFrom octets start name after × (size + 1 ≡ length (wire name))
sized_name {written = written} walk size after walked at sized is = (
  walked.front,
  rw is (Walked-root walked at, (Walked-IsName walked).at_most_255),
  omega (arith, sized, ap length (Walked-written walked), length-append {A = ℕ} written (0 ∷ [])),
)

-- what reading the octets that are written gives
pub name_found : {octets : List ℕ} {start : ℕ} {written : List ℕ} {end : Option ℕ} (walk : Walk) (size : ℕ)
    → Walked octets start walk.place walk.run walk.pointers written end → StepAt octets walk size Root
    → (now : List ℕ) → now ≡ written ++ 0 ∷ [] → (found : Option (Labels × ℕ))
    → ((labels : Labels) (rest : List ℕ) → IsName labels → now ≡ wire labels ++ rest → found ≡ Some (labels, length (wire labels)))
    → (name : Labels) × (found ≡ Some (name, length (wire name))) × NameFrom octets start name (unwrap_or end (walk.place + 1))
name_found walk size walked at now closed found every = (
  walked.front,
  every walked.front [] (Walked-IsName walked) (closed ∙ Walked-written walked ∙ sym (append-nil (wire walked.front))),
  (Walked-root walked at, (Walked-IsName walked).at_most_255),
)

pub name_returned : {octets : List ℕ} {start : ℕ} {name : Labels} {end : ℕ} (found : Option (Labels × ℕ)) (n : ℕ) (pair : Labels × ℕ) (after : ℕ)
    → found ≡ Some (name, n) → found ≡ Some pair → after ≡ end → NameFrom octets start name end → NameFrom octets start pair.0 after
name_returned {name = name} found n pair after is gave ends at =
    let same : pair.0 ≡ name = ap (λ (o : Option (Labels × ℕ)). (unwrap_or {T = Labels × ℕ} o (name, n)).0) (sym gave ∙ is) in
    rw (same, ends) at

-- what follows a name begins within the octets, or at their end
pub end_within : (octets : List ℕ) (place run pointers : ℕ) (labels : Labels) (end : ℕ) → NameAt octets place run pointers labels end → end ≤ length octets
end_within octets place run pointers labels end (root at) = at.0
end_within octets place run pointers labels end (label at goes_on) = end_within _ _ _ _ _ _ goes_on
end_within octets place run pointers labels end (pointer at back goes_on) = at.1.0

pub wire_not_empty : (labels : Labels) → 0 < length (wire labels)
wire_not_empty [] = omega arith
wire_not_empty (first ∷ labels) = omega arith
