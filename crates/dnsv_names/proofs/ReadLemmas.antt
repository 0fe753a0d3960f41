-- Reading a wire form from the left: what is behind the place decides what the octets are as a whole.
use Rattle.std.proofs.Common.{◌≡◌, ℕ, ◌+◌, ◌<◌, ◌≤◌, List, [], ◌∷◌, ◌++◌, length, get_or, take, drop, refl, sym, ap, ◌∙◌, arith, append_assoc, length-append, length-drop, add-zero, add_assoc}
use Rattle.std.proofs.lemmas.List.{drop_at, drop-drop, drop_more, get_or-drop, take-append-drop, length-take-le}
use Rattle.std.proofs.lemmas.List.Elements.{All-from_get_or, All-take, All-drop, recursion_from_All}
use Rattle.std.specs.List.{AllByRecursion}
use Rattle.dnsv_names.specs.Name.{Labels, IsLabel, wire}
use Rattle.dnsv_names.specs.Name.WireLaws.{wire_not_empty}

-- at the place begins the wire form of the labels, and then the rest
pub record Spells (octets : List ℕ) (place : ℕ) (labels : Labels) (rest : List ℕ) : Type 0 where
  pub each : AllByRecursion IsLabel labels
  pub form : drop place octets ≡ wire labels ++ rest

-- labels at the front, of which the tail begins at the place
pub record Joins (octets : List ℕ) (place : ℕ) (labels tail : Labels) (rest : List ℕ) : Type 0 where
  pub front : Spells octets 0 labels rest
  pub behind : Spells octets place tail rest
  pub size : length (wire labels) ≡ place + length (wire tail)

-- whatever is spelled at the place belongs to labels at the front, and the other way round
pub record Reads (octets : List ℕ) (place : ℕ) : Type 0 where
  pub back : {tail : Labels} {rest : List ℕ} → Spells octets place tail rest → (labels : Labels) × Joins octets place labels tail rest
  pub on : {labels : Labels} {rest : List ℕ} → Spells octets 0 labels rest → (tail : Labels) × Joins octets place labels tail rest

pub Reads-start : (octets : List ℕ) → Reads octets 0
Reads-start octets = record {
  back = λ {tail} {rest} spells. (tail, record { front = spells; behind = spells; size = omega arith });
  on = λ {labels} {rest} spells. (labels, record { front = spells; behind = spells; size = omega arith });
}

first_of_wire : (labels : Labels) (rest : List ℕ) → get_or (wire labels ++ rest) 0 0 ≡ get_or (wire labels) 0 0
first_of_wire [] rest = refl
first_of_wire (label ∷ labels) rest = refl

-- the octet behind which a wire form goes on
pub spelled_octet : (octets : List ℕ) (place : ℕ) (tail : Labels) (rest : List ℕ) → Spells octets place tail rest → get_or octets place 0 ≡ get_or (wire tail) 0 0
spelled_octet octets place tail rest spells =
    ap (λ n. get_or octets n 0) (sym (add-zero place)) ∙ sym (get_or-drop place octets 0 0)
    ∙ ap (λ xs. get_or xs 0 0) spells.form ∙ first_of_wire tail rest

pub spelled_within : {octets : List ℕ} {place : ℕ} {tail : Labels} {rest : List ℕ} → Spells octets place tail rest → place < length octets
spelled_within {octets} {place} {tail} {rest} spells =
    omega (arith, wire_not_empty tail, length-drop place octets, ap length spells.form, length-append (wire tail) rest)

-- behind a length that isn't 0 the rest of the labels goes on
pub record Goes (octets : List ℕ) (place : ℕ) (tail after : Labels) (rest : List ℕ) : Type 0 where
  pub spells : Spells octets (place + (1 + get_or octets place 0)) after rest
  pub size : length (wire tail) ≡ 1 + get_or octets place 0 + length (wire after)
  pub small : get_or octets place 0 ≤ 63

pub Spells-next : (octets : List ℕ) (place : ℕ) (tail : Labels) (rest : List ℕ) → Spells octets place tail rest → (get_or octets place 0 ≡ 0 → ⊥) → (after : Labels) × Goes octets place tail after rest
Spells-next octets place [] rest spells not_root = absurd (not_root (spelled_octet octets place [] rest spells))
Spells-next octets place (label ∷ after) rest spells not_root =
    let octet : get_or octets place 0 ≡ length label = spelled_octet octets place (label ∷ after) rest spells in (
      after,
      record {
        spells = record {
          each = spells.each.1;
          form = ap (λ n. drop n octets) (sym (add_assoc place 1 (get_or octets place 0)))
              ∙ sym (drop-drop (get_or octets place 0) (place + 1) octets)
              ∙ ap (drop (get_or octets place 0)) (sym (drop-drop 1 place octets) ∙ ap (drop 1) spells.form ∙ append_assoc label (wire after) rest)
              ∙ drop_at label (wire after ++ rest) (get_or octets place 0) (sym octet);
        };
        size = omega (arith, octet, length-append label (wire after));
        small = omega (arith, octet, spells.each.0.at_most_63);
      },
    )

-- where the root stands nothing more does
pub Spells-only_root : (octets : List ℕ) (place : ℕ) (tail : Labels) (rest : List ℕ) → Spells octets place tail rest → get_or octets place 0 ≡ 0 → length (wire tail) ≡ 1
Spells-only_root octets place [] rest spells root = refl
Spells-only_root octets place (label ∷ after) rest spells root =
    absurd (omega (arith, spelled_octet octets place (label ∷ after) rest spells, spells.each.0.not_empty))

pub Spells-root : (octets : List ℕ) (place : ℕ) → place < length octets → get_or octets place 0 ≡ 0 → Spells octets place [] (drop (place + 1) octets)
Spells-root octets place within root = record { each = tt; form = drop_more octets place 0 within ∙ ap (λ n. n ∷ drop (place + 1) octets) root }

module _ (octets : List ℕ) (octets_fit : (i : ℕ) → get_or octets i 0 < 256) (place : ℕ) where
  -- the label whose length stands at the place
  abbrev label_at : List ℕ
  label_at = take (get_or octets place 0) (drop (place + 1) octets)

  label_octets : AllByRecursion (λ octet. octet < 256) label_at
  label_octets = recursion_from_All (λ octet. octet < 256) label_at
      (All-take (λ octet. octet < 256) (get_or octets place 0) (drop (place + 1) octets)
      (All-drop (λ octet. octet < 256) (place + 1) octets
      (All-from_get_or (λ octet. octet < 256) octets 0 (λ i within. octets_fit i))))

  pub Spells-back : {after : Labels} {rest : List ℕ} → (get_or octets place 0 ≡ 0 → ⊥) → get_or octets place 0 ≤ 63 → Spells octets (place + (1 + get_or octets place 0)) after rest → Goes octets place (label_at ∷ after) after rest × Spells octets place (label_at ∷ after) rest
  Spells-back {after} {rest} not_root small spells =
      let within : place + (1 + get_or octets place 0) < length octets = spelled_within spells in
      let size : length label_at ≡ get_or octets place 0 = length-take-le (get_or octets place 0) (drop (place + 1) octets) (omega (arith, length-drop (place + 1) octets)) in
      let behind : drop (place + 1) octets ≡ label_at ++ (wire after ++ rest) =
      sym (take-append-drop (get_or octets place 0) (drop (place + 1) octets))
      ∙ ap (λ xs. label_at ++ xs) (drop-drop (get_or octets place 0) (place + 1) octets
      ∙ ap (λ n. drop n octets) (add_assoc place 1 (get_or octets place 0)) ∙ spells.form) in (
        record { spells = spells; size = omega (arith, size, length-append label_at (wire after)); small = small },
        record {
          each = (record { not_empty = omega (arith, size, not_root); at_most_63 = omega (arith, size); octets = label_octets }, spells.each);
          form = drop_more octets place 0 (omega arith) ∙ ap (λ xs. get_or octets place 0 ∷ xs) (behind ∙ sym (append_assoc label_at (wire after) rest))
              ∙ ap (λ n. n ∷ (label_at ++ wire after) ++ rest) (sym size);
        },
      )

  pub Reads-next : (get_or octets place 0 ≡ 0 → ⊥) → get_or octets place 0 ≤ 63 → Reads octets place → Reads octets (place + (1 + get_or octets place 0))
  Reads-next not_root small reads = record {
    back = λ {tail = after} {rest} spells.
        let step = Spells-back not_root small spells in
        let whole = reads.back step.1 in
        (whole.0, record { front = whole.1.front; behind = spells; size = omega (arith, whole.1.size, step.0.size) });
    on = λ {labels} {rest} spells.
        let whole = reads.on spells in
        let step = Spells-next octets place whole.0 rest whole.1.behind not_root in
        (step.0, record { front = spells; behind = step.1.spells; size = omega (arith, whole.1.size, step.1.size) });
  }
