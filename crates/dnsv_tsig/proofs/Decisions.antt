-- Whether RDATA is a TSIG record's is decided.
use Rattle.std.proofs.Common.{◌≡◌, ◌⊎◌, inl, inr, ⊎_elim, ℕ, zero, suc, ◌+◌, ◌<◌, ◌≤◌, List, [], ◌∷◌, ◌++◌, length, take, drop, refl, sym, ap, subst, ◌∙◌, arith, append_assoc, length-append}
use Rattle.std.specs.List.{AllByRecursion}
use Rattle.std.proofs.lemmas.Bool.{cases_lt}
use Rattle.std.proofs.lemmas.List.{take_at, drop_at, take-append-drop, length-take, length-drop}
use Rattle.dnsv_names.specs.Name.{Labels, IsLabel, IsName, wire}
use Rattle.dnsv_names.specs.Octets.{AreOctets, number_at}
use Rattle.dnsv_names.specs.Name.WireLaws.{wire_not_empty, wire-front}
use Rattle.dnsv_tsig.specs.Tsig.{TsigFields, AreParts, IsTsig}
use Rattle.dnsv_tsig.proofs.TsigLemmas.{same_parts}

pub same_or : (m n : ℕ) → (m ≡ n) ⊎ (m ≡ n → ⊥)
same_or m n = ⊎_elim
    (λ (less : m < n). inr (λ same. omega (arith, less, same)))
    (λ (least : n ≤ m). ⊎_elim
    (λ (more : n < m). inr (λ same. omega (arith, more, same)))
    (λ (most : m ≤ n). inl (omega (arith, least, most)))
    (cases_lt n m))
    (cases_lt m n)

octets_or : (octets : List ℕ) → AreOctets octets ⊎ (AreOctets octets → ⊥)
octets_or [] = inl tt
octets_or (octet ∷ octets) = ⊎_elim
    (λ (small : octet < 256). ⊎_elim
    (λ (rest : AreOctets octets). inl (small, rest))
    (λ (wrong : AreOctets octets → ⊥). inr (λ all. wrong all.1))
    (octets_or octets))
    (λ (large : 256 ≤ octet). inr (λ all. omega (arith, large, all.0)))
    (cases_lt octet 256)

-- ---- the name in front

-- labels in their wire form begin the octets, and the others follow
record Begins (octets : List ℕ) (name : Labels) (behind : List ℕ) : Type 0 where
  pub each : AllByRecursion IsLabel name
  pub front : octets ≡ wire name ++ behind

abbrev Begun : List ℕ → Type 0
Begun octets = (name : Labels) × (behind : List ℕ) × Begins octets name behind

abbrev NotBegun : List ℕ → Type 0
NotBegun octets = (name : Labels) (behind : List ℕ) → Begins octets name behind → ⊥

-- the first label of a name of which the size is read
record FirstLabel (size : ℕ) (octets behind : List ℕ) : Type 0 where
  pub label : List ℕ
  pub others : Labels
  pub is : IsLabel label
  pub each : AllByRecursion IsLabel others
  pub sized : length label ≡ size
  pub front : octets ≡ label ++ (wire others ++ behind)

first_label : (more : ℕ) (octets : List ℕ) (name : Labels) (behind : List ℕ) → Begins (suc more ∷ octets) name behind → FirstLabel (suc more) octets behind
first_label more octets [] behind begins =
    let front : suc more ∷ octets ≡ 0 ∷ behind = begins.front in
    let size : suc more ≡ 0 = cc in
    absurd (omega (arith, size))
first_label more octets (label ∷ others) behind begins =
    let front : suc more ∷ octets ≡ length label ∷ ((label ++ wire others) ++ behind) = begins.front in
    let size : suc more ≡ length label = cc in
    let tails : octets ≡ (label ++ wire others) ++ behind = cc in
    record { label = label; others = others; is = begins.each.0; each = begins.each.1; sized = sym size; front = tails ∙ append_assoc label (wire others) behind }

first_taken : (size : ℕ) (octets behind : List ℕ) → (first : FirstLabel size octets behind) → take size octets ≡ first.label
first_taken size octets behind first =
    ap (take size) first.front ∙ take_at first.label (wire first.others ++ behind) size first.sized

first_dropped : (size : ℕ) (octets behind : List ℕ) → (first : FirstLabel size octets behind) → drop size octets ≡ wire first.others ++ behind
first_dropped size octets behind first =
    ap (drop size) first.front ∙ drop_at first.label (wire first.others ++ behind) size first.sized

-- the labels behind the first decide, where that is a label
labels_more : (more : ℕ) (octets : List ℕ) → suc more ≤ length octets → suc more ≤ 63 → AreOctets (take (suc more) octets)
    → Begun (drop (suc more) octets) ⊎ NotBegun (drop (suc more) octets) → Begun (suc more ∷ octets) ⊎ NotBegun (suc more ∷ octets)
labels_more more octets whole small are (inl found) =
    let label = take (suc more) octets in
    let size : length label ≡ suc more = omega (arith, length-take (suc more) octets, whole) in
    let split : octets ≡ label ++ (wire found.0 ++ found.1) = sym (take-append-drop (suc more) octets) ∙ ap (λ xs. label ++ xs) found.2.front in
    let tails : octets ≡ (label ++ wire found.0) ++ found.1 = split ∙ sym (append_assoc label (wire found.0) found.1) in
    inl (
      label ∷ found.0,
      found.1,
      record {
        each = (record { not_empty = omega (arith, size); at_most_63 = omega (arith, size, small); octets = are }, found.2.each);
        front = λ i. sym size i ∷ tails i;
      },
    )
labels_more more octets whole small are (inr none) = inr (λ name behind begins.
    let first = first_label more octets name behind begins in
    none first.others behind (record { each = first.each; front = first_dropped (suc more) octets behind first }))

labels_or : (fuel : ℕ) (octets : List ℕ) → length octets ≤ fuel → Begun octets ⊎ NotBegun octets
labels_or fuel [] enough = inr (λ name behind begins.
    omega (arith, ap length begins.front, length-append (wire name) behind, wire_not_empty name))
labels_or zero (n ∷ octets) enough = absurd (omega (arith, enough))
labels_or (suc fuel) (zero ∷ octets) enough = inl ([], octets, record { each = tt; front = refl })
labels_or (suc fuel) (suc more ∷ octets) enough = ⊎_elim
    (λ (short : length octets < suc more). inr (λ name behind begins.
    let first = first_label more octets name behind begins in
    omega (arith, short, first.sized, ap length first.front, length-append first.label (wire first.others ++ behind))))
    (λ (whole : suc more ≤ length octets). ⊎_elim
    (λ (large : 63 < suc more). inr (λ name behind begins.
    let first = first_label more octets name behind begins in
    omega (arith, large, first.sized, first.is.at_most_63)))
    (λ (small : suc more ≤ 63). ⊎_elim
    (λ (are : AreOctets (take (suc more) octets)). labels_more more octets whole small are
    (labels_or fuel (drop (suc more) octets) (omega (arith, enough, length-drop (suc more) octets))))
    (λ (wrong : AreOctets (take (suc more) octets) → ⊥). inr (λ name behind begins.
    let first = first_label more octets name behind begins in
    wrong (subst AreOctets (sym (first_taken (suc more) octets behind first)) first.is.octets)))
    (octets_or (take (suc more) octets)))
    (cases_lt 63 (suc more)))
    (cases_lt (length octets) (suc more))

-- a name's wire form begins the octets, or none does
name_or : (octets : List ℕ) → ((name : Labels) × (behind : List ℕ) × IsName name × (octets ≡ wire name ++ behind))
    ⊎ ((name : Labels) (behind : List ℕ) → IsName name → octets ≡ wire name ++ behind → ⊥)
name_or octets = ⊎_elim
    (λ (found : Begun octets). ⊎_elim
    (λ (long : 255 < length (wire found.0)). inr (λ name behind is front.
    let same = wire-front found.0 name found.1 behind found.2.each is.each (sym found.2.front ∙ front) in
    omega (arith, long, ap (λ labels. length (wire labels)) same.0, is.at_most_255)))
    (λ (fits : length (wire found.0) ≤ 255). inl (found.0, found.1, record { each = found.2.each; at_most_255 = fits }, found.2.front))
    (cases_lt 255 (length (wire found.0))))
    (λ (none : NotBegun octets). inr (λ name behind is front. none name behind (record { each = is.each; front = front })))
    (labels_or (length octets) octets (omega arith))

-- ---- the parts behind the name

abbrev Parted : List ℕ → Type 0
Parted octets = (before_mac : List ℕ) × (mac : List ℕ) × (after_mac : List ℕ) × (other : List ℕ) × AreParts octets before_mac mac after_mac other

abbrev NotParted : List ℕ → Type 0
NotParted octets = (before_mac mac after_mac other : List ℕ) → AreParts octets before_mac mac after_mac other → ⊥

-- the parts behind the first, of which the second's size is read
module _ (octets before : List ℕ) (rest : List ℕ) (size : ℕ) (ten : length before ≡ 10) (whole : octets ≡ before ++ rest) (sized : size ≡ number_at before 8 2) where
  -- what stands behind the first part, by other parts
  behind_first : (before_mac mac after_mac other : List ℕ) → AreParts octets before_mac mac after_mac other → (rest ≡ mac ++ (after_mac ++ other)) × (length mac ≡ size)
  behind_first before_mac mac after_mac other parts =
      let first = same_parts before before_mac rest (mac ++ (after_mac ++ other)) (ten ∙ sym parts.ten) (sym whole ∙ parts.whole) in
      (first.1, parts.mac_size ∙ ap (λ xs. number_at xs 8 2) (sym first.0) ∙ sym sized)

  parts_behind : (mac after other : List ℕ) → rest ≡ mac ++ (after ++ other) → length mac ≡ size → length after ≡ 6 → Parted octets ⊎ NotParted octets
  parts_behind mac after other split mac_size six = ⊎_elim
      (λ (same : length other ≡ number_at after 4 2). inl (
        before,
        mac,
        after,
        other,
        record {
          whole = whole ∙ ap (λ xs. before ++ xs) split;
          ten = ten;
          six = six;
          mac_size = mac_size ∙ sized;
          other_length = same;
        },
      ))
      (λ (differs : length other ≡ number_at after 4 2 → ⊥). inr (λ before_mac mac' after_mac other' parts.
      let behind = behind_first before_mac mac' after_mac other' parts in
      let second = same_parts mac mac' (after ++ other) (after_mac ++ other') (mac_size ∙ sym behind.1) (sym split ∙ behind.0) in
      let third = same_parts after after_mac other other' (six ∙ sym parts.six) second.1 in
      differs (ap length third.1 ∙ parts.other_length ∙ ap (λ xs. number_at xs 4 2) (sym third.0))))
      (same_or (length other) (number_at after 4 2))

  rest_or : Parted octets ⊎ NotParted octets
  rest_or = ⊎_elim
      (λ (short : length rest < size + 6). inr (λ before_mac mac after_mac other parts.
      let behind = behind_first before_mac mac after_mac other parts in
      omega (arith, short, ap length behind.0, behind.1, parts.six, length-append mac (after_mac ++ other), length-append after_mac other)))
      (λ (enough : size + 6 ≤ length rest).
      let mac = take size rest in
      let left = drop size rest in
      let mac_size : length mac ≡ size = omega (arith, length-take size rest, enough) in
      let six : length (take 6 left) ≡ 6 = omega (arith, length-take 6 left, length-drop size rest, enough) in
      parts_behind mac (take 6 left) (drop 6 left) (sym (take-append-drop size rest) ∙ ap (λ xs. mac ++ xs) (sym (take-append-drop 6 left))) mac_size six)
      (cases_lt (length rest) (size + 6))

parts_or : (octets : List ℕ) → Parted octets ⊎ NotParted octets
parts_or octets = ⊎_elim
    (λ (short : length octets < 10). inr (λ before_mac mac after_mac other parts.
    omega (arith, short, ap length parts.whole, parts.ten, length-append before_mac (mac ++ (after_mac ++ other)))))
    (λ (enough : 10 ≤ length octets).
    let ten : length (take 10 octets) ≡ 10 = omega (arith, length-take 10 octets, enough) in
    rest_or octets (take 10 octets) (drop 10 octets) (number_at (take 10 octets) 8 2) ten (sym (take-append-drop 10 octets)) refl)
    (cases_lt (length octets) 10)

-- RDATA is a TSIG record's or no TSIG record's
pub tsig_or : (rdata : List ℕ) → ((tsig : TsigFields) × IsTsig rdata tsig) ⊎ ((tsig : TsigFields) → IsTsig rdata tsig → ⊥)
tsig_or rdata = ⊎_elim
    (λ (named : (name : Labels) × (behind : List ℕ) × IsName name × (rdata ≡ wire name ++ behind)). ⊎_elim
    (λ (parted : Parted named.1).
    let before = parted.0 in
    let after = parted.2 in
    let tsig : TsigFields = record { algorithm = named.0; time_signed = number_at before 0 6; fudge = number_at before 6 2; mac = parted.1; original_id = number_at after 0 2; error = number_at after 2 2; other = parted.3 } in
    inl (tsig, record { behind = named.1; before_mac = before; after_mac = after; name = named.2; front = named.3; parts = parted.4; time_signed = refl; fudge = refl; original_id = refl; error = refl }))
    (λ (none : NotParted named.1). inr (λ tsig is.
    let same = wire-front named.0 tsig.algorithm named.1 is.behind named.2.each is.name.each (sym named.3 ∙ is.front) in
    let Parts : List ℕ → Type 0 = λ xs. AreParts xs is.before_mac tsig.mac is.after_mac tsig.other in
    none is.before_mac tsig.mac is.after_mac tsig.other (subst Parts (sym same.1) is.parts)))
    (parts_or named.1))
    (λ (none : (name : Labels) (behind : List ℕ) → IsName name → rdata ≡ wire name ++ behind → ⊥). inr (λ tsig is.
    none tsig.algorithm is.behind is.name is.front))
    (name_or rdata)
